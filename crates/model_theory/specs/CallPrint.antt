-- The sheet on paper (change request 2). On a sound state print meets the entries in order, so that it writes the sheet of the row that the state stands
-- for. On any words a number other than 0 and 9 leaves the buffer, which keeps its length in any case. Assumes nothing.
use Rattle.model.specs.declared.number.LeafNo.{LeafNo}
use Rattle.model.specs.declared.way.Broken.{Broken}
use Rattle.model.specs.Numbered.{Numbered}
use Rattle.std.specs.Prelude.{◌≡◌, ◌≢◌, Bool, true, false, cond, ltb, eqb, get_or, drop, Ok, Err, Some, None, Option, Result}
use Rattle.std.proofs.Math.Path.{refl, sym, ap}
use Rattle.std.proofs.Common.{ap₂, ◌∙◌, subst, arith, take-take, length-take-le, get_or-drop, take_at, drop_at}
use mathlib.Core.List.{List, [], ◌∷◌, ◌++◌, map, flat_map, append_assoc, append-nil}
use Prim.Native.Nat.{ℕ, ◌+◌, ◌-◌, ◌*◌, ◌%◌, ◌^◌, ◌≤◌, ◌<◌}
use Rattle.std.proofs.Math.ListN.{length, take}
use Rattle.std.proofs.lemmas.List.{length-map, take-append-le}
use Rattle.std.proofs.Math.Seq.{take_all, take-nil, take-append-add}
use borrow.Author.Tests.{lt-ltb, le-ltb, eq-eqb, ltb-true, ltb-false, eqb-true}
use Rattle.model.specs.Kind.{stride}
use Rattle.model.specs.declared.shape.Kind.{Kind}
use Rattle.model.specs.Lists.{put_at, sum_by, All, refusal}
use Rattle.model.specs.Node as node
use Rattle.model.specs.Node.{child, lengths, used}
use Rattle.model.specs.State.{State}
use Rattle.model.specs.Climb.{leaf_no, first_down}
use Rattle.model.specs.Row as row
use Rattle.model.specs.Row.{Row, Entry, entry}
use Rattle.model.specs.Sound.{shape_in, leaf_in, leaves_reached, slots_in, Coherent, entries_of}
use Rattle.model.specs.Refuse.{shape_of, bad_size, too_short, astray, opening}
use Rattle.model.specs.Answer.{number_answer}
use Rattle.model.specs.Promise.{Represents}
use Rattle.model.specs.Sheet.{line, lines, pages_for, fill, sheet}
use Rattle.model.specs.Print.{small_buffer, print_causes, slots_met, slot_lines, print, PrintLeaves, PrintsRow}
use Rattle.model_laws.specs.AreaRead.{slots_are}
use Rattle.model_laws.specs.Words.{length_put}
use Rattle.model_laws.specs.Sheet.{length_slot_lines, length_filled, length_sheet}
use Rattle.model_laws.specs.Lens.{by_test}
use Rattle.model_laws.specs.Met.{met, met_few, met_nothing, met_leaf}
use Rattle.model_tree.specs.Lists.{all_right}
use Rattle.model_tree.specs.Cursor.{first_of_law}
use Rattle.model_tree.specs.Tree.{order}
use Rattle.model_tree.specs.Place.{full}
use Rattle.model_theory.specs.LiftTree.{tree_of}
use Rattle.model_theory.specs.LiftLevels.{leaves_order}
use Rattle.model_theory.specs.WordNeat.{size_is, neat_of}
use Rattle.model_theory.specs.LiftSound.{body_of}
use Rattle.model_theory.specs.CallOpen.{good_areas, opens, passed, stopped, clear}
use Rattle.model_theory.specs.WalkNext.{first_top, first_down_law, leaf_head, next_leaf}
use Rattle.model_theory.specs.CallSimulates.{count_is}

-- the slots met on a sound state ------------------------------------------------------------------------------------------------------------

-- a front of the slots of a node in use, and of those behind them
front : (n len c : ℕ) (xs rest : List (List ℕ)) → len ≤ length xs → c ≡ cond (ltb len n) len n → take c xs ++ take (n - c) rest ≡ take n (take len xs ++ rest)
front n len c xs rest h e = go (ltb len n) refl
  where
    lu : length (take len xs) ≡ len
    lu = length-take-le len xs h

    go : (b : Bool) → ltb len n ≡ b → take c xs ++ take (n - c) rest ≡ take n (take len xs ++ rest)
    go true q =
        let l : len < n = ltb-true len n q in
        let z : c ≡ len = e ∙ rw q in
        let y : length (take len xs) + (n - len) ≡ n = omega (arith, lu) in
        rw z (sym (take-append-add (take len xs) rest (n - len)) ∙ ap (λ (k : ℕ). take k (take len xs ++ rest)) y)
    go false q =
        let l : n ≤ len = ltb-false len n q in
        let z : c ≡ n = e ∙ rw q in
        let y : n - n ≡ 0 = omega arith in
        rw (z, y) (append-nil (take n xs) ∙ sym (take-append-le n (take len xs) rest (omega (arith, lu)) ∙ take-take n len xs l))

module _ (K : Kind) (t : State) (w : Coherent K t) where
  abbrev met_in : ℕ → Result (Option LeafNo) Broken → List (List ℕ)
  met_in n l = met (shape_in (stride K) t) t.head.levels t.leaves t.inners n l

  -- from a leaf of the order on
  from_leaf : (A C : List ℕ) (n : ℕ) → order (tree_of (stride K) t) ≡ A ++ C → met_in n (leaf_head C) ≡ take n (slots_in (stride K) t C)
  unfolding flat_map All
  from_leaf A [] n o = met_nothing _ _ _ _ n 0 (Ok None) refl ∙ sym (take-nil n)
  from_leaf A (k ∷ B) n o = go (cond (ltb len n) len n) refl (λ m. from_leaf (A ++ k ∷ []) B m (o ∙ sym (append_assoc A (k ∷ []) B)))
    where
      len : ℕ
      len = (leaf_in (stride K) t k).len

      lk : k < t.head.leaves
      lk = (all_right (λ q. q < t.head.leaves) A (k ∷ B) (subst (All (λ q. q < t.head.leaves)) o (body_of (stride K) t K.effect w).leaf_in_law)).0

      some : 0 < (leaf_in (stride K) t k).len
      some = let z = size_is (stride K) t.head.fan (leaf_in (stride K) t k) ((neat_of (stride K) t K.effect w).leaf_tidy k lk) in let y = (body_of (stride K) t K.effect w).leaf_one k lk in omega arith

      go : (c : ℕ) → c ≡ cond (ltb len n) len n → ((m : ℕ) → met_in m (leaf_head B) ≡ take m (slots_in (stride K) t B)) → met_in n (Ok (Some (leaf_no k))) ≡ take n (used (leaf_in (stride K) t k) ++ slots_in (stride K) t B)
      go c e ih =
          met_leaf _ _ _ _ (leaf_no k) len refl (w.leaf_filled k lk).high n c some e
          ∙ ap (λ (ys : List (List ℕ)). take c (leaf_in (stride K) t k).slots ++ ys) (ap (met_in (n - c)) (next_leaf (stride K) t (neat_of (stride K) t K.effect w) (body_of (stride K) t K.effect w) A k B o) ∙ ih (n - c))
          ∙ front n len c (leaf_in (stride K) t k).slots (slots_in (stride K) t B) (let z = slots_are (shape_in (stride K) t) k t.leaves in let y = (w.leaf_filled k lk).high in omega arith) e

  -- from the first leaf on: all slots in use, in order
  first_leaf : first_down (shape_in (stride K) t) t.head.levels t.head.root.0 t.inners ≡ leaf_head (order (tree_of (stride K) t))
  first_leaf =
      let up = (tree_of (stride K) t).body.inner in
      let b = body_of (stride K) t K.effect w in
      let r = first_of_law up t.head.root.0 t.head.levels (full (tree_of (stride K) t) b) in
      first_down_law (stride K) t (neat_of (stride K) t K.effect w) b t.head.levels 0 t.head.root.0 (let z : 0 + t.head.levels ≡ t.head.levels = omega arith in z) (record { before = []; after = []; row = refl })
      ∙ ap (λ (k : ℕ). Ok (Some (leaf_no k))) (first_top up t.head.root.0 t.head.levels) ∙ ap leaf_head (sym r.1)

  abbrev slots : List (List ℕ)
  slots = slots_in (stride K) t (leaves_reached (stride K) t)

  slots_count : length slots ≡ t.head.entries
  unfolding entries_of
  slots_count = sym (length-map slots (λ x. entry (child x) (lengths x))) ∙ count_is K t w

  slots_met_law : slots_met K t ≡ slots
  unfolding slots_met
  slots_met_law =
      ap (met_in t.head.entries) first_leaf ∙ from_leaf [] (order (tree_of (stride K) t)) t.head.entries refl
      ∙ ap (λ (C : List ℕ). take t.head.entries (slots_in (stride K) t C)) (sym (leaves_order (stride K) t))
      ∙ take_all t.head.entries slots (omega (arith, slots_count))

-- their lines -----------------------------------------------------------------------------------------------------------------------------

-- a slot's length, read from the slot and from its entry
own_length : (v : ℕ) (x : List ℕ) → row.length_in v (entry (child x) (lengths x)) ≡ node.length_in v x
own_length v x = get_or-drop 1 x v 0 ∙ ap (λ (i : ℕ). get_or x i 0) (let z : 1 + v ≡ v + 1 = omega arith in z)

-- sums that fit a word don't wrap
same_lines : (K : Kind) (p q : ℕ) (xs : List (List ℕ)) → p + node.total 0 xs < 4294967296 → q + node.total K.effect xs < 4294967296 → slot_lines K p q xs ≡ lines K p q (map (λ x. entry (child x) (lengths x)) xs)
unfolding slot_lines lines sum_by
same_lines K p q [] hp hq = refl
same_lines K p q (x ∷ xs) hp hq =
    let a : (p + node.length_in 0 x) % 2 ^ 32 ≡ p + node.length_in 0 x = omega arith in
    let b : (q + node.length_in K.effect x) % 2 ^ 32 ≡ q + node.length_in K.effect x = omega arith in
    rw (a, b, own_length 0 x, own_length K.effect x) (ap (λ (l : List ℕ). line (child x) p q (node.length_in 0 x) (node.length_in K.effect x) ++ l) (same_lines K (p + node.length_in 0 x) (q + node.length_in K.effect x) xs (omega arith) (omega arith)))

-- print on a sound state --------------------------------------------------------------------------------------------------------------------

module _ (K : Kind) (t : State) (w : Coherent K t) (v : K.effect < K.views) where
  text_is : slot_lines K 0 0 (slots_met K t) ≡ lines K 0 0 (entries_of K t)
  unfolding entries_of
  text_is = ap (slot_lines K 0 0) (slots_met_law K t w) ∙ same_lines K 0 0 (slots K t w) (omega (arith, w.totals 0 (omega arith))) (omega (arith, w.totals K.effect (omega arith)))

  -- the head leads nowhere outside
  inside : refusal (astray (shape_of K t.head) t.head ∷ []) ≡ 0
  unfolding opening refusal
  inside = sym (good_areas K t w (astray (shape_of K t.head) t.head ∷ [])) ∙ opens K t w []

  abbrev refuse : List ℕ → ℕ → (Numbered ℕ) × List ℕ
  refuse page n = (Err n, page)

  pub print_short : (page : List ℕ) → length page < 2750 * pages_for t.head.entries → print K t page ≡ (Err 12, page)
  unfolding print print_causes refusal
  print_short page h =
      stopped (print_causes K t (length page)) (refuse page) _ 11 (good_areas K t w (small_buffer t.head.entries (length page) ∷ astray (shape_of K t.head) t.head ∷ []) ∙ rw (lt-ltb (length page) (2750 * pages_for t.head.entries) h))

  pub print_is : (page : List ℕ) → 2750 * pages_for t.head.entries ≤ length page → print K t page ≡ (Ok (pages_for t.head.entries), put_at 0 (sheet K (entries_of K t)) page)
  unfolding print print_causes refusal sheet
  print_is page h =
      passed (print_causes K t (length page)) (refuse page) _ (good_areas K t w (small_buffer t.head.entries (length page) ∷ astray (shape_of K t.head) t.head ∷ [])
      ∙ rw (le-ltb (length page) (2750 * pages_for t.head.entries) h) inside)
      ∙ rw (eq-eqb (length (slots_met K t)) t.head.entries (ap length (slots_met_law K t w) ∙ slots_count K t w), text_is, count_is K t w)

-- a write from the start on: what is written, and what is behind it
written_front : (n : ℕ) (xs ws : List ℕ) → length xs ≡ n → take n (put_at 0 xs ws) ≡ xs
unfolding put_at
written_front n xs ws e = take_at xs _ n e

behind_it : (n : ℕ) (xs ws : List ℕ) → length xs ≡ n → drop n (put_at 0 xs ws) ≡ drop n ws
unfolding put_at
behind_it n xs ws e = drop_at xs _ n e ∙ ap (λ (k : ℕ). drop k ws) (let z : 0 + length xs ≡ n = omega arith in z)

-- **the sheet of the row**, on every tree that stands for one
pub prints_row : (K : Kind) → K.effect < K.views → (t : State) (r : Row) → Represents K t r → (page : List ℕ) → PrintsRow K t r page
prints_row K v t r st page = record {
  short = λ h. print_short K t w v page (subst (λ (n : ℕ). length page < 2750 * pages_for n) (sym count) h);
  pages = λ h. ap (λ (a : Numbered ℕ × List ℕ). a.0) (is h);
  written = λ h. ap (λ (a : Numbered ℕ × List ℕ). take (2750 * pages_for (length r.entries)) a.1) (is h) ∙ written_front _ (sheet K r.entries) page (length_sheet K r.entries);
  rest = λ h. ap (λ (a : Numbered ℕ × List ℕ). drop (2750 * pages_for (length r.entries)) a.1) (is h) ∙ behind_it _ (sheet K r.entries) page (length_sheet K r.entries);
}
  where
    w : Coherent K t
    w = st.sound.coherent

    count : t.head.entries ≡ length r.entries
    count = sym (count_is K t st.sound.coherent) ∙ ap length st.entries

    is : 2750 * pages_for (length r.entries) ≤ length page → print K t page ≡ (Ok (pages_for (length r.entries)), put_at 0 (sheet K r.entries) page)
    is h = print_is K t st.sound.coherent v page (subst (λ (n : ℕ). 2750 * pages_for n ≤ length page) (sym count) h) ∙ ap₂ (λ (n : ℕ) (es : List Entry). (Ok (pages_for n), put_at 0 (sheet K es) page)) count st.entries

-- on any words ----------------------------------------------------------------------------------------------------------------------------

abbrev Spared : List ℕ → (Numbered ℕ) × List ℕ → Type 0
Spared page a = ((number_answer a.0).number ≢ 0 → (number_answer a.0).number ≢ 9 → a.1 ≡ page) × (length a.1 ≡ length page) × ((n : ℕ) → a.0 ≡ Ok n → 2750 * n ≤ length page)

-- a refusal is no answer
never : {A : Type 0} (m n : ℕ) → Err m ≡ Ok n → A
never m n e = absurd (let z : ◌≡◌ {A = ℕ} 0 1 = cc in omega arith)

module _ (K : Kind) (s : State) (page : List ℕ) where
  met_most : length (slots_met K s) ≤ s.head.entries
  unfolding slots_met
  met_most = met_few _ _ _ _ s.head.entries _ 0

  -- past its causes the buffer holds all pages
  roomy : refusal (print_causes K s (length page)) ≡ 0 → 2750 * pages_for s.head.entries ≤ length page
  unfolding print_causes
  roomy e =
      let a = clear 1 (bad_size s.head.fan s.head.limit).applies _ (λ z. omega arith) e in
      let b = clear 2 (too_short (shape_of K s.head) s.head.limit s.leaves s.inners s.homes).applies _ (λ z. omega arith) a.1 in
      ltb-false _ _ (clear 12 (ltb (length page) (2750 * pages_for s.head.entries)) _ (λ z. omega arith) b.1).0

  text_long : length (slot_lines K 0 0 (slots_met K s)) ≡ 55 * length (slots_met K s)
  text_long = length_slot_lines K 0 0 (slots_met K s)

  module _ (room : 2750 * pages_for s.head.entries ≤ length page) where
    whole : length (slots_met K s) ≡ s.head.entries → length (put_at 0 (slot_lines K 0 0 (slots_met K s) ++ fill s.head.entries) page) ≡ length page
    whole q =
        let text : List ℕ = slot_lines K 0 0 (slots_met K s) in
        length_put 0 (text ++ fill s.head.entries) page (omega (arith, length_filled s.head.entries text (text_long ∙ ap (λ (k : ℕ). 55 * k) q)))

    some : length (put_at 0 (slot_lines K 0 0 (slots_met K s)) page) ≡ length page
    some = length_put 0 (slot_lines K 0 0 (slots_met K s)) page (omega (arith, text_long, met_most))

    written : Spared page (cond (eqb (length (slots_met K s)) s.head.entries) (Ok (pages_for s.head.entries), put_at 0 (slot_lines K 0 0 (slots_met K s) ++ fill s.head.entries) page) (Err 9, put_at 0 (slot_lines K 0 0 (slots_met K s)) page))
    written = by_test (Spared page) (eqb (length (slots_met K s)) s.head.entries) _ _ (λ q. (λ x y. absurd (x refl), whole (eqb-true _ _ q), answered)) (λ q. (λ x y. absurd (y refl), some, λ n e. never 9 n e))
      where
        answered : (n : ℕ) → ◌≡◌ {A = Numbered ℕ} (Ok (pages_for s.head.entries)) (Ok n) → 2750 * n ≤ length page
        answered n e = let z : pages_for s.head.entries ≡ n = cc in subst (λ (k : ℕ). 2750 * k ≤ length page) z room

  spared : Spared page (print K s page)
  unfolding print
  spared = by_test (Spared page) (eqb (refusal (print_causes K s (length page))) 0) _ _ (λ e. written (roomy (eqb-true _ _ e))) (λ e. (λ x y. refl, refl, λ n q. never (refusal (print_causes K s (length page))) n q))

  pub print_leaves : PrintLeaves K s page
  print_leaves = record { refused = spared.0; long = spared.1; within = spared.2 }
