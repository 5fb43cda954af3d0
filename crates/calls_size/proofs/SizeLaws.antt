-- What the calls answer that give an entry other lengths. Assumes nothing.
use Rattle.model.specs.declared.way.Broken.{Broken}
use Rattle.model.specs.Numbered.{Numbered, broken}
use Rattle.std.specs.Prelude.{Ok, Err, Result}
use Rattle.std.proofs.Common.{◌≡◌, ℕ, zero, suc, ◌+◌, ◌-◌, ◌^◌, ◌<◌, ◌≤◌, Bool, true, false, cond, eqb, List, [], ◌∷◌, ◌++◌, length, get_or, take, set, sym, refl, ap, ◌∙◌, ap₂, arith}
use mathlib.Core.List.{zip_with}
use Rattle.model.specs.Length.{list_of, lengths_in}
use Rattle.model.specs.Lists.{refusal}
use Rattle.model.specs.Kind.{base, too_many_lines, crossed}
use Rattle.model.specs.Node.{wrap, lengths, minus}
use Rattle.model.specs.State.{State, state, shape_for, node_at}
use Rattle.model.specs.Place.{Change, change, replace, summed, climb}
use Rattle.model.specs.Refuse.{shape_of, opening, at_cursor, crossed_bounds, past}
use Rattle.model.specs.Calls.{Reply, reply, settled, slot_at, resized, resize_causes, set_lengths, update}
use Rattle.model.specs.declared.shape.Kind.{Kind}
use Rattle.model.specs.declared.shape.Shape.{Shape}
use Rattle.model.specs.declared.head.Head.{Head}
use Rattle.model.specs.declared.head.Cursor.{Cursor}
use Rattle.model.specs.declared.length.Lengths.{Lengths}
use Rattle.tree_node.proofs.WriteLaws.{three_words, four_words}
use Rattle.tree_area.specs.Area.{AreaHolds}
use Rattle.tree_walk.specs.Low.{low_way}
use Rattle.tree_place.specs.Asked.{asked, asked_way, way_up}
use Rattle.tree_place.proofs.SizeLaws.{asked_whole, asked_lost, asked_wrap}
use Rattle.tree_place.proofs.CallLaws.{low_whole, low_lost}
use Rattle.tree_open.proofs.Causes.{opened_first, opened_next, opened_none, opened_stop, opened_more, good_shape, good_front, good_tail, call_refused, call_good}
use Rattle.tree_open.proofs.CursorLaws.{at_numbered, cursor_ready, slot_in_law, own_lengths}
use Rattle.tree_open.proofs.ReadyLaws.{inner_area}
use Rattle.tree_open.proofs.WidthLaws.{own_shape, own_views, past_same}
use Rattle.tree_open.specs.Lengths.{past_in}
use Rattle.tree_open.specs.Open.{opened_by}
use Rattle.tree_open.specs.Ready.{CursorReady}
use Rattle.calls_size.specs.Size.{old_by, resize, unnumbered}

-- one to three differences are those of the lists
abbrev less_by : ℕ → ℕ → ℕ
less_by a b = wrap (a + (2 ^ 32 - b))

words_less : (s a n1 n2 n3 o1 o2 o3 d0 d1 d2 : ℕ) (two three : List ℕ) → 2 ≤ s → s ≤ 4 → a ≡ less_by n1 o1
    → (2 < s → two ≡ set (set (d0 ∷ d1 ∷ d2 ∷ []) 0 a) 1 (less_by n2 o2)) → (s ≤ 2 → two ≡ set (d0 ∷ d1 ∷ d2 ∷ []) 0 a)
    → (3 < s → three ≡ set two 2 (less_by n3 o3)) → (s ≤ 3 → three ≡ two)
    → take (s - 1) three ≡ minus (take (s - 1) (n1 ∷ n2 ∷ n3 ∷ [])) (take (s - 1) (o1 ∷ o2 ∷ o3 ∷ []))
unfolding minus zip_with
words_less zero a n1 n2 n3 o1 o2 o3 d0 d1 d2 two three h g e t2 f2 t3 f3 = absurd (omega arith)
words_less (suc zero) a n1 n2 n3 o1 o2 o3 d0 d1 d2 two three h g e t2 f2 t3 f3 = absurd (omega arith)
words_less (suc (suc zero)) a n1 n2 n3 o1 o2 o3 d0 d1 d2 two three h g e t2 f2 t3 f3 = rw (f3 (omega arith), f2 (omega arith), e)
words_less (suc (suc (suc zero))) a n1 n2 n3 o1 o2 o3 d0 d1 d2 two three h g e t2 f2 t3 f3 = rw (f3 (omega arith), t2 (omega arith), e)
words_less (suc (suc (suc (suc zero)))) a n1 n2 n3 o1 o2 o3 d0 d1 d2 two three h g e t2 f2 t3 f3 = rw (t3 (omega arith), t2 (omega arith), e)
words_less (suc (suc (suc (suc (suc s))))) a n1 n2 n3 o1 o2 o3 d0 d1 d2 two three h g e t2 f2 t3 f3 = absurd (omega arith)

pub differences : (s a : ℕ) (new old ds two three : List ℕ) → length new ≡ 4 → length old ≡ 4 → length ds ≡ 3 → 2 ≤ s → s ≤ 4 → a ≡ less_by (get_or new 1 0) (get_or old 1 0)
    → (2 < s → two ≡ set (set ds 0 a) 1 (less_by (get_or new 2 0) (get_or old 2 0))) → (s ≤ 2 → two ≡ set ds 0 a)
    → (3 < s → three ≡ set two 2 (less_by (get_or new 3 0) (get_or old 3 0))) → (s ≤ 3 → three ≡ two)
    → take (s - 1) three ≡ minus (lengths_in (s - 1) new) (lengths_in (s - 1) old)
differences s a new old ds two three en eo ed h g e t2 f2 t3 f3 =
    let d = sym (three_words ds ed) in
    words_less s a (get_or new 1 0) (get_or new 2 0) (get_or new 3 0) (get_or old 1 0) (get_or old 2 0) (get_or old 3 0) (get_or ds 0 0) (get_or ds 1 0) (get_or ds 2 0) two three h g e
    (λ m. t2 m ∙ ap (λ (z : List ℕ). set (set z 0 a) 1 (less_by (get_or new 2 0) (get_or old 2 0))) d) (λ m. f2 m ∙ ap (λ (z : List ℕ). set z 0 a) d) t3 f3
    ∙ ap₂ (λ (x y : List ℕ). minus (lengths_in (s - 1) x) (lengths_in (s - 1) y)) (four_words new en) (four_words old eo)

-- a refusal says nothing of the lengths
pub refused_by : (r : Numbered Shape) (n : ℕ) → r ≡ Err n → (own ls : List ℕ) → old_by r own ls
refused_by r n e own ls g d = let z : ◌≡◌ {A = ℕ} 0 1 = cc in absurd (omega arith)

none_old : (n : ℕ) (own ls : List ℕ) → old_by (Err n) own ls
none_old n = refused_by (Err n) n refl

-- what `open_resize` answers: 10 where there are too many line ends
pub resize_many : (K : Kind) (s : State) (c : Cursor) (l : List ℕ) (m : Bool) → m ≡ too_many_lines K l → m ≡ true → (own : List ℕ)
    → (Err 10 ≡ opened_by (resize_causes K s c l) (shape_of K s.head)) × old_by (Err 10) own (lengths (slot_at K s c))
resize_many K s c l m em h own = (sym (opened_first 9 _ _ _ (sym em ∙ h)), none_old 10 own _)

-- else, from what `open_at` answered
module _ (K : Kind) (s : State) (c : Cursor) (l : List ℕ) (m : Bool) (em : m ≡ too_many_lines K l) (few : m ≡ false) (o : Numbered Shape)
    (e : o ≡ opened_by (opening K s ++ at_cursor K s c) (shape_of K s.head)) where
  behind : opened_by (resize_causes K s c l) (shape_of K s.head)
      ≡ opened_by (opening K s ++ at_cursor K s c ++ crossed_bounds K l ∷ past K s (lengths (slot_at K s c)) l ∷ []) (shape_of K s.head)
  behind = opened_next 10 _ _ _ (sym em ∙ few)

  pub resize_refused : (n : ℕ) → o ≡ Err n → (own : List ℕ)
      → (Err n ≡ opened_by (resize_causes K s c l) (shape_of K s.head)) × old_by (Err n) own (lengths (slot_at K s c))
  resize_refused n d own = (sym (behind ∙ opened_stop (opening K s ++ at_cursor K s c) _ _ n (sym e ∙ d)), none_old n own _)

  module _ (g : Shape) (d : o ≡ Ok g) (b : Bool) (eb : b ≡ crossed K l) where
    beyond : opened_by (resize_causes K s c l) (shape_of K s.head) ≡ opened_by (crossed_bounds K l ∷ past K s (lengths (slot_at K s c)) l ∷ []) (shape_of K s.head)
    beyond = behind ∙ opened_more (opening K s ++ at_cursor K s c) _ _ g (at_numbered K s c) (sym e ∙ d)

    pub resize_crossed : b ≡ true → (own : List ℕ) → (Err 20 ≡ opened_by (resize_causes K s c l) (shape_of K s.head)) × old_by (Err 20) own (lengths (slot_at K s c))
    resize_crossed h own = (sym (beyond ∙ opened_first 19 _ _ _ (sym eb ∙ h)), none_old 20 own _)

    -- x holds the entry's lengths as they were read
    module _ (straight : b ≡ false) (x : List ℕ) (ex : lengths_in (g.stride - 1) x ≡ lengths (get_or (node_at g c.leaf.0 s.leaves).slots c.slot []))
        (t : Bool) (et : t ≡ past_in (shape_for K.views g.fan g.nodes) s.head.root.0 s.inners (lengths_in K.views x) l) where
      same : shape_of K s.head ≡ g
      same = good_shape (opening K s ++ at_cursor K s c) _ g (sym e ∙ d)

      own : lengths_in K.views x ≡ lengths (slot_at K s c)
      own = own_lengths K s c g (lengths_in K.views x) same (ap (λ (n : ℕ). lengths_in n x) (sym (own_views K s.head g (sym same))) ∙ ex)

      here : t ≡ (past K s (lengths (slot_at K s c)) l).applies
      here = et ∙ past_same K s g (sym same) (lengths_in K.views x) l ∙ ap (λ (ls : List ℕ). (past K s ls l).applies) own

      last : opened_by (resize_causes K s c l) (shape_of K s.head) ≡ opened_by (past K s (lengths (slot_at K s c)) l ∷ []) (shape_of K s.head)
      last = beyond ∙ opened_next 20 _ _ _ (sym eb ∙ straight)

      pub resize_past : t ≡ true → (Err 7 ≡ opened_by (resize_causes K s c l) (shape_of K s.head)) × old_by (Err 7) (lengths_in K.views x) (lengths (slot_at K s c))
      resize_past h = (sym (last ∙ opened_first 6 _ [] _ (sym here ∙ h)), none_old 7 _ _)

      pub resize_good : t ≡ false → (Ok g ≡ opened_by (resize_causes K s c l) (shape_of K s.head)) × old_by (Ok g) (lengths_in K.views x) (lengths (slot_at K s c))
      resize_good h = (sym (last ∙ opened_next 7 _ [] _ (sym here ∙ h) ∙ opened_none _ ∙ ap Ok same), λ _ _. own)

-- what is known where `open_resize` gives no number
pub resize_ready : (K : Kind) → (1 ≤ K.views) × (K.views ≤ 3) → (s : State) (c : Cursor) (l : List ℕ) (g : Shape) (o : Numbered Shape)
    → o ≡ opened_by (resize_causes K s c l) (shape_of K s.head) → o ≡ Ok g → CursorReady K s c g
resize_ready K w s c l g o e d =
    cursor_ready K w s c g _ refl
    (good_front (opening K s ++ at_cursor K s c) (crossed_bounds K l ∷ past K s (lengths (slot_at K s c)) l ∷ []) (shape_of K s.head) g (good_tail 9 (too_many_lines K l) _ (shape_of K s.head) g (sym e ∙ d)))

-- the way up from a leaf of n words is in the areas
pub climb_in : {K : Kind} (s : State) (c : Cursor) (g : Shape) → CursorReady K s c g → (n : ℕ) → n ≡ length s.leaves
    → AreaHolds (shape_for K.views g.fan g.nodes) n × AreaHolds (shape_for K.views g.fan g.nodes) (length s.inners) × (s.head.levels ≤ 16)
climb_in {K} s c g h n en =
    let m = h.ready.levels_most in
    rw (own_shape K s.head g h.ready.same, en) ((slot_in_law s c g h).0, inner_area s g h.ready, omega arith)

-- replacing keeps the levels
levels_kept : (g : Shape) (s : State) (k i : ℕ) (new : List ℕ) → (replace g s k i new).state.head.levels ≡ s.head.levels
unfolding replace
levels_kept g s k i new = refl

climbed : (g : Shape) (e : ℕ) (delta : List ℕ) (h : Head) (ls xs hs : List ℕ) (k i n : ℕ) → h.levels ≡ n
    → climb g e delta (change 0 (state h ls xs hs) k i) ≡ summed g (change 0 (state h ls xs hs) k i) (way_up g e delta n k i ls xs)
unfolding climb
climbed g e delta h ls xs hs k i n el = rw el

wrapped : (n m : ℕ) → n ≡ wrap m → wrap n ≡ wrap m
wrapped n m e = omega arith

-- the call, from what its tests answered; its position is asked for or not
module _ (K : Kind) (s : State) (c : Cursor) (x : List ℕ) (b : Bool) where
  abbrev new : List ℕ
  new = lengths_in K.views x

  abbrev own_in : Shape → List ℕ
  own_in g = lengths (get_or (node_at g c.leaf.0 s.leaves).slots c.slot [])

  abbrev resized_by : Shape → Reply (Numbered ℕ)
  resized_by g = let r = climb g K.effect (minus new (own_in g)) (replace g s c.leaf.0 c.slot new) in settled s r.0 Err (Ok (asked b r.1))

  module _ (o : Numbered Shape) (e : o ≡ opened_by (resize_causes K s c new) (shape_of K s.head)) where
    pub size_refused : (n : ℕ) → o ≡ Err n → reply s (Err n) ≡ resize K b s c new
    size_refused n d = call_refused (λ (m : ℕ). reply s (Err m)) resized_by (resize_causes K s c new) (shape_of K s.head) o e n d

    -- h1 and ls1: the head and the leaves with the lengths of x; y: those that the entry had; ds: the differences
    module _ (g : Shape) (d : o ≡ Ok g) (h1 : Head) (ls1 xs1 y ds : List ℕ)
        (er : change 0 (state h1 ls1 s.inners s.homes) c.leaf.0 c.slot ≡ replace g s c.leaf.0 c.slot (lengths_in (g.stride - 1) x))
        (ey : lengths_in K.views y ≡ lengths (slot_at K s c)) (ed : take (g.stride - 1) ds ≡ minus (lengths_in (g.stride - 1) x) (lengths_in (g.stride - 1) y)) where
      sized : g ≡ shape_of K s.head
      sized = sym (good_shape (resize_causes K s c new) (shape_of K s.head) g (sym e ∙ d))

      views : g.stride - 1 ≡ K.views
      views = own_views K s.head g sized

      replaced : change 0 (state h1 ls1 s.inners s.homes) c.leaf.0 c.slot ≡ replace g s c.leaf.0 c.slot new
      replaced = er ∙ ap (λ (n : ℕ). replace g s c.leaf.0 c.slot (lengths_in n x)) views

      delta : take K.views ds ≡ minus new (own_in g)
      delta =
          ap (λ (n : ℕ). take n ds) (sym views)
          ∙ ed
          ∙ ap (λ (n : ℕ). minus (lengths_in n x) (lengths_in n y)) views
          ∙ ap (minus new) (ey ∙ ap own_in (sym sized))

      levels : h1.levels ≡ s.head.levels
      levels = ap (λ (r : Change). r.state.head.levels) replaced ∙ levels_kept g s c.leaf.0 c.slot new

      abbrev way : Shape → (Result ℕ Broken) × List ℕ
      way z = way_up z K.effect (take K.views ds) s.head.levels c.leaf.0 c.slot ls1 s.inners

      abbrev reply_by : Result ℕ Broken × List ℕ → Reply (Numbered ℕ)
      reply_by t = let r = summed g (change 0 (state h1 ls1 s.inners s.homes) c.leaf.0 c.slot) t in settled s r.0 Err (Ok (asked b r.1))

      way_reply : (t : Result ℕ Broken × List ℕ) → t ≡ way g → reply_by t ≡ resize K b s c new
      way_reply t q =
          call_good (λ (m : ℕ). reply s (Err m)) resized_by (resize_causes K s c new) (shape_of K s.head) o e g d _
          (ap reply_by q
          ∙ ap (λ (r : Change × ℕ). settled s r.0 Err (Ok (asked b r.1)))
          (sym (climbed g K.effect (take K.views ds) h1 ls1 s.inners s.homes c.leaf.0 c.slot s.head.levels levels)
          ∙ ap₂ (λ (u : List ℕ) (r : Change). climb g K.effect u r) delta replaced))

      module _ (r : Result ℕ Broken) (ec : (r, xs1) ≡ asked_way b (low_way (way (shape_for K.views g.fan g.nodes)))) where
        low : (r, xs1) ≡ asked_way b (low_way (way g))
        low = ec ∙ ap (λ (z : Shape). asked_way b (low_way (way z))) (own_shape K s.head g sized)

        pub size_whole : (n : ℕ) → r ≡ Ok n → reply (state h1 ls1 xs1 s.homes) (Ok (wrap n)) ≡ resize K b s c new
        size_whole n q =
            let u = asked_whole b xs1 n (low_way (way g)) (ap (λ (t : Result ℕ Broken). (t, xs1)) (sym q) ∙ low) in
            let v = low_whole xs1 u.0 (way g) u.1 in
            ap (λ (m : ℕ). reply (state h1 ls1 xs1 s.homes) (Ok m)) (ap wrap u.2 ∙ asked_wrap b u.0 ∙ ap (asked b) (wrapped u.0 v.0 v.2))
            ∙ way_reply (Ok v.0, xs1) v.1

        pub size_broken : r ≡ Err broken → reply (state s.head ls1 xs1 s.homes) (Err 9) ≡ resize K b s c new
        size_broken q = way_reply ((Err broken), xs1) (low_lost xs1 (way g) (asked_lost b xs1 (low_way (way g)) (ap (λ (t : Result ℕ Broken). (t, xs1)) (sym q) ∙ low)))

-- three words that a call is given are its lengths
pub listed : (l : Lengths) (a b c : ℕ) → a ≡ l.prepare → b ≡ l.effect → c ≡ l.lines → a ∷ b ∷ c ∷ [] ≡ list_of l
listed l a b c ea eb ec = rw (ea, eb, ec)

-- a call that was opened or not and settled or not, with 0 or with nothing for its value: what sees no more than that in a reply sees the same
module _ {X : Type 0} (f : Reply (Numbered ℕ) → X) (g : Reply (Numbered (Unit {0})) → X) (done : (t : State) → f (reply t (Ok 0)) ≡ g (reply t (Ok tt)))
    (refused : (t : State) (n : ℕ) → f (reply t (Err n)) ≡ g (reply t (Err n))) where
  by_reply : (s : State) (n : ℕ) (r : Change) (opened full : Bool)
      → f (cond opened (cond full (reply r.state (Ok 0)) (reply (state s.head r.state.leaves r.state.inners r.state.homes) (Err r.number))) (reply s (Err n)))
      ≡ g (cond opened (cond full (reply r.state (Ok tt)) (reply (state s.head r.state.leaves r.state.inners r.state.homes) (Err r.number))) (reply s (Err n)))
  by_reply s n r true true = done r.state
  by_reply s n r true false = refused (state s.head r.state.leaves r.state.inners r.state.homes) r.number
  by_reply s n r false full = refused s n

  pub without_position : (K : Kind) (s : State) (c : Cursor) (l : List ℕ) → f (resize K false s c l) ≡ g (set_lengths K s c l)
  unfolding set_lengths
  without_position K s c l =
      let cs = resize_causes K s c l in
      let r = (resized K s c l).0 in
      by_reply s (refusal cs) r (eqb (refusal cs) 0) (eqb r.number 0)

pub update_is : (s : State) (c : Cursor) (l : Lengths) → resize base true s c (list_of l) ≡ update base s c (list_of l)
unfolding update
update_is s c l = refl

pub set_is : (s : State) (c : Cursor) (l : Lengths) (x : Reply (Numbered ℕ)) → x ≡ resize base false s c (list_of l) → reply x.after (unnumbered x.answer) ≡ set_lengths base s c (list_of l)
set_is s c l x e =
    ap (λ (r : Reply (Numbered ℕ)). reply r.after (unnumbered r.answer)) e
    ∙ without_position (λ r. reply r.after (unnumbered r.answer)) (λ r. r) (λ t. refl) (λ t n. refl) base s c (list_of l)
