-- Insert on a sound state does what it does on the row.
use Rattle.model.specs.declared.head.Cursor.{Cursor}
use Rattle.std.specs.Prelude.{◌≡◌, ◌≢◌, Bool, cond, ◌&&◌, not, ℕ, zero, suc, ◌+◌, ◌<◌, ltb, leb, length, Ok, Err, Some, None, Option}
use Rattle.std.proofs.Math.Path.{refl, ap, ap₂}
use Rattle.std.proofs.Common.{sym, ◌∙◌, subst}
use Rattle.std.proofs.Math.Bool.{true, false}
use mathlib.Core.List.{List, [], ◌∷◌, ◌++◌, map, append-nil, append_assoc}
use Rattle.std.proofs.Math.Decide.{dec_lt}
use native.Mathlib.Omega.{arith}
use Rattle.std.proofs.Math.Dec.{eqb}
use Rattle.std.proofs.Math.ListN.{get_or, get_or-eq_default}
use borrow.Author.Tests.{eqb-true, ltb-false}
use Rattle.model.specs.Kind.{stride, views_of, too_many_lines, crossed}
use Rattle.model.specs.declared.shape.Kind.{Kind}
use Rattle.model.specs.Lists.{sum_by, some, Cause, refusal}
use Rattle.model.specs.Node.{used}
use Rattle.model.specs.State.{State}
use Rattle.model.specs.Climb.{leaf_no}
use Rattle.model.specs.Place as place
use Rattle.model.specs.Place.{Change, change, climb}
use Rattle.model.specs.Row as row
use Rattle.model.specs.Row.{Entry, entry, Answer, done, refused, Moved, no_entry, new_entry, no_such_place, unless, before, from, inserted, row_move}
use Rattle.model.specs.Sound.{leaf_in, inner_in, shape_in, Coherent, entries_of}
use Rattle.model.specs.Refuse.{opening, at_cursor, crossed_bounds, past, total_of}
use Rattle.model.specs.Refuse as refuse'
use Rattle.model.specs.Calls as calls
use Rattle.model.specs.Calls.{cursor_at, entry_id, placed, insert_causes}
use Rattle.model.specs.ById.{with_target, told, tree_move}
use Rattle.model.specs.Answer.{inserted_answer}
use Rattle.model_laws.specs.Lists.{some_views}
use Rattle.model_tree.specs.Lists.{sum_by_append, all_map}
use Rattle.model_tree.specs.Levels.{Slot, len}
use Rattle.model_tree.specs.Insert as insert
use Rattle.model_tree.specs.Tree as tree
use Rattle.model_tree.specs.Tree.{order, above, BodyAt}
use Rattle.model_tree.specs.Row as plain
use Rattle.model_tree.specs.Row.{before_end, from_end}
use Rattle.model_tree.specs.Edit.{leaf_here}
use Rattle.model_tree.specs.Cursor.{last_of}
use Rattle.model_tree.specs.Place.{front, behind, full, last_leaf, end_made, total_is}
use Rattle.model_theory.specs.RowViews.{none_in}
use Rattle.model_theory.specs.LiftTree.{slots_of, tree_of, sum_slots}
use Rattle.model_theory.specs.WordNeat.{size_is, neat_of}
use Rattle.model_theory.specs.LiftSound.{body_of, sound_of}
use Rattle.model_theory.specs.LiftEntries.{entry_from, total_entries, without_entries}
use Rattle.model_theory.specs.CallOpen.{passed, stopped, few_lines, opens, fresh_at, EntryFound}
use Rattle.model_theory.specs.WalkNext.{last_top, last_down_law}
use Rattle.model_theory.specs.CallResize.{ltb_same}
use Rattle.model_theory.specs.ChangePlace.{EntryPlaced, placed_is}
use Rattle.model_theory.specs.CallSimulates.{Simulates, Mirrors, row_of, Space, by_limit, row_passed, row_stopped, own, entries_are, count_is, below, by_id, before_is, from_is, total_before}

-- the causes behind the target, the row's behind the place, with those for want of space; and the number of two tests and, behind them, of want of space
abbrev behind_target : Kind → List Cause → State → List ℕ → List Cause
behind_target K room t l = crossed_bounds K l ∷ past K t [] l ∷ room

abbrev behind_place : Kind → List Cause → State → ℕ → List ℕ → List Cause
behind_place K rowRoom t i l = row.crossed_bounds K l ∷ row.past K (inserted i (new_entry (row_of K t) l) (entries_of K t)) ∷ rowRoom

abbrev number_of : Bool → Bool → ℕ → ℕ
number_of a b n = cond a 20 (cond b 7 n)

-- an insertion at a place between R₁ and R₂ of the row, by a call that answers X where the row answers a
module _ (K : Kind) (t : State) (w : Coherent K t) (room rowRoom : List Cause) (space : Space t room rowRoom) (i : ℕ) (l : List ℕ) (wl : length l ≡ K.views) (tg : Option Cursor) (k j : ℕ) (R₁ R₂ : List Slot)
    (whole : tree.row (tree_of (stride K) t) ≡ R₁ ++ R₂)
    (ins : inserted i (new_entry (row_of K t) l) (entries_of K t) ≡ map (entry_from K.views) R₁ ++ entry t.head.entries l ∷ map (entry_from K.views) R₂)
    (aimed : placed K t tg l ≡ climb (shape_in (stride K) t) K.effect l (place.place (shape_in (stride K) t) t k j l))
    (causes : refusal (insert_causes K room t tg l) ≡ refusal (behind_target K room t l))
    (pl : t.head.entries < t.head.limit → ((v : ℕ) → sum_by (len v) (R₁ ++ insert.slot_of t.head.entries (λ u. get_or l u 0) ∷ R₂) < 4294967296) → EntryPlaced K t k j R₁ R₂ l) where
  abbrev es' : List Entry
  es' = inserted i (new_entry (row_of K t) l) (entries_of K t)

  abbrev R' : List Slot
  R' = R₁ ++ insert.slot_of t.head.entries (λ u. get_or l u 0) ∷ R₂

  sum_after : (v : ℕ) → sum_by (len v) R' ≡ sum_by (len v) (tree.row (tree_of (stride K) t)) + get_or l v 0
  unfolding sum_by
  sum_after v =
      let a : sum_by (len v) R' ≡ sum_by (len v) R₁ + (get_or l v 0 + sum_by (len v) R₂) = sum_by_append (len v) R₁ (insert.slot_of t.head.entries (λ u. get_or l u 0) ∷ R₂) in
      let b : sum_by (len v) (tree.row (tree_of (stride K) t)) ≡ sum_by (len v) R₁ + sum_by (len v) R₂ = ap (sum_by (len v)) whole ∙ sum_by_append (len v) R₁ R₂ in
      omega arith

  total_after : (v : ℕ) → v < K.views → row.total v es' ≡ sum_by (len v) (tree.row (tree_of (stride K) t)) + get_or l v 0
  unfolding sum_by
  total_after v lv =
      let e : row.total v (entry t.head.entries l ∷ map (entry_from K.views) R₂) ≡ get_or l v 0 + row.total v (map (entry_from K.views) R₂) = refl in
      let b : sum_by (len v) (tree.row (tree_of (stride K) t)) ≡ sum_by (len v) R₁ + sum_by (len v) R₂ = ap (sum_by (len v)) whole ∙ sum_by_append (len v) R₁ R₂ in
      ap (row.total v) ins ∙ sum_by_append (row.length_in v) (map (entry_from K.views) R₁) (entry t.head.entries l ∷ map (entry_from K.views) R₂)
      ∙ (let y = total_entries K.views v R₁ lv in let z = total_entries K.views v R₂ lv in omega arith)

  abbrev over : Bool
  over = some (λ v. ltb 4294967295 (row.total v es')) (views_of K)

  past_is : some (λ v. ltb (4294967295 + get_or [] v 0) (total_of K t v + get_or l v 0)) (views_of K) ≡ over
  past_is = some_views K.views (λ v. ltb (4294967295 + get_or [] v 0) (total_of K t v + get_or l v 0)) (λ v. ltb 4294967295 (row.total v es'))
      (λ v lv. (let a = total_after v lv in
      let e : total_of K t v ≡ sum_by (len v) (tree.row (tree_of (stride K) t)) = sym (sum_slots v (used (inner_in (stride K) t t.head.root.0))) ∙ total_is (tree_of (stride K) t) (body_of (stride K) t K.effect w) v in
      ltb_same (4294967295 + get_or [] v 0) (total_of K t v + get_or l v 0) 4294967295 (row.total v es') (λ h. omega arith) (λ h. omega arith)))

  both_causes : refusal (insert_causes K room t tg l) ≡ refusal (behind_place K rowRoom t i l)
  unfolding refusal
  both_causes = causes ∙ ap₂ (number_of (crossed K l)) past_is space.same

  small : over ≡ false → (v : ℕ) → sum_by (len v) R' < 4294967296
  small ok v = go (dec_lt v K.views)
    where
      go : Dec (v < K.views) → sum_by (len v) R' < 4294967296
      go (yes lv) = (let z = ltb-false 4294967295 (row.total v es') (none_in (λ v. ltb 4294967295 (row.total v es')) K.views ok v lv) in omega (arith, total_after v lv, sum_after v))
      go (no ge) = (let z : get_or l v 0 ≡ 0 = get_or-eq_default l 0 {n = v} (omega arith) in let y = sum_after v in omega (arith, (body_of (stride K) t K.effect w).totals v))

  module _ {X : Type 0} (refuse : ℕ → X) (answer : ℕ → X) (say : X → Answer) (a : Answer) (says : (n : ℕ) → say (refuse n) ≡ refused n) (right : say (answer (sum_by (len K.effect) R₁)) ≡ a) where
    abbrev answered : calls.Reply X
    answered = calls.settled t (placed K t tg l).0 refuse (answer (placed K t tg l).1)

    abbrev refusing : ℕ → calls.Reply X
    refusing n = calls.reply t (refuse n)

    pub insert_step : Simulates (Mirrors K) (told (calls.unless (insert_causes K room t tg l) refusing answered) say) (unless (row_of K t) (behind_place K rowRoom t i l) es' a)
    unfolding refusal
    insert_step = go (crossed K l) refl over refl (refusal rowRoom) refl
      where
        number : {p q : Bool} {n : ℕ} → crossed K l ≡ p → over ≡ q → refusal rowRoom ≡ n → refusal (behind_place K rowRoom t i l) ≡ number_of p q n
        number d e f = rw (d, e, f)

        stop : (n : ℕ) → refusal (behind_place K rowRoom t i l) ≡ suc n → Simulates (Mirrors K) (told (calls.unless (insert_causes K room t tg l) refusing answered) say) (unless (row_of K t) (behind_place K rowRoom t i l) es' a)
        stop n z = rw (stopped (insert_causes K room t tg l) refusing answered n (both_causes ∙ z), row_stopped (row_of K t) (behind_place K rowRoom t i l) es' a n z) (record { same = says (suc n); kept = own K t w })

        go : (p : Bool) → crossed K l ≡ p → (q : Bool) → over ≡ q → (n : ℕ) → refusal rowRoom ≡ n
            → Simulates (Mirrors K) (told (calls.unless (insert_causes K room t tg l) refusing answered) say) (unless (row_of K t) (behind_place K rowRoom t i l) es' a)
        go true d q e n f = stop 19 (number d e f)
        go false d true e n f = stop 6 (number d e f)
        go false d false e (suc n) f = stop n (number d e f)
        go false d false e zero f =
            let z : refusal (behind_place K rowRoom t i l) ≡ 0 = number d e f in
            let p = pl (space.free f) (small e) in
            rw (passed (insert_causes K room t tg l) refusing answered (both_causes ∙ z), row_passed (row_of K t) (behind_place K rowRoom t i l) es' a z, aimed, p.is)
            (record { same = right; kept = record { coherent = p.sound; entries = p.entries ∙ sym ins; limit = p.limit } })

and_true : (a : Bool) → (a && not false) ≡ a
and_true true = refl
and_true false = refl

and_false : (a : Bool) → (a && not true) ≡ false
and_false true = refl
and_false false = refl

-- the calls, with the answer of a call that answers X
module _ (K : Kind) (ok : K.effect < K.views) (t : State) (w : Coherent K t) (room rowRoom : List Cause) (space : Space t room rowRoom) (i : ℕ) (l : List ℕ) (wl : length l ≡ K.views) (lines : too_many_lines K l ≡ false) {X : Type 0} (refuse : ℕ → X) (answer : ℕ → X) (say : X → Answer) (a : Answer) (says : (n : ℕ) → say (refuse n) ≡ refused n) where
  abbrev call : Option Cursor → Moved State
  call tg = told (calls.unless (insert_causes K room t tg l) (λ n. calls.reply t (refuse n)) (calls.settled t (placed K t tg l).0 refuse (answer (placed K t tg l).1))) say

  before_step : (c : EntryFound K t w i) → say (answer (sum_by (len K.effect) (front c.cur))) ≡ a → Simulates (Mirrors K) (call (Some (cursor_at t.head.stamp c.leaf c.slot))) (unless (row_of K t) (behind_place K rowRoom t i l) (inserted i (new_entry (row_of K t) l) (entries_of K t)) a)
  before_step c right =
      insert_step K t w room rowRoom space i l wl (Some (cursor_at t.head.stamp c.leaf c.slot)) c.leaf c.slot (front c.cur) (c.cur.e ∷ behind c.cur) c.cur.row
      (ap₂ (λ (b : List Entry) (n : ℕ). b ++ entry n l ∷ from i (entries_of K t)) (before_is K t w i c) (count_is K t w) ∙ ap (λ (b : List Entry). map (entry_from K.views) (front c.cur) ++ entry t.head.entries l ∷ b) (from_is K t w i c))
      refl
      (few_lines K l _ lines ∙ ap refusal (append_assoc (opening K t) (at_cursor K t (cursor_at t.head.stamp c.leaf c.slot)) (behind_target K room t l))
      ∙ opens K t w (at_cursor K t (cursor_at t.head.stamp c.leaf c.slot) ++ behind_target K room t l) ∙ fresh_at K t w c.leaf c.slot (behind_target K room t l) c.leaf_in_law c.slot_in_law)
      (λ few tot. placed_is K t w c.cur.A c.leaf c.cur.B c.cur.body c.slot (let z = c.cur.inside in omega arith) (front c.cur) (c.cur.e ∷ behind c.cur) c.cur.made l wl few tot)
      refuse answer say a says right

  -- the end
  abbrev last : ℕ
  last = last_leaf (tree_of (stride K) t)

  last_at_law : (Y : List ℕ) × (order (tree_of (stride K) t) ≡ Y ++ last ∷ [])
  last_at_law = last_of (tree_of (stride K) t).body.inner t.head.root.0 t.head.levels (full (tree_of (stride K) t) (body_of (stride K) t K.effect w))

  last_body : BodyAt (tree_of (stride K) t) (last_at_law.0 ++ last ∷ []) (above (tree_of (stride K) t))
  last_body = subst (λ (C : List ℕ). BodyAt (tree_of (stride K) t) C (above (tree_of (stride K) t))) last_at_law.1 (body_of (stride K) t K.effect w)

  last_in : last < t.head.leaves
  last_in = leaf_here (tree_of (stride K) t) last_at_law.0 last [] (above (tree_of (stride K) t)) last_body

  aim_end : calls.aim K t None ≡ change 0 t last (length (slots_of (leaf_in (stride K) t last)))
  aim_end =
      ap (calls.end_of K t) (last_down_law (stride K) t (neat_of (stride K) t K.effect w) (body_of (stride K) t K.effect w) t.head.levels 0 t.head.root.0 (let z : 0 + t.head.levels ≡ t.head.levels = omega arith in z) (record { before = []; after = []; row = refl })
      ∙ ap (λ (k : ℕ). Ok (Some (leaf_no k))) (last_top (tree_of (stride K) t).body.inner t.head.root.0 t.head.levels))
      ∙ ap (change 0 t last) (sym (size_is (stride K) t.head.fan (leaf_in (stride K) t last) ((neat_of (stride K) t K.effect w).leaf_tidy last last_in)))

  without : i ≡ no_entry → plain.RowWithout i (entries_of K t)
  without e = subst (plain.RowWithout i) (sym (entries_are K t w)) (without_entries K.views i (tree.row (tree_of (stride K) t))
      (all_map (λ (x : Slot). x.child < t.head.entries) (λ (x : Slot). x.child ≢ i) (λ x lt q. let z = w.entry_count in let y = w.limit_most in omega arith) (tree.row (tree_of (stride K) t)) (below K t w)))

  end_step : i ≡ no_entry → say (answer (sum_by (len K.effect) (tree.row (tree_of (stride K) t)))) ≡ a → Simulates (Mirrors K) (call None) (unless (row_of K t) (behind_place K rowRoom t i l) (inserted i (new_entry (row_of K t) l) (entries_of K t)) a)
  unfolding refusal
  end_step e right =
      insert_step K t w room rowRoom space i l wl None last (length (slots_of (leaf_in (stride K) t last))) (tree.row (tree_of (stride K) t)) [] (sym (append-nil (tree.row (tree_of (stride K) t))))
      (ap₂ (λ (b f : List Entry). b ++ new_entry (row_of K t) l ∷ f) (before_end i (entries_of K t) (without e)) (from_end i (entries_of K t) (without e)) ∙ ap₂ (λ (b : List Entry) (n : ℕ). b ++ entry n l ∷ []) (entries_are K t w) (count_is K t w))
      (ap (λ (r : Change). climb (shape_in (stride K) t) K.effect l (cond (eqb r.number 0) (place.place (shape_in (stride K) t) t r.leaf r.slot l) r)) aim_end)
      (few_lines K l (opening K t ++ [] ++ behind_target K room t l) lines ∙ ap refusal (append_assoc (opening K t) [] (behind_target K room t l)) ∙ opens K t w (behind_target K room t l))
      (λ few tot. placed_is K t w last_at_law.0 last [] last_body (length (slots_of (leaf_in (stride K) t last))) (omega arith) (tree.row (tree_of (stride K) t)) [] (end_made K.effect (tree_of (stride K) t) (sound_of (stride K) t K.effect w)) l wl few tot)
      refuse answer say a says right

  -- either target
  pub target_step : ((n : ℕ) → row.total K.effect (before i (entries_of K t)) ≡ n → say (answer n) ≡ a)
      → Simulates (Mirrors K) (with_target K t i call) (unless (row_of K t) (no_such_place (row_of K t) i ∷ behind_place K rowRoom t i l) (inserted i (new_entry (row_of K t) l) (entries_of K t)) a)
  unfolding refusal unless
  target_step right = go (eqb i no_entry) refl
    where
      go : (b : Bool) → eqb i no_entry ≡ b → Simulates (Mirrors K) (with_target K t i call) (unless (row_of K t) (no_such_place (row_of K t) i ∷ behind_place K rowRoom t i l) (inserted i (new_entry (row_of K t) l) (entries_of K t)) a)
      go true e =
          let q : i ≡ no_entry = eqb-true i no_entry e in
          rw (e, and_false (leb (length (entries_of K t)) i))
          (end_step q (right (sum_by (len K.effect) (tree.row (tree_of (stride K) t))) (ap (row.total K.effect) (before_end i (entries_of K t) (without q) ∙ entries_are K t w) ∙ total_entries K.views K.effect (tree.row (tree_of (stride K) t)) (ok))))
      go false e =
          rw (e, and_true (leb (length (entries_of K t)) i))
          (by_id K t w i (λ c. call (Some c)) (behind_place K rowRoom t i l) (inserted i (new_entry (row_of K t) l) (entries_of K t)) a (λ c. before_step c (right (sum_by (len K.effect) (front c.cur)) (total_before K t w i c K.effect (ok)))))

module _ (K : Kind) (ok : K.effect < K.views) (t : State) (w : Coherent K t) where
  pub step_insert_by : (room rowRoom : List Cause) (space : Space t room rowRoom) (i : ℕ) (l : List ℕ) (wl : length l ≡ K.views) → too_many_lines K l ≡ false
      → Simulates (Mirrors K) (with_target K t i (λ tg. told (calls.insert_by K room t tg l) inserted_answer)) (row.insert_by K rowRoom (row_of K t) i l)
  unfolding calls.insert_by
  step_insert_by room rowRoom space i l wl lines = target_step K ok t w room rowRoom space i l wl lines Err (λ p. Ok (entry_id t.head.entries, p)) inserted_answer (done (length (entries_of K t) ∷ row.total K.effect (before i (entries_of K t)) ∷ [])) (λ n. refl)
      (λ n e. ap₂ (λ (c p : ℕ). done (c ∷ p ∷ [])) (sym (count_is K t w)) (sym e))

  pub step_insert : (i : ℕ) (l : List ℕ) (wl : length l ≡ K.views) → too_many_lines K l ≡ false → Simulates (Mirrors K) (tree_move K t (row.insert i l)) (row_move K (row_of K t) (row.insert i l))
  unfolding tree_move row_move
  step_insert i l wl lines = step_insert_by (refuse'.full t ∷ []) (row.full (row_of K t) ∷ []) (by_limit K t w) i l wl lines
