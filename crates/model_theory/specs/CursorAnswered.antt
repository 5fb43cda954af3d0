-- The cursors that cursor, first, next, locate, char_index_to_entry and split_entry answer on a sound state are current and stand at the entry meant:
-- the id that a cursor's answer has in the row's form is the row's, and only a current cursor has an id.
use Rattle.model.specs.declared.number.EntryId.{EntryId}
use Rattle.model.specs.Numbered.{Numbered}
use Rattle.std.specs.Prelude.{◌≡◌, ◌≢◌, ◌⊎◌, Bool, true, false, cond, length, get_or, Ok, Err, Some, None, Option}
use Rattle.std.proofs.Math.Path.{refl, sym, ap, subst}
use Rattle.std.proofs.Common.{◌∙◌, inl, inr, arith, eq-eqb, lt-ltb}
use mathlib.Core.List.{List, [], ◌∷◌, ◌++◌}
use Prim.Native.Nat.{ℕ, ◌+◌, ◌<◌}
use Rattle.model.specs.Kind.{stride, too_many_lines}
use Rattle.model.specs.declared.shape.Kind.{Kind}
use Rattle.model.specs.Lists.{Cause, cause, refusal}
use Rattle.model.specs.Node.{child}
use Rattle.model.specs.State.{State, next_stamp}
use Rattle.model.specs.Row as row
use Rattle.model.specs.Row.{Row, Entry, length_in, Answer, done, refused, Moved, moved, unless, after, first_id, row_move, row_step}
use Rattle.model.specs.Sound.{leaf_in, Coherent, entries_of}
use Rattle.model.specs.Refuse.{opening, stale, overfull, at_cursor, current, full}
use Rattle.model.specs.Calls as calls
use Rattle.model.specs.Calls.{cursor_at, slot_at}
use Rattle.model.specs.ById.{with_cursor, id_answer, standing_id_answer, next_answer, located_answer, tree_move}
use Rattle.model.specs.Promise.{At, StandsAt, NextAt, LocatedAt, SelectedAt, DividedAt}
use Rattle.model.specs.declared.head.Cursor.{Cursor}
use Rattle.model_tree.specs.Levels.{Slot}
use Rattle.model_tree.specs.Calls as tree
use Rattle.model_theory.specs.LiftTree.{tree_of}
use Rattle.model_theory.specs.CallOpen.{passed, stopped, many_lines_law, opens, fresh_at, entry_found}
use Rattle.model_theory.specs.RowNumbers.{number_is}
use Rattle.model_theory.specs.CallSimulates.{row_of, Space, by_limit, row_known, row_passed, count_is}
use Rattle.model_theory.specs.CallRead.{id_at, step_first, step_next}
use Rattle.model_theory.specs.CallLookup.{step_lookup}
use Rattle.model_theory.specs.CallSplit.{behind_id, TwoParts, split_by_law}
use Rattle.model_theory.specs.CursorCurrent.{Fails, which, fails_not, blocked, current_is, is_current}

-- the cursor of an answer, and the first of an answer's values
abbrev cursor_of : Cursor → Numbered Cursor → Cursor
cursor_of d (Ok c) = c
cursor_of d (Err n) = d

abbrev value : Answer → ℕ
value a = get_or a.values 0 0

no_refusal : (n i : ℕ) (ws : List ℕ) → refused n ≡ done (i ∷ ws) → ⊥
no_refusal n i ws e = (let z = ap (λ (a : Answer). length a.values) e in omega arith)

-- the row's lookup refuses by 5 alone
looked_not_stale : (K : Kind) (r : Row) (v x : ℕ) → (let n = (row_step K r (row.lookup v x)).answer.number in (n < 13) × (n ≢ 3))
unfolding row_move row_step refusal
looked_not_stale K r v x = subst (λ (n : ℕ). (n < 13) × (n ≢ 3)) (sym (number_is r (row.no_such_position r v x ∷ []) r.entries (row.found K v x 0 0 0 r.entries))) (go (row.no_such_position r v x).applies)
  where
    go : (b : Bool) → (refusal (cause 5 b ∷ []) < 13) × (refusal (cause 5 b ∷ []) ≢ 3)
    go true = (omega arith, λ e. omega arith)
    go false = (omega arith, λ e. omega arith)

-- a split with too many line ends
pub split_lines : (K : Kind) (room : List Cause) (s : State) (c : Cursor) (l : List ℕ) (flag : Bool) → too_many_lines K l ≡ true → calls.split_by K room s c l flag ≡ calls.reply s (Err 10)
unfolding calls.split_by
split_lines K room s c l flag e = stopped (calls.split_causes K room s c l) (λ m. calls.reply s (Err m)) _ 9 (many_lines_law K l _ e)

module _ (K : Kind) (s : State) (w : Coherent K s) where
  at_slot : (k j : ℕ) → k < s.head.leaves → j < (leaf_in (stride K) s k).len → At K s (cursor_at s.head.stamp k j) (tree.slot_at (tree_of (stride K) s) k j).child
  at_slot k j lk lj = record { current = rw (eq-eqb s.head.stamp s.head.stamp refl, lt-ltb k s.head.leaves lk, lt-ltb j (leaf_in (stride K) s k).len lj); id = id_at K s w k j lk lj }

  -- every current cursor stands at an entry, any other has no id
  pub current_at : (c : Cursor) → current K s c ≡ true → At K s c (child (slot_at K s c))
  unfolding calls.id refusal
  current_at c e =
      let r = current_is K s w c e in
      let ok : refusal (at_cursor K s c) ≡ 0 = subst (λ (m : ℕ). refusal (at_cursor K s (cursor_at m c.leaf.0 c.slot)) ≡ 0) (sym r.0) (fresh_at K s w c.leaf.0 c.slot [] r.1 r.2) in
      record { current = e; id = passed (opening K s ++ at_cursor K s c) Err _ (opens K s w (at_cursor K s c) ∙ ok) }

  pub no_id : (c : Cursor) → Fails K s c (refusal (stale K s c)) → calls.id K s c ≡ Err (refusal (stale K s c))
  unfolding calls.id
  no_id c f = let b = blocked K s w c (overfull K s c ∷ []) f in stopped (opening K s ++ at_cursor K s c) Err _ b.0 b.2 ∙ ap Err (sym b.1)

  -- an answer with the id at a cursor that is no refusal of a cursor
  answered_at : (c : Cursor) (vs : List ℕ) (a : Answer) → (a.number < 13) × (a.number ≢ 3) → id_answer (calls.id K s c) vs ≡ a → (i : ℕ) × (a ≡ done (i ∷ vs)) × At K s c i
  answered_at c vs a ok e = go (which K s w c)
    where
      go : ((current K s c ≡ true) × (refusal (stale K s c) ≡ 0)) ⊎ Fails K s c (refusal (stale K s c)) → (i : ℕ) × (a ≡ done (i ∷ vs)) × At K s c i
      go (inl q) = (child (slot_at K s c), sym e ∙ ap (λ (n : Numbered EntryId). id_answer n vs) (current_at c q.0).id, current_at c q.0)
      go (inr f) = absurd (fails_not K s w c (refusal (stale K s c)) a.number f ok.0 ok.1 (ap (λ (z : Answer). z.number) (sym e) ∙ ap (λ (n : Numbered EntryId). (id_answer n vs).number) (no_id c f)))

  named_at : (c : Cursor) (i : ℕ) → id_answer (calls.id K s c) [] ≡ done (i ∷ []) → At K s c i
  named_at c i e = let r = answered_at c [] (done (i ∷ [])) (omega arith, λ z. omega arith) e in subst (At K s c) (ap value (sym r.1)) r.2

  -- a cursor at an entry is the entry's
  own_cursor : (c : Cursor) (i : ℕ) → At K s c i → (i < s.head.entries) × (calls.cursor K s i ≡ Ok c)
  own_cursor c i h =
      let e : child (slot_at K s c) ≡ i = ap (λ (n : Numbered EntryId). value (id_answer n [])) (sym (current_at c h.current).id ∙ h.id) in
      subst (λ (k : ℕ). (k < s.head.entries) × (calls.cursor K s k ≡ Ok c)) e (is_current K s w c h.current)

module _ (K : Kind) (ok : K.effect < K.views) (s : State) (w : Coherent K s) where
  pub cursor_at_law : (i : ℕ) → i < s.head.entries → StandsAt K s (calls.cursor K s i) i
  cursor_at_law i lt =
      let c = entry_found K s w i lt in
      subst (λ (a : Numbered Cursor). StandsAt K s a i) (sym c.is) (subst (At K s (cursor_at s.head.stamp c.leaf c.slot)) (ap (λ (y : Slot). y.child) c.cur.at ∙ c.cur.own) (at_slot K s w c.leaf c.slot c.leaf_in_law c.slot_in_law))

  pub first_at_law : StandsAt K s (calls.first K s) (first_id (entries_of K s))
  unfolding tree_move row_move
  first_at_law = go (calls.first K s) (step_first K s w).same
    where
      go : (a : Numbered Cursor) → standing_id_answer K s a ≡ done (first_id (entries_of K s) ∷ []) → StandsAt K s a (first_id (entries_of K s))
      go (Ok c) e = named_at K s w c (first_id (entries_of K s)) e
      go (Err n) e = no_refusal n (first_id (entries_of K s)) [] e

  pub next_at : (c : Cursor) (i : ℕ) → At K s c i → NextAt K s (calls.next_after K s c) (first_id (after i (entries_of K s)))
  unfolding tree_move row_move refusal
  next_at c i h =
      let o = own_cursor K s w c i h in
      go (calls.next_after K s c) (sym (ap (λ (z : Numbered Cursor). (with_cursor s z (λ d. moved s (next_answer K s (calls.next_after K s d)))).answer) o.1) ∙ (step_next K s w i).same
      ∙ ap (λ (m : Moved Row). m.answer) (row_passed (row_of K s) (row.no_such_id (row_of K s) i ∷ []) (entries_of K s) (done (n ∷ [])) (row_known K s w i [] o.0)))
    where
      n : ℕ
      n = first_id (after i (entries_of K s))

      go : (a : Numbered (Option Cursor)) → next_answer K s a ≡ done (n ∷ []) → NextAt K s a n
      go (Ok (Some d)) e = named_at K s w d n e
      go (Ok None) e = sym (ap value e)
      go (Err m) e = no_refusal m n [] e

  pub locate_at : (v : ℕ) (lv : v < K.views) (x : ℕ) → (let r = calls.locate K s v x in LocatedAt K r.after r.answer (row_step K (row_of K s) (row.lookup v x)).answer)
  unfolding tree_move row_step
  locate_at v lv x = go (calls.locate K s v x).answer (step_lookup K ok s w v lv x).same
    where
      go : (a : Numbered (Cursor × ℕ × ℕ × ℕ)) → located_answer K (calls.locate K s v x).after a ≡ (row_step K (row_of K s) (row.lookup v x)).answer → LocatedAt K (calls.locate K s v x).after a (row_step K (row_of K s) (row.lookup v x)).answer
      go (Ok (c, offset, effect, prepare)) e = answered_at K (calls.locate K s v x).after (step_lookup K ok s w v lv x).kept.coherent c (offset ∷ effect ∷ prepare ∷ []) (row_step K (row_of K s) (row.lookup v x)).answer (looked_not_stale K (row_of K s) v x) e
      go (Err n) e = sym e

  pub select_at : (v : ℕ) (lv : v < K.views) (x : ℕ) → (let r = calls.char_index_to_entry K s v x in SelectedAt K r.after r.answer (row_step K (row_of K s) (row.lookup v x)).answer)
  unfolding calls.char_index_to_entry
  select_at v lv x = go (calls.locate K s v x).answer (locate_at v lv x)
    where
      go : (a : Numbered (Cursor × ℕ × ℕ × ℕ)) → LocatedAt K (calls.locate K s v x).after a (row_step K (row_of K s) (row.lookup v x)).answer → SelectedAt K (calls.locate K s v x).after (calls.less_positions a) (row_step K (row_of K s) (row.lookup v x)).answer
      go (Ok (c, offset, effect, prepare)) h = (h.0, effect, prepare, h.1, h.2)
      go (Err n) h = h

  pub split_at_by : (room rowRoom : List Cause) → Space s room rowRoom → (c : Cursor) (i : ℕ) → At K s c i → (l : List ℕ) (wl : length l ≡ K.views) → too_many_lines K l ≡ false → (flag : Bool)
      → (let r = calls.split_by K room s c l flag in DividedAt K flag i s.head.entries r.after r.answer (row.split_by K rowRoom (row_of K s) flag i l).answer)
  unfolding unless
  split_at_by room rowRoom space c i h l wl lines flag =
      let o = own_cursor K s w c i h in
      let e = entry_found K s w i o.0 in
      let here : cursor_at s.head.stamp e.leaf e.slot ≡ c = ap (cursor_of c) (sym e.is ∙ o.1) in
      subst (λ (d : Cursor). let r = calls.split_by K room s d l flag in DividedAt K flag i s.head.entries r.after r.answer (row.split_by K rowRoom (row_of K s) flag i l).answer) here
      (rw (row_known K s w i (behind_id K rowRoom (row_of K s) i l) o.0)
      (split_by_law K s w i e l wl lines flag room rowRoom space (λ m n. DividedAt K flag i s.head.entries m.after m.answer n.answer) (λ n. refl) (λ t k j p g. (ap (λ (n : ℕ). done (n ∷ [])) (count_is K s w), refl, first_part t k j p, second_part t k j p))))
    where
      first_part : (t : State) (k j : ℕ) → TwoParts K flag i s.head.entries (next_stamp s.head.stamp) t k j → At K t (cursor_at (next_stamp s.head.stamp) k j) (cond flag s.head.entries i)
      first_part t k j p = subst (λ (m : ℕ). At K t (cursor_at m k j) (cond flag s.head.entries i)) p.stamp (subst (At K t (cursor_at t.head.stamp k j)) p.first (at_slot K t p.sound k j p.leaf_in_law (let z = p.slot_in_law in omega arith)))

      second_part : (t : State) (k j : ℕ) → TwoParts K flag i s.head.entries (next_stamp s.head.stamp) t k j → At K t (cursor_at (next_stamp s.head.stamp) k (j + 1)) (cond flag i s.head.entries)
      second_part t k j p = subst (λ (m : ℕ). At K t (cursor_at m k (j + 1)) (cond flag i s.head.entries)) p.stamp (subst (At K t (cursor_at t.head.stamp k (j + 1))) p.second (at_slot K t p.sound k (j + 1) p.leaf_in_law p.slot_in_law))

  pub split_at : (c : Cursor) (i : ℕ) → At K s c i → (l : List ℕ) (wl : length l ≡ K.views) (flag : Bool)
      → (let r = calls.split_entry K s c l flag in DividedAt K flag i s.head.entries r.after r.answer (row_step K (row_of K s) (row.split flag i l)).answer)
  unfolding row_move row_step
  split_at c i h l wl flag = go (too_many_lines K l) refl
    where
      move : Moved Row
      move = row_move K (row_of K s) (row.split flag i l)

      go : (b : Bool) → too_many_lines K l ≡ b → (let r = calls.split_entry K s c l flag in DividedAt K flag i s.head.entries r.after r.answer (cond b (moved (row_of K s) (refused 10)) move).answer)
      go true e = subst (λ (r : calls.Reply (Numbered (EntryId × Cursor × Cursor))). DividedAt K flag i s.head.entries r.after r.answer (refused 10)) (sym (split_lines K (full s ∷ []) s c l flag e)) refl
      go false e = split_at_by (full s ∷ []) (row.full (row_of K s) ∷ []) (by_limit K s w) c i h l wl e flag
