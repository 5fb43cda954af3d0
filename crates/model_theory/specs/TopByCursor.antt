-- The list theorem in its cursor form: from every make that isn't refused, every list of calls on cursors, whatever these are, gets the row's answers
-- to what each call means in the tree before it, and the state is sound and stands for the row at each of them.
use Rattle.std.specs.Prelude.{◌≡◌, ◌≢◌, ◌⊎◌, Bool, cond, ℕ, ◌<◌, eqb, leb, length, Ok, Some, None}
use Rattle.std.proofs.Math.Path.{refl, ap₂}
use Rattle.std.proofs.Common.{sym, ap, ◌∙◌, inl, inr, arith, ne_eqb}
use Rattle.std.proofs.Math.Bool.{true, false}
use mathlib.Core.List.{List, [], ◌∷◌}
use Rattle.model.specs.Kind.{too_many_lines}
use Rattle.model.specs.declared.shape.Kind.{Kind}
use Rattle.model.specs.Lists.{All, refusal}
use Rattle.model.specs.State.{State}
use Rattle.model.specs.Row as row
use Rattle.model.specs.Row.{Row, Answer}
use Rattle.model.specs.Sound.{Coherent}
use Rattle.model.specs.Refuse.{stale, current}
use Rattle.model.specs.Calls.{make}
use Rattle.model.specs.ByCursor as by
use Rattle.model.specs.ByCursor.{CursorCall, EntryCall, cursor_step, entry_step, entry_at, meant, meant_all}
use Rattle.model.specs.Promise.{Words, Fixed, Represents, answers, CursorInWords, AlongCursors, Demand3ByCursor}
use Rattle.model.specs.declared.head.Cursor.{Cursor}
use Rattle.model_theory.specs.CallSimulates.{Simulates}
use Rattle.model_theory.specs.CursorCurrent.{Fails, which, fails_by}
use Rattle.model_theory.specs.RowNumbers.{row_nine}
use Rattle.model_theory.specs.AnyFixed.{fixes}
use Rattle.model_theory.specs.TopById.{invariant_of, made, fan_made}
use Rattle.model_theory.specs.CallByCursor.{cursor_step_law}

-- a cursor that fails doesn't fail by that number
abbrev pub NotBy : ℕ → EntryCall → Type 0
NotBy y (by.plain c) = Unit {0}
NotBy y (by.parts flag i l) = Unit {0}
NotBy y (by.select v x) = Unit {0}
NotBy y (by.self i) = Unit {0}
NotBy y by.is_empty = Unit {0}
NotBy y (by.failed n) = n ≢ y

entry_nine : (K : Kind) (r : Row) (e : EntryCall) → NotBy 9 e → (entry_step K r e).answer.number ≢ 9
unfolding entry_step refusal row.unless
entry_nine K r (by.plain c) k e = row_nine K r c e
entry_nine K r (by.parts flag i l) k e = row_nine K r (row.split flag i l) e
entry_nine K r (by.select v x) k e = row_nine K r (row.lookup v x) e
entry_nine K r (by.self i) k e = go (leb (length r.entries) i) refl
  where
    go : (b : Bool) → leb (length r.entries) i ≡ b → ⊥
    go true q = (let z : ◌≡◌ {A = ℕ} 4 9 = rw q at e in omega arith)
    go false q = (let z : ◌≡◌ {A = ℕ} 0 9 = rw q at e in omega arith)
entry_nine K r by.is_empty k e = omega arith
entry_nine K r (by.failed n) k e = k e

-- what calls on cursors mean fails by 3, 13 or 14 alone
module _ (K : Kind) (s : State) (w : Coherent K s) (y : ℕ) (three : 3 ≢ y) (thirteen : 13 ≢ y) (fourteen : 14 ≢ y) where
  one_not : (c : Cursor) (f : ℕ → EntryCall) → ((i : ℕ) → NotBy y (f i)) → NotBy y (by.standing K s c f)
  unfolding by.standing
  one_not c f h = go (which K s w c)
    where
      go : ((current K s c ≡ true) × (refusal (stale K s c) ≡ 0)) ⊎ Fails K s c (refusal (stale K s c)) → NotBy y (cond (eqb (refusal (stale K s c)) 0) (f (entry_at K s c)) (by.failed (refusal (stale K s c))))
      go (inl q) = rw q.1 (h (entry_at K s c))
      go (inr f) = rw (ne_eqb (refusal (stale K s c)) 0 (fails_by K s w c (refusal (stale K s c)) 0 f (λ z. omega arith) (λ z. omega arith) (λ z. omega arith))) (fails_by K s w c (refusal (stale K s c)) y f three thirteen fourteen)

  lines_not : (l : List ℕ) (c : Cursor) (f : ℕ → EntryCall) → ((i : ℕ) → NotBy y (f i)) → NotBy y (by.standing_for K s l c f)
  unfolding by.standing_for
  lines_not l c f h = go (too_many_lines K l)
    where
      go : (b : Bool) → NotBy y (cond b (f (entry_at K s c)) (by.standing K s c f))
      go true = h (entry_at K s c)
      go false = one_not c f h

  pub meant_not : (c : CursorCall) → NotBy y (meant K s c)
  unfolding meant
  meant_not (by.reset l) = tt
  meant_not (by.insert (Some c) l) = lines_not l c (λ i. by.plain (row.insert i l)) (λ i. tt)
  meant_not (by.insert None l) = tt
  meant_not (by.split flag c l) = lines_not l c (λ i. by.parts flag i l) (λ i. tt)
  meant_not (by.set_lengths c l) = lines_not l c (λ i. by.plain (row.set_lengths i l)) (λ i. tt)
  meant_not (by.update c l) = lines_not l c (λ i. by.plain (row.update i l)) (λ i. tt)
  meant_not (by.locate v x) = tt
  meant_not (by.select v x) = tt
  meant_not (by.rank v c) = one_not c (λ i. by.plain (row.rank v i)) (λ i. tt)
  meant_not (by.next c) = one_not c (λ i. by.plain (row.next i)) (λ i. tt)
  meant_not (by.compare a b) = one_not a (λ i. by.standing K s b (λ j. by.plain (row.compare i j))) (λ i. one_not b (λ j. by.plain (row.compare i j)) (λ j. tt))
  meant_not (by.lengths c) = one_not c (λ i. by.plain (row.lengths i)) (λ i. tt)
  meant_not (by.id c) = one_not c by.self (λ i. tt)
  meant_not (by.cursor i) = tt
  meant_not by.first = tt
  meant_not by.len = tt
  meant_not by.is_empty = tt

module _ (K : Kind) (ok : K.effect < K.views) (s : State) (w : Coherent K s) where
  pub never_nine : (r : Row) → Represents K s r → (c : CursorCall) → CursorInWords K c → (cursor_step K s c).answer.number ≢ 9
  never_nine r h c k e = entry_nine K r (meant K s c) (meant_not K s w 9 (λ z. omega arith) (λ z. omega arith) (λ z. omega arith) c) (ap (λ (a : Answer). a.number) (sym (cursor_step_law K ok s w r h c k).same) ∙ e)

-- no call changes the fan or the limit
pub cursor_fixed : (K : Kind) (s : State) (c : CursorCall) → Fixed s (cursor_step K s c).after
unfolding cursor_step
cursor_fixed K s (by.reset l) = (fixes K s).reset l
cursor_fixed K s (by.insert t l) = (fixes K s).insert t l
cursor_fixed K s (by.split flag c l) = (fixes K s).split c l flag
cursor_fixed K s (by.set_lengths c l) = (fixes K s).set_lengths c l
cursor_fixed K s (by.update c l) = (fixes K s).update c l
cursor_fixed K s (by.locate v x) = (fixes K s).locate v x
cursor_fixed K s (by.select v x) = (fixes K s).select v x
cursor_fixed K s (by.rank v c) = record { fan = refl; limit = refl }
cursor_fixed K s (by.next c) = record { fan = refl; limit = refl }
cursor_fixed K s (by.compare a b) = record { fan = refl; limit = refl }
cursor_fixed K s (by.lengths c) = record { fan = refl; limit = refl }
cursor_fixed K s (by.id c) = record { fan = refl; limit = refl }
cursor_fixed K s (by.cursor i) = record { fan = refl; limit = refl }
cursor_fixed K s by.first = record { fan = refl; limit = refl }
cursor_fixed K s by.len = record { fan = refl; limit = refl }
cursor_fixed K s by.is_empty = record { fan = refl; limit = refl }

module _ (K : Kind) (ok : K.effect < K.views) where
  cursors_alike : (s : State) (r : Row) (cs : List CursorCall) → Represents K s r → All (CursorInWords K) cs → answers (cursor_step K) s cs ≡ answers (entry_step K) r (meant_all K s cs)
  unfolding answers meant_all All
  cursors_alike s r [] h k = refl
  cursors_alike s r (c ∷ cs) h k =
      let a : Simulates (Represents K) (cursor_step K s c) (entry_step K r (meant K s c)) = cursor_step_law K ok s h.sound.coherent r h c k.0 in
      ap₂ ◌∷◌ a.same (cursors_alike (cursor_step K s c).after (entry_step K r (meant K s c)).after cs a.kept k.1)

  along_cursors : (fan : ℕ) (s : State) (r : Row) (cs : List CursorCall) → Represents K s r → s.head.fan ≡ fan → All (CursorInWords K) cs → AlongCursors K fan s r cs
  unfolding AlongCursors All
  along_cursors fan s r [] h f k = invariant_of K ok fan s r h f
  along_cursors fan s r (c ∷ cs) h f k =
      let a : Simulates (Represents K) (cursor_step K s c) (entry_step K r (meant K s c)) = cursor_step_law K ok s h.sound.coherent r h c k.0 in
      (invariant_of K ok fan s r h f, a.same, never_nine K ok s h.sound.coherent r h c k.0, along_cursors fan (cursor_step K s c).after (entry_step K r (meant K s c)).after cs a.kept ((cursor_fixed K s c).fan ∙ f) k.1)

-- the whole list, from a make that isn't refused
pub demand3_by_cursor : (K : Kind) → K.effect < K.views → (fan limit : ℕ) (l ls xs hs : List ℕ) → Words K l → (make K fan limit l ls xs hs).answer ≡ Ok tt → Demand3ByCursor K fan limit l ls xs hs
demand3_by_cursor K ok fan limit l ls xs hs small given =
    let s = (make K fan limit l ls xs hs).after in
    let r = row.made_row limit l in
    let h = made K ok fan limit l ls xs hs small given in
    record { answered = λ cs k. cursors_alike K ok s r cs h k; each = λ cs k. along_cursors K ok fan s r cs h (fan_made K ok fan limit l ls xs hs small given) k }
