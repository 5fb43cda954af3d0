-- Cursors across a reset (document 02, CR 8): how many entries a list of calls makes, and what is promised of the stamp that counts them.
-- The theorems are model_theory's. Assumes nothing.
use Rattle.std.specs.Prelude.{◌≡◌, cond, false, List, [], ◌∷◌, ◌++◌, ℕ, ◌+◌, ◌%◌, ◌^◌, ◌<◌, eqb, replicate}
use Rattle.model.specs.Kind.{too_many_lines, crossed}
use Rattle.model.specs.Lists.{All, refusal}
use Rattle.model.specs.declared.shape.Kind.{Kind}
use Rattle.model.specs.State.{State, state, head_of}
use Rattle.model.specs.Row.{Row, Call, Answer}
use Rattle.model.specs.Answer.{outcome_answer, inserted_answer, divided_answer}
use Rattle.model.specs.Refuse.{stale}
use Rattle.model.specs.Calls as calls
use Rattle.model.specs.Calls.{cursor_at}
use Rattle.model.specs.Sound.{Sound}
use Rattle.model.specs.Audit.{audit}
use Rattle.model.specs.ById.{tree_step}
use Rattle.model.specs.ByCursor as by
use Rattle.model.specs.ByCursor.{CursorCall, cursor_step}
use Rattle.model.specs.Promise.{Words, CursorInWords, answers, finally, Represents}
use Rattle.model.specs.declared.head.Cursor.{Cursor}

-- 1 for a call that isn't refused
abbrev pub one : Answer → ℕ
one a = cond (eqb a.number 0) 1 0

-- the entries that a call makes: a reset its first one, an insert or a split its new one, where it isn't refused
unfoldable pub makes : Kind → State → CursorCall → ℕ
makes K s (by.reset l) = one (outcome_answer (calls.reset K s l).answer)
makes K s (by.insert t l) = one (inserted_answer (calls.insert K s t l).answer)
makes K s (by.split flag c l) = one (divided_answer (calls.split_entry K s c l flag).answer)
makes K s (by.set_lengths c l) = 0
makes K s (by.update c l) = 0
makes K s (by.locate v x) = 0
makes K s (by.select v x) = 0
makes K s (by.rank v c) = 0
makes K s (by.next c) = 0
makes K s (by.compare a b) = 0
makes K s (by.lengths c) = 0
makes K s (by.id c) = 0
makes K s (by.cursor i) = 0
makes K s by.first = 0
makes K s by.len = 0
makes K s by.is_empty = 0

unfoldable pub makes_all : Kind → State → List CursorCall → ℕ
makes_all K s [] = 0
makes_all K s (c ∷ cs) = makes K s c + makes_all K (cursor_step K s c).after cs

-- cursors ------------------------------------------------------------------------------------------------------------------------------------

-- of any tree, sound or not, whose stamp is a u64
pub record Counts (K : Kind) (s : State) : Type 0 where
  -- the stamp goes on by the entries made, and goes round
  pub stamp : (cs : List CursorCall) → (finally (cursor_step K) s cs).head.stamp ≡ (s.head.stamp + makes_all K s cs) % 2 ^ 64
  -- a cursor with the stamp of s, as each that is current there, is refused by 3 once 1 to 2 ^ 64 - 1 entries were made
  pub shut : (c : Cursor) → c.stamp ≡ s.head.stamp → (cs : List CursorCall) → 0 < makes_all K s cs → makes_all K s cs < 2 ^ 64
      → refusal (stale K (finally (cursor_step K) s cs) c) ≡ 3

-- after 2 ^ 64 resets with the lengths l, which make an entry each, the stamp is that of s, and a cursor with it, of the one leaf and slot in use, passes
pub record GoesRound (K : Kind) (s : State) (l : List ℕ) : Type 0 where
  pub made : makes_all K s (replicate (2 ^ 64) (by.reset l)) ≡ 2 ^ 64
  pub stamp : (finally (cursor_step K) s (replicate (2 ^ 64) (by.reset l))).head.stamp ≡ s.head.stamp
  pub passes : refusal (stale K (finally (cursor_step K) s (replicate (2 ^ 64) (by.reset l))) (cursor_at s.head.stamp 0 0)) ≡ 0

-- of a tree that stands for a row, whose stamp is a u64
pub record AcrossReset (K : Kind) (s : State) : Type 0 where
  -- no cursor with the stamp of s passes after a list with a reset in it that makes less than 2 ^ 64 entries; one with too many line ends or crossed bounds is refused
  pub shut : (c : Cursor) → c.stamp ≡ s.head.stamp → (xs ys : List CursorCall) (l : List ℕ) → All (CursorInWords K) xs → too_many_lines K l ≡ false → crossed K l ≡ false
      → makes_all K s (xs ++ by.reset l ∷ ys) < 2 ^ 64 → refusal (stale K (finally (cursor_step K) s (xs ++ by.reset l ∷ ys)) c) ≡ 3
  -- and with 2 ^ 64 entries one does, so that the bound is exact
  pub round : (l : List ℕ) → Words K l → too_many_lines K l ≡ false → crossed K l ≡ false → GoesRound K s l

-- of the tree that a make leaves: 1 at make, and the above after every list of calls, so wherever a cursor is issued
pub record Stamped (K : Kind) (fan limit : ℕ) (l ls xs hs : List ℕ) : Type 0 where
  pub first : (calls.make K fan limit l ls xs hs).after.head.stamp ≡ 1
  pub counts : (cs : List CursorCall) → Counts K (finally (cursor_step K) (calls.make K fan limit l ls xs hs).after cs)
  pub across : (cs : List CursorCall) → All (CursorInWords K) cs → AcrossReset K (finally (cursor_step K) (calls.make K fan limit l ls xs hs).after cs)

-- ids ----------------------------------------------------------------------------------------------------------------------------------------

-- the tree with another stamp
abbrev pub restamped : ℕ → State → State
restamped m s =
    let h = s.head in
    state (head_of h.fan h.limit h.root.0 h.levels h.leaves h.inners h.entries m h.finger) s.leaves s.inners s.homes

-- any stamp is sound, and audit doesn't read it
pub record AnyStamp (K : Kind) (m : ℕ) (s : State) : Type 0 where
  pub sound : Sound K s → Sound K (restamped m s)
  pub stands : (r : Row) → Represents K s r → Represents K (restamped m s) r
  pub audited : audit K (restamped m s) ≡ audit K s

-- on any tree, sound or not, a list by ids gets the same answers with another stamp, and leaves a tree that differs in the stamp alone
pub record SameById (K : Kind) (m : ℕ) (s : State) (cs : List Call) : Type 0 where
  pub answered : answers (tree_step K) (restamped m s) cs ≡ answers (tree_step K) s cs
  pub stamp : ℕ
  pub left : finally (tree_step K) (restamped m s) cs ≡ restamped stamp (finally (tree_step K) s cs)
