-- The planning tree (change request 11): entries with a lowest and a highest length. Its calls, all by id, on the plain row and on a tree, and
-- what is promised of every list of them. The theorem is model_theory's. Assumes nothing.
use Rattle.std.specs.Prelude.{◌≡◌, Bool, cond, List, [], ◌∷◌, ℕ, ◌-◌, ◌≤◌, ◌<◌, length, take, ltb}
use Rattle.model.specs.Kind.{planning}
use Rattle.model.specs.Lists.{All}
use Rattle.model.specs.Node.{wrap}
use Rattle.model.specs.State.{State}
use Rattle.model.specs.Row as row
use Rattle.model.specs.Row.{Row, Entry, Call, Answer, done, refused, Moved, moved, before, total, made_row, row_step}
use Rattle.model.specs.Choice.{low, high, behind, CouldHold, FirstToHold, LastToHold, Earliest, Latest}
use Rattle.model.specs.Refuse.{total_of}
use Rattle.model.specs.Calls as calls
use Rattle.model.specs.ById.{tree_step}
use Rattle.model.specs.Promise.{Words, IsWord, Leaves, Invariant, answers}

-- beside make: those that a full tree's list has too; an entry's earliest and latest position; the first and the last entry that could hold a position
pub data PlanCall : Type 0 where
  reset : List ℕ → PlanCall
  insert : ℕ → List ℕ → PlanCall
  split : Bool → ℕ → List ℕ → PlanCall
  set_lengths : ℕ → List ℕ → PlanCall
  lengths : ℕ → PlanCall
  count : PlanCall
  next : ℕ → PlanCall
  earliest : ℕ → PlanCall
  latest : ℕ → PlanCall
  first_at : ℕ → PlanCall
  last_at : ℕ → PlanCall

-- the call that each comes to, where the views have these totals. The first entry that could hold p holds it in the highest lengths. The last holds it
-- in the lowest, and past their total it is the one that holds the last position in the highest.
abbrev pub asked : (ℕ → ℕ) → PlanCall → Call
asked sum (reset l) = row.reset l
asked sum (insert i l) = row.insert i l
asked sum (split flag i l) = row.split flag i l
asked sum (set_lengths i l) = row.set_lengths i l
asked sum (lengths i) = row.lengths i
asked sum count = row.count
asked sum (next i) = row.next i
asked sum (earliest i) = row.rank 0 i
asked sum (latest i) = row.rank 1 i
asked sum (first_at p) = row.lookup 1 p
asked sum (last_at p) = cond (ltb p (sum 0)) (row.lookup 0 p) (row.lookup 1 (cond (ltb p (sum 1)) (wrap (sum 1 - 1)) p))

-- the id alone
abbrev pub id_only : Answer → Answer
id_only a = record { number = a.number; values = take 1 a.values }

abbrev pub said : PlanCall → Answer → Answer
said (first_at p) a = id_only a
said (last_at p) a = id_only a
said (reset l) a = a
said (insert i l) a = a
said (split flag i l) a = a
said (set_lengths i l) a = a
said (lengths i) a = a
said count a = a
said (next i) a = a
said (earliest i) a = a
said (latest i) a = a

-- on the row, and on a tree, whose totals the root's slots have
unfoldable pub row_plan : Row → PlanCall → Moved Row
row_plan r c = let m = row_step planning r (asked (λ v. total v r.entries) c) in moved m.after (said c m.answer)

unfoldable pub tree_plan : State → PlanCall → Moved State
tree_plan s c = let m = tree_step planning s (asked (total_of planning s) c) in moved m.after (said c m.answer)

-- what is promised --------------------------------------------------------------------------------------------------------------------------

-- a call whose numbers are words
abbrev pub InPlan : PlanCall → Type 0
InPlan (reset l) = Words planning l
InPlan (insert i l) = IsWord i × Words planning l
InPlan (split flag i l) = IsWord i × Words planning l
InPlan (set_lengths i l) = IsWord i × Words planning l
InPlan (lengths i) = IsWord i
InPlan count = Unit {0}
InPlan (next i) = IsWord i
InPlan (earliest i) = IsWord i
InPlan (latest i) = IsWord i
InPlan (first_at p) = IsWord p
InPlan (last_at p) = IsWord p

-- no lowest above a highest
abbrev pub Ordered : List Entry → Type 0
Ordered es = All (λ e. low e ≤ high e) es

-- what a row's answers say of every choice of lengths for its entries
pub record ByChoice (r : Row) : Type 0 where
  pub ordered : Ordered r.entries
  -- the least and the greatest position of an entry
  pub earliest : (i : ℕ) → i < length r.entries → (p : ℕ) × ((row_plan r (earliest i)).answer ≡ done (p ∷ [])) × Earliest r.entries (length (before i r.entries)) p
  pub latest : (i : ℕ) → i < length r.entries → (p : ℕ) × ((row_plan r (latest i)).answer ≡ done (p ∷ [])) × Latest r.entries (length (before i r.entries)) p
  -- the first and the last entry that could hold a position below the highest total
  pub first : (p : ℕ) → p < total 1 r.entries → (m : ℕ) × ((row_plan r (first_at p)).answer ≡ done ((behind m r.entries).id ∷ [])) × FirstToHold r.entries m p
  pub last : (p : ℕ) → p < total 1 r.entries → (m : ℕ) × ((row_plan r (last_at p)).answer ≡ done ((behind m r.entries).id ∷ [])) × LastToHold r.entries m p
  -- none could hold one at or past it, which is 5
  pub past : (p : ℕ) → total 1 r.entries ≤ p → ((row_plan r (first_at p)).answer ≡ refused 5) × ((row_plan r (last_at p)).answer ≡ refused 5) × ((m : ℕ) → CouldHold r.entries m p → ⊥)
  -- insert answers the latest position of the new entry
  pub inserted : (i : ℕ) (l : List ℕ) → (row_plan r (insert i l)).answer.number ≡ 0
      → (p : ℕ) × ((row_plan r (insert i l)).answer ≡ done (length r.entries ∷ p ∷ [])) × Latest (row_plan r (insert i l)).after.entries (length (before i r.entries)) p

-- each call of a list gets the row's answer, never 9, and the state before it and after the last one is kept
unfoldable pub AlongPlan : ℕ → State → Row → List PlanCall → Type 0
AlongPlan fan s r [] = Invariant planning fan s r × ByChoice r
AlongPlan fan s r (c ∷ cs) =
    Invariant planning fan s r × ByChoice r × ((tree_plan s c).answer ≡ (row_plan r c).answer) × ((tree_plan s c).answer.number ≡ 9 → ⊥)
    × AlongPlan fan (tree_plan s c).after (row_plan r c).after cs

-- the list theorem of the planning tree, of what a make leaves, whatever the areas held before
pub record PlanDemand (fan limit : ℕ) (l ls xs hs : List ℕ) : Type 0 where
  -- the answers to every list of calls are the row's
  pub answered : (cs : List PlanCall) → All InPlan cs → answers tree_plan (calls.make planning fan limit l ls xs hs).after cs ≡ answers row_plan (made_row limit l) cs
  -- and after each call the state is sound, its entries the row's, and its answers those of the choice
  pub each : (cs : List PlanCall) → All InPlan cs → AlongPlan fan (calls.make planning fan limit l ls xs hs).after (made_row limit l) cs

-- and on any words, sound or not, a refused call leaves the tree, 9 the head
pub record PlanRefusals (s : State) : Type 0 where
  pub step : (c : PlanCall) → InPlan c → Leaves (tree_plan s c).answer.number s (tree_plan s c).after
