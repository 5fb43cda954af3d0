-- The exported calls of the planning tree, on the words that a host lends: model's call between the conversions. A head that isn't thirty-six words, or
-- whose flag for a finger is neither 0 nor 1, and a split's flag that isn't, are refused by 10 before anything else, with head and areas as given.
-- The head's last seventeen words, the seats' in a full tree, are zeros after a make, and no other call looks at them or writes them. Assumes nothing.
use Rattle.std.specs.Prelude.{Bool, ◌||◌, [], ◌∷◌, ℕ, ltb, eqb}
use Rattle.model.specs.Kind.{planning}
use Rattle.model.specs.Row.{Answer}
use Rattle.model.specs.Answer.{verdict_answer}
use Rattle.model.specs.Audit as model
use Rattle.model.specs.Plan as plan
use Rattle.model.specs.Plan.{PlanCall, tree_plan}
use Rattle.smelvock_marshal.specs.Flat.{bad_head, head_after, value, number_of, inserted_of}
use Rattle.smelvock_marshal.specs.Lent.{Given, state_of, Left, number_alone, unless_bad, left_by, unseated_make}
use Rattle.smelvock_marshal.specs.declared.flat.FlatNumber.{FlatNumber}
use Rattle.smelvock_marshal.specs.declared.flat.FlatInserted.{FlatInserted}
use Rattle.smelvock_planning.specs.declared.flat.FlatBounds.{FlatBounds}

-- what lengths answers
abbrev pub ranged_of : Answer → FlatBounds
ranged_of a = record { number = a.number; lowest = value 0 a; highest = value 1 a }

-- the calls that change -------------------------------------------------------------------------------------------------------------------

-- a refused make leaves a head of zeros
unfoldable pub make : ℕ → ℕ → ℕ → ℕ → Given → Left ℕ
make fan limit lowest highest g = unseated_make planning fan limit (lowest ∷ highest ∷ []) g

-- any other, which is refused by 10 where `bad`
abbrev pub step : {R : Type 0} → (Answer → R) → Bool → Given → PlanCall → Left R
step flat bad g c = left_by flat head_after bad g (tree_plan (state_of g) c)

unfoldable pub reset : Given → ℕ → ℕ → Left ℕ
reset g lowest highest = step number_alone (bad_head g.head) g (plan.reset (lowest ∷ highest ∷ []))

-- the new id and its latest position; at the end where the id is 4,294,967,295
unfoldable pub insert : Given → ℕ → ℕ → ℕ → Left FlatInserted
insert g i lowest highest = step inserted_of (bad_head g.head) g (plan.insert i (lowest ∷ highest ∷ []))

-- the new id; just before the entry where before is 1, just after it where it is 0
unfoldable pub split : Given → ℕ → ℕ → ℕ → ℕ → Left FlatNumber
split g i lowest highest before = step number_of (bad_head g.head || ltb 1 before) g (plan.split (eqb before 1) i (lowest ∷ highest ∷ []))

unfoldable pub set : Given → ℕ → ℕ → ℕ → Left ℕ
set g i lowest highest = step number_alone (bad_head g.head) g (plan.set_lengths i (lowest ∷ highest ∷ []))

-- the lookups: an id; they keep the finger found
unfoldable pub first_at : Given → ℕ → Left FlatNumber
first_at g position = step number_of (bad_head g.head) g (plan.first_at position)

unfoldable pub last_at : Given → ℕ → Left FlatNumber
last_at g position = step number_of (bad_head g.head) g (plan.last_at position)

-- the calls that read ---------------------------------------------------------------------------------------------------------------------

-- what a call answers that leaves head and areas
abbrev pub read : Given → PlanCall → Answer
read g c = unless_bad (bad_head g.head) (tree_plan (state_of g) c).answer

unfoldable pub lengths : Given → ℕ → FlatBounds
lengths g i = ranged_of (read g (plan.lengths i))

unfoldable pub count : Given → FlatNumber
count g = number_of (read g plan.count)

-- the id after it, 4,294,967,295 after the last
unfoldable pub next : Given → ℕ → FlatNumber
next g i = number_of (read g (plan.next i))

unfoldable pub earliest : Given → ℕ → FlatNumber
earliest g i = number_of (read g (plan.earliest i))

unfoldable pub latest : Given → ℕ → FlatNumber
latest g i = number_of (read g (plan.latest i))

unfoldable pub audit : Given → FlatNumber
audit g = number_of (unless_bad (bad_head g.head) (verdict_answer (model.audit planning (state_of g))))
