-- The exported calls of the reading copy, on the words that a host lends: the tree's step between the conversions. A head that isn't thirty-six words, or
-- whose flag for a finger is neither 0 nor 1, and a split's flag that isn't, are refused by 10 before anything else, with head and areas as given.
-- The head's last seventeen words, the seats' in a full tree, are zeros after a make, and no other call looks at them or writes them. Assumes nothing.
use Rattle.std.specs.Prelude.{Bool, ◌||◌, [], ◌∷◌, ℕ, ltb, eqb}
use Rattle.model.specs.Kind.{reading}
use Rattle.model.specs.Row as row
use Rattle.model.specs.Row.{Call, Answer}
use Rattle.model.specs.ById.{tree_step}
use Rattle.smelvock_marshal.specs.Flat.{bad_head, head_after, value, number_of, inserted_of}
use Rattle.smelvock_marshal.specs.Lent.{Given, state_of, Left, number_alone, unless_bad, left_by, unseated_make}
use Rattle.smelvock_marshal.specs.declared.flat.FlatNumber.{FlatNumber}
use Rattle.smelvock_marshal.specs.declared.flat.FlatInserted.{FlatInserted}
use Rattle.smelvock_reading.specs.declared.flat.FlatLooked.{FlatLooked}

-- what a lookup answers, its fourth value left out: the position again, in the view of that one length
abbrev pub looked_of : Answer → FlatLooked
looked_of a = record { number = a.number; id = value 0 a; offset = value 1 a; position = value 2 a }

-- the calls that change -------------------------------------------------------------------------------------------------------------------

-- a refused make leaves a head of zeros
unfoldable pub make : ℕ → ℕ → ℕ → Given → Left ℕ
make fan limit l g = unseated_make reading fan limit (l ∷ []) g

-- any other, which is refused by 10 where `bad`
abbrev pub step : {R : Type 0} → (Answer → R) → Bool → Given → Call → Left R
step flat bad g c = left_by flat head_after bad g (tree_step reading (state_of g) c)

unfoldable pub reset : Given → ℕ → Left ℕ
reset g l = step number_alone (bad_head g.head) g (row.reset (l ∷ []))

-- the new id and its position; at the end where the id is 4,294,967,295
unfoldable pub insert : Given → ℕ → ℕ → Left FlatInserted
insert g i l = step inserted_of (bad_head g.head) g (row.insert i (l ∷ []))

-- the new id; just before the entry where before is 1, just after it where it is 0
unfoldable pub split : Given → ℕ → ℕ → ℕ → Left FlatNumber
split g i l before = step number_of (bad_head g.head || ltb 1 before) g (row.split (eqb before 1) i (l ∷ []))

unfoldable pub set : Given → ℕ → ℕ → Left ℕ
set g i l = step number_alone (bad_head g.head) g (row.set_lengths i (l ∷ []))

-- the lookup keeps the finger found
unfoldable pub lookup : Given → ℕ → Left FlatLooked
lookup g index = step looked_of (bad_head g.head) g (row.lookup 0 index)

-- the calls that read ---------------------------------------------------------------------------------------------------------------------

-- what a call answers that leaves head and areas
abbrev pub read : Given → Call → Answer
read g c = unless_bad (bad_head g.head) (tree_step reading (state_of g) c).answer

unfoldable pub rank : Given → ℕ → FlatNumber
rank g i = number_of (read g (row.rank 0 i))

-- the id after it, 4,294,967,295 after the last
unfoldable pub next : Given → ℕ → FlatNumber
next g i = number_of (read g (row.next i))

-- 0, 1, 2: before, the same, after
unfoldable pub compare : Given → ℕ → ℕ → FlatNumber
compare g i j = number_of (read g (row.compare i j))
