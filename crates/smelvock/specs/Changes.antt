-- The exported calls that write the lent head, on the words that a host lends: model's call between the conversions.
-- A head that isn't thirty-six words, a flag that is neither 0 nor 1 (in the calls that know seats theirs too), shares that are neither none
-- nor eight and a view above 2 are refused by 10 before anything else, with head and areas as given. Assumes nothing.
use Rattle.std.specs.Prelude.{Bool, cond, not, ◌||◌, List, ◌++◌, ℕ, length, ltb, eqb}
use Rattle.model.specs.Length.{list_of, view_number}
use Rattle.model.specs.Kind.{base}
use Rattle.model.specs.Row.{Answer, refused}
use Rattle.model.specs.Answer.{outcome_answer, number_answer, inserted_answer, divided_answer}
use Rattle.model.specs.Examined as count
use Rattle.model.specs.Examined.{located_answer}
use Rattle.model.specs.Calls as calls
use Rattle.model.specs.Calls.{Reply}
use Rattle.model.specs.SeatedCalls.{SeatedReply, reset_seated, insert_seated, split_seated}
use Rattle.model.specs.Repair as mended
use Rattle.model.specs.declared.seats.Seats.{Seats}
use Rattle.model.specs.declared.head.Cursor.{Cursor}
use Rattle.model.specs.declared.head.Head.{Head}
use Rattle.model.specs.declared.length.Lengths.{Lengths}
use Rattle.smelvock_marshal.specs.Flat.{view_from, target_from, seat_from, bad_shares, bad_head, bad_seats, bad_stored, head_words, head_after, number_of, located_of, inserted_of, divided_of}
use Rattle.smelvock_marshal.specs.Lent.{Given, state_of, Left, left, number_alone}
use Rattle.tree_seats.specs.Words.{seats_words}
use Rattle.calls_make.specs.Made.{make_with}
use Rattle.smelvock.specs.Reads.{seats_of}
use Rattle.smelvock_marshal.specs.declared.flat.FlatNumber.{FlatNumber}
use Rattle.smelvock_marshal.specs.declared.flat.FlatLocated.{FlatLocated}
use Rattle.smelvock_marshal.specs.declared.flat.FlatInserted.{FlatInserted}
use Rattle.smelvock_marshal.specs.declared.flat.FlatDivided.{FlatDivided}

-- refused by 10 where something is bad, else the call's reply in words, with the head's words by its number
unfoldable pub left_by : {A : Type 0} {R : Type 0} → (Answer → R) → (A → Answer) → (ℕ → Head → List ℕ → List ℕ) → Bool → Given → Reply A → Left R
left_by flat answer words bad g r =
    cond bad (left (flat (refused 10)) g.head g.leaves g.inners g.homes)
    (left (flat (answer r.answer)) (words (answer r.answer).number r.after.head g.head) r.after.leaves r.after.inners r.after.homes)

-- the calls that know seats -----------------------------------------------------------------------------------------------------------------

-- the lent words after such a call with this number: a refused one leaves them
unfoldable pub seated_after : ℕ → Head → Seats → List ℕ → List ℕ
seated_after number h b w = cond (eqb number 0) (head_words h ++ seats_words b) w

-- as `left_by`, with the seats
unfoldable pub left_seated : {A : Type 0} {R : Type 0} → (Answer → R) → (A → Answer) → (ℕ → Head → Seats → List ℕ → List ℕ) → Bool → Given → SeatedReply A → Left R
left_seated flat answer words bad g r =
    cond bad (left (flat (refused 10)) g.head g.leaves g.inners g.homes)
    (left (flat (answer r.answer)) (words (answer r.answer).number r.after.head r.seats g.head) r.after.leaves r.after.inners r.after.homes)

-- a refused make leaves a head of zeros
unfoldable pub make : ℕ → ℕ → List ℕ → Lengths → Given → Left ℕ
make fan limit shares l g =
    left_seated number_alone outcome_answer (λ n h b w. head_words h ++ seats_words b) (not (eqb (length g.head) 36) || bad_shares shares) g
    (make_with base fan limit shares (list_of l) g.leaves g.inners g.homes)

unfoldable pub reset : Given → Lengths → Left ℕ
reset g l = left_seated number_alone outcome_answer seated_after (bad_seats g.head) g (reset_seated base (state_of g) (seats_of g) (list_of l))

unfoldable pub insert : Given → ℕ → ℕ → Cursor → Lengths → Left FlatInserted
insert g seat end c l =
    left_seated inserted_of inserted_answer seated_after (bad_seats g.head || ltb 1 end) g (insert_seated base (state_of g) (seats_of g) (seat_from seat) (target_from end c) (list_of l))

unfoldable pub split_entry : Given → ℕ → Cursor → Lengths → ℕ → Left FlatDivided
split_entry g seat c l before =
    left_seated divided_of divided_answer seated_after (bad_seats g.head || ltb 1 before) g (split_seated base (state_of g) (seats_of g) (seat_from seat) c (list_of l) (eqb before 1))

-- the seats stay, and of the head the finger goes
unfoldable pub repair : Given → Left FlatNumber
repair g = left_by number_of number_answer head_after (bad_stored g.head) g (mended.repair base (state_of g) (seats_of g))

-- the others --------------------------------------------------------------------------------------------------------------------------------

unfoldable pub locate : Given → ℕ → ℕ → Left FlatLocated
locate g v index = left_by located_of located_answer head_after (bad_head g.head || ltb 2 v) g (count.locate base (state_of g) (view_number (view_from v)) index)

-- `update` where summed is 1; where it is 0, `set_lengths`, whose value is 0
unfoldable pub resize : Given → Cursor → Lengths → ℕ → Left FlatNumber
resize g c l summed =
    let bad = bad_head g.head || ltb 1 summed in
    cond (eqb summed 1) (left_by number_of number_answer head_after bad g (calls.update base (state_of g) c (list_of l)))
    (left_by number_of outcome_answer head_after bad g (calls.set_lengths base (state_of g) c (list_of l)))
