-- The list theorem at one length, at two and at three: its premises are met, and the answers are computed on the row, where a view more or less
-- would show. At three the last view counts line ends; a kind of fewer has none, so that no length is too large for it.
use Rattle.std.specs.Prelude.{◌≡◌, refl, true, false, ℕ, ◌<◌, replicate, Ok}
use mathlib.Core.List.{List, [], ◌∷◌, zip_with}
use Rattle.std.proofs.Common.{arith}
use Rattle.model.specs.Kind.{kind, base}
use Rattle.model.specs.Lists.{All, sum_by, some, range, refusal}
use Rattle.model.specs.Row as row
use Rattle.model.specs.Row.{Call, done, refused, no_entry, made_row, row_step}
use Rattle.model.specs.Calls.{make}
use Rattle.model.specs.ById.{tree_step}
use Rattle.model.specs.declared.shape.Kind.{Kind}
use Rattle.model.specs.Promise.{Words, InWords, answers}
use Rattle.model_theory.specs.TopById.{whole}

-- positions are answered in the second of two or three views, and in the only one
abbrev three : Kind
three = base

abbrev both : Kind
both = kind 2 1

abbrev one : Kind
one = kind 1 0

-- fan 4 and limit 5: two nodes of 3 + 4 × 4 words, of 3 + 4 × 3, and of 3 + 4 × 2
three_made : (make three 4 5 (3 ∷ 3 ∷ 1 ∷ []) (replicate 38 7) (replicate 38 7) (replicate 5 7)).answer ≡ Ok tt
unfolding make refusal
three_made = refl

both_made : (make both 4 5 (3 ∷ 70000 ∷ []) (replicate 30 7) (replicate 30 7) (replicate 5 7)).answer ≡ Ok tt
unfolding make refusal
both_made = refl

one_made : (make one 4 5 (3 ∷ []) (replicate 22 7) (replicate 22 7) (replicate 5 7)).answer ≡ Ok tt
unfolding make refusal
one_made = refl

in_three : (p e n : ℕ) → p < 4294967296 → e < 4294967296 → n < 4294967296 → Words three (p ∷ e ∷ n ∷ [])
unfolding All
in_three p e n a b c = record { long = refl; small = (a, (b, (c, tt))) }

in_both : (p e : ℕ) → p < 4294967296 → e < 4294967296 → Words both (p ∷ e ∷ [])
unfolding All
in_both p e a b = record { long = refl; small = (a, (b, tt)) }

in_one : (e : ℕ) → e < 4294967296 → Words one (e ∷ [])
unfolding All
in_one e a = record { long = refl; small = (a, tt) }

-- four inserts split the leaf and fill the tree; then lookups and a rank in the last view, and what the last view alone refuses, by 5, 6 and 10, which
-- comes before 4; splits of which a part would be hollow, by 17, after 6 and before 8, and two by 8 that move or leave line ends alone
abbrev three_calls : List Call
three_calls = row.insert no_entry (2 ∷ 0 ∷ 0 ∷ []) ∷ row.insert 0 (0 ∷ 5 ∷ 3 ∷ []) ∷ row.insert 1 (1 ∷ 1 ∷ 2 ∷ []) ∷ row.insert no_entry (4 ∷ 4 ∷ 0 ∷ [])
    ∷ row.lookup 2 2 ∷ row.lookup 2 5 ∷ row.rank 2 1 ∷ row.lengths 2 ∷ row.lookup 2 6 ∷ row.split true 2 (0 ∷ 1 ∷ 4 ∷ [])
    ∷ row.split true 2 (0 ∷ 0 ∷ 0 ∷ []) ∷ row.split true 2 (0 ∷ 5 ∷ 3 ∷ []) ∷ row.split true 2 (0 ∷ 6 ∷ 3 ∷ []) ∷ row.split true 2 (0 ∷ 0 ∷ 1 ∷ []) ∷ row.split false 2 (0 ∷ 5 ∷ 0 ∷ [])
    ∷ row.set_lengths 9 (0 ∷ 0 ∷ 65536 ∷ [])
    ∷ row.set_lengths 2 (0 ∷ 0 ∷ 65535 ∷ []) ∷ row.rank 2 1 ∷ []

abbrev both_calls : List Call
both_calls = row.insert no_entry (2 ∷ 0 ∷ []) ∷ row.lookup 1 69999 ∷ row.rank 1 1 ∷ row.lengths 0 ∷ row.split true 0 (0 ∷ 70001 ∷ []) ∷ row.split true 0 (3 ∷ 70000 ∷ []) ∷ row.split true 0 (0 ∷ 70000 ∷ []) ∷ row.set_lengths 1 (0 ∷ 4294897296 ∷ []) ∷ []

abbrev one_calls : List Call
one_calls = row.insert no_entry (0 ∷ []) ∷ row.insert 0 (5 ∷ []) ∷ row.lookup 0 6 ∷ row.rank 0 1 ∷ row.split false 2 (2 ∷ []) ∷ row.split false 2 (4 ∷ []) ∷ row.split false 2 (3 ∷ []) ∷ row.split true 1 (0 ∷ []) ∷ row.update 0 (4294967291 ∷ []) ∷ []

in_three_calls : All (InWords three) three_calls
unfolding All
in_three_calls = (
  (omega arith, in_three 2 0 0 (omega arith) (omega arith) (omega arith)),
  ((omega arith, in_three 0 5 3 (omega arith) (omega arith) (omega arith)), ((omega arith, in_three 1 1 2 (omega arith) (omega arith) (omega arith)), ((omega arith, in_three 4 4 0 (omega arith) (omega arith) (omega arith)), ((omega arith, omega arith), ((omega arith, omega arith), ((omega arith, omega arith), (omega arith, ((omega arith, omega arith), ((omega arith, in_three 0 1 4 (omega arith) (omega arith) (omega arith)), ((omega arith, in_three 0 0 0 (omega arith) (omega arith) (omega arith)), ((omega arith, in_three 0 5 3 (omega arith) (omega arith) (omega arith)), ((omega arith, in_three 0 6 3 (omega arith) (omega arith) (omega arith)), ((omega arith, in_three 0 0 1 (omega arith) (omega arith) (omega arith)), ((omega arith, in_three 0 5 0 (omega arith) (omega arith) (omega arith)), ((omega arith, in_three 0 0 65536 (omega arith) (omega arith) (omega arith)), ((omega arith, in_three 0 0 65535 (omega arith) (omega arith) (omega arith)), ((omega arith, omega arith), tt))))))))))))))))),
)

in_both_calls : All (InWords both) both_calls
unfolding All
in_both_calls = ((omega arith, in_both 2 0 (omega arith) (omega arith)), ((omega arith, omega arith), ((omega arith, omega arith), (omega arith, ((omega arith, in_both 0 70001 (omega arith) (omega arith)), ((omega arith, in_both 3 70000 (omega arith) (omega arith)), ((omega arith, in_both 0 70000 (omega arith) (omega arith)), ((omega arith, in_both 0 4294897296 (omega arith) (omega arith)), tt))))))))

in_one_calls : All (InWords one) one_calls
unfolding All
in_one_calls = ((omega arith, in_one 0 (omega arith)), ((omega arith, in_one 5 (omega arith)), ((omega arith, omega arith), ((omega arith, omega arith), ((omega arith, in_one 2 (omega arith)), ((omega arith, in_one 4 (omega arith)), ((omega arith, in_one 3 (omega arith)), ((omega arith, in_one 0 (omega arith)), ((omega arith, in_one 4294967291 (omega arith)), tt)))))))))

pub three_answered : answers (tree_step three) (make three 4 5 (3 ∷ 3 ∷ 1 ∷ []) (replicate 38 7) (replicate 38 7) (replicate 5 7)).after three_calls ≡ answers (row_step three) (made_row 5 (3 ∷ 3 ∷ 1 ∷ [])) three_calls
three_answered = (whole three (omega arith) 4 5 (3 ∷ 3 ∷ 1 ∷ []) (replicate 38 7) (replicate 38 7) (replicate 5 7) (in_three 3 3 1 (omega arith) (omega arith) (omega arith)) three_made three_calls in_three_calls).0

pub both_answered : answers (tree_step both) (make both 4 5 (3 ∷ 70000 ∷ []) (replicate 30 7) (replicate 30 7) (replicate 5 7)).after both_calls ≡ answers (row_step both) (made_row 5 (3 ∷ 70000 ∷ [])) both_calls
both_answered = (whole both (omega arith) 4 5 (3 ∷ 70000 ∷ []) (replicate 30 7) (replicate 30 7) (replicate 5 7) (in_both 3 70000 (omega arith) (omega arith)) both_made both_calls in_both_calls).0

pub one_answered : answers (tree_step one) (make one 4 5 (3 ∷ []) (replicate 22 7) (replicate 22 7) (replicate 5 7)).after one_calls ≡ answers (row_step one) (made_row 5 (3 ∷ [])) one_calls
one_answered = (whole one (omega arith) 4 5 (3 ∷ []) (replicate 22 7) (replicate 22 7) (replicate 5 7) (in_one 3 (omega arith)) one_made one_calls in_one_calls).0

-- position 2 of the last view stands in id 2, position 5 in id 3
pub three_are : answers (row_step three) (made_row 5 (3 ∷ 3 ∷ 1 ∷ [])) three_calls
    ≡ done (1 ∷ 3 ∷ []) ∷ done (2 ∷ 0 ∷ []) ∷ done (3 ∷ 8 ∷ []) ∷ done (4 ∷ 9 ∷ []) ∷ done (2 ∷ 2 ∷ 0 ∷ 0 ∷ []) ∷ done (3 ∷ 1 ∷ 8 ∷ 3 ∷ []) ∷ done (6 ∷ []) ∷ done (0 ∷ 5 ∷ 3 ∷ []) ∷ refused 5 ∷ refused 6 ∷ refused 17 ∷ refused 17 ∷ refused 6 ∷ refused 8 ∷ refused 8 ∷ refused 10 ∷ done [] ∷ done (65538 ∷ []) ∷ []
unfolding answers row.row_move row_step row.before row.from row.divided row.found row.ordered row.unless sum_by some range refusal zip_with
three_are = refl

pub both_are : answers (row_step both) (made_row 5 (3 ∷ 70000 ∷ [])) both_calls ≡ done (1 ∷ 70000 ∷ []) ∷ done (0 ∷ 69999 ∷ 0 ∷ 0 ∷ []) ∷ done (70000 ∷ []) ∷ done (3 ∷ 70000 ∷ []) ∷ refused 6 ∷ refused 17 ∷ done (2 ∷ []) ∷ refused 7 ∷ []
unfolding answers row.row_move row_step row.before row.from row.divided row.found row.ordered row.unless sum_by some range refusal zip_with
both_are = refl

pub one_are : answers (row_step one) (made_row 5 (3 ∷ [])) one_calls ≡ done (1 ∷ 3 ∷ []) ∷ done (2 ∷ 0 ∷ []) ∷ done (0 ∷ 1 ∷ 5 ∷ 5 ∷ []) ∷ done (8 ∷ []) ∷ done (3 ∷ []) ∷ refused 6 ∷ refused 17 ∷ refused 17 ∷ refused 7 ∷ []
unfolding answers row.row_move row_step row.before row.from row.divided row.found row.ordered row.unless sum_by some range refusal zip_with
one_are = refl
