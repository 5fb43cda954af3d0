-- The seats of a tree in seventeen words: 0 for a tree without, the shares of seats 0 to 7, and what is charged to each. Assumes nothing.
use Rattle.std.specs.Prelude.{ℕ, cond, not, List, ◌∷◌, ◌++◌, ◌==◌, slice_index}
use Rattle.model.specs.Lists.{part}
use Rattle.model.specs.Seats.{seats_of}
use Rattle.model.specs.declared.seats.Seats.{Seats}

unfoldable pub seats_from : List ℕ → Seats
seats_from w = seats_of (not (slice_index w 0 == 0)) (part 1 8 w) (part 9 8 w)

abbrev pub seats_words : Seats → List ℕ
seats_words b = cond b.seated 1 0 ∷ (b.shares ++ b.charges)
