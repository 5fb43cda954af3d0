-- What the code of a difference does: the walk that marks what an edit rests on, and the writing of the list. A tool of its proofs, which the calls'
-- definitions don't name. Assumes nothing.
use Rattle.std.specs.Prelude.{Bool, cond, ◌&&◌, not, List, ℕ, zero, suc, ◌+◌, length, get_or, set, eqb}
use Rattle.model.specs.Lists.{range, put_at}
use Rattle.calls_edits.specs.Edits.{left, right, picked}

-- the parents of edit k marked, if k is: a parent that is none is past the marks, and `set` leaves them
unfoldable pub stepped : List ℕ → ℕ → List ℕ → List ℕ
stepped file k marks = cond (eqb (get_or marks k 0) 1) (set (set marks (left file k) 1) (right file k) 1) marks

-- so for each edit below k, the last first
unfoldable pub walked : List ℕ → ℕ → List ℕ → List ℕ
walked file zero marks = marks
walked file (suc k) marks = walked file k (stepped file k marks)

-- whether edit k is marked in one and not in two
unfoldable pub listed : List ℕ → List ℕ → ℕ → Bool
listed one two k = eqb (get_or one k 0) 1 && not (eqb (get_or two k 0) 1)

-- k put at place `count` of the area, if it is listed, and the count then
unfoldable pub placed : Bool → ℕ → ℕ → List ℕ → ℕ × List ℕ
placed b k count area = cond b (count + 1, set area count k) (count, area)

-- the m numbers from k on of which q holds, written to the area behind `count` others, and the count then
unfoldable pub written_from : (ℕ → Bool) → ℕ → ℕ → ℕ → List ℕ → ℕ × List ℕ
written_from q k m count area = (count + length (picked q (range k m)), put_at count (picked q (range k m)) area)

abbrev pub written : (ℕ → Bool) → ℕ → List ℕ → ℕ × List ℕ
written q n area = written_from q 0 n 0 area
