-- An argument as an edit's number: one to ten decimal digits that say a number below 2 ^ 32. Assumes nothing.
use Rattle.std.specs.Prelude.{Bool, true, cond, ◌&&◌, List, [], ◌∷◌, ℕ, length, ltb, leb, Option, Some, None}
use Rattle.list_stream.specs.Lines.{said_by}

-- digits alone: 48 to 57
unfoldable pub digits : List ℕ → Bool
digits [] = true
digits (b ∷ bs) = leb 48 b && leb b 57 && digits bs

-- a number, where it is below 2 ^ 32
unfoldable pub word : ℕ → Option ℕ
word n = cond (ltb n 4294967296) (Some n) None

unfoldable pub asked : List ℕ → Option ℕ
asked text = cond (leb 1 (length text) && leb (length text) 10 && digits text) (word (said_by 0 text)) None
