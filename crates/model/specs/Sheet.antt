-- The sheet on paper (change request 2): the entries of a row in order, a line each, on pages of 50 lines. Bytes are ASCII: 32 is a blank, 10 a line
-- feed. Assumes nothing.
use Rattle.std.specs.Prelude.{List, [], ◌∷◌, ◌++◌, ℕ, zero, suc, ◌+◌, ◌-◌, ◌*◌, ◌/◌, length, replicate}
use Rattle.model.specs.Kind.{prepare}
use Rattle.model.specs.Numeral.{decimal}
use Rattle.model.specs.Row.{Entry, length_in}
use Rattle.model.specs.declared.shape.Kind.{Kind}

-- a number right-justified in 10 columns
unfoldable pub column : ℕ → List ℕ
column n = replicate (10 - length (decimal n)) 32 ++ decimal n

-- five numbers, one blank between, then a line feed
unfoldable pub line : ℕ → ℕ → ℕ → ℕ → ℕ → List ℕ
line a b c d e = column a ++ 32 ∷ column b ++ 32 ∷ column c ++ 32 ∷ column d ++ 32 ∷ column e ++ 10 ∷ []

-- a line for each entry: id, prepare position, effect position, prepare length, effect length; p and q are the positions of the first
unfoldable pub lines : Kind → ℕ → ℕ → List Entry → List ℕ
lines K p q [] = []
lines K p q (e ∷ es) = line e.id p q (length_in prepare e) (length_in K.effect e) ++ lines K (p + length_in prepare e) (q + length_in K.effect e) es

-- n lines of 54 blanks and a line feed
unfoldable pub blank_lines : ℕ → List ℕ
blank_lines zero = []
blank_lines (suc n) = replicate 54 32 ++ 10 ∷ blank_lines n

-- the pages that n lines take
abbrev pub pages_for : ℕ → ℕ
pages_for n = (n + 49) / 50

-- the blank lines that fill up the last of them
abbrev pub fill : ℕ → List ℕ
fill n = blank_lines (50 * pages_for n - n)

unfoldable pub sheet : Kind → List Entry → List ℕ
sheet K es = lines K 0 0 es ++ fill (length es)
