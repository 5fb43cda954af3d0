-- What a line is written by: one byte of a column, and some numbers with a blank behind each. Assumes nothing.
use Rattle.std.specs.Prelude.{ℕ, ◌+◌, ◌%◌, cond, not, ◌&&◌, List, [], ◌∷◌, ◌++◌, ◌==◌}
use Rattle.model.specs.Sheet.{column}

-- the byte in column w, where m is left of the number: a blank where nothing is, but in the last column
unfoldable pub glyph : ℕ → ℕ → ℕ
glyph m w = cond (m == 0 && not (w == 9)) 32 (48 + m % 10)

unfoldable pub fields : List ℕ → List ℕ
fields [] = []
fields (n ∷ ns) = column n ++ 32 ∷ fields ns
