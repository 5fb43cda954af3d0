-- The sheet of document 01's row after its first six records (ids 2, 0, 1), byte by byte, whatever their line ends, and numbers of one and of ten digits in their columns.
-- Assumes nothing.
use Rattle.std.specs.Prelude.{◌≡◌, refl, List, [], ◌∷◌, ◌++◌, ℕ, ◌+◌, replicate}
use Rattle.model.specs.Kind.{base}
use Rattle.model.specs.Numeral.{numeral, decimal}
use Rattle.model.specs.Row.{Entry, entry}
use Rattle.model.specs.Sheet.{column, line, lines, blank_lines, pages_for, sheet}

abbrev pub entries : List Entry
entries = entry 2 (0 ∷ 5 ∷ 0 ∷ []) ∷ entry 0 (3 ∷ 3 ∷ 9 ∷ []) ∷ entry 1 (2 ∷ 0 ∷ 1 ∷ []) ∷ []

-- a digit in ten columns
abbrev pub ten : ℕ → List ℕ
ten d = replicate 9 32 ++ (48 + d) ∷ []

abbrev pub digits : ℕ → ℕ → ℕ → ℕ → ℕ → List ℕ
digits a b c d e = ten a ++ 32 ∷ ten b ++ 32 ∷ ten c ++ 32 ∷ ten d ++ 32 ∷ ten e ++ 10 ∷ []

-- one page: three lines, and 47 blank ones
pub paged : sheet base entries ≡ digits 2 0 0 0 5 ++ digits 0 0 5 3 3 ++ digits 1 3 8 2 0 ++ blank_lines 47
unfolding sheet lines line column decimal numeral
paged = refl

-- 50 lines a page
pub counted : (pages_for 1 ≡ 1) × (pages_for 50 ≡ 1) × (pages_for 51 ≡ 2) × (pages_for 100 ≡ 2) × (pages_for 512 ≡ 11)
counted = (refl, refl, refl, refl, refl)

pub one_blank_line : blank_lines 1 ≡ replicate 54 32 ++ 10 ∷ []
unfolding blank_lines
one_blank_line = refl

pub widest : column 4294967295 ≡ 52 ∷ 50 ∷ 57 ∷ 52 ∷ 57 ∷ 54 ∷ 55 ∷ 50 ∷ 57 ∷ 53 ∷ []
unfolding column decimal numeral
widest = refl
