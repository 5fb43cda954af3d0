-- The sheet's sizes: a column is 10 bytes, a line 55, a page 2,750. Assumes nothing.
use Rattle.std.specs.Prelude.{◌≡◌, refl, Bool, true, false, cond, List, [], ◌∷◌, ◌++◌, ℕ, zero, suc, ◌+◌, ◌-◌, ◌*◌, ◌/◌, ◌%◌, ◌≤◌, length, replicate, ltb}
use Rattle.std.proofs.Common.{arith, length-append}
use Rattle.std.proofs.lemmas.List.{length-replicate}
use Rattle.model.specs.declared.shape.Kind.{Kind}
use Rattle.model.specs.Numeral.{numeral, decimal}
use Rattle.model.specs.Row.{Entry, length_in}
use Rattle.model.specs.Node as node
use Rattle.model.specs.Node.{wrap}
use Rattle.model.specs.Sheet.{column, line, lines, blank_lines, pages_for, fill, sheet}
use Rattle.model.specs.Print.{slot_lines}

-- a number isn't longer than the digits it may have
pub numeral_short : (most n : ℕ) → length (numeral most n) ≤ most
unfolding numeral
numeral_short zero n = omega arith
numeral_short (suc most) n = go (ltb n 10) (numeral_short most (n / 10))
  where
    go : (b : Bool) → length (numeral most (n / 10)) ≤ most → length (cond b ((48 + n) ∷ []) (numeral most (n / 10) ++ ((48 + n % 10) ∷ []))) ≤ suc most
    go true h = omega arith
    go false h = omega (arith, length-append (numeral most (n / 10)) ((48 + n % 10) ∷ []), h)

pub decimal_short : (n : ℕ) → length (decimal n) ≤ 10
unfolding decimal
decimal_short n = numeral_short 10 n

pub length_column : (n : ℕ) → length (column n) ≡ 10
unfolding column
length_column n =
    omega (arith, length-append (replicate (10 - length (decimal n)) 32) (decimal n), length-replicate {A = ℕ} (10 - length (decimal n)) 32, decimal_short n)

pub length_line : (a b c d e : ℕ) → length (line a b c d e) ≡ 55
unfolding line
length_line a b c d e = simp (length-append, length_column)

pub length_lines : (K : Kind) (p q : ℕ) (es : List Entry) → length (lines K p q es) ≡ 55 * length es
unfolding lines
length_lines K p q [] = refl
length_lines K p q (e ∷ es) = simp (length-append, length_line) (omega (arith, length_lines K (p + length_in 0 e) (q + length_in K.effect e) es))

pub length_slot_lines : (K : Kind) (p q : ℕ) (xs : List (List ℕ)) → length (slot_lines K p q xs) ≡ 55 * length xs
unfolding slot_lines
length_slot_lines K p q [] = refl
length_slot_lines K p q (x ∷ xs) =
    simp (length-append, length_line) (omega (arith, length_slot_lines K (wrap (p + node.length_in 0 x)) (wrap (q + node.length_in K.effect x)) xs))

pub length_blank_lines : (n : ℕ) → length (blank_lines n) ≡ 55 * n
unfolding blank_lines
length_blank_lines zero = refl
length_blank_lines (suc n) = omega (arith, length-append (replicate 54 32) (10 ∷ blank_lines n), length-replicate {A = ℕ} 54 32, length_blank_lines n)

-- lines that are filled up make whole pages
pub length_filled : (n : ℕ) (text : List ℕ) → length text ≡ 55 * n → length (text ++ fill n) ≡ 2750 * pages_for n
length_filled n text h = omega (arith, length-append text (fill n), h, length_blank_lines (50 * pages_for n - n))

pub length_sheet : (K : Kind) (es : List Entry) → length (sheet K es) ≡ 2750 * pages_for (length es)
unfolding sheet
length_sheet K es = length_filled (length es) (lines K 0 0 es) (length_lines K 0 0 es)
