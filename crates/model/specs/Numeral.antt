-- A number's decimal digits in ASCII: 48 to 57 are the digits 0 to 9. Assumes nothing.
use Rattle.std.specs.Prelude.{cond, List, [], ◌∷◌, ◌++◌, ℕ, zero, suc, ◌+◌, ◌%◌, ◌/◌, ltb}

-- the digits of n, where it has at most k
unfoldable pub numeral : ℕ → ℕ → List ℕ
numeral zero n = []
numeral (suc k) n = cond (ltb n 10) ((48 + n) ∷ []) (numeral k (n / 10) ++ ((48 + n % 10) ∷ []))

-- those of a u32, which has at most ten
unfoldable pub decimal : ℕ → List ℕ
decimal n = numeral 10 n
