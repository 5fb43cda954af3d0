-- Lists of words: a part, a part written over, sums, and how often a number stands in a list. Assumes nothing.
use Rattle.std.specs.Prelude.{Bool, false, cond, ◌||◌, List, [], ◌∷◌, ◌++◌, ℕ, zero, suc, ◌+◌, length, take, drop, eqb}

-- the n words of ws from word p on
unfoldable pub part : ℕ → ℕ → List ℕ → List ℕ
part p n ws = take n (drop p ws)

-- ws with xs written over its words from word p on
unfoldable pub put_at : ℕ → List ℕ → List ℕ → List ℕ
put_at p xs ws = take p ws ++ (xs ++ drop (p + length xs) ws)

module _ {A : Type 0} where
  -- the sum of w over a list
  unfoldable pub sum_by : (A → ℕ) → List A → ℕ
  sum_by w [] = 0
  sum_by w (x ∷ xs) = w x + sum_by w xs

  -- whether q holds of some element
  unfoldable pub some : (A → Bool) → List A → Bool
  some q [] = false
  some q (x ∷ xs) = q x || some q xs

  -- Q holds of every element
  unfoldable pub All : (A → Type 0) → List A → Type 0
  All Q [] = Unit {0}
  All Q (x ∷ xs) = Q x × All Q xs

-- how often k stands in a list
unfoldable pub times : ℕ → List ℕ → ℕ
times k [] = 0
times k (x ∷ xs) = cond (eqb x k) 1 0 + times k xs

-- the numbers from i on, n of them
unfoldable pub range : ℕ → ℕ → List ℕ
range i zero = []
range i (suc n) = i ∷ range (suc i) n

-- the number of the first cause that applies, 0 if none does
pub record Cause : Type 0 where
  pub applies : Bool
  pub number : ℕ

abbrev pub cause : ℕ → Bool → Cause
cause n b = record { applies = b; number = n }

unfoldable pub refusal : List Cause → ℕ
refusal [] = 0
refusal (c ∷ cs) = cond c.applies c.number (refusal cs)
