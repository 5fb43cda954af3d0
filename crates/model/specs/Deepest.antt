-- The largest number of levels that a tree of n entries can have, from n alone. Assumes nothing.
use Rattle.std.specs.Prelude.{◌≡◌, ◌⊎◌, cond, ℕ, zero, suc, ◌*◌, ◌^◌, ◌≤◌, ltb, leb}

-- the largest k up to m with 2 × half ^ k at or below n; 0 where there is none
unfoldable pub largest : ℕ → ℕ → ℕ → ℕ
largest half n zero = 0
largest half n (suc m) = cond (leb (2 * half ^ suc m) n) (suc m) (largest half n m)

-- the largest whole number k with 2 × half ^ k at or below n, or 1 if that is larger or there is none; no k past n can be meant
unfoldable pub deepest : ℕ → ℕ → ℕ
deepest half n = let k = largest half n n in cond (ltb k 1) 1 k

-- that number by what it is
pub record Deepest (half n k : ℕ) : Type 0 where
  pub least : 1 ≤ k
  pub all : (m : ℕ) → 2 * half ^ m ≤ n → m ≤ k
  pub some : (k ≡ 1) ⊎ (2 * half ^ k ≤ n)
