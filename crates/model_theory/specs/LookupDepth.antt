-- The largest number of levels that a tree of n entries can have is the number named, the only one, and no level count passes it.
use Rattle.std.specs.Prelude.{◌≡◌, ◌⊎◌, ltb, leb}
use Rattle.std.proofs.Math.Path.{refl}
use Rattle.std.proofs.Common.{sym, ◌∙◌, inr, mul-le-mul_right, lt-ltb, le-ltb, le-leb}
use Rattle.std.proofs.Math.Logic.{inl}
use Rattle.std.proofs.Math.Bool.{cond}
use Prim.Native.Nat.{ℕ, zero, suc, ◌*◌, ◌^◌, ◌≤◌, ◌<◌}
use Rattle.std.proofs.Math.Nat.{pow-zero, pow-succ'}
use Rattle.std.proofs.Math.Decide.{dec_lt}
use native.Mathlib.Omega.{arith}
use Rattle.std.proofs.lemmas.Bool.{lt-leb}
use Rattle.model.specs.Deepest.{largest, deepest, Deepest}

module _ (half n : ℕ) where
  largest_all : (m k : ℕ) → k ≤ m → 2 * half ^ k ≤ n → k ≤ largest half n m
  unfolding largest
  largest_all zero k h p = h
  largest_all (suc m) k h p = go (dec_lt n (2 * half ^ suc m)) (λ l. largest_all m k l p)
    where
      less : n < 2 * half ^ suc m → Dec (k < suc m) → k ≤ m
      less lt (yes l) = omega arith
      less lt (no g) = absurd (let e : k ≡ suc m = omega arith in let q : 2 * half ^ suc m ≤ n = rw e at p in omega arith)

      go : Dec (n < 2 * half ^ suc m) → (k ≤ m → k ≤ largest half n m) → k ≤ cond (leb (2 * half ^ suc m) n) (suc m) (largest half n m)
      go (no ge) i = rw (le-leb (2 * half ^ suc m) n (omega arith)) h
      go (yes lt) i = rw (lt-leb (2 * half ^ suc m) n lt) (i (less lt (dec_lt k (suc m))))

  largest_some : (m : ℕ) → (largest half n m ≡ 0) ⊎ (2 * half ^ largest half n m ≤ n)
  unfolding largest
  largest_some zero = inl refl
  largest_some (suc m) = go (dec_lt n (2 * half ^ suc m)) (largest_some m)
    where
      go : Dec (n < 2 * half ^ suc m) → (largest half n m ≡ 0) ⊎ (2 * half ^ largest half n m ≤ n)
          → (cond (leb (2 * half ^ suc m) n) (suc m) (largest half n m) ≡ 0) ⊎ (2 * half ^ cond (leb (2 * half ^ suc m) n) (suc m) (largest half n m) ≤ n)
      go (no ge) i = rw (le-leb (2 * half ^ suc m) n (omega arith)) (inr (omega arith))
      go (yes lt) i = rw (lt-leb (2 * half ^ suc m) n lt) i

  module _ (two : 2 ≤ half) where
    -- a power is past its exponent
    past : (k : ℕ) → k < half ^ k
    past zero = rw pow-zero (omega arith)
    past (suc k) = let h = past k in let w : half ^ suc k ≡ half * half ^ k = pow-succ' half k in let d : 2 * half ^ k ≤ half * half ^ k = mul-le-mul_right (half ^ k) two in omega arith

    pub deepest_is : Deepest half n (deepest half n)
    unfolding deepest
    deepest_is = go (dec_lt (largest half n n) 1) (largest_some n)
      where
        all : (m : ℕ) → 2 * half ^ m ≤ n → m ≤ largest half n n
        all m h = largest_all n m (let p = past m in omega arith) h

        go : Dec (largest half n n < 1) → (largest half n n ≡ 0) ⊎ (2 * half ^ largest half n n ≤ n) → Deepest half n (cond (ltb (largest half n n) 1) 1 (largest half n n))
        go (yes lt) i = rw (lt-ltb (largest half n n) 1 lt) (record { least = omega arith; all = λ m h. (let z = all m h in omega arith); some = inl refl })
        go (no ge) (inl e) = absurd (omega arith)
        go (no ge) (inr p) = rw (le-ltb (largest half n n) 1 (omega arith)) (record { least = omega arith; all = all; some = inr p })

-- there is one such number only
pub deepest_one : (half n k m : ℕ) → Deepest half n k → Deepest half n m → k ≡ m
deepest_one half n k m a b = go a.some b.some
  where
    go : (k ≡ 1) ⊎ (2 * half ^ k ≤ n) → (m ≡ 1) ⊎ (2 * half ^ m ≤ n) → k ≡ m
    go (inl e) (inl f) = e ∙ sym f
    go (inl e) (inr q) = (let x = b.least in let y = a.all m q in omega arith)
    go (inr p) (inl f) = (let x = a.least in let y = b.all k p in omega arith)
    go (inr p) (inr q) = (let x = a.all m q in let y = b.all k p in omega arith)

-- no level count passes it, by the floor on entries
pub levels_below : (half n k levels : ℕ) → Deepest half n k → (2 ≤ levels → 2 * half ^ levels ≤ n) → levels ≤ k
levels_below half n k levels d floor = go (dec_lt 1 levels)
  where
    go : Dec (1 < levels) → levels ≤ k
    go (yes two) = d.all levels (floor two)
    go (no one) = let x = d.least in omega arith
