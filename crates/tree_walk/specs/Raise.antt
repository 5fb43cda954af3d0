-- The climb without its sum: what it leaves of the inner area, and whether the way was whole. Assumes nothing.
use Rattle.model.specs.declared.way.Broken.{Broken}
use Rattle.model.specs.Numbered.{broken}
use Rattle.std.specs.Prelude.{◌≡◌, ℕ, zero, suc, ◌+◌, ◌-◌, ◌<◌, ◌≤◌, Bool, true, false, cond, List, Ok, Err, Result}
use Rattle.std.proofs.Math.Path.{refl}
use native.Mathlib.Omega.{arith}
use Rattle.model.specs.Node.{start}
use Rattle.model.specs.State.{node_at}
use Rattle.model.specs.Climb.{inside, raised, climb_up}
use Rattle.model.specs.declared.shape.Shape.{Shape}

-- delta added to the lengths at place i of inner node k, and so on up n levels
module _ (g : Shape) (delta : List ℕ) where
  unfoldable pub raise_up : ℕ → ℕ → ℕ → List ℕ → Bool × List ℕ
  raise_up zero k i xs = (true, xs)
  raise_up (suc n) k i xs =
      let m = node_at g k xs in
      cond (inside g k i) (raise_up n m.parent m.at (raised g delta k i xs)) (false, xs)

-- whether there is a sum
abbrev pub whole : Result ℕ Broken → Bool
whole (Ok s) = true
whole (Err _) = false

-- the climb leaves what raise_up leaves, and is broken where raise_up says so
pub raise_climb : (g : Shape) (v : ℕ) (delta : List ℕ) (n k i s : ℕ) (xs : List ℕ)
    → raise_up g delta n k i xs ≡ (whole (climb_up g v delta n k i s xs).0, (climb_up g v delta n k i s xs).1)
unfolding raise_up climb_up
raise_climb g v delta zero k i s xs = refl
raise_climb g v delta (suc n) k i s xs =
    go (inside g k i) _ _ (raise_climb g v delta n (node_at g k xs).parent (node_at g k xs).at (s + start v i (node_at g k xs)) (raised g delta k i xs))
  where
    go : (b : Bool) (r : Bool × List ℕ) (c : Result ℕ Broken × List ℕ) → r ≡ (whole c.0, c.1)
        → cond b r (false, xs) ≡ (whole (cond b c ((Err broken), xs)).0, (cond b c ((Err broken), xs)).1)
    go true r c e = e
    go false r c e = refl

-- one step
module _ (g : Shape) (delta : List ℕ) (k i : ℕ) (xs : List ℕ) where
  pub raise_end : (n : ℕ) → n ≤ 0 → raise_up g delta n k i xs ≡ (true, xs)
  unfolding raise_up
  raise_end zero h = refl
  raise_end (suc n) h = absurd (omega arith)

  pub raise_broken : (n : ℕ) → 0 < n → inside g k i ≡ false → raise_up g delta n k i xs ≡ (false, xs)
  unfolding raise_up
  raise_broken zero h e = absurd (omega arith)
  raise_broken (suc n) h e = rw e

  pub raise_on : (n : ℕ) → 0 < n → inside g k i ≡ true → raise_up g delta n k i xs ≡ raise_up g delta (n - 1) (node_at g k xs).parent (node_at g k xs).at (raised g delta k i xs)
  unfolding raise_up
  raise_on zero h e = absurd (omega arith)
  raise_on (suc n) h e =
      let one : suc n - 1 ≡ n = omega arith in
      rw (e, one)
