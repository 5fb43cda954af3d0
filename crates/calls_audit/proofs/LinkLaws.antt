-- The tests of links, each by what its parts answer. Assumes nothing.
use mathlib.Core.Path.{◌≡◌}
use mathlib.Core.Bool.{Bool}
use mathlib.Core.List.{List}
use Prim.Native.Nat.{ℕ, zero, suc, ◌+◌, ◌-◌, ◌<◌, ◌≤◌}
use native.Mathlib.Omega.{arith}
use lib.Dec.{eqb}
use borrow.Author.Tests.{lt-ltb, le-ltb, eq-eqb, ne_eqb}
use Rattle.model.specs.Node.{Node, none, length_in, total, used}
use Rattle.model.specs.State.{node_at}
use Rattle.model.specs.declared.shape.Shape.{Shape}
use Rattle.calls_audit.specs.Links.{depth_by}

-- a node's depth, one step up
module _ (g : Shape) (count : ℕ) (xs : List ℕ) where
  pub depth_root : (n k : ℕ) → k ≡ none → depth_by g count xs n k ≡ 0
  unfolding depth_by
  depth_root zero k e = rw (eq-eqb k none e)
  depth_root (suc n) k e = rw (eq-eqb k none e)

  pub depth_end : (n k : ℕ) → n ≤ 0 → (k ≡ none → ⊥) → depth_by g count xs n k ≡ 1
  unfolding depth_by
  depth_end zero k h e = rw (ne_eqb k none e)
  depth_end (suc n) k h e = absurd (omega arith)

  pub depth_astray : (n k : ℕ) → 0 < n → (k ≡ none → ⊥) → count ≤ k → depth_by g count xs n k ≡ n + 1
  unfolding depth_by
  depth_astray zero k h e f = absurd (omega arith)
  depth_astray (suc n) k h e f = rw (ne_eqb k none e, le-ltb k count f) (omega arith)

  pub depth_on : (n k : ℕ) → 0 < n → (k ≡ none → ⊥) → k < count → depth_by g count xs n k ≡ depth_by g count xs (n - 1) (node_at g k xs).parent + 1
  unfolding depth_by
  depth_on zero k h e f = absurd (omega arith)
  depth_on (suc n) k h e f =
      let one : suc n - 1 ≡ n = omega arith in
      rw (ne_eqb k none e, lt-ltb k count f, one) (omega arith)

-- slot x has the total of node n in view v
abbrev pub same_total : List ℕ → Node → ℕ → Bool
same_total x n v = eqb (length_in v x) (total v (used n))
