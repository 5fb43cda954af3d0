-- The sizes that a call hands on as numbers, and the tests of lengths, for a tree of any kind. Assumes nothing.
use mathlib.Core.Path.{◌≡◌, refl, ap, ◌∙◌}
use mathlib.Core.List.{List}
use Prim.Native.Nat.{ℕ, suc, ◌+◌, ◌-◌, ◌<◌}
use native.Mathlib.Omega.{arith}
use lib.Dec.{ltb}
use lib.ListN.{length, get_or}
use Rattle.model.specs.Lists.{some, range}
use Rattle.model.specs.Node.{total, used}
use Rattle.model.specs.State.{State, shape_for, node_at}
use Rattle.model.specs.Refuse.{shape_of, too_much, hollow_part, past}
use Rattle.model.specs.declared.shape.Kind.{Kind}
use Rattle.model.specs.declared.shape.Shape.{Shape}
use Rattle.model.specs.declared.head.Head.{Head}
use Rattle.tree_area.specs.Area.{AreaHolds}
use Rattle.tree_open.proofs.ReadyLaws.{inner_area}
use Rattle.tree_open.specs.Ready.{Ready}
use Rattle.tree_open.specs.Lengths.{more_in, hollow_in, past_in}

one_less : (n : ℕ) → suc n - 1 ≡ n
one_less n = omega arith

module _ (K : Kind) (h : Head) (g : Shape) (e : g ≡ shape_of K h) where
  -- the sizes made anew from the numbers of a tree's sizes
  pub own_shape : shape_for K.views g.fan g.nodes ≡ g
  own_shape = rw e refl

  -- a slot's words but the child are its lengths
  pub own_views : g.stride - 1 ≡ K.views
  own_views = ap (λ (x : Shape). x.stride - 1) e ∙ one_less K.views

-- the tests of lengths over a tree's sizes are those of its kind
pub more_same : (K : Kind) (h : Head) (g : Shape) → g ≡ shape_of K h → (given own : List ℕ) → more_in (g.stride - 1) given own ≡ (too_much K given own).applies
more_same K h g e given own = rw (own_views K h g e) refl

pub hollow_same : (K : Kind) (h : Head) (g : Shape) → g ≡ shape_of K h → (given own : List ℕ) → hollow_in (g.stride - 1) given own ≡ (hollow_part K given own).applies
hollow_same K h g e given own = rw (own_views K h g e) refl

pub past_same : (K : Kind) (s : State) (g : Shape) → g ≡ shape_of K s.head → (old new : List ℕ)
    → past_in (shape_for K.views g.fan g.nodes) s.head.root.0 s.inners old new ≡ (past K s old new).applies
past_same K s g e old new =
    ap (λ (x : Shape). past_in x s.head.root.0 s.inners old new) (own_shape K s.head g e ∙ e)
    ∙ ap (λ (n : ℕ). some (λ v. ltb (4294967295 + get_or old v 0) (total v (used (node_at (shape_of K s.head) s.head.root.0 s.inners)) + get_or new v 0)) (range 0 n)) (one_less K.views)

-- the root's totals can be summed up
pub root_in : {K : Kind} (s : State) (g : Shape) → Ready K s g → AreaHolds (shape_for K.views g.fan g.nodes) (length s.inners) × (s.head.root.0 < g.nodes)
root_in {K} s g h = (rw (own_shape K s.head g h.same) (inner_area s g h), h.root)
