-- The test of a leaf and its entries, by what its parts answer. Assumes nothing.
use mathlib.Core.Path.{◌≡◌, ap, ◌∙◌}
use mathlib.Core.Bool.{Bool, true, false, ◌&&◌}
use mathlib.Core.List.{List, []}
use Prim.Native.Nat.{ℕ, suc, ◌-◌}
use native.Mathlib.Omega.{arith}
use lib.ListN.{get_or}
use lib.Dec.{eqb}
use borrow.Author.Tests.{eq-eqb, ne_eqb}
use Rattle.model.specs.Kind.{stride}
use Rattle.model.specs.Node.{Node, child}
use Rattle.model.specs.State.{state, node_at}
use Rattle.model.specs.Refuse.{shape_of}
use Rattle.model.specs.Sound.{least_leaf}
use Rattle.model.specs.Audit.{every, is_other, depth, is_filled, is_held, is_entry, is_leaf}
use Rattle.model.specs.declared.shape.Kind.{Kind}
use Rattle.model.specs.declared.shape.Shape.{Shape}
use Rattle.model.specs.declared.head.Head.{Head}
use Rattle.calls_audit.proofs.Every.{every_same}
use Rattle.calls_audit.specs.Links.{depth_by, held_by, entry_by}
use Rattle.calls_audit.proofs.InnerLaws.{depth_same}

-- a slot that holds the child, or another
pub other_met : (n : Node) (c j x : ℕ) → x ≡ child (get_or n.slots j []) → x ≡ c → is_other n c j ≡ false
other_met n c j x e q = rw (← e, eq-eqb x c q)

pub other_passed : (n : Node) (c j x : ℕ) → x ≡ child (get_or n.slots j []) → (x ≡ c → ⊥) → is_other n c j ≡ true
other_passed n c j x e q = rw (← e, ne_eqb x c q)

-- a leaf
module _ (K : Kind) (h : Head) (ls xs hs : List ℕ) where
  abbrev filled_part : Shape → ℕ → Bool
  filled_part g k = is_filled K (state h [] [] []) (least_leaf (stride K) (state h [] [] [])) (node_at g k ls)

  abbrev held_part : Shape → ℕ → Bool
  held_part g k = held_by g h.inners xs k (node_at g k ls).parent (node_at g k ls).at

  abbrev leaf_by : Shape → ℕ → ℕ → Bool
  leaf_by g d k = filled_part g k && held_part g k && eqb d h.levels && every (entry_by g K.ordered h.entries ls hs k) 0 (node_at g k ls).len

  -- an entry, by the words of the areas
  entry_same : (k i : ℕ) → entry_by (shape_of K h) K.ordered h.entries ls hs k i ≡ is_entry K (state h ls xs hs) k (node_at (shape_of K h) k ls) i
  unfolding entry_by is_entry
  entry_same k i = let views : suc K.views - 1 ≡ K.views = omega arith in rw views

  entries_same : (k n : ℕ) → every (entry_by (shape_of K h) K.ordered h.entries ls hs k) 0 n ≡ every (is_entry K (state h ls xs hs) k (node_at (shape_of K h) k ls)) 0 n
  entries_same k n = every_same (entry_by (shape_of K h) K.ordered h.entries ls hs k) _ (entry_same k) 0 n

  whole : (k d : ℕ) → d ≡ depth K (state h ls xs hs) h.levels (node_at (shape_of K h) k ls).parent → leaf_by (shape_of K h) d k ≡ is_leaf K (state h ls xs hs) k
  unfolding is_leaf is_filled held_by is_held
  whole k d e = rw (← e, ← entries_same k (node_at (shape_of K h) k ls).len)

  -- the test by the sizes g
  pub leaf_by_law : (g : Shape) (k : ℕ) → g ≡ shape_of K h → leaf_by g (depth_by g h.inners xs h.levels (node_at g k ls).parent) k ≡ is_leaf K (state h ls xs hs) k
  leaf_by_law g k e =
      ap (λ (x : Shape). leaf_by x (depth_by x h.inners xs h.levels (node_at x k ls).parent) k) e ∙ whole k _ (depth_same K h ls xs hs h.levels _)
