-- The test of an inner node, by what its parts answer. Assumes nothing.
use mathlib.Core.Path.{◌≡◌, refl, ap, ◌∙◌}
use mathlib.Core.Bool.{Bool, true, false, cond, ◌&&◌}
use mathlib.Core.List.{List, []}
use Prim.Native.Nat.{ℕ, zero, suc, ◌-◌}
use native.Mathlib.Omega.{arith}
use lib.ListN.{get_or}
use lib.Dec.{leb, eqb}
use Rattle.model.specs.Kind.{stride}
use Rattle.model.specs.State.{state, node_at}
use Rattle.model.specs.Refuse.{shape_of}
use Rattle.model.specs.Sound.{leaf_in, inner_in, least_inner}
use Rattle.model.specs.Audit.{every, depth, is_filled, is_held, is_child, is_inner}
use Rattle.model.specs.declared.shape.Kind.{Kind}
use Rattle.model.specs.declared.shape.Shape.{Shape}
use Rattle.model.specs.declared.head.Head.{Head}
use Rattle.calls_audit.proofs.Every.{every_same}
use Rattle.calls_audit.specs.Links.{depth_by, held_by, totals_by, child_by, root_by}

module _ (K : Kind) (h : Head) (ls xs hs : List ℕ) where
  pub depth_same : (n k : ℕ) → depth_by (shape_of K h) h.inners xs n k ≡ depth K (state h ls xs hs) n k
  unfolding depth_by depth
  depth_same zero k = refl
  depth_same (suc n) k = rw (depth_same n (node_at (shape_of K h) k xs).parent)

  -- the parts, with the sizes g
  abbrev filled_part : Shape → ℕ → Bool
  filled_part g k = is_filled K (state h [] [] []) (least_inner (stride K) (state h [] [] []) k) (node_at g k xs)

  abbrev leaves_part : Shape → ℕ → Bool
  leaves_part g k = every (child_by g h.leaves ls xs k) 0 (node_at g k xs).len

  abbrev inners_part : Shape → ℕ → Bool
  inners_part g k = every (child_by g h.inners xs xs k) 0 (node_at g k xs).len

  abbrev inner_by : Shape → ℕ → ℕ → Bool
  inner_by g d k = leb 1 d && leb d h.levels && filled_part g k && root_by g h xs k && cond (eqb d h.levels) (leaves_part g k) (inners_part g k)

  -- a child, by the words of its area
  child_same : (ws : List ℕ) (count k i : ℕ)
      → child_by (shape_of K h) count ws xs k i ≡ is_child K (state h ls xs hs) (λ c. node_at (shape_of K h) c ws) count k i (get_or (node_at (shape_of K h) k xs).slots i [])
  unfolding child_by totals_by is_child
  child_same ws count k i = let views : suc K.views - 1 ≡ K.views = omega arith in rw views

  swap : (k : ℕ) (b : Bool) → cond b (leaves_part (shape_of K h) k) (inners_part (shape_of K h) k)
      ≡ every (λ i. is_child K (state h ls xs hs) (cond b (leaf_in (stride K) (state h ls xs hs)) (inner_in (stride K) (state h ls xs hs)))
      (cond b h.leaves h.inners) k i (get_or (node_at (shape_of K h) k xs).slots i [])) 0 (node_at (shape_of K h) k xs).len
  swap k true = every_same (child_by (shape_of K h) h.leaves ls xs k) _ (child_same ls h.leaves k) 0 _
  swap k false = every_same (child_by (shape_of K h) h.inners xs xs k) _ (child_same xs h.inners k) 0 _

  whole : (k d : ℕ) → d ≡ depth K (state h ls xs hs) h.levels k → inner_by (shape_of K h) d k ≡ is_inner K (state h ls xs hs) k
  unfolding is_inner is_filled root_by held_by is_held
  whole k d e = rw (← e, ← swap k (eqb d h.levels))

  -- the test by the sizes g
  pub inner_by_law : (g : Shape) (k : ℕ) → g ≡ shape_of K h → inner_by g (depth_by g h.inners xs h.levels k) k ≡ is_inner K (state h ls xs hs) k
  inner_by_law g k e = ap (λ (x : Shape). inner_by x (depth_by x h.inners xs h.levels k) k) e ∙ whole k _ (depth_same h.levels k)
