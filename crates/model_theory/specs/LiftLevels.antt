-- The nodes that are reached from the root, in the model's words and in those of the abstract tree. Assumes nothing.
use Rattle.std.specs.Prelude.{◌≡◌, ◌≢◌, length}
use Rattle.std.proofs.Math.Path.{refl, sym, ap, ap₂, subst}
use Rattle.std.proofs.Common.{◌∙◌}
use mathlib.Core.List.{List, [], ◌∷◌, ◌++◌, map, flat_map, append-nil}
use Prim.Native.Nat.{ℕ, zero, suc, ◌+◌}
use native.Mathlib.Omega.{arith}
use Rattle.model.specs.Lists.{All, sum_by, range}
use Rattle.model.specs.Node as node
use Rattle.model.specs.Node.{child, used}
use Rattle.model.specs.State.{State}
use Rattle.model.specs.Sound.{until, level, inners_reached, leaves_reached, slots_in, leaf_in, inner_in}
use Rattle.model_tree.specs.Lists.{cat, cat_append, cat_cong, all_every, all_append, all_left_at, all_right, NoDup, pairs_before}
use Rattle.model_tree.specs.Levels.{Slot, Area, len, climb}
use Rattle.model_tree.specs.Sound.{kids_of, lvl, stack, map_cat}
use Rattle.model_tree.specs.Pigeon.{In, range_more}
use Rattle.model_tree.specs.Tree.{order, above, row, BodyAt, Body}
use Rattle.model_tree.specs.Change.{order_nodup}
use Rattle.model_tree.specs.Finger.{climb_at}
use Rattle.model_theory.specs.LiftCount.{flat_cat, until_at}
use Rattle.model_theory.specs.LiftTree.{slot_of, tree_of, sum_slots}

pub map_child : (xs : List (List ℕ)) → map (λ (x : Slot). x.child) (map slot_of xs) ≡ map child xs
map_child [] = refl
map_child (x ∷ xs) = ap {B = List ℕ} (λ l. child x ∷ l) (map_child xs)

pub stack_length : (up : Area) (root n : ℕ) → length (stack up root n) ≡ n
stack_length up root zero = refl
stack_length up root (suc n) = ap suc (stack_length up root n)

module _ (s : ℕ) (t : State) where
  pub level_lvl : (d : ℕ) → level s t d ≡ lvl (tree_of s t).body.inner t.head.root.0 d
  unfolding level
  level_lvl zero = refl
  level_lvl (suc d) =
      flat_cat (λ p. map child (used (inner_in s t p))) (level s t d)
      ∙ cat_cong (λ p. map child (used (inner_in s t p))) (kids_of (tree_of s t).body.inner) (level s t d)
      (all_every (λ p. map child (used (inner_in s t p)) ≡ kids_of (tree_of s t).body.inner p) (λ p. sym (map_child (used (inner_in s t p)))) (level s t d))
      ∙ ap (cat (kids_of (tree_of s t).body.inner)) (level_lvl d)

  -- the leaves in order
  pub leaves_order : leaves_reached s t ≡ order (tree_of s t)
  leaves_order = level_lvl t.head.levels

  -- the slots of some leaves, and those of all
  pub slots_in_law : (ks : List ℕ) → map slot_of (slots_in s t ks) ≡ cat (tree_of s t).body.leaf.slots ks
  slots_in_law ks = ap (map slot_of) (flat_cat (λ k. used (leaf_in s t k)) ks) ∙ map_cat slot_of (λ k. used (leaf_in s t k)) ks

  pub slots_row : map slot_of (slots_in s t (leaves_reached s t)) ≡ row (tree_of s t)
  slots_row = slots_in_law (leaves_reached s t) ∙ ap (cat (tree_of s t).body.leaf.slots) leaves_order

  pub total_in_law : (v : ℕ) (ks : List ℕ) → node.total v (slots_in s t ks) ≡ sum_by (len v) (cat (tree_of s t).body.leaf.slots ks)
  total_in_law v ks = sym (sum_slots v (slots_in s t ks)) ∙ ap (sum_by (len v)) (slots_in_law ks)

  -- the inner nodes above level d
  unfoldable pub reached : ℕ → List ℕ
  reached d = flat_map (level s t) (range 0 d)

  pub reached_more : (d : ℕ) → reached (suc d) ≡ reached d ++ level s t d
  unfolding reached
  reached_more d =
      flat_cat (level s t) (range 0 (suc d)) ∙ ap (cat (level s t)) (range_more 0 d) ∙ cat_append (level s t) (range 0 d) ((0 + d) ∷ [])
      ∙ ap₂ ◌++◌ (sym (flat_cat (level s t) (range 0 d))) (append-nil (level s t (0 + d)) ∙ ap (level s t) (let z : 0 + d ≡ d = omega arith in z))

  -- what holds of the inner nodes reached holds of each level, and back
  pub above_all : (Q : ℕ → Type 0) (d : ℕ) → All Q (reached d) → All (All Q) (stack (tree_of s t).body.inner t.head.root.0 d)
  unfolding All
  above_all Q zero h = tt
  above_all Q (suc d) h =
      let h' : All Q (reached d ++ level s t d) = subst (All Q) (reached_more d) h in
      (subst (All Q) (level_lvl d) (all_right Q (reached d) (level s t d) h'), above_all Q d (all_left_at Q (reached d) (level s t d) h'))

  pub all_above : (Q : ℕ → Type 0) (d : ℕ) → All (All Q) (stack (tree_of s t).body.inner t.head.root.0 d) → All Q (reached d)
  unfolding All reached range flat_map
  all_above Q zero h = tt
  all_above Q (suc d) h = subst (All Q) (sym (reached_more d)) (all_append Q (reached d) (level s t d) (all_above Q d h.1) (subst (All Q) (sym (level_lvl d)) h.0))

  pub inners_above : (Q : ℕ → Type 0) → All Q (inners_reached s t) → All (All Q) (above (tree_of s t))
  unfolding reached
  inners_above Q h = above_all Q t.head.levels h

  pub above_inners : (Q : ℕ → Type 0) → All (All Q) (above (tree_of s t)) → All Q (inners_reached s t)
  unfolding reached
  above_inners Q h = all_above Q t.head.levels h

  -- where leaf k starts: the sum over the leaves before it
  pub start_at : Body (tree_of s t) → (k : ℕ) → In k (order (tree_of s t)) → (v : ℕ)
      → node.total v (slots_in s t (until k (leaves_reached s t))) ≡ climb v (tree_of s t).body.leaf (tree_of s t).body.inner t.head.levels k
  start_at body k i v =
      let b : BodyAt (tree_of s t) (i.before ++ k ∷ i.after) (above (tree_of s t)) = subst (λ (C : List ℕ). BodyAt (tree_of s t) C (above (tree_of s t))) i.row body in
      let nd : NoDup (i.before ++ k ∷ i.after) = order_nodup (tree_of s t) (i.before ++ k ∷ i.after) (above (tree_of s t)) b in
      let u : until k (leaves_reached s t) ≡ i.before = ap (until k) (leaves_order ∙ i.row) ∙ until_at k i.before i.after (pairs_before (λ x y. x ≢ y) i.before k i.after nd) in
      total_in_law v (until k (leaves_reached s t)) ∙ ap (λ (C : List ℕ). sum_by (len v) (cat (tree_of s t).body.leaf.slots C)) u
      ∙ sym (climb_at (tree_of s t) i.before k i.after (above (tree_of s t)) b v)
