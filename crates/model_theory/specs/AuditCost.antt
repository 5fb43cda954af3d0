-- The most steps that audit takes, a step being a slot read or a link followed, and their bound: a small multiple of nodes, fan and levels.
-- Every node's tests count to the end, though audit stops at the first that says no.
use Rattle.std.specs.Prelude.{◌≡◌, Bool, ◌&&◌, [], ltb, get_or}
use Rattle.std.proofs.Math.Path.{refl}
use Rattle.std.proofs.Math.Bool.{true, false, cond}
use Prim.Native.Nat.{ℕ, ◌+◌, ◌*◌, ◌-◌, ◌≤◌}
use native.Mathlib.Omega.{arith}
use Rattle.std.proofs.Math.Dec.{leb, eqb}
use borrow.Author.Tests.{leb-true}
use Rattle.model.specs.Lists.{sum_by, range}
use Rattle.model.specs.Node.{Node, child}
use Rattle.model.specs.State.{State}
use Rattle.model.specs.Sound.{leaf_in, inner_in}
use Rattle.model.specs.Kind.{stride}
use Rattle.model.specs.declared.shape.Kind.{Kind}
use Rattle.model.specs.Audit.{depth_of}
use Rattle.model_theory.specs.AuditCostSums.{sum_le, sum_plus, sum_same, parents, places, half_square, all_most}

module _ (K : Kind) (t : State) where
  -- slot i of inner node k: the slot, its link, and the child's lengths in each view if the child knows this place
  unfoldable pub steps_child : (ℕ → Node) → ℕ → ℕ → ℕ → ℕ
  steps_child area count k i =
      let c = child (get_or (inner_in (stride K) t k).slots i []) in
      2 + cond (ltb c count && eqb (area c).parent k && eqb (area c).at i) (K.views * t.head.fan) 0

  -- depth by climbing, unused slots, the link to the parent and the slot there, then the slots in use
  unfoldable pub steps_inner : ℕ → ℕ
  steps_inner k =
      let h = t.head in
      let n = inner_in (stride K) t k in
      let lowest = eqb (depth_of K t k) h.levels in
      h.levels + 1 + (h.fan - n.len) + 2
      + cond (leb n.len h.fan) (sum_by (steps_child (cond lowest (leaf_in (stride K) t) (inner_in (stride K) t)) (cond lowest h.leaves h.inners) k) (range 0 n.len)) 0

  -- unused slots, the link to the parent and the slot there, depth by climbing, then each slot in use (its id and its line ends), its home and the ids before
  -- it
  unfoldable pub steps_leaf : ℕ → ℕ
  steps_leaf k =
      let h = t.head in
      let n = leaf_in (stride K) t k in
      h.fan - n.len + 2 + (h.levels + 1) + cond (leb n.len h.fan) (sum_by (λ i. 2 + i) (range 0 n.len)) 0

  -- every node in use, the slots in use counted, the root's totals, the finger's sums by three climbs and three sums in its leaf
  unfoldable pub steps : ℕ
  steps =
      let h = t.head in
      sum_by steps_inner (range 0 h.inners) + sum_by steps_leaf (range 0 h.leaves) + h.leaves + K.views * h.fan + 3 * (h.fan + 1) * (h.levels + 1)

  -- a child that knows its place, charged to the node that it names as its parent
  abbrev charged : (ℕ → Node) → ℕ → ℕ → ℕ
  charged area count k = sum_by (λ c. cond (eqb (area c).parent k) (K.views * t.head.fan) 0) (range 0 count)

  children_most : (area : ℕ → Node) (count k n : ℕ) → sum_by (steps_child area count k) (range 0 n) ≤ 2 * n + charged area count k
  unfolding steps_child
  children_most area count k n =
      let kid : ℕ → ℕ = λ i. child (get_or (inner_in (stride K) t k).slots i []) in
      let p = places (λ c. (area c).parent) (λ c. (area c).at) kid (K.views * t.head.fan) k n count in
      let s = sum_plus (λ i. 2) (λ i. cond (ltb (kid i) count && eqb (area (kid i)).parent k && eqb (area (kid i)).at i) (K.views * t.head.fan) 0) (range 0 n) in
      omega (arith, sum_same 2 0 n)

  inner_most : (k : ℕ) → steps_inner k ≤ t.head.levels + 2 * t.head.fan + 3 + (charged (leaf_in (stride K) t) t.head.leaves k + charged (inner_in (stride K) t) t.head.inners k)
  unfolding steps_inner
  inner_most k = go (leb (inner_in (stride K) t k).len t.head.fan) refl (eqb (depth_of K t k) t.head.levels)
    where
      go : (b : Bool) → leb (inner_in (stride K) t k).len t.head.fan ≡ b → (lowest : Bool)
          → t.head.levels + 1 + (t.head.fan - (inner_in (stride K) t k).len) + 2
          + cond b (sum_by (steps_child (cond lowest (leaf_in (stride K) t) (inner_in (stride K) t)) (cond lowest t.head.leaves t.head.inners) k) (range 0 (inner_in (stride K) t k).len)) 0
          ≤ t.head.levels + 2 * t.head.fan + 3 + (charged (leaf_in (stride K) t) t.head.leaves k + charged (inner_in (stride K) t) t.head.inners k)
      go true e true = omega (arith, leb-true (inner_in (stride K) t k).len t.head.fan e, children_most (leaf_in (stride K) t) t.head.leaves k (inner_in (stride K) t k).len)
      go true e false = omega (arith, leb-true (inner_in (stride K) t k).len t.head.fan e, children_most (inner_in (stride K) t) t.head.inners k (inner_in (stride K) t k).len)
      go false e lowest = omega arith

  leaf_most : t.head.fan ≤ 32 → (k : ℕ) → steps_leaf k ≤ t.head.levels + 18 * t.head.fan + 3
  unfolding steps_leaf
  leaf_most f k = go (leb (leaf_in (stride K) t k).len t.head.fan) refl
    where
      go : (b : Bool) → leb (leaf_in (stride K) t k).len t.head.fan ≡ b
          → t.head.fan - (leaf_in (stride K) t k).len + 2 + (t.head.levels + 1) + cond b (sum_by (λ i. 2 + i) (range 0 (leaf_in (stride K) t k).len)) 0 ≤ t.head.levels + 18 * t.head.fan + 3
      go true e = (let l : (leaf_in (stride K) t k).len ≤ t.head.fan = leb-true (leaf_in (stride K) t k).len t.head.fan e in omega (arith, half_square (leaf_in (stride K) t k).len (omega arith)))
      go false e = omega arith

  inners_most : sum_by steps_inner (range 0 t.head.inners) ≤ t.head.inners * (t.head.levels + 2 * t.head.fan + 3) + (t.head.leaves + t.head.inners) * (K.views * t.head.fan)
  inners_most =
      let F : ℕ = K.views * t.head.fan in
      let I : ℕ = t.head.inners in
      let r = range 0 I in
      let c : ℕ = t.head.levels + 2 * t.head.fan + 3 in
      let x = charged (leaf_in (stride K) t) t.head.leaves in
      let y = charged (inner_in (stride K) t) I in
      let a = sum_le steps_inner (λ k. c + (x k + y k)) inner_most r in
      let b = sum_plus (λ k. c) (λ k. x k + y k) r in
      let d = sum_plus x y r in
      omega (arith, sum_same c 0 I, parents (λ c. (leaf_in (stride K) t c).parent) F I t.head.leaves, parents (λ c. (inner_in (stride K) t c).parent) F I I)

  leaves_most : t.head.fan ≤ 32 → sum_by steps_leaf (range 0 t.head.leaves) ≤ t.head.leaves * (t.head.levels + 18 * t.head.fan + 3)
  leaves_most f =
      let c : ℕ = t.head.levels + 18 * t.head.fan + 3 in
      let a = sum_le steps_leaf (λ k. c) (leaf_most f) (range 0 t.head.leaves) in
      omega (arith, sum_same c 0 t.head.leaves)

  -- on any state of any kind with a good fan; without a level or an inner node audit says no before it reads one
  pub audit_steps : 4 ≤ t.head.fan → t.head.fan ≤ 32 → 1 ≤ t.head.levels → 1 ≤ t.head.inners → steps ≤ (20 + K.views) * ((t.head.leaves + t.head.inners) * t.head.fan * t.head.levels) + K.views * t.head.fan
  unfolding steps
  audit_steps lo hi deep some =
      let h = t.head in
      all_most K.views h.fan h.levels h.inners h.leaves (sum_by steps_inner (range 0 h.inners)) (sum_by steps_leaf (range 0 h.leaves)) lo deep some inners_most (leaves_most hi)
