-- `audit` (document 01, "Audit"): soundness tested by numbers, node by node, each node's depth by climbing at most `levels` links.
-- That it says yes exactly on sound trees is a theorem, not part of this definition. Assumes nothing.
use Rattle.model.specs.declared.way.Broken.{Broken}
use Rattle.model.specs.Numbered.{Numbered}
use Rattle.std.specs.Prelude.{Bool, true, false, not, cond, ◌&&◌, List, [], ℕ, zero, suc, ◌-◌, get_or, ltb, leb, eqb, Ok, Err, Some, None, Option, Result}
use Rattle.model.specs.Lists.{sum_by, range}
use Rattle.model.specs.Node.{Node, none, child, lengths, length_in, total, used, start}
use Rattle.model.specs.Kind.{stride, prepare, too_many_lines, crossed}
use Rattle.model.specs.declared.shape.Kind.{Kind}
use Rattle.model.specs.State.{State}
use Rattle.model.specs.Climb.{rank_up}
use Rattle.model.specs.Sound.{leaf_in, inner_in, least_leaf, least_inner}
use Rattle.model.specs.Refuse.{shape_of, total_of}
use Rattle.model.specs.Calls.{unless, area_causes}
use Rattle.model.specs.declared.head.Finger.{Finger}

-- whether q holds of the n numbers from i on
unfoldable pub every : (ℕ → Bool) → ℕ → ℕ → Bool
every q i zero = true
every q i (suc n) = q i && every q (suc i) n

-- whether q holds of each view
abbrev pub in_views : Kind → (ℕ → Bool) → Bool
in_views K q = every q 0 K.views

abbrev pub is_empty_slot : Kind → List ℕ → Bool
is_empty_slot K x = eqb (child x) none && in_views K (λ v. eqb (length_in v x) 0)

abbrev pub is_sum : ℕ → Result ℕ Broken → Bool
is_sum n (Ok m) = eqb n m
is_sum n (Err _) = false

-- whether slot j holds another child than c
abbrev pub is_other : Node → ℕ → ℕ → Bool
is_other n c j = not (eqb (child (get_or n.slots j [])) c)

module _ (K : Kind) (t : State) where
  -- how many inner nodes stand from the root down to node k; more than n where a climb of n links doesn't end at the root's missing parent
  unfoldable pub depth : ℕ → ℕ → ℕ
  depth zero k = cond (eqb k none) 0 1
  depth (suc n) k = cond (eqb k none) 0 (cond (ltb k t.head.inners) (suc (depth n (inner_in (stride K) t k).parent)) (suc (suc n)))

  abbrev pub depth_of : ℕ → ℕ
  depth_of k = depth t.head.levels k

  -- len within its bounds, unused slots empty
  unfoldable pub is_filled : ℕ → Node → Bool
  is_filled least n =
      leb least n.len && leb n.len t.head.fan
      && every (λ i. is_empty_slot K (get_or n.slots i [])) n.len (t.head.fan - n.len)

  -- inner node p holds k in the slot where k says that it stands
  unfoldable pub is_held : ℕ → Node → Bool
  is_held k n =
      let p = inner_in (stride K) t n.parent in
      ltb n.parent t.head.inners && ltb n.at p.len && leb p.len t.head.fan && eqb (child (get_or p.slots n.at [])) k

  -- slot x at place i of node k: the child is in use, knows its parent and place, and the slot has its totals
  unfoldable pub is_child : (ℕ → Node) → ℕ → ℕ → ℕ → List ℕ → Bool
  is_child area count k i x =
      let n = area (child x) in
      ltb (child x) count && eqb n.parent k && eqb n.at i && in_views K (λ v. eqb (length_in v x) (total v (used n)))

  unfoldable pub is_inner : ℕ → Bool
  is_inner k =
      let n = inner_in (stride K) t k in
      let d = depth_of k in
      let lowest = eqb d t.head.levels in
      leb 1 d && leb d t.head.levels && is_filled (least_inner (stride K) t k) n
      && cond (eqb k t.head.root.0) (eqb n.parent none && eqb n.at 0) (is_held k n)
      && every (λ i. is_child (cond lowest (leaf_in (stride K) t) (inner_in (stride K) t)) (cond lowest t.head.leaves t.head.inners) k i (get_or n.slots i [])) 0 n.len

  -- slot i of leaf k: its id is below the count, lives here, and stands in no earlier slot; its line ends aren't too many, nor its bounds crossed
  unfoldable pub is_entry : ℕ → Node → ℕ → Bool
  is_entry k n i =
      let x = get_or n.slots i [] in
      ltb (child x) t.head.entries && eqb (get_or t.homes (child x) 0) k && not (too_many_lines K (lengths x)) && not (crossed K (lengths x)) && every (is_other n (child x)) 0 i

  unfoldable pub is_leaf : ℕ → Bool
  is_leaf k =
      let n = leaf_in (stride K) t k in
      is_filled (least_leaf (stride K) t) n && is_held k n && eqb (depth_of n.parent) t.head.levels && every (is_entry k n) 0 n.len

  -- the finger's sums against those that the links give
  abbrev pub leaf_start : ℕ → Node → Result ℕ Broken
  leaf_start v n = rank_up (shape_of K t.head) v t.head.levels n.parent n.at 0 t.inners

  unfoldable pub is_finger : Finger → Bool
  is_finger f =
      let n = leaf_in (stride K) t f.leaf in
      ltb f.view K.views && ltb f.leaf t.head.leaves && ltb f.slot n.len
      && is_sum f.start (leaf_start f.view n) && is_sum f.effect (leaf_start K.effect n)
      && eqb f.within (start f.view f.slot n) && eqb f.effect_within (start K.effect f.slot n)
      && is_sum f.prepare (leaf_start prepare n) && eqb f.prepare_within (start prepare f.slot n)

  abbrev pub is_held_finger : Option Finger → Bool
  is_held_finger None = true
  is_held_finger (Some f) = is_finger f

  -- the head: counts within limit, levels, the root in use; then every node in use; as many slots in use as entries; totals within u32; the finger
  unfoldable pub is_sound : Bool
  is_sound =
      let h = t.head in
      let g = shape_of K h in
      leb h.entries h.limit && leb h.leaves g.nodes && leb h.inners g.nodes && leb 1 h.levels && leb h.levels 15 && ltb h.root.0 h.inners
      && every is_inner 0 h.inners && every is_leaf 0 h.leaves
      && eqb (sum_by (λ k. (leaf_in (stride K) t k).len) (range 0 h.leaves)) h.entries
      && in_views K (λ v. leb (total_of K t v) 4294967295) && is_held_finger h.finger

-- never 9: no link is followed before it is tested
unfoldable pub audit : Kind → State → Numbered Bool
audit K t =
    unless (area_causes K t.head.fan t.head.limit t.leaves t.inners t.homes) Err (cond (is_sound K t) (Ok true) (Ok false))
