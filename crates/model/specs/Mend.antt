-- What repair tests and writes (document 02, CR 13), each word as a function of the trusted ones. What this comes to is said in Repair.antt and
-- proved, so that nothing here has to be believed. s is the words of a slot. Assumes nothing.
use Rattle.std.specs.Prelude.{Bool, true, not, cond, ◌&&◌, ℕ, zero, suc, ◌-◌, length, get_or, drop, set, replicate, ltb, leb, eqb, None}
use mathlib.Core.List.{List, [], ◌∷◌, ◌++◌, map, flat_map}
use Rattle.model.specs.Lists.{sum_by, times, range}
use Rattle.model.specs.Kind.{stride, too_many_lines, crossed}
use Rattle.model.specs.declared.shape.Kind.{Kind}
use Rattle.model.specs.Node.{Node, node, none, child, lengths, total, used, empty_slots}
use Rattle.model.specs.State.{State, state, put_node}
use Rattle.model.specs.Place.{with_finger}
use Rattle.model.specs.Sound.{until, shape_in, leaf_in, inner_in, level, inners_reached, leaves_reached, slots_in, least_leaf, least_inner}
use Rattle.model.specs.Audit.{every}
use Rattle.model.specs.declared.shape.Shape.{Shape}
use Rattle.model.specs.declared.head.Head.{Head}

abbrev pub no_finger : Head → Head
no_finger h = with_finger None h

-- where a number stands -----------------------------------------------------------------------------------------------------------------------

-- the first of some nodes whose children hold c, and the place there; none and 0 if there is no such node
unfoldable pub holder : (ℕ → List ℕ) → List ℕ → ℕ → ℕ × ℕ
holder kids [] c = (none, 0)
holder kids (p ∷ ps) c = cond (ltb 0 (times c (kids p))) (p, length (until c (kids p))) (holder kids ps c)

-- the first of n levels from level d on in which k stands
unfoldable pub depth_from : (ℕ → List ℕ) → ℕ → ℕ → ℕ → ℕ
depth_from level d zero k = d
depth_from level d (suc n) k = cond (ltb 0 (times k (level d))) d (depth_from level (suc d) n k)

-- whether each number of a list is below n and unmarked when its turn comes
unfoldable pub fresh : ℕ → List ℕ → List ℕ → Bool
fresh n [] m = true
fresh n (k ∷ ks) m = ltb k n && eqb (get_or m k 0) 0 && fresh n ks (set m k 1)

-- whether the numbers below n stand in a list once each, and no others
abbrev pub is_once : ℕ → List ℕ → Bool
is_once n ks = fresh n ks (replicate n 0) && eqb (length ks) n

-- nodes written one after the other ------------------------------------------------------------------------------------------------------------

-- the first n nodes of an area
unfoldable pub put_all : Shape → (ℕ → Node) → ℕ → List ℕ → List ℕ
put_all g f zero area = area
put_all g f (suc n) area = put_node g n (f n) (put_all g f n area)

-- some nodes of an area, the last of the list first
unfoldable pub put_each : Shape → (ℕ → Node) → List ℕ → List ℕ → List ℕ
put_each g f [] area = area
put_each g f (k ∷ ks) area = put_node g k (f k) (put_each g f ks area)

module _ (s : ℕ) (t : State) where
  -- the children of an inner node, the ids in a leaf
  abbrev pub kids : ℕ → List ℕ
  kids p = map child (used (inner_in s t p))

  abbrev pub ids_in : ℕ → List ℕ
  ids_in k = map child (used (leaf_in s t k))

  -- the parent of a leaf and its place there; those of an inner node, none and 0 for the root
  abbrev pub leaf_link : ℕ → ℕ × ℕ
  leaf_link k = holder kids (level s t (t.head.levels - 1)) k

  abbrev pub uppers : List ℕ
  uppers = flat_map (level s t) (range 0 (t.head.levels - 1))

  abbrev pub inner_link : ℕ → ℕ × ℕ
  inner_link k = holder kids uppers k

  -- the leaf of an entry
  abbrev pub home_of : ℕ → ℕ
  home_of id = (holder ids_in (leaves_reached s t) id).0

  -- how far below the root an inner node stands
  abbrev pub depth_at : ℕ → ℕ
  depth_at k = depth_from (level s t) 0 t.head.levels k

  -- the lengths of all entries below a node that has n levels of inner nodes in and below it
  unfoldable pub deep : ℕ → ℕ → ℕ → ℕ
  deep zero v c = total v (used (leaf_in s t c))
  deep (suc n) v c = sum_by (deep n v) (kids c)

  -- a child and its sums
  abbrev pub slot_over : ℕ → ℕ → List ℕ
  slot_over n c = c ∷ map (λ v. deep n v c) (range 0 (s - 1))

  abbrev pub slots_over : ℕ → List (List ℕ)
  slots_over k = map (slot_over (t.head.levels - suc (depth_at k))) (kids k)

  -- a node with parent, place, sums and unused slots put right
  abbrev pub leaf_anew : ℕ → Node
  leaf_anew k = node (leaf_in s t k).len (leaf_link k).0 (leaf_link k).1 (used (leaf_in s t k) ++ empty_slots s (t.head.fan - (leaf_in s t k).len))

  abbrev pub inner_anew : ℕ → Node
  inner_anew k = node (inner_in s t k).len (inner_link k).0 (inner_link k).1 (slots_over k ++ empty_slots s (t.head.fan - (inner_in s t k).len))

  -- every node in use and every entry's home written anew, the finger dropped
  unfoldable pub mend : State
  mend =
      state (no_finger t.head) (put_all (shape_in s t) leaf_anew t.head.leaves t.leaves) (put_each (shape_in s t) inner_anew (inners_reached s t) t.inners)
      (map home_of (range 0 t.head.entries) ++ drop t.head.entries t.homes)

  -- what soundness asks of the trusted words -----------------------------------------------------------------------------------------------------

  abbrev pub is_counted : Bool
  is_counted =
      leb t.head.entries t.head.limit && leb t.head.leaves (shape_in s t).nodes && leb t.head.inners (shape_in s t).nodes
      && leb 1 t.head.levels && leb t.head.levels 15

  abbrev pub is_long : ℕ → Node → Bool
  is_long least n = leb least n.len && leb n.len t.head.fan

  abbrev pub is_within : ℕ → Bool
  is_within v = leb (total v (slots_in s t (leaves_reached s t))) 4294967295

-- what a leaf slot's lengths must be
abbrev pub is_fit_slot : Kind → List ℕ → Bool
is_fit_slot K x = not (too_many_lines K (lengths x)) && not (crossed K (lengths x))

module _ (K : Kind) (t : State) where
  abbrev pub is_fit_leaf : ℕ → Bool
  is_fit_leaf k =
      let n = leaf_in (stride K) t k in
      is_long (stride K) t (least_leaf (stride K) t) n && every (λ i. is_fit_slot K (get_or n.slots i [])) 0 n.len

  abbrev pub is_fit_inner : ℕ → Bool
  is_fit_inner k = is_long (stride K) t (least_inner (stride K) t k) (inner_in (stride K) t k)

  unfoldable pub is_fit : Bool
  is_fit =
      is_counted (stride K) t && every is_fit_inner 0 t.head.inners && every is_fit_leaf 0 t.head.leaves
      && is_once t.head.inners (inners_reached (stride K) t) && is_once t.head.leaves (leaves_reached (stride K) t)
      && is_once t.head.entries (map child (slots_in (stride K) t (leaves_reached (stride K) t))) && every (is_within (stride K) t) 0 K.views
