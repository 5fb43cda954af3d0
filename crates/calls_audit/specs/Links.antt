-- The tests of links over the words of the areas, with the sizes g and the counts as numbers. Assumes nothing.
use Rattle.std.specs.Prelude.{Bool, cond, not, ◌&&◌, List, [], ℕ, zero, suc, ◌-◌, get_or, ltb, leb, eqb}
use Rattle.model.specs.Kind.{kind_of, too_many_lines, crossed}
use Rattle.model.specs.Node.{none, child, lengths, length_in, total, used}
use Rattle.model.specs.State.{node_at}
use Rattle.model.specs.Audit.{every, is_other}
use Rattle.model.specs.declared.shape.Shape.{Shape}
use Rattle.model.specs.declared.head.Head.{Head}

-- how many inner nodes stand from the root down to node k; more than n where a climb of n links doesn't end at the root's missing parent
unfoldable pub depth_by : Shape → ℕ → List ℕ → ℕ → ℕ → ℕ
depth_by g count xs zero k = cond (eqb k none) 0 1
depth_by g count xs (suc n) k = cond (eqb k none) 0 (cond (ltb k count) (suc (depth_by g count xs n (node_at g k xs).parent)) (suc (suc n)))

-- inner node p holds k in its slot a
unfoldable pub held_by : Shape → ℕ → List ℕ → ℕ → ℕ → ℕ → Bool
held_by g count xs k p a =
    let m = node_at g p xs in
    ltb p count && ltb a m.len && leb m.len g.fan && eqb (child (get_or m.slots a [])) k

-- slot i of inner node k has the totals of node c of ws, in every view that a slot has
unfoldable pub totals_by : Shape → List ℕ → List ℕ → ℕ → ℕ → ℕ → Bool
totals_by g ws xs k i c = every (λ v. eqb (length_in v (get_or (node_at g k xs).slots i [])) (total v (used (node_at g c ws)))) 0 (g.stride - 1)

-- the child in slot i of inner node k is a node of ws
unfoldable pub child_by : Shape → ℕ → List ℕ → List ℕ → ℕ → ℕ → Bool
child_by g count ws xs k i =
    let x = get_or (node_at g k xs).slots i [] in
    let n = node_at g (child x) ws in
    ltb (child x) count && eqb n.parent k && eqb n.at i && totals_by g ws xs k i (child x)

-- inner node k stands where it must
unfoldable pub root_by : Shape → Head → List ℕ → ℕ → Bool
root_by g h xs k =
    let n = node_at g k xs in
    cond (eqb k h.root.0) (eqb n.parent none && eqb n.at 0) (held_by g h.inners xs k n.parent n.at)

-- the id in slot i of leaf k is below the count, lives here, and stands in no earlier slot; its line ends aren't too many, nor its bounds crossed
unfoldable pub entry_by : Shape → Bool → ℕ → List ℕ → List ℕ → ℕ → ℕ → Bool
entry_by g ordered count ls hs k i =
    let n = node_at g k ls in
    let x = get_or n.slots i [] in
    let K = kind_of (g.stride - 1) 0 ordered in
    ltb (child x) count && eqb (get_or hs (child x) 0) k && not (too_many_lines K (lengths x)) && not (crossed K (lengths x)) && every (is_other n (child x)) 0 i
