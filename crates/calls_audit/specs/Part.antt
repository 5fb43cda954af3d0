-- The finger's two sums in one view, and those in effect and in prepare, against those that the links give. Assumes nothing.
use Rattle.std.specs.Prelude.{Bool, ◌&&◌, List, ℕ, eqb}
use Rattle.model.specs.Kind.{prepare}
use Rattle.model.specs.Node.{Node, start}
use Rattle.model.specs.State.{node_at}
use Rattle.model.specs.Climb.{rank_up}
use Rattle.model.specs.Audit.{is_sum}
use Rattle.model.specs.declared.shape.Shape.{Shape}
use Rattle.model.specs.declared.head.Finger.{Finger}

-- leaf n starts at a in view v, and b stands before that slot of it
abbrev pub part_by : Shape → ℕ → ℕ → Node → ℕ → ℕ → ℕ → List ℕ → Bool
part_by g levels v n slot a b xs = is_sum a (rank_up g v levels n.parent n.at 0 xs) && eqb b (start v slot n)

-- the finger's leaf starts there in view e and in prepare, and that much stands before its slot
abbrev pub beside_by : Shape → ℕ → ℕ → Finger → List ℕ → List ℕ → Bool
beside_by g levels e f ls xs =
    let n = node_at g f.leaf ls in
    part_by g levels e n f.slot f.effect f.effect_within xs && part_by g levels prepare n f.slot f.prepare f.prepare_within xs
