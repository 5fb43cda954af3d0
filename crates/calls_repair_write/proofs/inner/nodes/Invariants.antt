-- Each turn does the node before those that are done, whose children are leaves or stand behind it.
use mathlib.Core.Path.{◌≡◌}
use Prim.Native.Nat.{◌-◌, ◌*◌, ◌≤◌}
use lib.ListN.{length}
use Rattle.calls_repair_write.specs.Toward.{Goal}
use Rattle.calls_repair_write.specs.Nodes.{NodesGoal, NodesDone}
use Rattle.calls_repair_write.proofs.inner.nodes.Given as goal

abbrev pub invariant-loop-j : goal.invariant-loop-j
invariant-loop-j l = (l.j ≤ l.n) × (l.count ≤ 320 * (l.n - l.j)) × (length l.leaves ≡ length l.initial.leaves) ×
    (length l.inners ≡ length l.initial.inners) × ((m : Goal) → NodesGoal l.g l.order l.last l.n m l.initial.leaves l.initial.inners → NodesDone l.g l.order l.last l.n m l.j l.initial.leaves l.initial.inners l.count l.leaves l.inners)
