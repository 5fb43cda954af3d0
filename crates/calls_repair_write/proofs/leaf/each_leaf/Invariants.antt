-- Each turn does one leaf more.
use mathlib.Core.Path.{◌≡◌}
use Prim.Native.Nat.{◌-◌, ◌*◌, ◌≤◌}
use lib.ListN.{length}
use Rattle.calls_repair_write.specs.Toward.{Goal}
use Rattle.calls_repair_write.specs.Leaves.{LeavesGoal, LeavesDone}
use Rattle.calls_repair_write.proofs.leaf.each_leaf.Given as goal

abbrev pub invariant-loop-k : goal.invariant-loop-k
invariant-loop-k l = (l.k ≤ l.n) × (l.count ≤ 160 * l.k) × (length l.leaves ≡ length l.initial.leaves) × (length l.homes ≡ length l.initial.homes) ×
    ((m : Goal) → LeavesGoal l.g l.n m l.initial.leaves l.initial.homes → LeavesDone l.g l.k m l.initial.leaves l.initial.homes l.count l.leaves l.homes)
