-- Each turn writes one home more.
use mathlib.Core.Path.{◌≡◌}
use mathlib.Core.List.{List}
use Prim.Native.Nat.{ℕ, ◌-◌, ◌≤◌}
use lib.ListN.{length}
use Rattle.calls_repair_write.specs.Leaves.{HomesGoal, HomesDone}
use Rattle.calls_repair_write.proofs.leaf.homes_of.Given as goal

abbrev pub invariant-loop-i : goal.invariant-loop-i
invariant-loop-i l = (l.i ≤ l.len) × (l.count ≤ l.i) × (length l.homes ≡ length l.initial.homes) ×
    ((m : List ℕ) → HomesGoal l.g l.k l.len m l.leaves l.initial.homes → HomesDone l.g l.k l.i m l.leaves l.initial.homes l.count l.homes)
