-- Each turn puts one slot more right, and its child is the one aimed at, for no right word goes wrong.
use mathlib.Core.Path.{◌≡◌}
use Prim.Native.Nat.{◌-◌, ◌*◌, ◌≤◌}
use lib.ListN.{length}
use Rattle.calls_repair_write.specs.Toward.{Goal}
use Rattle.calls_repair_write.specs.Nodes.{SlotsGoal, SlotsDone}
use Rattle.calls_repair_write.proofs.inner.slots.Given as goal

abbrev pub invariant-loop-i : goal.invariant-loop-i
invariant-loop-i l = (l.i ≤ l.len) × (l.count ≤ 6 * l.i) × (length l.leaves ≡ length l.initial.leaves) × (length l.inners ≡ length l.initial.inners) ×
    ((m : Goal) → SlotsGoal l.g l.lowest l.p l.len m l.initial.leaves l.initial.inners → SlotsDone l.g l.lowest l.p l.i m l.initial.leaves l.initial.inners l.count l.leaves l.inners)
