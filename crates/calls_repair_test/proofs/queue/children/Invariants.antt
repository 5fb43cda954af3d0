-- Each turn notes one child more; a child that can't be noted ends the loop with what the rest would leave.
use mathlib.Core.Path.{◌≡◌}
use mathlib.Core.Bool.{true}
use Prim.Native.Nat.{◌-◌, ◌≤◌}
use lib.ListN.{length, drop}
use Rattle.calls_repair_test.specs.Queue.{queue, noted_all, kids_of}
use Rattle.calls_repair_test.proofs.queue.children.Given as goal

abbrev pub invariant-loop-i : goal.invariant-loop-i
invariant-loop-i l = (l.i ≤ l.len) × (length l.order ≡ length l.initial.order) × (length l.marks ≡ length l.initial.marks) ×
    (noted_all l.n l.most (drop l.i (kids_of l.g l.inners l.k)) (queue true l.noted l.order l.marks) ≡ noted_all l.n l.most (kids_of l.g l.inners l.k) (queue true l.count l.initial.order l.initial.marks))
