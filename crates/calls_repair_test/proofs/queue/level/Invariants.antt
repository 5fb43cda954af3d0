-- Each turn notes the children of one node more; the part of the queue that is read stays, for what is noted comes behind it.
use Prim.Native.Nat.{◌-◌}
use Rattle.calls_repair_test.specs.Queue.{kids_of}
use Rattle.calls_repair_test.proofs.QueueLaws.{QueueLeft}
use Rattle.calls_repair_test.proofs.queue.level.Given as goal

abbrev pub invariant-loop-j : goal.invariant-loop-j
invariant-loop-j l = QueueLeft (kids_of l.g l.inners) l.n l.most l.start l.end l.j l.count l.noted l.initial.order l.initial.marks l.order l.marks
