-- Each turn notes a level more, which are the children of the level that the turn before noted.
use Prim.Native.Nat.{◌-◌}
use lib.ListN.{get_or}
use Rattle.calls_repair_test.specs.Queue.{kids_of}
use Rattle.calls_repair_test.proofs.LevelLaws.{Deep}
use Rattle.calls_repair_test.proofs.queue.below.Given as goal

abbrev pub invariant-loop : goal.invariant-loop
invariant-loop l = Deep (kids_of l.g l.inners) (get_or l.initial.order 0 0) l.n l.levels l.initial.order l.initial.marks l.counter l.start l.end l.order l.marks
