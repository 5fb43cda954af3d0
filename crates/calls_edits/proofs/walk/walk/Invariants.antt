-- `calls_edits::walk::walk`: the walk from here on makes of these marks what the whole walk makes of the first.
use Rattle.std.proofs.Common.{◌≡◌}
use Rattle.calls_edits.specs.Walk.{walked}
use Rattle.calls_edits.proofs.walk.walk.Given as goal

abbrev pub invariant-loop-k : goal.invariant-loop-k
invariant-loop-k l = walked l.file l.k l.marks ≡ walked l.file l.n l.initial.marks
