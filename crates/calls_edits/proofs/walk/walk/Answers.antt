-- `calls_edits::walk::walk`: the walk from here on makes of these marks what the whole walk makes of the first.
use Rattle.std.proofs.Common.{arith}
use Rattle.calls_edits.proofs.WalkLaws.{walk_turn, walk_none}
use Rattle.calls_edits.proofs.walk.walk.Goals as goal

pub loop-k-preserved : goal.loop-k-preserved
loop-k-preserved c = walk_turn _ _ _ _ _ (omega arith) c.step.ensures c.loop-k.invariant

pub returns : goal.returns
returns c = walk_none _ _ _ _ (omega arith) c.loop-k.invariant
