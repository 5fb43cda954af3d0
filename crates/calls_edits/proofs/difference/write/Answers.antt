-- `calls_edits::difference::write`: what is left to list, written behind what is listed, makes the whole list.
use Rattle.std.proofs.Common.{arith}
use Rattle.calls_edits.proofs.ListLaws.{write_turn, write_all, placed_count}
use Rattle.calls_edits.proofs.difference.write.Goals as goal

pub loop-k-preserved : goal.loop-k-preserved
loop-k-preserved c =
    let the-loop = c.loop-k in
    (omega (arith, placed_count _ _ _ _ _ _ c.put-count.ensures), write_turn _ _ _ _ _ _ _ _ _ c.loop-k-test.true the-loop.invariant.0 (omega arith) c.is_listed-yes.ensures c.put-count.ensures the-loop.invariant.1)

pub returns : goal.returns
returns c = write_all _ _ _ _ _ _ (omega arith) c.loop-k.invariant.1
