-- `rowrun::run`: fewer than sixteen bytes are kept from one block to the next.
use Rattle.rowrun.proofs.TurnLaws.{kept_of}
use Rattle.rowrun.proofs.run.Goals as goal

pub loop-preserved : goal.loop-preserved
loop-preserved c = kept_of _ _ _ _ _ _ _ _ _ _ c.turn.ensures _ _ c.in-Some.is
