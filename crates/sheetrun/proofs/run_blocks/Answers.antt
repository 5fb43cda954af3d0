-- `sheetrun::run_blocks`: the tree stands for a row that calls make of the door's, block after block, and so when it is printed.
use Rattle.std.proofs.Common.{arith, ap, ◌∙◌}
use Rattle.std.specs.Prelude.{Ok}
use Rattle.sheetrun.proofs.TurnLaws.{door_row_law, kept_of, more_row, end_row}
use Rattle.sheetrun.proofs.run_blocks.Goals as goal

pub loop-init : goal.loop-init
loop-init c = record { few = omega arith; for_row = door_row_law _ c.requires.0 }

pub show-requires : goal.show-requires
show-requires c = (end_row _ _ _ _ _ _ _ _ c.turn.ensures c.loop.invariant.for_row (c.in-Ok-None.is ∙ ap Ok c.in-Ok-None.field-0-is), omega arith)

pub loop-preserved : goal.loop-preserved
loop-preserved c =
    let it = c.loop.invariant in
    record { few = kept_of _ _ _ _ _ _ _ _ c.turn.ensures _ (c.in-Ok-Some.is ∙ ap Ok c.in-Ok-Some.field-0-is); for_row = more_row _ _ _ _ _ _ _ _ c.turn.ensures it.for_row _ (c.in-Ok-Some.is ∙ ap Ok c.in-Ok-Some.field-0-is) }
