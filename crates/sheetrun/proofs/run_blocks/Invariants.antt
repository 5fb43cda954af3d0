-- `sheetrun::run_blocks`: the tree stands for a row that calls make of the door's, block after block, and so when it is printed.
use Rattle.std.proofs.Common.{◌<◌}
use Rattle.model.specs.State.{state}
use Rattle.sheetrun.specs.Turn.{ForRow}
use Rattle.sheetrun.proofs.run_blocks.Given as goal

abbrev pub invariant-loop : goal.invariant-loop
invariant-loop l = record { few : l.kept < 16; for_row : ForRow (state l.after l.leaves l.inners l.homes) }
