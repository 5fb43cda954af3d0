-- `rowrun::run`: fewer than sixteen bytes are kept from one block to the next.
use Rattle.std.proofs.Common.{◌<◌}
use Rattle.rowrun.proofs.run.Given as goal

abbrev pub invariant-loop : goal.invariant-loop
invariant-loop l = l.kept < 16
