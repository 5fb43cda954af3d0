-- `editrun::run`: the block holds an input, read after read, and so when its list is shown.
use Rattle.editrun.specs.Held.{HoldsInput}
use Rattle.editrun.proofs.run.Given as goal

abbrev pub invariant-loop : goal.invariant-loop
invariant-loop l = HoldsInput l.block l.kept
