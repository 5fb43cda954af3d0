-- `calls_print::line::glyph`: the cases are those of the definition.
use Rattle.std.proofs.Common.{arith}
use Rattle.std.proofs.lemmas.Grind.{common_steps}
use Rattle.calls_print.specs.Columns.{glyph}
use Rattle.calls_print.proofs.line.glyph.Goals as goal

pub returns-then-w-ne9 : goal.returns-then-w-ne9
unfolding glyph
returns-then-w-ne9 c = grind (arith, common_steps)

pub returns-else-m-eq0 : goal.returns-else-m-eq0
unfolding glyph
returns-else-m-eq0 c = grind (arith, common_steps)
