-- `calls_print::line::column`: each turn writes the last column that is left; what is left is the number without its last digit.
use Rattle.std.proofs.Common.{◌∙◌, arith, length-set}
use Rattle.calls_print.proofs.ColumnLaws.{turn, all_columns}
use Rattle.calls_print.proofs.line.column.Goals as goal

pub loop-w-preserved : goal.loop-w-preserved
loop-w-preserved c = (
  length-set c.loop-w.page _ _ ∙ c.loop-w.invariant.0,
  turn _ _ _ _ _ _ (omega arith) (omega (arith, c.loop-w.invariant.0, c.requires)) c.glyph.ensures c.loop-w.invariant.1,
)

pub returns : goal.returns
returns c = all_columns _ _ _ _ _ _ (omega arith) c.ranges.n.fits c.loop-w.invariant.1
