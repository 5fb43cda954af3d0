-- `calls_print::line::fields`: each turn writes the first of the numbers that are left, and the blank behind it.
use Rattle.std.proofs.Common.{◌∙◌, arith, length-set}
use Rattle.calls_print.proofs.LineLaws.{one_field, no_field}
use Rattle.calls_print.proofs.line.fields.Goals as goal

pub loop-n-preserved : goal.loop-n-preserved
loop-n-preserved c =
    let the-loop = c.loop-n in
    let pre = c.requires in (
      omega (arith, the-loop.invariant.0),
      length-set c.column.new.page _ _ ∙ c.column.auto.page ∙ the-loop.invariant.1,
      one_field the-loop.p the-loop.n-index c.args.numbers.now the-loop.page c.column.new.page _ (omega arith) (omega (arith, the-loop.invariant.0, the-loop.invariant.1, pre.0, pre.1)) c.column.ensures the-loop.invariant.2,
    )

pub returns : goal.returns
returns c = no_field c.loop-n.p c.loop-n.n-index c.args.numbers.now _ _ (omega arith) c.loop-n.invariant.2
