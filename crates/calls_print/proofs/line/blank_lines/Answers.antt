-- `calls_print::line::blank_lines`: each turn writes one of the lines that are left.
use Rattle.std.proofs.Common.{◌≡◌, ◌+◌, ◌-◌, ◌*◌, ◌∙◌, arith}
use Rattle.calls_print.proofs.LineLaws.{one_line, no_line}
use Rattle.calls_print.proofs.line.blank_lines.Goals as goal

pub loop-i-preserved : goal.loop-i-preserved
loop-i-preserved c =
    let a = c.args in
    let l = c.loop-i in
    let place : a.at + 55 * (l.i + 1) ≡ a.at + 55 * l.i + 55 = omega arith in
    let less : a.n - (l.i + 1) ≡ a.n - l.i - 1 = omega arith in (
      c.blank_line.auto.page ∙ l.invariant.0,
      rw (place, less) (one_line (a.at + 55 * l.i) (a.n - l.i) _ _ _ (omega arith) (omega (arith, l.invariant.0, c.requires)) c.blank_line.ensures l.invariant.1),
    )

pub returns : goal.returns
returns c = no_line (c.args.at + 55 * c.loop-i.i) (c.args.n - c.loop-i.i) _ _ (omega arith) c.loop-i.invariant.1
