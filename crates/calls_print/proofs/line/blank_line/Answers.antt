-- `calls_print::line::blank_line`: the part that is filled is 54 blanks; the line feed comes behind them.
use Rattle.calls_print.proofs.LineLaws.{blanked}
use Rattle.calls_print.proofs.line.blank_line.Goals as goal

pub returns : goal.returns
returns c =
    let f = c.fill.ensures in
    blanked c.args.at c.args.page.now c.fill.new.self c.requires f.len (f.after (λ y e. e))
