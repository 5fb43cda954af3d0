-- `calls_print::line::line`: the five fields are written, and the line feed over the last blank.
use Rattle.calls_print.proofs.LineLaws.{line_is}
use Rattle.calls_print.proofs.line.line.Goals as goal

pub returns : goal.returns
returns c = line_is _ _ _ _ _ _ _ _ c.requires c.fields.ensures
