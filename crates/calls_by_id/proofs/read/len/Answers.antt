-- `calls_by_id::read::len`: the count of a tree of any kind, with three lengths an entry.
use mathlib.Core.Path.{◌∙◌}
use Rattle.calls_by_id.proofs.ReadLaws.{count_step}
use Rattle.calls_by_id.proofs.read.len.Goals as goal

pub returns : goal.returns
returns c = c.len.ensures 1 ∙ count_step _
