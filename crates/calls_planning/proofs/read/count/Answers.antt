-- `calls_planning::read::count`: the count of a tree of any kind, with two lengths an entry.
use mathlib.Core.Path.{◌∙◌}
use native.Mathlib.Omega.{arith}
use Rattle.calls_planning.proofs.Laws.{count_plan}
use Rattle.calls_planning.proofs.read.count.Goals as goal

pub returns : goal.returns
returns c = c.len.ensures 1 ∙ count_plan _
