-- `calls_planning::read::next`: the entry after it on a tree of any kind, with two lengths an entry.
use mathlib.Core.Path.{◌∙◌}
use native.Mathlib.Omega.{arith}
use Rattle.calls_planning.proofs.Laws.{next_plan}
use Rattle.calls_planning.proofs.read.next.Goals as goal

pub returns : goal.returns
returns c = c.next.ensures 1 ∙ next_plan _ _
