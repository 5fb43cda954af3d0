-- `calls_planning::read::earliest`: the position in the lowest lengths.
use mathlib.Core.Path.{◌∙◌}
use native.Mathlib.Omega.{arith}
use Rattle.calls_planning.proofs.Laws.{earliest_plan}
use Rattle.calls_planning.proofs.read.earliest.Goals as goal

pub returns : goal.returns
returns c = c.rank.ensures 1 ∙ earliest_plan _ _
