-- `calls_planning::read::latest`: the position in the highest lengths.
use mathlib.Core.Path.{◌∙◌}
use native.Mathlib.Omega.{arith}
use Rattle.calls_planning.proofs.Laws.{latest_plan}
use Rattle.calls_planning.proofs.read.latest.Goals as goal

pub returns : goal.returns
returns c = c.rank.ensures 1 ∙ latest_plan _ _
