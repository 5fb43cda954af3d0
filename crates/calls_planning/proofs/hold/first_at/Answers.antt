-- `calls_planning::hold::first_at`: the entry that holds the position in the highest lengths.
use mathlib.Core.Path.{◌∙◌}
use native.Mathlib.Omega.{arith}
use Rattle.calls_planning.proofs.Laws.{first_plan}
use Rattle.calls_planning.proofs.hold.first_at.Goals as goal

pub returns : goal.returns
returns c = c.held.ensures ∙ first_plan _ _
