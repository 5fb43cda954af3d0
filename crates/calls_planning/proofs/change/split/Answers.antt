-- `calls_planning::change::split`: the call by id at any width, with two ordered lengths.
use mathlib.Core.Path.{refl, ◌∙◌}
use native.Mathlib.Omega.{arith}
use Rattle.calls_planning.proofs.Laws.{split_plan}
use Rattle.calls_planning.proofs.change.split.Goals as goal

pub returns : goal.returns
returns c = c.split_entry.ensures 1 ∙ split_plan _ _ _ _
