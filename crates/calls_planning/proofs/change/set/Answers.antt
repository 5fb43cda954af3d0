-- `calls_planning::change::set`: the call by id at any width, with two ordered lengths.
use mathlib.Core.Path.{refl, ◌∙◌}
use native.Mathlib.Omega.{arith}
use Rattle.calls_planning.proofs.Laws.{set_plan}
use Rattle.calls_planning.proofs.change.set.Goals as goal

pub returns : goal.returns
returns c = c.set_lengths.ensures ∙ set_plan _ _ _
