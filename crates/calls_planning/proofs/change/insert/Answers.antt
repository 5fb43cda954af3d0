-- `calls_planning::change::insert`: the call by id at any width, with two ordered lengths, positions answered in the highest.
use mathlib.Core.Path.{refl, ◌∙◌}
use native.Mathlib.Omega.{arith}
use Rattle.calls_planning.proofs.Laws.{insert_plan}
use Rattle.calls_planning.proofs.change.insert.Goals as goal

pub returns : goal.returns
returns c = c.insert.ensures ∙ insert_plan _ _ _
