-- `calls_planning::make::reset`: the call at any width, with two ordered lengths.
use mathlib.Core.Path.{refl}
use native.Mathlib.Omega.{arith}
use Rattle.calls_planning.proofs.Laws.{reset_plan}
use Rattle.calls_planning.proofs.make.reset.Goals as goal

pub returns : goal.returns
returns c = reset_plan _ _ _ _ (c.reset.ensures 1)
