-- `calls_reading::make::reset`: the call at any width, with one length.
use mathlib.Core.Path.{refl}
use native.Mathlib.Omega.{arith}
use Rattle.calls_reading.proofs.Laws.{reset_step}
use Rattle.calls_reading.proofs.make.reset.Goals as goal

pub returns : goal.returns
returns c = reset_step _ _ _ _ (c.reset.ensures 0)
