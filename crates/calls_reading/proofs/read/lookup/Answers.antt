-- `calls_reading::read::lookup`: the lookup at any width, with one length.
use mathlib.Core.Path.{refl, ◌∙◌}
use native.Mathlib.Omega.{arith}
use Rattle.calls_reading.proofs.Laws.{as_step}
use Rattle.calls_reading.proofs.read.lookup.Goals as goal

pub returns : goal.returns
returns c = c.locate.ensures ∙ as_step _ _ refl
