-- `calls_reading::read::compare`: the order at any width, with one length.
use mathlib.Core.Path.{refl, ◌∙◌}
use native.Mathlib.Omega.{arith}
use Rattle.calls_reading.proofs.Laws.{as_step}
use Rattle.calls_reading.proofs.read.compare.Goals as goal

pub returns : goal.returns
returns c = c.cmp.ensures 0 ∙ as_step _ _ refl
