-- `calls_reading::read::rank`: the position at any width, with one length.
use mathlib.Core.Path.{refl, ◌∙◌}
use native.Mathlib.Omega.{arith}
use Rattle.calls_reading.proofs.Laws.{as_step}
use Rattle.calls_reading.proofs.read.rank.Goals as goal

pub returns : goal.returns
returns c = c.rank.ensures 0 ∙ as_step _ _ refl
