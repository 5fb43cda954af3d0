-- `calls_reading::read::next`: the entry after it at any width, with one length.
use mathlib.Core.Path.{refl, ◌∙◌}
use native.Mathlib.Omega.{arith}
use Rattle.calls_reading.proofs.Laws.{as_step}
use Rattle.calls_reading.proofs.read.next.Goals as goal

pub returns : goal.returns
returns c = c.next.ensures 0 ∙ as_step _ _ refl
