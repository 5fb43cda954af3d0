-- `calls_reading::change::insert`: the call by id at any width, with one length.
use mathlib.Core.Path.{refl, ◌∙◌}
use native.Mathlib.Omega.{arith}
use Rattle.calls_reading.proofs.Laws.{as_step}
use Rattle.calls_reading.proofs.change.insert.Goals as goal

pub returns : goal.returns
returns c = c.insert.ensures ∙ as_step _ _ refl
