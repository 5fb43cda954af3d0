-- `calls_reading::change::split`: the call by id at any width, with one length.
use mathlib.Core.Path.{refl, ◌∙◌}
use native.Mathlib.Omega.{arith}
use Rattle.calls_reading.proofs.Laws.{as_step}
use Rattle.calls_reading.proofs.change.split.Goals as goal

pub returns : goal.returns
returns c = c.split_entry.ensures 0 ∙ as_step _ _ refl
