-- `calls_planning::make::new`: the call at any width, with two ordered lengths.
use mathlib.Core.Path.{refl, ◌∙◌}
use mathlib.Core.List.{[]}
use native.Mathlib.Omega.{arith}
use Rattle.calls_make.proofs.BeginLaws.{no_more, make_plain}
use Rattle.calls_planning.proofs.make.new.Goals as goal

pub returns : goal.returns
returns c = c.new.ensures 1 [] no_more ∙ make_plain _ _ _ _ _ _ _
