-- `calls_planning::read::lengths_of`: the call at any width; the two lengths stand behind the first of the four words.
use Rattle.std.proofs.Common.{refl, ap, ◌∙◌}
use Rattle.model.specs.Numbered.{Numbered, refusal_number}
use Rattle.model_laws.specs.Handed.{handed}
use Rattle.tree_open.proofs.Refusals.{some_number}
use Rattle.calls_planning.specs.declared.bounds.Bounds.{Bounds}
use Rattle.calls_planning.specs.Bounds.{ranged_answer}
use Rattle.calls_planning.proofs.Laws.{ranged_refused, ranged_good}
use Rattle.calls_planning.proofs.read.lengths_of.Goals as goal

pub returns-in_err-lengths : goal.returns-in_err-lengths
returns-in_err-lengths c =
    ap (λ (x : Numbered Bounds). ranged_answer x) (handed _ _ c.from_residual.ensures.1)
    ∙ ranged_refused _ _ _ c.lengths.new.x (c.in_err-lengths.ensures.0 1) (some_number _)

pub returns : goal.returns
returns c = ranged_good _ _ _ c.lengths.new.x (c.in_ok-lengths.ensures.0 1) refl c.in_ok-lengths.ensures.1
