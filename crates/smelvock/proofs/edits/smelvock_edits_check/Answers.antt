-- `smelvock::edits::smelvock_edits_check`: the call's answer as a number.
use Rattle.model.specs.Numbered.{Numbered}
use mathlib.Core.Path.{ap, ◌∙◌}
use Rattle.model.specs.Answer.{outcome_answer}
use Rattle.smelvock.specs.Edits as flat
use Rattle.smelvock.proofs.edits.smelvock_edits_check.Goals as goal

pub returns : goal.returns
unfolding flat.check
returns c = c.outcome_of.ensures ∙ ap (λ (a : Numbered (Unit {0})). (outcome_answer a).number) c.check-a.ensures
