-- `calls_size::size::unnumbered`: a refusal is handed on, a number dropped.
use Rattle.std.proofs.Common.{sym, ap, ◌∙◌}
use Rattle.std.specs.Result.{result_from_control_flow}
use Rattle.model.specs.Numbered.{numbered}
use Rattle.model_laws.specs.Handed.{handed}
use Rattle.calls_size.specs.Size.{unnumbered}
use Rattle.calls_size.proofs.size.unnumbered.Goals as goal

pub returns-in_err-answer : goal.returns-in_err-answer
returns-in_err-answer c =
    handed _ _ c.from_residual.ensures.1
    ∙ ap (λ a. unnumbered (numbered a)) (sym (c.branch-answer.ensures ∙ ap result_from_control_flow c.in_err-answer.is))

pub returns : goal.returns
returns c = ap (λ a. unnumbered (numbered a)) (sym (c.branch-answer.ensures ∙ ap result_from_control_flow c.in_ok-answer.is))
