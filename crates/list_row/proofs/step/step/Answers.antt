-- `list_row::step::step`: too many line ends first, then the entries that the call names, then the call there.
use mathlib.Core.Path.{sym, ap, ◌∙◌}
use Rattle.std.specs.Prelude.{Err}
use Rattle.model.specs.Numbered.{numbered}
use Rattle.list_row.proofs.StepLaws.{step_overlong, step_refused, step_at}
use Rattle.list_row.proofs.step.step.Goals as goal

pub returns-then-is_overlong : goal.returns-then-is_overlong
returns-then-is_overlong c =
    step_overlong _ _ (sym c.is_overlong.ensures ∙ c.if-is_overlong.true) _ c.refuse.ensures

pub returns-in-Err : goal.returns-in-Err
returns-in-Err c =
    step_refused _ _ (sym c.is_overlong.ensures ∙ c.if-is_overlong.false) _ c.ids_of.ensures _ c.find.ensures _ (ap numbered c.in-Err.is ∙ ap Err (sym c.number.ensures)) _ c.refuse-in-Err.ensures

pub returns-in-Ok : goal.returns-in-Ok
returns-in-Ok c =
    step_at _ _ (sym c.is_overlong.ensures ∙ c.if-is_overlong.false) _ c.ids_of.ensures _ c.find.ensures _ _ (ap numbered c.in-Ok.is) _ c.call_at.ensures
