-- `calls_by_id::order::next`: the cursor of the entry, then the call there.
use Rattle.std.proofs.Common.{refl, ap, ◌∙◌}
use Rattle.model.specs.Numbered.{Numbered}
use Rattle.std.specs.Prelude.{Option}
use Rattle.model.specs.declared.number.EntryId.{EntryId}
use Rattle.model.specs.Row.{moved}
use Rattle.calls_by_id.specs.Answer.{following_answer}
use Rattle.model.specs.State.{State, state}
use Rattle.model_laws.specs.Handed.{handed}
use Rattle.calls_by_id.proofs.PlaceLaws.{next_stops, next_goes}
use Rattle.calls_by_id.proofs.order.next.Goals as goal

pub returns-in_err-c : goal.returns-in_err-c
returns-in_err-c c effect =
    let a = c.args in
    ap (λ (x : Numbered (Option EntryId)). moved {S = State} (state a.head a.leaves.now a.inners.now a.homes.now) (following_answer x)) (handed _ _ c.from_residual.ensures.1)
    ∙ next_stops _ _ _ _ (c.in_err-c.ensures effect) _ refl

pub returns : goal.returns
returns c effect = next_goes _ _ _ _ (c.in_ok-c.ensures effect) _ refl _ (c.next.ensures effect)
