-- `calls_by_id::order::cmp`: the cursors of both entries, the first one's first, then the call there.
use Rattle.std.proofs.Common.{refl, ap, ◌∙◌}
use Rattle.std.specs.declared.cmp.Ordering.{Ordering}
use Rattle.model.specs.Numbered.{Numbered}
use Rattle.model.specs.Row.{moved}
use Rattle.model.specs.Answer.{compared_answer}
use Rattle.model.specs.State.{State, state}
use Rattle.model_laws.specs.Handed.{handed}
use Rattle.calls_by_id.proofs.PlaceLaws.{compare_stops, compare_second, compare_goes}
use Rattle.calls_by_id.proofs.order.cmp.Goals as goal

pub returns-in_err-a : goal.returns-in_err-a
returns-in_err-a c effect =
    let a = c.args in
    ap (λ (x : Numbered Ordering). moved {S = State} (state a.head a.leaves.now a.inners.now a.homes.now) (compared_answer x)) (handed _ _ c.from_residual.ensures.1)
    ∙ compare_stops _ _ _ _ (c.in_err-a.ensures effect) _ _ refl

pub returns-in_err-b : goal.returns-in_err-b
returns-in_err-b c effect =
    let a = c.args in
    ap (λ (x : Numbered Ordering). moved {S = State} (state a.head a.leaves.now a.inners.now a.homes.now) (compared_answer x)) (handed _ _ c.from_residual-in_err-b.ensures.1)
    ∙ compare_second _ _ _ _ (c.in_ok-a.ensures effect) _ _ refl _ (c.in_err-b.ensures effect) _ refl

pub returns : goal.returns
returns c effect = compare_goes _ _ _ _ (c.in_ok-a.ensures effect) _ _ refl _ (c.in_ok-b.ensures effect) _ refl _ (c.cmp.ensures effect)
