-- `calls_by_id::any::len`: fan, limit and areas are tested as in every call that is lent areas, then it is the count of the tree.
use Rattle.std.proofs.Common.{ℕ, refl, ap, ◌∙◌}
use Rattle.model.specs.Numbered.{Numbered}
use Rattle.model.specs.Kind.{kind}
use Rattle.model.specs.Row.{moved}
use Rattle.model.specs.Answer.{number_answer}
use Rattle.model.specs.State.{State, state}
use Rattle.model_laws.specs.Handed.{handed}
use Rattle.calls_by_id.proofs.ReadLaws.{count_refused, count_good}
use Rattle.calls_by_id.proofs.any.len.Goals as goal

pub returns-in_err-open_areas : goal.returns-in_err-open_areas
returns-in_err-open_areas c effect =
    let a = c.args in
    let t = state a.head a.leaves.now a.inners.now a.homes.now in
    ap (λ (x : Numbered ℕ). moved {S = State} t (number_answer x)) (handed _ _ c.from_residual.ensures.1)
    ∙ count_refused (kind a.views effect) t _ (c.in_err-open_areas.ensures effect) _ refl

pub returns : goal.returns
returns c effect =
    let a = c.args in count_good (kind a.views effect) (state a.head a.leaves.now a.inners.now a.homes.now) _ (c.in_ok-open_areas.ensures effect) _ refl _ c.len.ensures
