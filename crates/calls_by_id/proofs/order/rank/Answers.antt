-- `calls_by_id::order::rank`: the cursor of the entry, then the call there.
use Rattle.std.proofs.Common.{ℕ, refl, ap, ◌∙◌}
use Rattle.model.specs.Numbered.{Numbered}
use Rattle.model.specs.Row.{moved}
use Rattle.model.specs.Answer.{number_answer}
use Rattle.model.specs.State.{State, state}
use Rattle.model_laws.specs.Handed.{handed}
use Rattle.calls_by_id.proofs.PlaceLaws.{rank_stops, rank_goes}
use Rattle.calls_by_id.proofs.order.rank.Goals as goal

pub returns-in_err-c : goal.returns-in_err-c
returns-in_err-c c effect =
    let a = c.args in
    ap (λ (x : Numbered ℕ). moved {S = State} (state a.head a.leaves.now a.inners.now a.homes.now) (number_answer x)) (handed _ _ c.from_residual.ensures.1)
    ∙ rank_stops _ _ _ _ (c.in_err-c.ensures effect) _ _ refl

pub returns : goal.returns
returns c effect = rank_goes _ _ _ _ (c.in_ok-c.ensures effect) _ _ refl _ (c.entry_to_char_index.ensures effect)
