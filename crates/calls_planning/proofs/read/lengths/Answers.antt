-- `calls_planning::read::lengths`: the cursor of the entry, then the lengths there.
use Rattle.std.proofs.Common.{refl, ap, ◌∙◌}
use Rattle.model.specs.Numbered.{Numbered}
use Rattle.model.specs.Row.{moved}
use Rattle.model.specs.State.{State, state}
use Rattle.model_laws.specs.Handed.{handed}
use Rattle.calls_planning.specs.declared.bounds.Bounds.{Bounds}
use Rattle.calls_planning.specs.Bounds.{ranged_answer}
use Rattle.calls_planning.proofs.Laws.{lengths_stops, lengths_goes}
use Rattle.calls_planning.proofs.read.lengths.Goals as goal

pub returns-in_err-c : goal.returns-in_err-c
returns-in_err-c c =
    let a = c.args in
    ap (λ (x : Numbered Bounds). moved {S = State} (state a.head a.leaves.now a.inners.now a.homes.now) (ranged_answer x)) (handed _ _ c.from_residual.ensures.1)
    ∙ lengths_stops _ _ _ (c.in_err-c.ensures 1) _ refl

pub returns : goal.returns
returns c = lengths_goes _ _ _ (c.in_ok-c.ensures 1) _ refl _ c.lengths_of.ensures
