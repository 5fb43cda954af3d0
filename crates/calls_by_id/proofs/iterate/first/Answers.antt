-- `calls_by_id::iterate::first`: the cursor of the first entry, then the id there.
use Rattle.std.proofs.Common.{refl, ap, ◌∙◌}
use Rattle.model.specs.Numbered.{Numbered}
use Rattle.model.specs.Row.{moved}
use Rattle.model.specs.Answer.{named_answer}
use Rattle.model.specs.State.{State, state}
use Rattle.model.specs.declared.number.EntryId.{EntryId}
use Rattle.model_laws.specs.Handed.{handed}
use Rattle.calls_by_id.proofs.ReadLaws.{first_stops, first_goes}
use Rattle.calls_by_id.proofs.iterate.first.Goals as goal

pub returns-in_err-c : goal.returns-in_err-c
returns-in_err-c c =
    let a = c.args in
    ap (λ (x : Numbered EntryId). moved {S = State} (state a.head a.leaves.now a.inners.now a.homes.now) (named_answer x)) (handed _ _ c.from_residual.ensures.1)
    ∙ first_stops _ _ c.in_err-c.ensures _ refl

pub returns : goal.returns
returns c = first_goes _ _ c.in_ok-c.ensures _ refl _ c.id.ensures
