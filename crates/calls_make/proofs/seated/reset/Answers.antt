-- `calls_make::seated::reset`: the tree is begun anew, and its charges cleared by the answer.
use Rattle.std.proofs.Common.{[], ◌∷◌, refl, ap, ◌∙◌, arith}
use Rattle.model.specs.Kind.{base}
use Rattle.model.specs.Length.{list_of}
use Rattle.model.specs.State.{state}
use Rattle.model.specs.Calls as calls
use Rattle.model.specs.declared.length.Slot.{Slot}
use Rattle.tree_seats.specs.Words.{seats_from}
use Rattle.calls_make.proofs.SeatedLaws.{reset_reply}
use Rattle.calls_make.proofs.seated.reset.Goals as goal

pub reset-r-requires : goal.reset-r-requires
reset-r-requires c =
    let new = c.new-slot in
    (omega arith, omega arith, ap (λ (z : Slot). z.child) new.ensures, refl)

pub returns : goal.returns
returns c =
    let a = c.args in
    let s = state a.head a.leaves.now a.inners.now a.homes.now in (
      reset_reply s (seats_from a.seats.now) (list_of a.lengths) _ _ _ (c.reset-r.ensures 1 ∙ ap (λ (z : Slot). calls.reset base s (z.prepare_len ∷ z.effect_len ∷ z.line_ends ∷ [])) c.new-slot.ensures) c.clear_for.ensures.0,
      c.clear_for.ensures.1,
    )
