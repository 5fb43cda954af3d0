-- `calls_insert::seated::insert`: a bad seat and too many line ends are refused before all else; else the seat decides whether there is space, and is charged for an entry that was made.
use mathlib.Core.Path.{refl, sym, ap, ◌∙◌}
use mathlib.Core.List.{[], ◌∷◌}
use Rattle.model.specs.Kind.{base}
use Rattle.model.specs.Length.{list_of}
use Rattle.model.specs.State.{State, state}
use Rattle.model.specs.Calls.{insert_by}
use Rattle.model.specs.SeatedCalls.{space}
use Rattle.model.specs.declared.length.Slot.{Slot}
use Rattle.tree_seats.specs.Words.{seats_from}
use Rattle.calls_insert.proofs.SeatedLaws.{seated_refused, seated_done}
use Rattle.calls_insert.proofs.seated.insert.Goals.{Start}
use Rattle.calls_insert.proofs.seated.insert.Goals as goal

-- the tree as it was lent
abbrev entry : Start → State
entry a = state a.args.head a.args.leaves.now a.args.inners.now a.args.homes.now

pub returns-then-bad_arguments : goal.returns-then-bad_arguments
returns-then-bad_arguments c =
    (seated_refused (entry (goal.at.returns-then-bad_arguments c).Start) (seats_from c.args.seats.now) c.args.seat c.args.before (list_of c.args.lengths) _ c.bad_arguments.ensures c.if-bad_arguments.true, refl)

pub returns : goal.returns
returns c =
    let b = seats_from c.args.seats.now in
    let causes = space (entry (goal.at.returns c).Start) b c.args.seat in (
      seated_done (entry (goal.at.returns c).Start) b c.args.seat c.args.before (list_of c.args.lengths) _ c.bad_arguments.ensures c.if-bad_arguments.false _ _
          (c.insert-r.ensures causes (sym (c.room-room.ensures.0 (entry (goal.at.returns c).Start) refl refl))
          ∙ ap (λ (z : Slot). insert_by base causes (entry (goal.at.returns c).Start) c.args.before (z.prepare_len ∷ z.effect_len ∷ z.line_ends ∷ [])) c.new-slot.ensures)
          _ c.charge_for.ensures.0,
      c.charge_for.ensures.1,
    )
