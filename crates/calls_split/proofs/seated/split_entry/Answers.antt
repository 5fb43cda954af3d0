-- `calls_split::seated::split_entry`: a bad seat is refused before all else; else the seat decides whether there is space, and is charged for an entry that was made.
use Rattle.std.proofs.Common.{[], ◌∷◌, sym, refl, ap, ◌∙◌}
use Rattle.model.specs.Kind.{base}
use Rattle.model.specs.Length.{list_of}
use Rattle.model.specs.State.{State, state}
use Rattle.model.specs.Calls.{split_by}
use Rattle.model.specs.SeatedCalls.{space}
use Rattle.model.specs.declared.length.Slot.{Slot}
use Rattle.tree_seats.specs.Words.{seats_from}
use Rattle.calls_split.proofs.SeatedLaws.{seated_refused, seated_done}
use Rattle.calls_split.proofs.seated.split_entry.Goals.{Start}
use Rattle.calls_split.proofs.seated.split_entry.Goals as goal

-- the tree as it was lent
abbrev entry : Start → State
entry a = state a.args.head a.args.leaves.now a.args.inners.now a.args.homes.now

pub returns-then-bad_seat : goal.returns-then-bad_seat
returns-then-bad_seat c =
    (seated_refused (entry (goal.at.returns-then-bad_seat c).Start) (seats_from c.args.seats.now) c.args.seat c.args.at (list_of c.args.lengths) c.args.before _ c.bad_seat.ensures c.if-bad_seat.true, refl)

pub returns : goal.returns
returns c =
    let b = seats_from c.args.seats.now in
    let causes = space (entry (goal.at.returns c).Start) b c.args.seat in (
      seated_done (entry (goal.at.returns c).Start) b c.args.seat c.args.at (list_of c.args.lengths) c.args.before _ c.bad_seat.ensures c.if-bad_seat.false _ _
          (c.split_entry-r.ensures 1 causes (sym (c.room-room.ensures.0 (entry (goal.at.returns c).Start) refl refl))
          ∙ ap (λ (z : Slot). split_by base causes (entry (goal.at.returns c).Start) c.args.at (z.prepare_len ∷ z.effect_len ∷ z.line_ends ∷ []) c.args.before) c.new-slot.ensures)
          _ c.charge_for.ensures.0,
      c.charge_for.ensures.1,
    )
