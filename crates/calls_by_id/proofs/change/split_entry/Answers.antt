-- `calls_by_id::change::split_entry`: the cursor of the entry, then the call there.
use mathlib.Core.Path.{refl, sym}
use mathlib.Core.List.{[], ◌∷◌}
use Rattle.model.specs.Kind.{kind_of}
use Rattle.model.specs.Length.{lengths_in}
use Rattle.model.specs.State.{State, state}
use Rattle.model.specs.Refuse.{full}
use Rattle.calls_by_id.proofs.PlaceLaws.{cursor_ordered, split_stops, split_goes}
use Rattle.calls_by_id.proofs.change.split_entry.Goals.{Start}
use Rattle.calls_by_id.proofs.change.split_entry.Goals as goal

-- the tree as it was lent
abbrev entry : Start → State
entry a = state a.args.head a.args.leaves.now a.args.inners.now a.args.homes.now

pub returns-in-Err : goal.returns-in-Err
returns-in-Err c effect =
    let l = lengths_in c.args.views c.args.x.now in
    split_stops (kind_of c.args.views effect c.args.ordered) (entry (goal.at.returns-in-Err c).Start) _ _ (cursor_ordered _ effect c.args.ordered _ _ _ (c.in-Err.ensures effect)) c.args.before l _ refl

pub returns-in-Ok : goal.returns-in-Ok
returns-in-Ok c effect =
    let l = lengths_in c.args.views c.args.x.now in
    split_goes (kind_of c.args.views effect c.args.ordered) (entry (goal.at.returns-in-Ok c).Start) _ _ (cursor_ordered _ effect c.args.ordered _ _ _ (c.in-Ok.ensures effect)) c.args.before l _ refl _ _ (c.split_entry.ensures effect (full (entry (goal.at.returns-in-Ok c).Start) ∷ []) (sym c.without-room.ensures.0))
