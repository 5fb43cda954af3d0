-- `calls_by_id::change::set_lengths`: the cursor of the entry, then the call there, without the position.
use mathlib.Core.Path.{refl}
use Rattle.model.specs.Kind.{kind_of}
use Rattle.model.specs.Length.{lengths_in}
use Rattle.model.specs.State.{State, state}
use Rattle.calls_by_id.proofs.PlaceLaws.{cursor_ordered, set_stops, set_goes}
use Rattle.calls_by_id.proofs.change.set_lengths.Goals.{Start}
use Rattle.calls_by_id.proofs.change.set_lengths.Goals as goal

-- the tree as it was lent
abbrev entry : Start → State
entry a = state a.args.head a.args.leaves.now a.args.inners.now a.args.homes.now

pub returns-in-Err : goal.returns-in-Err
returns-in-Err c =
    let l = lengths_in c.args.views c.args.new.now in
    set_stops (kind_of c.args.views c.args.effect c.args.ordered) (entry (goal.at.returns-in-Err c).Start) _ _ (cursor_ordered _ c.args.effect c.args.ordered _ _ _ (c.in-Err.ensures c.args.effect)) l _ refl

pub returns-in-Ok : goal.returns-in-Ok
returns-in-Ok c =
    let l = lengths_in c.args.views c.args.new.now in
    set_goes (kind_of c.args.views c.args.effect c.args.ordered) (entry (goal.at.returns-in-Ok c).Start) _ _ (cursor_ordered _ c.args.effect c.args.ordered _ _ _ (c.in-Ok.ensures c.args.effect)) l _ refl _ _ c.resize-r.ensures _ c.unnumbered.ensures
