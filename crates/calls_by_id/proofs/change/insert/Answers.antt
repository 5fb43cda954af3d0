-- `calls_by_id::change::insert`: the cursor of the entry before which the new one comes, or none at the end, then the call there.
use mathlib.Core.Path.{refl, sym}
use mathlib.Core.List.{[], ◌∷◌}
use Rattle.model.specs.Kind.{kind_of}
use Rattle.model.specs.Length.{lengths_in}
use Rattle.model.specs.State.{State, state}
use Rattle.model.specs.Refuse.{full}
use Rattle.calls_by_id.proofs.PlaceLaws.{place_ordered, insert_stops, insert_goes}
use Rattle.calls_by_id.proofs.change.insert.Goals.{Start}
use Rattle.calls_by_id.proofs.change.insert.Goals as goal

-- the tree as it was lent
abbrev entry : Start → State
entry a = state a.args.head a.args.leaves.now a.args.inners.now a.args.homes.now

pub returns-in-Err : goal.returns-in-Err
returns-in-Err c =
    let l = lengths_in c.args.views c.args.x.now in
    insert_stops (kind_of c.args.views c.args.effect c.args.ordered) (entry (goal.at.returns-in-Err c).Start) _ _ l (place_ordered c.args.views c.args.effect c.args.ordered (entry (goal.at.returns-in-Err c).Start) c.args.id.0 _ (c.in-Err.ensures c.args.effect)) _ refl

pub returns-in-Ok : goal.returns-in-Ok
returns-in-Ok c =
    let l = lengths_in c.args.views c.args.x.now in
    insert_goes (kind_of c.args.views c.args.effect c.args.ordered) (entry (goal.at.returns-in-Ok c).Start) _ _ l (place_ordered c.args.views c.args.effect c.args.ordered (entry (goal.at.returns-in-Ok c).Start) c.args.id.0 _ (c.in-Ok.ensures c.args.effect)) _ refl _ c.target-to.ensures _ _ (c.insert.ensures (full (entry (goal.at.returns-in-Ok c).Start) ∷ []) (sym c.without-room.ensures.0))
