-- `tree_walk::down::next_up`: the leaf after the place reached is the leaf asked for; each turn goes up one level from a last place.
use Rattle.std.proofs.Common.{◌≡◌, ◌-◌}
use Rattle.model.specs.Climb.{next_up}
use Rattle.tree_walk.proofs.down.next_up.Given as goal

abbrev pub invariant-loop-climbed : goal.invariant-loop-climbed
invariant-loop-climbed l = next_up l.g (l.left - l.climbed) l.climbed l.node l.at l.inners ≡ next_up l.g l.left 0 l.initial.node l.i l.inners
