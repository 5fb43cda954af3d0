-- `tree_walk::climb::steps_up`: the places on the way from here on, before those written so far, are the places asked for.
use Rattle.std.proofs.Common.{◌≡◌, ◌-◌, ◌≤◌, [], length}
use Rattle.model.specs.Lists.{part}
use Rattle.model.specs.Climb.{steps_up}
use Rattle.tree_walk.proofs.climb.steps_up.Given as goal

abbrev pub invariant-loop-level : goal.invariant-loop-level
invariant-loop-level l = (l.level ≤ l.left) × (length l.steps ≡ length l.initial.steps) × (steps_up l.g l.level l.node_id l.at (part l.level (l.left - l.level) l.steps) l.inners ≡ steps_up l.g l.left l.initial.node_id l.i [] l.inners)
