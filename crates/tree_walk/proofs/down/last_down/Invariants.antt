-- `tree_walk::down::last_down`: the leaf from here on is the leaf asked for; each turn goes down one level by the last slot in use.
use Rattle.std.proofs.Common.{◌≡◌, ◌-◌}
use Rattle.model.specs.Climb.{last_down}
use Rattle.tree_walk.proofs.down.last_down.Given as goal

abbrev pub invariant-loop : goal.invariant-loop
invariant-loop l = last_down l.g (l.left - l.counter) l.node l.inners ≡ last_down l.g l.left l.initial.node l.inners
