-- `tree_walk::down::first_down`: the leaf from here on is the leaf asked for; each turn goes down one level by the first slot.
use Rattle.std.proofs.Common.{◌≡◌, ◌-◌}
use Rattle.model.specs.Climb.{first_down}
use Rattle.tree_walk.proofs.down.first_down.Given as goal

abbrev pub invariant-loop : goal.invariant-loop
invariant-loop l = first_down l.g (l.left - l.counter) l.node l.inners ≡ first_down l.g l.left l.k l.inners
