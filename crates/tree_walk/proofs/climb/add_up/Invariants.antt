-- `tree_walk::climb::add_up`: what the walk from here on leaves of the area is what the walk asked for leaves; each turn goes up one level.
use Rattle.std.proofs.Common.{◌≡◌, ◌-◌, length, take}
use Rattle.tree_walk.specs.Raise.{raise_up}
use Rattle.tree_walk.proofs.climb.add_up.Given as goal

abbrev pub invariant-loop : goal.invariant-loop
invariant-loop l = (length l.inners ≡ length l.initial.inners) × (raise_up l.g (take (l.g.stride - 1) l.delta) (l.left - l.counter) l.node_id l.at l.inners ≡ raise_up l.g (take (l.g.stride - 1) l.delta) l.left l.initial.node_id l.i l.initial.inners)
