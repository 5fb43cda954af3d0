-- `tree_walk::climb::climb_up`: the climb from here on, with what is summed up modulo 2 ^ 32 and added so far, is the climb asked for; each turn goes up one level.
use Rattle.std.proofs.Common.{◌≡◌, ◌-◌, ◌≤◌, length, take}
use Rattle.model.specs.Climb.{climb_up}
use Rattle.tree_walk.specs.Low.{low_way}
use Rattle.tree_walk.proofs.climb.climb_up.Given as goal

abbrev pub invariant-loop : goal.invariant-loop
invariant-loop l = (length l.inners ≡ length l.initial.inners) × (l.index ≤ 4294967295)
    × (low_way (climb_up l.g l.view (take (l.g.stride - 1) l.delta) (l.left - l.counter) l.node_id l.child l.index l.inners) ≡ low_way (climb_up l.g l.view (take (l.g.stride - 1) l.delta) l.left l.initial.node_id l.i l.sum l.initial.inners))
