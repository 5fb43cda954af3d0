-- `tree_walk::climb::rank_up`: the rank from here on, with what is summed up, is the rank asked for; each turn goes up one level.
use Rattle.std.proofs.Common.{◌≡◌, ◌+◌, ◌-◌, ◌*◌, ◌≤◌}
use Rattle.model.specs.Climb.{rank_up}
use Rattle.tree_walk.proofs.climb.rank_up.Given as goal

abbrev pub invariant-loop : goal.invariant-loop
invariant-loop l = (l.total ≤ l.sum + l.counter * 137438953440) × (rank_up l.g l.view (l.left - l.counter) l.node l.at l.total l.inners ≡ rank_up l.g l.view l.left l.initial.node l.i l.sum l.inners)
