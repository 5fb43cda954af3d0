-- `tree_walk::climb::in_order`: the steps from step j on compare as all steps do, since those before are equal.
use Rattle.std.proofs.Common.{◌≡◌, take, drop}
use Rattle.model.specs.Calls.{in_order}
use Rattle.tree_walk.proofs.climb.in_order.Given as goal

abbrev pub invariant-loop-j : goal.invariant-loop-j
invariant-loop-j l = in_order (drop l.j (take l.n l.xs)) (drop l.j (take l.n l.ys)) ≡ in_order (take l.n l.xs) (take l.n l.ys)
