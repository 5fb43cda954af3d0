-- `tree_open::lengths::used_totals`: each sum is the total of the slots passed in its view, and each turn adds the next slot's length.
use Rattle.std.proofs.Common.{◌≡◌, ◌*◌, ◌≤◌, cond, ltb}
use Rattle.model.specs.Node.{slots_from, total}
use Rattle.tree_open.proofs.lengths.used_totals.Given as goal

abbrev pub invariant-loop-k : goal.invariant-loop-k
invariant-loop-k l = (l.first ≤ l.k * 4294967295) × (l.second ≤ l.k * 4294967295) × (l.third ≤ l.k * 4294967295) × (l.first ≡ total 0 (slots_from l.stride l.k 3 l.node))
    × (l.second ≡ cond (ltb 2 l.stride) (total 1 (slots_from l.stride l.k 3 l.node)) 0) × (l.third ≡ cond (ltb 3 l.stride) (total 2 (slots_from l.stride l.k 3 l.node)) 0)
