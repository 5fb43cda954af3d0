-- `tree_node::read::slot_for`: the sums are the totals of the slots passed modulo 2 ^ 32, in the views that there are.
use Rattle.std.proofs.Common.{◌≡◌, ◌<◌}
use Rattle.model.specs.Node.{slots_from, total, wrap}
use Rattle.tree_node.proofs.read.slot_for.Given as goal

abbrev pub invariant-loop-i : goal.invariant-loop-i
invariant-loop-i l = (l.first ≡ wrap (total 0 (slots_from l.stride l.i 3 l.node)))
    × (2 < l.stride → l.second ≡ wrap (total 1 (slots_from l.stride l.i 3 l.node))) × (3 < l.stride → l.third ≡ wrap (total 2 (slots_from l.stride l.i 3 l.node)))
