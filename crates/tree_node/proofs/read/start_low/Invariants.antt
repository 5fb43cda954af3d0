-- `tree_node::read::start_low`: the sum is the total of the slots passed modulo 2 ^ 32, and each turn adds the next slot's length.
use Rattle.std.proofs.Common.{◌≡◌, ◌+◌, ◌*◌}
use Rattle.model.specs.Node.{slots_from, total, wrap}
use Rattle.tree_node.proofs.read.start_low.Given as goal

abbrev pub invariant-loop : goal.invariant-loop
invariant-loop l = (l.p ≡ 3 + l.counter * l.stride + (l.view + 1)) × (l.sum ≡ wrap (total l.view (slots_from l.stride l.counter 3 l.node)))
