-- `tree_node::read::start`: the sum is the total of the slots passed, and each turn adds the next slot's length.
use Rattle.std.proofs.Common.{◌≡◌, ◌+◌, ◌*◌, ◌≤◌}
use Rattle.model.specs.Node.{slots_from, total}
use Rattle.tree_node.proofs.read.start.Given as goal

abbrev pub invariant-loop : goal.invariant-loop
invariant-loop l = (l.p ≡ 3 + l.counter * l.stride + (l.view + 1)) × (l.sum ≤ l.counter * 4294967295) × (l.sum ≡ total l.view (slots_from l.stride l.counter 3 l.node))
