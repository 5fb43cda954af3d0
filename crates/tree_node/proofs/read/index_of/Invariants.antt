-- `tree_node::read::index_of`: where the child stands from slot k on is where it stands, and each turn reads one slot.
use Rattle.std.proofs.Common.{◌≡◌, drop}
use Rattle.model.specs.Node.{slots_from, index_from}
use Rattle.tree_node.proofs.read.index_of.Given as goal

abbrev pub invariant-loop-k : goal.invariant-loop-k
invariant-loop-k l = (l.read ≡ l.k) × (index_from l.child l.k (drop l.k (slots_from l.stride l.len 3 l.node)) ≡ index_from l.child 0 (slots_from l.stride l.len 3 l.node))
