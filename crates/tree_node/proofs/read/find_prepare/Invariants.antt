-- `tree_node::read::find_prepare`: the prepare lengths passed are what the index lost, and each turn passes one slot.
use Rattle.std.proofs.Common.{◌≡◌, ◌+◌, ◌-◌, ◌*◌, ◌≤◌, drop}
use Rattle.model.specs.Node.{slots_from, find_from}
use Rattle.tree_node.proofs.read.find_prepare.Given as goal

abbrev pub invariant-loop-k : goal.invariant-loop-k
invariant-loop-k l = (l.rest ≤ l.index) × (l.sum ≤ l.effects + l.k * 4294967296)
    × (find_from 0 l.effect l.k l.rest l.sum (l.prepares + (l.index - l.rest)) (drop l.k (slots_from l.stride l.len 3 l.node)) ≡ find_from 0 l.effect 0 l.index l.effects l.prepares (slots_from l.stride l.len 3 l.node))
