-- `tree_node::read::find_effect`: the effect lengths passed are what the index lost, and each turn passes one slot.
use Rattle.std.proofs.Common.{◌≡◌, ◌+◌, ◌-◌, ◌*◌, ◌≤◌, drop}
use Rattle.model.specs.Node.{slots_from, find_from}
use Rattle.tree_node.proofs.read.find_effect.Given as goal

abbrev pub invariant-loop-k : goal.invariant-loop-k
invariant-loop-k l = (l.rest ≤ l.index) × (l.sum ≤ l.prepares + l.k * 4294967296)
    × (find_from l.effect l.effect l.k l.rest (l.effects + (l.index - l.rest)) l.sum (drop l.k (slots_from l.stride l.len 3 l.node)) ≡ find_from l.effect l.effect 0 l.index l.effects l.prepares (slots_from l.stride l.len 3 l.node))
