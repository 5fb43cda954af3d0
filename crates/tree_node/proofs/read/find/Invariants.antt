-- `tree_node::read::find`: what is still to be found from slot k on is what was to be found, and each turn passes one slot.
use Rattle.std.proofs.Common.{◌≡◌, ◌+◌, ◌-◌, ◌*◌, ◌≤◌, drop}
use Rattle.model.specs.Node.{slots_from, find_from}
use Rattle.tree_node.proofs.read.find.Given as goal

abbrev pub invariant-loop-k : goal.invariant-loop-k
invariant-loop-k l = (l.before ≤ l.effects + (l.k - l.from) * 4294967296) × (l.prior ≤ l.prepares + (l.k - l.from) * 4294967296)
    × (find_from l.view l.effect l.k l.rest l.before l.prior (drop l.k (slots_from l.stride l.len 3 l.node)) ≡ find_from l.view l.effect l.from l.index l.effects l.prepares (drop l.from (slots_from l.stride l.len 3 l.node)))
