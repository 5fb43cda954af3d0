-- `tree_open::lengths::low`: what has the bits of all words passed in a column is at least each of them.
use Rattle.std.proofs.Common.{◌+◌, ◌*◌}
use Rattle.tree_open.proofs.TotalLaws.{Under}
use Rattle.tree_open.proofs.lengths.low.Given as goal

abbrev pub invariant-loop-k : goal.invariant-loop-k
invariant-loop-k l = Under l.node (3 + l.k * l.stride) l.child l.first l.second l.third
