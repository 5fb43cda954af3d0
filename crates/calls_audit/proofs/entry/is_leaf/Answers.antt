-- `calls_audit::entry::is_leaf`: its tests are the definition's, in its order.
use Rattle.std.proofs.Common.{arith}
use Rattle.std.proofs.lemmas.Grind.{common_steps}
use Rattle.model.specs.Kind.{stride}
use Rattle.calls_audit.proofs.LeafLaws.{leaf_by_law}
use Rattle.calls_audit.proofs.entry.is_leaf.Goals as goal

pub returns-then-depth-head : goal.returns-then-depth-head
returns-then-depth-head c K e o =
    let a = c.args in
    let whole = leaf_by_law K a.head a.leaves.now a.inners.now a.homes.now a.g a.k.0 e in
    let least = c.least_leaf.ensures (stride K) in
    let filled = c.is_filled.ensures.0 K e in
    grind (arith, common_steps)

pub returns-else-depth-head : goal.returns-else-depth-head
returns-else-depth-head c K e o =
    let a = c.args in
    let whole = leaf_by_law K a.head a.leaves.now a.inners.now a.homes.now a.g a.k.0 e in
    let least = c.least_leaf.ensures (stride K) in
    let filled = c.is_filled.ensures.0 K e in
    grind (arith, common_steps)
