-- `tree_open::open::nodes_for`: the product with the reciprocal is the quotient by half, or 1 where that is 0; it is at most the limit.
use Rattle.tree_open.proofs.Quotient.{nodes_most}
use Rattle.tree_open.proofs.open.nodes_for.Goals as goal

pub returns : goal.returns
returns c =
    let pre = c.requires in
    nodes_most c.args.fan c.args.limit c.reciprocal.result pre.0 pre.1 pre.2 c.reciprocal.ensures _ c.max.ensures
