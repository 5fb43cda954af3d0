-- `tree_area::write::split_child`: the part lent is node k, and comes back as that node with its slot divided.
use native.Mathlib.Omega.{arith}
use lib.ListN.{take}
use Rattle.model.specs.Node.{node_of, child_split}
use Rattle.model_laws.specs.Words.{lent}
use Rattle.tree_area.proofs.Lend.{whole, back}
use Rattle.tree_area.proofs.write.split_child.Goals as goal

pub split_child-requires : goal.split_child-requires
unfolding node_of
split_child-requires c =
    let pre = c.requires in
    rw lent (pre.0.shaped, whole c.args.k _ pre.0 pre.1, omega (arith, pre.2), pre.3, pre.4)

pub returns : goal.returns
returns c =
    let args = c.args in
    let pre = c.requires in
    back args.k _ _ (child_split args.before args.i (take args.g.stride args.x.now)) pre.0 pre.1 c.split_child.auto.node c.split_child.ensures
