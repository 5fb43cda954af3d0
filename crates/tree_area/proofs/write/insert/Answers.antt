-- `tree_area::write::insert`: the part lent is node k, and comes back as that node with the slot put in.
use native.Mathlib.Omega.{arith}
use lib.ListN.{take}
use Rattle.model.specs.Node.{node_of, inserted}
use Rattle.model_laws.specs.Words.{lent}
use Rattle.tree_area.proofs.Lend.{whole, back}
use Rattle.tree_area.proofs.write.insert.Goals as goal

pub insert-requires : goal.insert-requires
unfolding node_of
insert-requires c =
    let pre = c.requires in
    rw lent (pre.0.shaped, whole c.args.k _ pre.0 pre.1, omega (arith, pre.2), pre.3, pre.4)

pub returns : goal.returns
returns c =
    let args = c.args in
    let pre = c.requires in
    back args.k _ _ (inserted args.i (take args.g.stride args.x.now)) pre.0 pre.1 c.insert.auto.node c.insert.ensures
