-- `tree_area::write::set_lengths`: the part lent is node k, and comes back as that node with other lengths in a slot.
use Prim.Native.Nat.{◌-◌}
use Rattle.model.specs.Length.{lengths_in}
use Rattle.model.specs.Node.{with_lengths}
use Rattle.tree_area.proofs.Lend.{back}
use Rattle.tree_area.proofs.write.set_lengths.Goals as goal

pub returns : goal.returns
returns c =
    let args = c.args in
    let pre = c.requires in
    back args.k _ _ (with_lengths args.i (lengths_in (args.g.stride - 1) args.x.now)) pre.0 pre.1 c.set_lengths.auto.node c.set_lengths.ensures
