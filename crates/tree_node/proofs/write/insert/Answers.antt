-- `tree_node::write::insert`: the slots in use from slot i on move up by one slot, and x comes into the gap.
use Rattle.std.proofs.Common.{take, arith}
use Rattle.model_laws.specs.Changes.{insert_words}
use Rattle.tree_node.proofs.WriteLaws.{front_length}
use Rattle.tree_node.specs.Shaped.{whole}
use Rattle.tree_node.proofs.write.insert.Goals as goal

pub returns : goal.returns
returns c =
    let long = front_length c.args.g.stride c.args.x.now (omega (arith, c.requires.0, c.requires.4)) in
    rw (c.put_slot.ensures, c.open_gap.ensures (take c.args.g.stride c.args.x.now) long)
    (insert_words _ _ _ (whole _ _ c.requires.0 c.requires.1) _ _ long c.requires.2 c.requires.3)
