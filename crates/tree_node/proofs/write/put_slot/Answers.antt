-- `tree_node::write::put_slot`: the child is written, and the lengths behind it.
use Rattle.std.proofs.Common.{◌∙◌, arith}
use Rattle.tree_node.proofs.WriteLaws.{slot_put}
use Rattle.tree_node.proofs.write.put_slot.Goals as goal

pub returns : goal.returns
returns c = c.put_lengths.ensures ∙ slot_put c.args.g.stride c.args.p c.args.x.now c.args.node.now c.requires.2 (omega (arith, c.requires.0)) c.requires.0.narrow c.requires.1
