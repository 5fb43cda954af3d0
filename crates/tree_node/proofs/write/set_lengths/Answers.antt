-- `tree_node::write::set_lengths`: the words after the child of slot i are the lengths there, as many as a slot has.
use Rattle.std.proofs.Common.{◌-◌, ◌∙◌, drop, arith, length-drop}
use Rattle.model_laws.specs.Changes.{lengths_words}
use Rattle.tree_node.specs.Shaped.{whole}
use Rattle.tree_node.proofs.WriteLaws.{front_length}
use Rattle.tree_node.proofs.write.set_lengths.Goals as goal

pub returns : goal.returns
returns c =
    let long = front_length (c.args.g.stride - 1) (drop 1 c.args.x.now) (rw length-drop (omega (arith, c.requires.0, c.requires.3))) in
    c.put_lengths.ensures ∙ lengths_words _ c.args.g.fan c.args.node.now (whole _ _ c.requires.0 c.requires.1) c.args.i _ c.requires.2 (omega (arith, long, c.requires.0))
