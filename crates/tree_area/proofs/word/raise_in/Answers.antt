-- `tree_area::word::raise_in`: the node is lent as its part of the area, and comes back with the lengths added.
use Rattle.std.proofs.Common.{◌*◌, ◌∙◌}
use Rattle.model_laws.specs.Words.{lent, lent_back}
use Rattle.tree_area.specs.Area.{node_in_law}
use Rattle.tree_area.proofs.word.raise_in.Goals as goal

pub returns : goal.returns
returns c =
    lent_back (c.args.k * c.args.g.size) c.args.g.size c.args.area.now c.add_lengths.new.node
    (node_in_law c.args.g _ c.args.k c.requires.0 c.requires.1) c.add_lengths.auto.node ∙ rw (c.add_lengths.ensures, lent)
