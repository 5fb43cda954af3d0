-- `tree_node::split::keep_in`: node k is lent as its part of the area, and comes back as the node that `keep` makes.
use Rattle.std.proofs.Common.{◌*◌, ◌∙◌}
use Rattle.model_laws.specs.Words.{lent, lent_back}
use Rattle.tree_node.proofs.split.keep_in.Goals as goal

pub returns : goal.returns
returns c =
    lent_back (c.args.k * c.args.g.size) _ _ c.keep.new.node c.requires.1 c.keep.auto.node ∙ rw (c.keep.ensures, lent)
