-- `tree_area::word::node_words`: the node lies in the area, and the part that is lent holds its words.
use Rattle.model_laws.specs.Words.{lent, length_part}
use Rattle.tree_area.specs.Area.{node_in_law}
use Rattle.tree_area.proofs.word.node_words.Goals as goal

pub returns : goal.returns
returns c = (lent _ _ _, rw lent (length_part _ _ _ (node_in_law c.args.g _ c.args.k c.requires.0 c.requires.1)))
