-- `tree_node::split::keep`: the slots from slot m on are emptied, and the three first words are written.
use Rattle.std.proofs.Common.{arith}
use Rattle.model_laws.specs.Changes.{keep_words}
use Rattle.tree_node.specs.Shaped.{whole}
use Rattle.tree_node.proofs.split.keep.Goals as goal

pub returns : goal.returns
returns c =
    rw c.clear.ensures (keep_words _ _ _ (whole _ _ c.requires.0 c.requires.1) _ _ _ (omega (arith, c.requires.0)) c.requires.2)
