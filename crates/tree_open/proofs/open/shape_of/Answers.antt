-- `tree_open::open::shape_of`: the nodes are those of the definition, and so are the other sizes.
use Rattle.tree_open.proofs.OpenLaws.{made}
use Rattle.tree_open.proofs.open.shape_of.Goals as goal

pub nodes_for-nodes-requires : goal.nodes_for-nodes-requires
nodes_for-nodes-requires c = (c.requires.2, c.requires.3, c.requires.4)

pub shape_for-requires : goal.shape_for-requires
shape_for-requires c = (c.requires.1, c.requires.3)

pub returns : goal.returns
returns c =
    let pre = c.requires in
    made _ _ _ _ _ c.shape_for.ensures c.nodes_for-nodes.ensures pre
