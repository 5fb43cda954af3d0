-- `tree_links::grow::add_child` and `tree_links::grow::split_node`: add_child is measured by one more than twice the levels left, split_node by
-- twice that many.
use Rattle.std.proofs.Common.{◌+◌, ◌*◌}
use Rattle.tree_links.proofs.grow.+add_child_split_node.Given as goal

abbrev pub decreases-add_child : goal.decreases-add_child
decreases-add_child l = 2 * l.left + 1

abbrev pub decreases-split_node : goal.decreases-split_node
decreases-split_node l = 2 * l.left
