-- `tree_area::write::new_two`: the part lent is node k, and comes back as a new node.
use mathlib.Core.List.{[], ◌∷◌}
use lib.ListN.{take}
use Rattle.model.specs.Node.{new_node}
use Rattle.tree_area.proofs.Lend.{back}
use Rattle.tree_area.proofs.write.new_two.Goals as goal

pub returns : goal.returns
returns c =
    let args = c.args in
    let pre = c.requires in
    back args.k _ _ (λ m. new_node args.g.stride args.g.fan args.parent (take args.g.stride args.x.now ∷ take args.g.stride args.y.now ∷ [])) pre.0 pre.1 c.new_two.auto.node c.new_two.ensures
