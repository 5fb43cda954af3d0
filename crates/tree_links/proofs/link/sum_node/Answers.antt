-- `tree_links::link::sum_node`: the part that is lent is node k of the area.
use Prim.Native.Nat.{ℕ, ◌*◌}
use mathlib.Core.Path.{ap, ◌∙◌}
use mathlib.Core.List.{List}
use Rattle.model.specs.Node.{node_of, slot_for}
use Rattle.model_laws.specs.Words.{lent}
use Rattle.tree_links.proofs.link.sum_node.Goals as goal

pub returns : goal.returns
returns c =
    let e = lent (c.args.k * c.args.g.size) c.args.g.size c.args.area.now in
    (c.slot_for.ensures.0 ∙ ap (λ (w : List ℕ). slot_for c.args.g.stride c.args.k (node_of c.args.g.stride c.args.g.fan w)) e, c.slot_for.ensures.1)
