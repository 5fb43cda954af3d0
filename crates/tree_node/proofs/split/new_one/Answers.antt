-- `tree_node::split::new_one`: the slot that was written first is all that the node keeps.
use Rattle.std.proofs.Common.{ℕ, List, [], ◌∷◌, take, sym, ap, ◌∙◌, arith}
use Rattle.model.specs.Lists.{All, put_at}
use Rattle.model.specs.Node.{words_of}
use Rattle.model_laws.specs.Slots.{flat_one}
use Rattle.model_laws.specs.Changes.{new_node_law}
use Rattle.tree_node.proofs.WriteLaws.{front_length}
use Rattle.tree_node.specs.Shaped.{whole}
use Rattle.tree_node.proofs.split.new_one.Goals as goal

pub returns : goal.returns
unfolding All
returns c =
    let x : List ℕ = take c.args.g.stride c.args.x.now in
    let e = c.put_slot.ensures ∙ ap (λ (l : List ℕ). put_at 3 l c.args.node.now) (sym (flat_one x)) in
    c.keep.ensures ∙ ap words_of (new_node_law _ _ _ (x ∷ []) _ _ (whole _ _ c.requires.0 c.requires.1) (front_length c.args.g.stride c.args.x.now (omega (arith, c.requires.0, c.requires.2)), tt) (omega (arith, c.requires.0)) e)
