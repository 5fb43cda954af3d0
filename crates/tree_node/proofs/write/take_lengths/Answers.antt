-- `tree_node::write::take_lengths`: to take a word away is to add its opposite, modulo 2 ^ 32.
use Rattle.std.proofs.Common.{List, ℕ, ◌-◌, ◌∙◌, ap, arith}
use Rattle.model.specs.Node.{words_of, with_lengths, node_of, lengths_at}
use Rattle.tree_node.proofs.WriteLaws.{opposite, less_all}
use Rattle.tree_node.proofs.write.take_lengths.Goals as goal

pub returns : goal.returns
returns c =
    let n = node_of c.args.g.stride c.args.g.fan c.args.node.now in
    let x = c.args.x.now in
    c.add_lengths.ensures
    ∙ ap (λ (z : List ℕ). words_of (with_lengths c.args.i z n))
    (less_all x _ _ _ c.requires.3 (opposite _ _ c.wrapping_neg.ensures (omega arith) (omega arith)) (opposite _ _ c.wrapping_neg-2.ensures (omega arith) (omega arith)) (opposite _ _ c.wrapping_neg-3.ensures (omega arith) (omega arith))
    (c.args.g.stride - 1) (lengths_at c.args.i n.slots))
