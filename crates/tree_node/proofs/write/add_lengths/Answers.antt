-- `tree_node::write::add_lengths`: the words after the child of slot i are the lengths there, and each is changed by its own.
use Rattle.std.proofs.Common.{◌+◌, refl, arith}
use Rattle.model.specs.Node.{plus, wrap}
use Rattle.tree_node.specs.Shaped.{whole}
use Rattle.tree_node.proofs.WriteLaws.{three_words, lengths_changed}
use Rattle.tree_node.proofs.write.add_lengths.Goals.{else-stride-gt2, then-stride-gt2}
use Rattle.tree_node.proofs.write.add_lengths.Goals as goal

pub returns-then-stride-gt3 : goal.returns-then-stride-gt3
unfolding plus
returns-then-stride-gt3 c =
    let came = c.if-stride-gt2.branch in
    lengths_changed (λ x y. wrap (x + y)) c.args.g.stride c.args.g.fan c.args.i _ _ _ c.args.delta.now c.args.node.now c.if-stride-gt2.node _
    (whole _ _ c.requires.0 c.requires.1) c.requires.2 (three_words c.args.delta.now c.requires.3) c.requires.0.columns c.requires.0.narrow
    (λ h. elim came [ then-stride-gt2 w ↦ w.node-is | else-stride-gt2 w ↦ absurd (omega (arith, w.if-stride-gt2.false, h)) ]) (λ h. elim came [ then-stride-gt2 w ↦ absurd (omega (arith, w.if-stride-gt2.true, h)) | else-stride-gt2 w ↦ w.node-is ])
    (λ _. refl) (λ h. absurd (omega (arith, c.if-stride-gt3.true, h)))

pub returns-else-stride-gt3 : goal.returns-else-stride-gt3
unfolding plus
returns-else-stride-gt3 c =
    let came = c.if-stride-gt2.branch in
    lengths_changed (λ x y. wrap (x + y)) c.args.g.stride c.args.g.fan c.args.i _ _ _ c.args.delta.now c.args.node.now c.if-stride-gt2.node _
    (whole _ _ c.requires.0 c.requires.1) c.requires.2 (three_words c.args.delta.now c.requires.3) c.requires.0.columns c.requires.0.narrow
    (λ h. elim came [ then-stride-gt2 w ↦ w.node-is | else-stride-gt2 w ↦ absurd (omega (arith, w.if-stride-gt2.false, h)) ]) (λ h. elim came [ then-stride-gt2 w ↦ absurd (omega (arith, w.if-stride-gt2.true, h)) | else-stride-gt2 w ↦ w.node-is ])
    (λ h. absurd (omega (arith, c.if-stride-gt3.false, h))) (λ _. refl)
