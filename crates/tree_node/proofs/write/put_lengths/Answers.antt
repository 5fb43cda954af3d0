-- `tree_node::write::put_lengths`: one word is written, the second and the third where a slot has them.
use Rattle.std.proofs.Common.{refl, arith}
use Rattle.tree_node.proofs.WriteLaws.{lengths_put}
use Rattle.tree_node.proofs.write.put_lengths.Goals.{else-stride-gt2, then-stride-gt2}
use Rattle.tree_node.proofs.write.put_lengths.Goals as goal

pub returns-then-stride-gt3 : goal.returns-then-stride-gt3
returns-then-stride-gt3 c =
    let came = c.if-stride-gt2.branch in
    lengths_put c.args.g.stride c.args.p c.args.x.now c.args.node.now c.if-stride-gt2.node _ c.requires.2 c.requires.0.columns c.requires.0.narrow c.requires.1
    (λ h. elim came [ then-stride-gt2 w ↦ w.node-is | else-stride-gt2 w ↦ absurd (omega (arith, w.if-stride-gt2.false, h)) ]) (λ h. elim came [ then-stride-gt2 w ↦ absurd (omega (arith, w.if-stride-gt2.true, h)) | else-stride-gt2 w ↦ w.node-is ])
    (λ _. refl) (λ h. absurd (omega (arith, c.if-stride-gt3.true, h)))

pub returns-else-stride-gt3 : goal.returns-else-stride-gt3
returns-else-stride-gt3 c =
    let came = c.if-stride-gt2.branch in
    lengths_put c.args.g.stride c.args.p c.args.x.now c.args.node.now c.if-stride-gt2.node _ c.requires.2 c.requires.0.columns c.requires.0.narrow c.requires.1
    (λ h. elim came [ then-stride-gt2 w ↦ w.node-is | else-stride-gt2 w ↦ absurd (omega (arith, w.if-stride-gt2.false, h)) ]) (λ h. elim came [ then-stride-gt2 w ↦ absurd (omega (arith, w.if-stride-gt2.true, h)) | else-stride-gt2 w ↦ w.node-is ])
    (λ h. absurd (omega (arith, c.if-stride-gt3.false, h))) (λ _. refl)
