-- `tree_open::lengths::low`: what has the bits of all words passed in a column is at least each of them.
use Rattle.std.proofs.Common.{◌≡◌, ℕ, ◌+◌, ◌*◌, subst, arith}
use Rattle.model_laws.specs.Lists.{one_more}
use Rattle.tree_open.proofs.TotalLaws.{Under, under_more, under_below}
use Rattle.tree_open.proofs.lengths.low.Goals.{then-stride-gt2, else-stride-gt2, then-stride-gt3, else-stride-gt3}
use Rattle.tree_open.proofs.lengths.low.Goals as goal

pub loop-k-preserved : goal.loop-k-preserved
loop-k-preserved c =
    let l = c.loop-k in
    let s = c.args.g.stride in
    let if1 = c.if-stride-gt2 in
    let if2 = c.if-stride-gt3 in
    under_more c.args.node.now s (3 + l.k * s) l.child l.first c.requires.0.narrow (3 + (l.k + 1) * s) l.second l.third if1.second if2.third (omega (arith, one_more l.k s))
    (λ h. elim if1.branch [ then-stride-gt2 w ↦ w.second-is | else-stride-gt2 w ↦ absurd (omega (arith, w.if-stride-gt2.false, h)) ]) (λ h. elim if1.branch [ then-stride-gt2 w ↦ absurd (omega (arith, w.if-stride-gt2.true, h)) | else-stride-gt2 w ↦ w.second-is ])
    (λ h. elim if2.branch [ then-stride-gt3 w ↦ w.third-is | else-stride-gt3 w ↦ absurd (omega (arith, w.if-stride-gt3.false, h)) ]) (λ h. elim if2.branch [ then-stride-gt3 w ↦ absurd (omega (arith, w.if-stride-gt3.true, h)) | else-stride-gt3 w ↦ w.third-is ])
    l.invariant

pub returns : goal.returns
returns c e =
    let l = c.loop-k in
    let s = c.args.g.stride in
    let end : l.k ≡ c.args.len = omega (arith, l.auto.k-end, c.loop-k-test.false) in
    under_below c.args.node.now (c.args.len * s) _ _ _ _ (subst (λ (n : ℕ). Under c.args.node.now (3 + n * s) l.child l.first l.second l.third) end l.invariant) e
