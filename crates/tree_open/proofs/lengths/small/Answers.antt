-- `tree_open::lengths::small`: what has the bits of all lengths is at least each of them.
use native.Mathlib.Omega.{arith}
use Rattle.tree_open.proofs.TotalLaws.{small_below}
use Rattle.tree_open.proofs.lengths.small.Goals.{then-stride-gt2, else-stride-gt2, then-stride-gt3, else-stride-gt3}
use Rattle.tree_open.proofs.lengths.small.Goals as goal

pub returns : goal.returns
returns c e =
    let args = c.args in
    let shaped = c.requires.0 in
    let if1 = c.if-stride-gt2 in
    let if2 = c.if-stride-gt3 in
    small_below args.new.now if1.all if2.all args.g.stride shaped.columns shaped.narrow
    (λ h. elim if1.branch [ then-stride-gt2 w ↦ w.all-is | else-stride-gt2 w ↦ absurd (omega (arith, w.if-stride-gt2.false, h)) ])
    (λ h. elim if1.branch [ then-stride-gt2 w ↦ absurd (omega (arith, w.if-stride-gt2.true, h)) | else-stride-gt2 w ↦ w.all-is ])
    (λ h. elim if2.branch [ then-stride-gt3 w ↦ w.all-is | else-stride-gt3 w ↦ absurd (omega (arith, w.if-stride-gt3.false, h)) ])
    (λ h. elim if2.branch [ then-stride-gt3 w ↦ absurd (omega (arith, w.if-stride-gt3.true, h)) | else-stride-gt3 w ↦ w.all-is ])
    e
