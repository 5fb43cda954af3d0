-- `calls_size::any::minus`: each length has its own difference, and those that there aren't have none.
use Rattle.std.proofs.Common.{refl, arith, length-set}
use Rattle.calls_size.proofs.SizeLaws.{differences}
use Rattle.calls_size.proofs.any.minus.Goals.{then-stride-gt2, else-stride-gt2}
use Rattle.calls_size.proofs.any.minus.Goals as goal

pub returns-then-stride-gt3 : goal.returns-then-stride-gt3
returns-then-stride-gt3 c = (
  differences c.args.g.stride _ c.args.new.now c.args.old.now c.args.delta.now c.if-stride-gt2.delta _ c.requires.1 c.requires.2 c.requires.3
      c.requires.0.columns c.requires.0.narrow refl
      (λ h. elim c.if-stride-gt2.branch [ then-stride-gt2 w ↦ w.delta-is | else-stride-gt2 w ↦ absurd (omega (arith, w.if-stride-gt2.false, h)) ])
      (λ h. elim c.if-stride-gt2.branch [ then-stride-gt2 w ↦ absurd (omega (arith, w.if-stride-gt2.true, h)) | else-stride-gt2 w ↦ w.delta-is ])
      (λ _. refl)
      (λ h. absurd (omega (arith, c.if-stride-gt3.true, h))),
  simp length-set c.if-stride-gt2.array_long,
)

pub returns-else-stride-gt3 : goal.returns-else-stride-gt3
returns-else-stride-gt3 c = (
  differences c.args.g.stride _ c.args.new.now c.args.old.now c.args.delta.now c.if-stride-gt2.delta _ c.requires.1 c.requires.2 c.requires.3
      c.requires.0.columns c.requires.0.narrow refl
      (λ h. elim c.if-stride-gt2.branch [ then-stride-gt2 w ↦ w.delta-is | else-stride-gt2 w ↦ absurd (omega (arith, w.if-stride-gt2.false, h)) ])
      (λ h. elim c.if-stride-gt2.branch [ then-stride-gt2 w ↦ absurd (omega (arith, w.if-stride-gt2.true, h)) | else-stride-gt2 w ↦ w.delta-is ])
      (λ h. absurd (omega (arith, c.if-stride-gt3.false, h)))
      (λ _. refl),
  c.if-stride-gt2.array_long,
)
