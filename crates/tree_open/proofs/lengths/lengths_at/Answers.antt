-- `tree_open::lengths::lengths_at`: the words that are written behind the first are all lengths that the slot has.
use mathlib.Core.Path.{◌≡◌, refl, ap, ◌∙◌}
use native.Mathlib.Omega.{arith}
use lib.ListN.{length, set, length-set}
use Rattle.tree_open.proofs.LengthLaws.{lengths_read}
use Rattle.tree_open.proofs.lengths.lengths_at.Goals.{Joined-stride-gt2, then-stride-gt2, else-stride-gt2}
use Rattle.tree_open.proofs.lengths.lengths_at.Goals as goal

-- the words are as many after the first guard
same : (c : Joined-stride-gt2) → length c.if-stride-gt2.x ≡ length c.args.x.now
same c = elim c.if-stride-gt2.branch [ then-stride-gt2 w ↦ ap length w.x-is ∙ simp length-set refl | else-stride-gt2 w ↦ ap length w.x-is ∙ simp length-set refl ]

pub length_of-requires : goal.length_of-requires
length_of-requires c = (c.requires.0, omega (arith, c.requires.0.shaped.columns), c.requires.1, c.requires.2)

pub length_of-requires-then-stride-gt2 : goal.length_of-requires-then-stride-gt2
length_of-requires-then-stride-gt2 c =
    let pre = c.requires in
    (pre.0, omega (arith, c.if-stride-gt2.true), pre.1, pre.2)

pub length_of-requires-then-stride-gt3 : goal.length_of-requires-then-stride-gt3
length_of-requires-then-stride-gt3 c =
    let pre = c.requires in
    (pre.0, omega (arith, c.if-stride-gt3.true), pre.1, pre.2)

pub returns-then-stride-gt3 : goal.returns-then-stride-gt3
returns-then-stride-gt3 c =
    let args = c.args in
    let pre = c.requires in
    let one = c.length_of in
    let if1 = c.if-stride-gt2 in
    let if2 = c.if-stride-gt3 in (
      lengths_read args.g args.leaves.now args.k.0 args.i pre.0 pre.1 pre.2 args.x.now if1.x _ one.result pre.3 one.ensures
          (λ h. elim if1.branch [ then-stride-gt2 w ↦ w.x-is ∙ ap (set (set args.x.now 1 one.result) 2) w.length_of-then-stride-gt2.ensures | else-stride-gt2 w ↦ absurd (omega (arith, w.if-stride-gt2.false, h)) ])
          (λ h. elim if1.branch [ then-stride-gt2 w ↦ absurd (omega (arith, w.if-stride-gt2.true, h)) | else-stride-gt2 w ↦ w.x-is ])
          (λ _. ap (set if1.x 3) c.length_of-then-stride-gt3.ensures)
          (λ h. absurd (omega (arith, if2.true, h))),
      simp length-set (same (goal.at.returns-then-stride-gt3 c).Joined-stride-gt2 ∙ pre.3),
    )

pub returns-else-stride-gt3 : goal.returns-else-stride-gt3
returns-else-stride-gt3 c =
    let args = c.args in
    let pre = c.requires in
    let one = c.length_of in
    let if1 = c.if-stride-gt2 in (
      lengths_read args.g args.leaves.now args.k.0 args.i pre.0 pre.1 pre.2 args.x.now if1.x _ one.result pre.3 one.ensures
          (λ h. elim if1.branch [ then-stride-gt2 w ↦ w.x-is ∙ ap (set (set args.x.now 1 one.result) 2) w.length_of-then-stride-gt2.ensures | else-stride-gt2 w ↦ absurd (omega (arith, w.if-stride-gt2.false, h)) ])
          (λ h. elim if1.branch [ then-stride-gt2 w ↦ absurd (omega (arith, w.if-stride-gt2.true, h)) | else-stride-gt2 w ↦ w.x-is ])
          (λ h. absurd (omega (arith, c.if-stride-gt3.false, h)))
          (λ _. refl),
      same (goal.at.returns-else-stride-gt3 c).Joined-stride-gt2 ∙ pre.3,
    )
