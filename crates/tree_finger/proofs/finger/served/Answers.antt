-- `tree_finger::finger::served`: each test is the definition's, and a finger that passes them all is moved from its own slot.
use Rattle.model.specs.Numbered.{broken}
use Rattle.std.specs.Prelude.{Err}
use Rattle.std.proofs.Common.{sym, refl, ◌∙◌, ap₂, arith}
use Rattle.model_laws.specs.Locate.{served_other, served_early, served_out, served_full, served_past, served_on}
use Rattle.model_laws.specs.Examined.{slots_other, slots_early, served_counted}
use Rattle.model.specs.Examined.{with_slots}
use Rattle.tree_finger.proofs.finger.served.Goals.{then-f-view-via-then-f-view, then-f-view-via-else-f-view+then-index-f, then-len-g-via-then-len-g, then-len-g-via-else-len-g+then-f-len}
use Rattle.tree_finger.proofs.finger.served.Goals as goal

pub returns-then-f-view : goal.returns-then-f-view
returns-then-f-view c =
    let args = c.args in
    elim c.then-f-view.branch [
      | then-f-view-via-then-f-view w ↦
          ap₂ with_slots (sym (served_other _ _ args.g args.f _ _ _ w.if-f-view.true)) (sym (slots_other _ _ args.g args.f _ _ _ w.if-f-view.true))
      | then-f-view-via-else-f-view+then-index-f w ↦
          ap₂ with_slots (sym (served_early _ _ args.g args.f _ _ _ w.if-f-view.false w.if-index-f.true))
          (sym (slots_early _ _ args.g args.f _ _ _ w.if-f-view.false w.if-index-f.true))
    ]

pub returns-then-f-used : goal.returns-then-f-used
returns-then-f-used c =
    let a = c.args in
    let own = c.if-f-view.false in
    let past = c.if-index-f.false in
    served_counted a.view a.effect a.g a.f a.used a.index a.leaves.now own past _ refl (Err broken) (served_out a.view a.effect a.g a.f a.used a.index a.leaves.now own past c.if-f-used.true)

pub returns-then-len-g : goal.returns-then-len-g
returns-then-len-g c =
    let a = c.args in
    let own = c.if-f-view.false in
    let past = c.if-index-f.false in
    let len = c.len_of-len.ensures in
    served_counted a.view a.effect a.g a.f a.used a.index a.leaves.now own past _ refl (Err broken)
    (elim c.then-len-g.branch [
      | then-len-g-via-then-len-g w ↦
          served_full a.view a.effect a.g a.f a.used a.index a.leaves.now own past c.if-f-used.false (omega (arith, len, w.if-len-g.true))
      | then-len-g-via-else-len-g+then-f-len w ↦
          served_past a.view a.effect a.g a.f a.used a.index a.leaves.now own past c.if-f-used.false
          (omega (arith, len, w.if-len-g.false)) (omega (arith, len, w.if-f-len.true))
    ])

pub returns : goal.returns
returns c =
    let a = c.args in
    let own = c.if-f-view.false in
    let past = c.if-index-f.false in
    let len_of_lem = c.len_of-len in
    c.walked.ensures
    ∙ served_counted a.view a.effect a.g a.f a.used a.index a.leaves.now own past _ len_of_lem.ensures _
    (served_on a.view a.effect a.g a.f a.used a.index a.leaves.now own past c.if-f-used.false (omega (arith, len_of_lem.ensures, c.if-len-g.false)) (omega (arith, len_of_lem.ensures, c.if-f-len.false)))
