-- Each turn puts one slot more right, and its child is the one aimed at, for no right word goes wrong.
use mathlib.Core.Path.{refl, ◌∙◌}
use native.Mathlib.Omega.{arith}
use Rattle.calls_repair_write.proofs.SlotLaws.{area_now, child_word, child_below, slots_none, slots_on, child_now, slots_all}
use Rattle.calls_repair_write.proofs.inner.slots.Goals as goal

pub over-count-requires : goal.over-count-requires
over-count-requires c =
    let the-loop = c.loop-i in
    let pre = c.requires in
    let args = c.args in
    let loop-test = c.loop-i-test in (
      area_now _ _ _ the-loop.invariant.2 pre.0,
      area_now _ _ _ the-loop.invariant.3 pre.1,
      child_below args.g args.lowest args.p args.len pre.4.goal _ _
          pre.4.is _ _ _ _ (the-loop.invariant.4 pre.4.goal pre.4.is) loop-test.true _
          (c.child_of-c.ensures ∙ child_word args.g args.p the-loop.i _ pre.0.shaped (omega (arith, loop-test.true, pre.3))),
      pre.2,
      omega
          (arith, loop-test.true, pre.3),
    )

pub loop-i-preserved : goal.loop-i-preserved
loop-i-preserved c =
    let loop-test = c.loop-i-test in
    let over = c.over-count in
    let the-loop = c.loop-i in
    let args = c.args in
    let pre = c.requires in
    let child_of = c.child_of-c in (
      omega (arith, loop-test.true),
      omega (arith, over.ensures.0, the-loop.invariant.1),
      (slots_on args.g args.lowest args.p args.len pre.4.goal _ _
          pre.4.is _ _ _ _ (the-loop.invariant.4 pre.4.goal pre.4.is) loop-test.true _ _ _ _
          (child_of.ensures ∙ child_word args.g args.p the-loop.i _ pre.0.shaped (omega (arith, loop-test.true, pre.3)) ∙ child_now args.g args.lowest args.p
          args.len pre.4.goal _ _ pre.4.is _ _ _ _ (the-loop.invariant.4 pre.4.goal pre.4.is) loop-test.true)
          (λ z. over.ensures.1 pre.4.goal z)).near.leaves.long,
      (slots_on args.g args.lowest args.p args.len pre.4.goal _ _ pre.4.is _ _ _ _
          (the-loop.invariant.4 pre.4.goal pre.4.is) loop-test.true _ _ _ _
          (child_of.ensures ∙ child_word args.g args.p the-loop.i _ pre.0.shaped (omega (arith, loop-test.true, pre.3)) ∙ child_now args.g args.lowest args.p
          args.len pre.4.goal _ _ pre.4.is _ _ _ _ (the-loop.invariant.4 pre.4.goal pre.4.is) loop-test.true)
          (λ z. over.ensures.1 pre.4.goal z)).near.beside.long,
      λ m w. slots_on args.g args.lowest args.p args.len m _ _ w _ _ _ _ (the-loop.invariant.4 m w)
          loop-test.true _ _ _ _ (child_of.ensures ∙ child_word args.g args.p the-loop.i _ pre.0.shaped (omega (arith, loop-test.true, pre.3)) ∙ child_now args.g
          args.lowest args.p args.len m _ _ w _ _ _ _ (the-loop.invariant.4 m w) loop-test.true) (λ z. over.ensures.1 m z),
    )
