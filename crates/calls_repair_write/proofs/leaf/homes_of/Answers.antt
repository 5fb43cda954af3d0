-- Each turn writes one home more.
use mathlib.Core.Path.{refl, ◌∙◌}
use native.Mathlib.Omega.{arith}
use Rattle.calls_repair_write.proofs.SlotLaws.{child_word}
use Rattle.calls_repair_write.proofs.LeafLaws.{word_long, id_in_law, id_now_in, homes_none, homes_on, homes_all}
use Rattle.calls_repair_write.proofs.leaf.homes_of.Goals as goal

pub word-count-requires : goal.word-count-requires
word-count-requires c =
    let pre = c.requires in
    let the-loop = c.loop-i in
    let args = c.args in
    (omega (
      arith,
      pre.3 the-loop.i c.loop-i-test.true,
      c.child_of-id.ensures,
      child_word args.g args.k the-loop.i args.leaves.now
          pre.0.shaped (omega (arith, c.loop-i-test.true, pre.2)),
      the-loop.invariant.2,
    ))

pub loop-i-preserved : goal.loop-i-preserved
loop-i-preserved c =
    let loop-test = c.loop-i-test in
    let the-loop = c.loop-i in
    let child_of = c.child_of-id in
    let args = c.args in
    let pre = c.requires in (
      omega (arith, loop-test.true),
      omega (arith, c.word-count.ensures.1, the-loop.invariant.1),
      word_long _ _ _ _ _
          (id_now_in _ _ _ _ (child_of.ensures ∙ child_word args.g args.k the-loop.i args.leaves.now pre.0.shaped (omega (arith, loop-test.true, pre.2)))
          (pre.3 the-loop.i loop-test.true) the-loop.invariant.2) c.word-count.ensures.0 ∙ the-loop.invariant.2,
      λ m w. homes_on args.g args.k
          args.len m _ _ w _ _ _ _ _ _ (the-loop.invariant.3 m w) loop-test.true
          (child_of.ensures ∙ child_word args.g args.k the-loop.i args.leaves.now pre.0.shaped (omega (arith, loop-test.true, pre.2)))
          (id_in_law _ _ _ (child_of.ensures ∙ child_word args.g args.k the-loop.i args.leaves.now pre.0.shaped (omega (arith, loop-test.true, pre.2)))
          (pre.3 the-loop.i loop-test.true)) c.word-count.ensures.0,
    )
