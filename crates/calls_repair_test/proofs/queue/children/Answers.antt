-- Each turn notes one child more; a child that can't be noted ends the loop with what the rest would leave.
use mathlib.Core.Path.{◌∙◌}
use native.Mathlib.Omega.{arith}
use borrow.Author.Tests.{not-true, not-false}
use Rattle.model.specs.State.{node_at}
use Rattle.model_laws.specs.AreaRead.{slots_are}
use Rattle.calls_repair_test.proofs.QueueLaws.{turn, last, stop, go_on, noted_sizes}
use Rattle.calls_repair_test.proofs.queue.children.Goals as goal

pub returns-then-not-seen : goal.returns-then-not-seen
returns-then-not-seen c =
    let args = c.args in
    let pre = c.requires in
    let loop-test = c.loop-i-test in
    let child_of = c.child_of-c in
    let the-see = c.see-seen in
    let the-loop = c.loop-i in
    stop _ _ _ _ _ _ _ _ (not-true _ c.if-not-seen.true) (turn _ _ _ (node_at args.g args.k args.inners.now) _ _ _ _
    (omega (arith, slots_are args.g args.k args.inners.now, pre.2, pre.3)) (omega (arith, loop-test.true, pre.3)) child_of.ensures the-see.ensures
    the-loop.invariant.3)

pub loop-i-preserved : goal.loop-i-preserved
loop-i-preserved c =
    let the-see = c.see-seen in
    let the-loop = c.loop-i in
    let args = c.args in
    let pre = c.requires in
    let loop-test = c.loop-i-test in
    let child_of = c.child_of-c in (
      omega arith,
      (noted_sizes _ _ _ _ _ _ _ _ _ _ the-see.ensures).0 ∙ the-loop.invariant.1,
      (noted_sizes _ _ _ _ _ _ _ _ _ _ the-see.ensures).1 ∙ the-loop.invariant.2,
      go_on _ _ _ _ _ _ _ _ (not-false _ c.if-not-seen.false) (turn _ _ _ (node_at args.g args.k args.inners.now) _ _ _ _
          (omega (arith, slots_are args.g args.k args.inners.now, pre.2, pre.3)) (omega (arith, loop-test.true, pre.3)) child_of.ensures the-see.ensures
          the-loop.invariant.3),
    )

pub returns : goal.returns
returns c =
    let args = c.args in
    let pre = c.requires in
    last _ _ _ (node_at args.g args.k args.inners.now) _ _ _ (omega (arith, slots_are args.g args.k args.inners.now, pre.2, pre.3)) c.loop-i-test.false
    pre.3 c.loop-i.invariant.3
