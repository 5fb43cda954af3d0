-- Each turn notes the children of one node more; the part of the queue that is read stays, for what is noted comes behind it.
use mathlib.Core.Path.{refl}
use native.Mathlib.Omega.{arith}
use borrow.Author.Tests.{not-true, not-false}
use Rattle.calls_repair_test.specs.Queue.{kids_of}
use Rattle.calls_repair_test.proofs.QueueLaws.{left_stop, left_on, left_none, parent_at, still}
use Rattle.calls_repair_test.proofs.queue.level.Goals as goal

pub len_of-len-requires : goal.len_of-len-requires
len_of-len-requires c =
    let pre = c.requires in
    let args = c.args in
    (pre.0, (parent_at (kids_of args.g args.inners.now) _ _ _ _ _ _ _ _ _ _ _ _ _ c.loop-j.invariant c.loop-j-test.true pre.4 pre.5).0)

pub children-seen-requires : goal.children-seen-requires
children-seen-requires c =
    let pre = c.requires in
    let args = c.args in
    let the-loop = c.loop-j in
    let loop-test = c.loop-j-test in (
      pre.0,
      (parent_at (kids_of args.g args.inners.now) _ _ _ _ _ _ _ _ _ _ _ _ _ the-loop.invariant loop-test.true pre.4 pre.5).0,
      omega (
        arith,
        c.len_of-len.ensures,
        (parent_at (kids_of args.g args.inners.now) _ _ _ _ _ _ _ _ _ _ _ _ _ the-loop.invariant loop-test.true pre.4
            pre.5).1,
      ),
      c.len_of-len.ensures,
      still pre.1 the-loop.invariant.orders the-loop.invariant.marked,
    )

pub returns-then-not-seen : goal.returns-then-not-seen
returns-then-not-seen c =
    let args = c.args in
    let the-loop = c.loop-j in
    let loop-test = c.loop-j-test in
    let pre = c.requires in
    let the-children = c.children-seen in
    left_stop (kids_of args.g args.inners.now) _ _ _ _ _ _ _ _ _ _ _ the-loop.invariant loop-test.true pre.4 _ _ _ _ _ refl the-children.ensures (not-true _ c.if-not-seen.true)

pub loop-j-preserved : goal.loop-j-preserved
loop-j-preserved c =
    let args = c.args in
    let the-loop = c.loop-j in
    let loop-test = c.loop-j-test in
    let pre = c.requires in
    let the-children = c.children-seen in
    left_on (kids_of args.g args.inners.now) _ _ _ _ _ _ _ _ _ _ _ the-loop.invariant loop-test.true pre.4 _ _ _ _ _ refl the-children.ensures (not-false _ c.if-not-seen.false)

pub returns : goal.returns
returns c =
    let args = c.args in
    left_none (kids_of args.g args.inners.now) _ _ _ _ _ _ _ _ _ _ _ c.loop-j.invariant c.loop-j-test.false
