-- Each turn notes a level more, which are the children of the level that the turn before noted.
use mathlib.Core.Path.{refl, sym, ap, ◌∙◌}
use mathlib.Core.Bool.{Bool, false}
use native.Mathlib.Omega.{arith}
use borrow.Author.Tests.{not-true, not-false}
use Rattle.calls_repair_test.specs.Queue.{queue, kids_of}
use Rattle.calls_repair_test.proofs.QueueLaws.{still}
use Rattle.calls_repair_test.proofs.LevelLaws.{never, parents_of, start_deep, deep_stop, deep_on, deep_end}
use Rattle.calls_repair_test.proofs.queue.below.Goals as goal

pub loop-init : goal.loop-init
loop-init c =
    let args = c.args in
    let pre = c.requires in
    start_deep (kids_of args.g args.inners.now) _ _ _ _ _ pre.2 pre.3 pre.1.order pre.4 refl

pub level-seen-requires : goal.level-seen-requires
level-seen-requires c =
    let pre = c.requires in
    let the-loop = c.loop in (
      pre.0.area,
      still pre.1 the-loop.invariant.orders the-loop.invariant.marked,
      the-loop.invariant.sorted,
      omega arith,
      (omega (arith, the-loop.invariant.within, the-loop.invariant.orders, pre.1.order)),
      parents_of _ _ _ _ _ _ _ pre.0 the-loop.invariant.sorted
          (omega (arith, the-loop.invariant.within, the-loop.invariant.orders, pre.1.order)) the-loop.invariant.last the-loop.invariant.small,
    )

pub returns-then-not-seen : goal.returns-then-not-seen
returns-then-not-seen c =
    let args = c.args in
    let the-loop = c.loop in
    let loop-test = c.loop-test in
    let pre = c.requires in
    let level = c.level-seen in (
      ap (λ (ok : Bool). queue ok level.result.count level.new.order level.new.marks) (sym (not-true _ c.if-not-seen.true))
          ∙ deep_stop (kids_of args.g args.inners.now) _ _ _ _ _ _ _ _ _ _ the-loop.invariant loop-test.true pre.1.order _ _ _ _ level.ensures (not-true _ c.if-not-seen.true),
      λ q. never false refl q,
    )

pub loop-preserved : goal.loop-preserved
loop-preserved c =
    let args = c.args in
    let the-loop = c.loop in
    let loop-test = c.loop-test in
    let pre = c.requires in
    let level = c.level-seen in
    deep_on (kids_of args.g args.inners.now) _ _ _ _ _ _ _ _ _ _ the-loop.invariant loop-test.true pre.1.order _ _ _ _ level.ensures (not-false _ c.if-not-seen.false)

pub returns : goal.returns
returns c =
    let args = c.args in
    let r = deep_end (kids_of args.g args.inners.now) _ _ _ _ _ _ _ _ _ _ c.loop.invariant c.loop-test.false in (r.0, λ q. r.1)
