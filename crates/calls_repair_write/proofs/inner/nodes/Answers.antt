-- Each turn does the node before those that are done, whose children are leaves or stand behind it.
use mathlib.Core.Path.{refl, ◌∙◌}
use Prim.Native.Nat.{◌-◌}
use native.Mathlib.Omega.{arith}
use Rattle.calls_repair_write.proofs.SlotLaws.{area_now}
use Rattle.calls_repair_write.proofs.NodesLaws.{len_word, nodes_none, len_now, len_most, slots_aimed, nodes_on, nodes_all}
use Rattle.calls_repair_write.proofs.inner.nodes.Goals as goal

pub node-count-requires : goal.node-count-requires
node-count-requires c =
    let the-loop = c.loop-j in
    let pre = c.requires in
    let loop-test = c.loop-j-test in
    let args = c.args in (
      area_now _ _ _ the-loop.invariant.2 pre.0,
      area_now _ _ _ the-loop.invariant.3 pre.1,
      pre.2,
      pre.5.is.used (the-loop.j - 1)
          (omega (arith, the-loop.invariant.0, loop-test.true)),
      len_most args.g args.order.now args.last args.n pre.5.goal _ _ pre.5.is the-loop.j
          (the-loop.j - 1) _ _ _ (the-loop.invariant.4 pre.5.goal pre.5.is) (omega (arith, loop-test.true)) (omega (arith, the-loop.invariant.0, loop-test.true)) _
          (c.len_of-len.ensures ∙ len_word args.g _ _ pre.1.shaped),
      slots_aimed args.g args.order.now args.last args.n pre.5.goal _ _ pre.5.is
          the-loop.j (the-loop.j - 1) _ _ _ (the-loop.invariant.4 pre.5.goal pre.5.is) (omega (arith, loop-test.true)) (omega (arith, the-loop.invariant.0, loop-test.true)) _
          (c.len_of-len.ensures ∙ len_word args.g _ _ pre.1.shaped ∙ len_now args.g args.order.now args.last args.n pre.5.goal _ _ pre.5.is
          the-loop.j (the-loop.j - 1) _ _ _ (the-loop.invariant.4 pre.5.goal pre.5.is) (omega (arith, loop-test.true)) (omega (arith, the-loop.invariant.0, loop-test.true))),
    )

pub loop-j-preserved : goal.loop-j-preserved
loop-j-preserved c =
    let the-loop = c.loop-j in
    let node = c.node-count in
    let loop-test = c.loop-j-test in
    let args = c.args in
    let pre = c.requires in
    let len_of_lem = c.len_of-len in (
      omega (arith, the-loop.invariant.0),
      omega (arith, node.ensures.0, the-loop.invariant.1, the-loop.invariant.0, loop-test.true),
      (nodes_on args.g args.order.now args.last
          args.n pre.5.goal _ _ pre.5.is the-loop.j (the-loop.j - 1) _ _ _ (the-loop.invariant.4 pre.5.goal pre.5.is) (omega (arith, loop-test.true))
          (omega (arith, the-loop.invariant.0, loop-test.true)) _ _ _ _
          (len_of_lem.ensures ∙ len_word args.g _ _ pre.1.shaped ∙ len_now args.g args.order.now args.last args.n pre.5.goal _ _ pre.5.is the-loop.j
          (the-loop.j - 1) _ _ _ (the-loop.invariant.4 pre.5.goal pre.5.is) (omega (arith, loop-test.true)) (omega (arith, the-loop.invariant.0, loop-test.true)))
          (λ y z. node.ensures.1 pre.5.goal y z)).near.leaves.long,
      (nodes_on args.g args.order.now args.last args.n pre.5.goal _ _ pre.5.is the-loop.j
          (the-loop.j - 1) _ _ _ (the-loop.invariant.4 pre.5.goal pre.5.is) (omega (arith, loop-test.true)) (omega (arith, the-loop.invariant.0, loop-test.true)) _ _ _ _
          (len_of_lem.ensures ∙ len_word args.g _ _ pre.1.shaped ∙ len_now args.g args.order.now args.last args.n pre.5.goal _ _ pre.5.is the-loop.j
          (the-loop.j - 1) _ _ _ (the-loop.invariant.4 pre.5.goal pre.5.is) (omega (arith, loop-test.true)) (omega (arith, the-loop.invariant.0, loop-test.true)))
          (λ y z. node.ensures.1 pre.5.goal y z)).near.beside.long,
      λ m w. nodes_on args.g args.order.now args.last args.n m _ _ w the-loop.j
          (the-loop.j - 1) _ _ _ (the-loop.invariant.4 m w) (omega (arith, loop-test.true)) (omega (arith, the-loop.invariant.0, loop-test.true)) _ _ _ _
          (len_of_lem.ensures ∙ len_word args.g _ _ pre.1.shaped ∙ len_now args.g args.order.now args.last args.n m _ _ w the-loop.j (the-loop.j - 1) _ _ _
          (the-loop.invariant.4 m w) (omega (arith, loop-test.true)) (omega (arith, the-loop.invariant.0, loop-test.true))) (λ y z. node.ensures.1 m y z),
    )

pub returns : goal.returns
returns c =
    let args = c.args in
    (omega (arith, c.loop-j.invariant.1), λ m w. nodes_all args.g args.order.now args.last args.n m _ _ _ _ _ _ c.loop-j-test.false (c.loop-j.invariant.4 m w))
