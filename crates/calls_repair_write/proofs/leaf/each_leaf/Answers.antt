-- Each turn does one leaf more.
use mathlib.Core.Path.{refl, ◌∙◌}
use native.Mathlib.Omega.{arith}
use native.Mathlib.Nat.{lt_of_lt_of_le}
use Rattle.calls_repair_write.proofs.SlotLaws.{area_now}
use Rattle.calls_repair_write.proofs.NodesLaws.{len_word}
use Rattle.calls_repair_write.proofs.LeafLaws.{leaves_none, leaf_len_now, leaf_most, id_below, leaves_on, leaves_all}
use Rattle.calls_repair_write.proofs.leaf.each_leaf.Goals as goal

pub leaf-count-requires : goal.leaf-count-requires
leaf-count-requires c =
    let the-loop = c.loop-k in
    let pre = c.requires in
    let loop-test = c.loop-k-test in
    let args = c.args in (
      area_now _ _ _ the-loop.invariant.2 pre.0,
      pre.1,
      lt_of_lt_of_le loop-test.true pre.2,
      leaf_most args.g args.n pre.3.goal _ _ pre.3.is _ _ _ _
          (the-loop.invariant.4 pre.3.goal pre.3.is) loop-test.true _
          (c.len_of-len.ensures ∙ len_word args.g _ _ pre.0.shaped ∙ leaf_len_now args.g args.n pre.3.goal _ _ pre.3.is _ _ _ _
          (the-loop.invariant.4 pre.3.goal pre.3.is) loop-test.true),
      λ i l. id_below args.g args.n pre.3.goal _ _ pre.3.is _ _ _ _
          (the-loop.invariant.4 pre.3.goal pre.3.is) loop-test.true _ i
          (c.len_of-len.ensures ∙ len_word args.g _ _ pre.0.shaped ∙ leaf_len_now args.g args.n pre.3.goal _ _ pre.3.is _ _ _ _
          (the-loop.invariant.4 pre.3.goal pre.3.is) loop-test.true) l,
    )

pub loop-k-preserved : goal.loop-k-preserved
loop-k-preserved c =
    let loop-test = c.loop-k-test in
    let the-leaf = c.leaf-count in
    let the-loop = c.loop-k in
    let args = c.args in
    let pre = c.requires in
    let len_of_lem = c.len_of-len in (
      omega (arith, loop-test.true),
      omega (arith, the-leaf.ensures.0, the-loop.invariant.1),
      (leaves_on args.g args.n pre.3.goal _ _ pre.3.is _ _ _ _
          (the-loop.invariant.4 pre.3.goal pre.3.is) loop-test.true _ _ _ _
          (len_of_lem.ensures ∙ len_word args.g _ _ pre.0.shaped ∙ leaf_len_now args.g args.n pre.3.goal _ _ pre.3.is _ _ _ _
          (the-loop.invariant.4 pre.3.goal pre.3.is) loop-test.true) (λ z. the-leaf.ensures.1 pre.3.goal z)).near.leaves.long,
      (leaves_on args.g args.n
          pre.3.goal _ _ pre.3.is _ _ _ _ (the-loop.invariant.4 pre.3.goal pre.3.is) loop-test.true _ _ _ _
          (len_of_lem.ensures ∙ len_word args.g _ _ pre.0.shaped ∙ leaf_len_now args.g args.n pre.3.goal _ _ pre.3.is _ _ _ _
          (the-loop.invariant.4 pre.3.goal pre.3.is) loop-test.true) (λ z. the-leaf.ensures.1 pre.3.goal z)).near.beside.long,
      λ m w. leaves_on args.g
          args.n m _ _ w _ _ _ _ (the-loop.invariant.4 m w) loop-test.true _ _ _ _
          (len_of_lem.ensures ∙ len_word args.g _ _ pre.0.shaped ∙ leaf_len_now args.g args.n m _ _ w _ _ _ _ (the-loop.invariant.4 m w) loop-test.true)
          (λ z. the-leaf.ensures.1 m z),
    )
