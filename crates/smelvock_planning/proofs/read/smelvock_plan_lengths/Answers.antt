-- `smelvock_planning::read::smelvock_plan_lengths`: 10 where the head is bad, else what the call answers of the tree in words.
use mathlib.Core.Path.{sym, ap, ◌∙◌}
use Rattle.model.specs.State.{state}
use Rattle.model.specs.Plan as plan
use Rattle.model.specs.Plan.{tree_plan}
use Rattle.model.specs.declared.head.Head.{Head}
use Rattle.smelvock_marshal.proofs.HeadLaws.{good_head}
use Rattle.smelvock_marshal.proofs.LentLaws.{answer_refused, step_good}
use Rattle.smelvock_planning.specs.Calls as flat
use Rattle.smelvock_planning.proofs.read.smelvock_plan_lengths.Goals as goal

pub returns-then-bad_head : goal.returns-then-bad_head
unfolding flat.lengths
returns-then-bad_head c = answer_refused flat.ranged_of _ _ _ (sym c.bad_head.ensures ∙ c.if-bad_head.true) c.refused_ranged.ensures

pub head_from-requires : goal.head_from-requires
head_from-requires c = good_head _ (sym c.bad_head.ensures ∙ c.if-bad_head.false)

pub returns : goal.returns
unfolding flat.lengths
returns c =
    let a = c.args in
    let bad-head = c.bad_head in
    let if1 = c.if-bad_head in
    step_good flat.ranged_of _ _ _ _ _ (sym bad-head.ensures ∙ if1.false) c.ranged_of.ensures
    (c.lengths-a.ensures
    ∙ ap (λ (h : Head). tree_plan (state h a.leaves.now a.inners.now a.homes.now) (plan.lengths a.id)) c.head_from.ensures.0)
