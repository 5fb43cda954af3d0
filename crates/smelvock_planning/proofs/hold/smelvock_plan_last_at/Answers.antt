-- `smelvock_planning::hold::smelvock_plan_last_at`: 10 where the head is bad, else what the call answers in words, and its head where it was done.
use mathlib.Core.Path.{refl, sym, ap, ◌∙◌}
use Rattle.model.specs.State.{state}
use Rattle.model.specs.Plan as plan
use Rattle.model.specs.Plan.{tree_plan}
use Rattle.model.specs.declared.head.Head.{Head}
use Rattle.smelvock_marshal.specs.Flat.{head_after, number_of}
use Rattle.smelvock_marshal.specs.Lent.{given}
use Rattle.smelvock_marshal.specs.declared.flat.FlatNumber.{FlatNumber}
use Rattle.smelvock_marshal.proofs.HeadLaws.{good_head}
use Rattle.smelvock_marshal.proofs.LentLaws.{left_refused, left_settled}
use Rattle.smelvock_planning.specs.Calls as flat
use Rattle.smelvock_planning.proofs.hold.smelvock_plan_last_at.Goals as goal

pub returns-then-bad_head : goal.returns-then-bad_head
unfolding flat.last_at
returns-then-bad_head c =
    let a = c.args in
    let g = given a.head.now a.leaves.now a.inners.now a.homes.now in
    left_refused number_of head_after _ g _ _ (sym c.bad_head.ensures ∙ c.if-bad_head.true) c.refused_number.ensures

pub head_from-requires : goal.head_from-requires
head_from-requires c = good_head _ (sym c.bad_head.ensures ∙ c.if-bad_head.false)

pub settle-requires : goal.settle-requires
settle-requires c =
    let bad-head = c.bad_head in
    let if1 = c.if-bad_head in
    good_head _ (sym bad-head.ensures ∙ if1.false)

pub returns : goal.returns
unfolding flat.last_at
returns c =
    let a = c.args in
    let bad-head = c.bad_head in
    let if1 = c.if-bad_head in
    let number-of-named = c.number_of_named-a in
    let last_at_law = c.last_at-r in
    let head-from = c.head_from in
    let g = given a.head.now a.leaves.now a.inners.now a.homes.now in
    left_settled number_of (λ (q : FlatNumber). q.number) (λ x. refl) _ g _ _ _ _ _ _ _ _
    (sym bad-head.ensures ∙ if1.false) number-of-named.ensures c.settle.ensures
    (last_at_law.ensures
    ∙ ap (λ (h : Head). tree_plan (state h a.leaves.now a.inners.now a.homes.now) (plan.last_at a.position)) head-from.ensures.0)
