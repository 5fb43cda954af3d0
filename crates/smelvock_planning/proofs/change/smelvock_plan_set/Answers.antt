-- `smelvock_planning::change::smelvock_plan_set`: 10 where the head is bad, else what the call answers in words, and its head where it was done.
use mathlib.Core.Path.{refl, sym, ap, ◌∙◌}
use mathlib.Core.List.{[], ◌∷◌}
use Prim.Native.Nat.{ℕ}
use Rattle.model.specs.State.{state}
use Rattle.model.specs.Plan as plan
use Rattle.model.specs.Plan.{tree_plan}
use Rattle.model.specs.declared.head.Head.{Head}
use Rattle.smelvock_marshal.specs.Flat.{head_after}
use Rattle.smelvock_marshal.specs.Lent.{given, number_alone}
use Rattle.smelvock_marshal.proofs.HeadLaws.{good_head}
use Rattle.smelvock_marshal.proofs.LentLaws.{left_refused, left_settled}
use Rattle.smelvock_planning.specs.Calls as flat
use Rattle.smelvock_planning.proofs.change.smelvock_plan_set.Goals as goal

pub returns-then-bad_head : goal.returns-then-bad_head
unfolding flat.set
returns-then-bad_head c =
    let a = c.args in
    let g = given a.head.now a.leaves.now a.inners.now a.homes.now in
    left_refused number_alone head_after _ g _ _ (sym c.bad_head.ensures ∙ c.if-bad_head.true) refl

pub head_from-requires : goal.head_from-requires
head_from-requires c = good_head _ (sym c.bad_head.ensures ∙ c.if-bad_head.false)

pub settle-requires : goal.settle-requires
settle-requires c =
    let bad-head = c.bad_head in
    let if1 = c.if-bad_head in
    good_head _ (sym bad-head.ensures ∙ if1.false)

pub returns : goal.returns
unfolding flat.set
returns c =
    let a = c.args in
    let bad-head = c.bad_head in
    let if1 = c.if-bad_head in
    let outcome-of = c.outcome_of-a in
    let done = c.set-r in
    let head-from = c.head_from in
    let g = given a.head.now a.leaves.now a.inners.now a.homes.now in
    left_settled number_alone (λ (q : ℕ). q) (λ x. refl) _ g _ _ _ _ _ _ _ _
    (sym bad-head.ensures ∙ if1.false) outcome-of.ensures c.settle.ensures
    (done.ensures
    ∙ ap (λ (h : Head). tree_plan (state h a.leaves.now a.inners.now a.homes.now) (plan.set_lengths a.id (a.lowest ∷ a.highest ∷ []))) head-from.ensures.0)
