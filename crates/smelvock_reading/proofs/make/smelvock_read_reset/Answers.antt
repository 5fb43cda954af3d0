-- `smelvock_reading::make::smelvock_read_reset`: 10 where the head is bad, else what the call answers in words, and its head where it was done.
use mathlib.Core.Path.{refl, sym, ap, ◌∙◌}
use mathlib.Core.List.{[], ◌∷◌}
use Prim.Native.Nat.{ℕ}
use Rattle.model.specs.Kind.{reading}
use Rattle.model.specs.Row as row
use Rattle.model.specs.State.{state}
use Rattle.model.specs.ById.{tree_step}
use Rattle.model.specs.declared.head.Head.{Head}
use Rattle.smelvock_marshal.specs.Flat.{head_after}
use Rattle.smelvock_marshal.specs.Lent.{given, number_alone}
use Rattle.smelvock_marshal.proofs.HeadLaws.{good_head}
use Rattle.smelvock_marshal.proofs.LentLaws.{left_refused, left_settled}
use Rattle.smelvock_reading.specs.Calls as flat
use Rattle.smelvock_reading.proofs.make.smelvock_read_reset.Goals as goal

pub returns-then-bad_head : goal.returns-then-bad_head
unfolding flat.reset
returns-then-bad_head c =
    let a = c.args in
    let g = given a.head.now a.leaves.now a.inners.now a.homes.now in
    left_refused number_alone head_after _ g _ _ (sym c.bad_head.ensures ∙ c.if-bad_head.true) refl

pub head_from-requires : goal.head_from-requires
head_from-requires c = good_head _ (sym c.bad_head.ensures ∙ c.if-bad_head.false)

pub settle-requires : goal.settle-requires
settle-requires c =
    let bad-head = c.bad_head in
    let if1 = c.if-bad_head in
    good_head _ (sym bad-head.ensures ∙ if1.false)

pub returns : goal.returns
unfolding flat.reset
returns c =
    let a = c.args in
    let bad-head = c.bad_head in
    let if1 = c.if-bad_head in
    let outcome-of = c.outcome_of-a in
    let head-from = c.head_from in
    let g = given a.head.now a.leaves.now a.inners.now a.homes.now in
    left_settled number_alone (λ (q : ℕ). q) (λ x. refl) _ g _ _ _ _ _ _ _ _
    (sym bad-head.ensures ∙ if1.false) outcome-of.ensures c.settle.ensures
    (c.reset-r.ensures
    ∙ ap (λ (h : Head). tree_step reading (state h a.leaves.now a.inners.now a.homes.now) (row.reset (a.length ∷ []))) head-from.ensures.0)
