-- `smelvock_reading::read::smelvock_read_lookup`: 10 where the head is bad, else what the call answers in words, and its head where it was done.
use mathlib.Core.Path.{refl, sym, ap, ◌∙◌}
use Rattle.model.specs.Kind.{reading}
use Rattle.model.specs.Row as row
use Rattle.model.specs.State.{state}
use Rattle.model.specs.ById.{tree_step}
use Rattle.model.specs.declared.head.Head.{Head}
use Rattle.smelvock_marshal.specs.Flat.{head_after}
use Rattle.smelvock_marshal.specs.Lent.{given}
use Rattle.smelvock_marshal.proofs.HeadLaws.{good_head}
use Rattle.smelvock_marshal.proofs.LentLaws.{left_refused, left_settled}
use Rattle.smelvock_reading.specs.Calls as flat
use Rattle.smelvock_reading.specs.declared.flat.FlatLooked.{FlatLooked}
use Rattle.smelvock_reading.proofs.read.smelvock_read_lookup.Goals as goal

pub returns-then-bad_head : goal.returns-then-bad_head
unfolding flat.lookup
returns-then-bad_head c =
    let a = c.args in
    let g = given a.head.now a.leaves.now a.inners.now a.homes.now in
    left_refused flat.looked_of head_after _ g _ _ (sym c.bad_head.ensures ∙ c.if-bad_head.true) c.refused_looked.ensures

pub head_from-requires : goal.head_from-requires
head_from-requires c = good_head _ (sym c.bad_head.ensures ∙ c.if-bad_head.false)

pub settle-requires : goal.settle-requires
settle-requires c =
    let bad-head = c.bad_head in
    let if1 = c.if-bad_head in
    good_head _ (sym bad-head.ensures ∙ if1.false)

pub returns : goal.returns
unfolding flat.lookup
returns c =
    let a = c.args in
    let bad-head = c.bad_head in
    let if1 = c.if-bad_head in
    let looked-of = c.looked_of-a in
    let head-from = c.head_from in
    let g = given a.head.now a.leaves.now a.inners.now a.homes.now in
    left_settled flat.looked_of (λ (q : FlatLooked). q.number) (λ x. refl) _ g _ _ _ _ _ _ _ _
    (sym bad-head.ensures ∙ if1.false) looked-of.ensures c.settle.ensures
    (c.lookup-r.ensures
    ∙ ap (λ (h : Head). tree_step reading (state h a.leaves.now a.inners.now a.homes.now) (row.lookup 0 a.index)) head-from.ensures.0)
