-- `smelvock_reading::read::smelvock_read_next`: 10 where the head is bad, else what the call answers of the tree in words.
use mathlib.Core.Path.{sym, ap, ◌∙◌}
use Rattle.model.specs.Kind.{reading}
use Rattle.model.specs.Row as row
use Rattle.model.specs.State.{state}
use Rattle.model.specs.ById.{tree_step}
use Rattle.model.specs.declared.head.Head.{Head}
use Rattle.smelvock_marshal.specs.Flat.{number_of}
use Rattle.smelvock_marshal.proofs.HeadLaws.{good_head}
use Rattle.smelvock_marshal.proofs.LentLaws.{answer_refused, step_good}
use Rattle.smelvock_reading.specs.Calls as flat
use Rattle.smelvock_reading.proofs.read.smelvock_read_next.Goals as goal

pub returns-then-bad_head : goal.returns-then-bad_head
unfolding flat.next
returns-then-bad_head c = answer_refused number_of _ _ _ (sym c.bad_head.ensures ∙ c.if-bad_head.true) c.refused_number.ensures

pub head_from-requires : goal.head_from-requires
head_from-requires c = good_head _ (sym c.bad_head.ensures ∙ c.if-bad_head.false)

pub returns : goal.returns
unfolding flat.next
returns c =
    let if1 = c.if-bad_head in
    let bad-head = c.bad_head in
    let a = c.args in
    step_good number_of _ _ _ _ _ (sym bad-head.ensures ∙ if1.false) c.number_of_following.ensures
    (c.next-a.ensures
    ∙ ap (λ (h : Head). tree_step reading (state h a.leaves.now a.inners.now a.homes.now) (row.next a.id)) c.head_from.ensures.0)
