-- `smelvock::order::smelvock_first`: 10 where head or flag is bad, else the call's answer in words.
use mathlib.Core.Path.{sym, ap, ◌∙◌}
use Rattle.smelvock_marshal.specs.Flat.{standing_of}
use Rattle.model.specs.Kind.{base}
use Rattle.model.specs.Answer.{standing_answer}
use Rattle.model.specs.State.{state}
use Rattle.smelvock.specs.Reads as flat
use Rattle.smelvock_marshal.proofs.LentLaws.{answer_refused, answer_good}
use Rattle.smelvock_marshal.proofs.HeadLaws.{good_head}
use Rattle.model.specs.Calls as calls
use Rattle.model.specs.declared.head.Head.{Head}
use Rattle.smelvock.proofs.order.smelvock_first.Goals as goal

pub returns-then-bad_head : goal.returns-then-bad_head
unfolding flat.first
returns-then-bad_head c = answer_refused standing_of _ _ _ (sym c.bad_head.ensures ∙ c.if-bad_head.true) c.refused_standing.ensures

pub head_from-requires : goal.head_from-requires
head_from-requires c = good_head _ (sym c.bad_head.ensures ∙ c.if-bad_head.false)

pub returns : goal.returns
unfolding flat.first
returns c =
    let bad-head = c.bad_head in
    let if1 = c.if-bad_head in
    let args = c.args in
    answer_good standing_of _ _ _ _ (sym bad-head.ensures ∙ if1.false) c.standing_of.ensures
    (ap standing_answer (c.first-a.ensures ∙ ap (λ (h : Head). calls.first base (state h args.leaves.now args.inners.now args.homes.now)) c.head_from.ensures.0))
