-- `smelvock::read::smelvock_len`: 10 where head or flag is bad, else the call's answer in words.
use mathlib.Core.Path.{sym, ap, ◌∙◌}
use Rattle.smelvock_marshal.specs.Flat.{number_of}
use Rattle.model.specs.Answer.{number_answer}
use Rattle.smelvock.specs.Reads as flat
use Rattle.smelvock_marshal.proofs.LentLaws.{answer_refused, answer_good}
use Rattle.smelvock_marshal.proofs.HeadLaws.{good_head}
use Rattle.model.specs.Calls as calls
use Rattle.smelvock.proofs.read.smelvock_len.Goals as goal

pub returns-then-bad_head : goal.returns-then-bad_head
unfolding flat.len
returns-then-bad_head c = answer_refused number_of _ _ _ (sym c.bad_head.ensures ∙ c.if-bad_head.true) c.refused_number.ensures

pub head_from-requires : goal.head_from-requires
head_from-requires c = good_head _ (sym c.bad_head.ensures ∙ c.if-bad_head.false)

pub returns : goal.returns
unfolding flat.len
returns c =
    let the-bad-head = c.bad_head in
    let the-if1 = c.if-bad_head in
    let bad-head = the-bad-head in
    let if1 = the-if1 in
    answer_good number_of _ _ _ _ (sym bad-head.ensures ∙ if1.false) c.number_of.ensures (ap number_answer (c.len-a.ensures ∙ ap calls.len c.head_from.ensures.0))
