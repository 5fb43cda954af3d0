-- `smelvock::order::smelvock_cmp_words`: 10 where head or flag is bad, else the call's answer in words.
use mathlib.Core.Path.{sym, ap, ◌∙◌}
use Rattle.smelvock_marshal.specs.Flat.{number_of}
use Rattle.model.specs.Kind.{base}
use Rattle.model.specs.Answer.{compared_answer}
use Rattle.model.specs.State.{state}
use Rattle.smelvock.specs.Reads as flat
use Rattle.smelvock_marshal.proofs.LentLaws.{answer_refused, answer_good}
use Rattle.smelvock.proofs.FlatLaws.{ap₃}
use Rattle.smelvock_marshal.proofs.HeadLaws.{good_head}
use Rattle.model.specs.Calls as calls
use Rattle.model.specs.declared.head.Head.{Head}
use Rattle.model.specs.declared.head.Cursor.{Cursor}
use Rattle.smelvock.proofs.order.smelvock_cmp_words.Goals as goal

pub returns-then-bad_head : goal.returns-then-bad_head
unfolding flat.cmp
returns-then-bad_head c = answer_refused number_of _ _ _ (sym c.bad_head.ensures ∙ c.if-bad_head.true) c.refused_number.ensures

pub head_from-requires : goal.head_from-requires
head_from-requires c = good_head _ (sym c.bad_head.ensures ∙ c.if-bad_head.false)

pub returns : goal.returns
unfolding flat.cmp
returns c =
    let bad-head = c.bad_head in
    let if1 = c.if-bad_head in
    let args = c.args in
    let head-from = c.head_from in
    let cursor-from = c.cursor_from in
    answer_good number_of _ _ _ _ (sym bad-head.ensures ∙ if1.false)
    c.number_of_compared.ensures (ap compared_answer
    (c.cmp-c.ensures ∙ ap₃ (λ (h : Head) (j : Cursor) (k : Cursor). calls.cmp base (state h args.leaves.now args.inners.now args.homes.now) j k)
    head-from.ensures.0 cursor-from.ensures c.cursor_from-2.ensures))
