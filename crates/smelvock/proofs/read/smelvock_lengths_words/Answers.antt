-- `smelvock::read::smelvock_lengths_words`: 10 where head or flag is bad, else the call's answer in words.
use mathlib.Core.Path.{sym, ap₂, ◌∙◌}
use Rattle.smelvock_marshal.specs.Flat.{measured_of}
use Rattle.model.specs.Kind.{base}
use Rattle.model.specs.State.{state}
use Rattle.smelvock.specs.Reads as flat
use Rattle.smelvock_marshal.proofs.LentLaws.{answer_refused, answer_good}
use Rattle.smelvock_marshal.proofs.HeadLaws.{good_head}
use Rattle.model.specs.Calls as calls
use Rattle.model.specs.declared.head.Head.{Head}
use Rattle.model.specs.declared.head.Cursor.{Cursor}
use Rattle.smelvock.proofs.read.smelvock_lengths_words.Goals as goal

pub returns-then-bad_head : goal.returns-then-bad_head
unfolding flat.lengths
returns-then-bad_head c = answer_refused measured_of _ _ _ (sym c.bad_head.ensures ∙ c.if-bad_head.true) c.refused_measured.ensures

pub head_from-requires : goal.head_from-requires
head_from-requires c = good_head _ (sym c.bad_head.ensures ∙ c.if-bad_head.false)

pub returns : goal.returns
unfolding flat.lengths
returns c =
    let bad-head = c.bad_head in
    let if1 = c.if-bad_head in
    let args = c.args in
    let head-from = c.head_from in
    answer_good measured_of _ _ _ _ (sym bad-head.ensures ∙ if1.false) c.measured_of.ensures
    (c.lengths-a.ensures ∙ ap₂ (λ (h : Head) (k : Cursor). calls.entry_lengths base (state h args.leaves.now args.inners.now args.homes.now) k)
    head-from.ensures.0 c.cursor_from.ensures)
