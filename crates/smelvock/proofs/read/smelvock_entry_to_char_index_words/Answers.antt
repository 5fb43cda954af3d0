-- `smelvock::read::smelvock_entry_to_char_index_words`: 10 where head or view is bad, else the call's answer in words.
use mathlib.Core.Path.{sym, ap, ◌∙◌}
use Rattle.smelvock_marshal.specs.Flat.{number_of}
use Rattle.model.specs.Length.{view_number}
use Rattle.model.specs.Kind.{base}
use Rattle.model.specs.Answer.{number_answer}
use Rattle.model.specs.State.{state}
use Rattle.smelvock.specs.Reads as flat
use Rattle.smelvock_marshal.proofs.LentLaws.{answer_refused, answer_good}
use Rattle.smelvock.proofs.FlatLaws.{ap₃}
use Rattle.smelvock_marshal.proofs.HeadLaws.{good_flag}
use Rattle.model.specs.Calls as calls
use Rattle.model.specs.declared.head.Head.{Head}
use Rattle.model.specs.declared.head.Cursor.{Cursor}
use Rattle.model.specs.declared.length.View.{View}
use Rattle.smelvock.proofs.read.smelvock_entry_to_char_index_words.Goals as goal

pub returns-then-bad_view : goal.returns-then-bad_view
unfolding flat.entry_to_char_index
returns-then-bad_view c = answer_refused number_of _ _ _ (sym c.bad_view.ensures ∙ c.if-bad_view.true) c.refused_number.ensures

pub head_from-requires : goal.head_from-requires
head_from-requires c = good_flag _ _ (sym c.bad_view.ensures ∙ c.if-bad_view.false)

pub returns : goal.returns
unfolding flat.entry_to_char_index
returns c =
    let bad-view = c.bad_view in
    let if1 = c.if-bad_view in
    let args = c.args in
    let head-from = c.head_from in
    let view-from = c.view_from in
    answer_good number_of _ _ _ _ (sym bad-view.ensures ∙ if1.false)
    c.number_of.ensures (ap number_answer (c.entry_to_char_index-a.ensures
    ∙ ap₃ (λ (h : Head) (v : View) (k : Cursor). calls.entry_to_char_index base (state h args.leaves.now args.inners.now args.homes.now) (view_number v) k)
    head-from.ensures.0 view-from.ensures c.cursor_from.ensures))
