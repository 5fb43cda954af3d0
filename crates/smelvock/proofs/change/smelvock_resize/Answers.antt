-- `smelvock::change::smelvock_resize`: 10 where head or flag is bad, else the call's answer in words, and its finger where it was done.
use mathlib.Core.Path.{refl, sym, ◌∙◌}
use lib.Dec.{eqb}
use borrow.Author.Tests.{eqb-true}
use Rattle.model.specs.Length.{list_of}
use Rattle.model.specs.Kind.{base}
use Rattle.model.specs.Answer.{number_answer}
use Rattle.model.specs.State.{state}
use Rattle.model.specs.declared.head.Head.{Head}
use Rattle.model.specs.declared.head.Cursor.{Cursor}
use Rattle.model.specs.declared.length.Lengths.{Lengths}
use Rattle.smelvock_marshal.specs.Flat.{cursor_from, lengths_from, head_after, number_of}
use Rattle.smelvock_marshal.specs.Lent.{given}
use Rattle.smelvock_marshal.specs.declared.flat.FlatNumber.{FlatNumber}
use Rattle.smelvock_marshal.proofs.HeadLaws.{good_flag, good_present}
use Rattle.calls_size.specs.Size as size
use Rattle.smelvock.proofs.FlatLaws.{reply_refused, reply_settled, ap₃}
use Rattle.smelvock.proofs.KeptLaws.{resize_left, finger_alone, held_left, in_leaf}
use Rattle.smelvock.proofs.ResizeLaws.{resize_flat}
use Rattle.smelvock.proofs.change.smelvock_resize.Goals as goal

pub returns-then-bad_flag : goal.returns-then-bad_flag
returns-then-bad_flag c =
    let args = c.args in
    let g = given args.head.now args.leaves.now args.inners.now args.homes.now in
    reply_refused number_of number_answer head_after _ g _ _ (sym c.bad_flag.ensures ∙ c.if-bad_flag.true) c.refused_number.ensures
    ∙ resize_flat g (cursor_from args.leaf args.slot args.stamp) (lengths_from args.prepare args.effect args.lines) args.summed

pub head_from-requires : goal.head_from-requires
head_from-requires c =
    let bad-flag = c.bad_flag in
    let if1 = c.if-bad_flag in
    good_flag _ _ (sym bad-flag.ensures ∙ if1.false)

pub settle_found-requires : goal.settle_found-requires
settle_found-requires c =
    let args = c.args in
    let bad-flag = c.bad_flag in
    let if1 = c.if-bad_flag in
    let head-from = c.head_from in
    let cursor-from = c.cursor_from-at in
    let lengths-from = c.lengths_from-lengths in
    let resize = c.resize-r in
    let is_held_lem = c.is_held-held in
    let good = sym bad-flag.ensures ∙ if1.false in
    let left = resize_left base (state head-from.result args.leaves.now args.inners.now args.homes.now) (eqb args.summed 1) cursor-from.result (list_of lengths-from.result) in (
      good_flag _ _ good,
      head-from.ensures.1,
      λ _. finger_alone args.head.now head-from.result _ args.leaves.now args.inners.now args.homes.now _ _ _ _ _ head-from.ensures.0 resize.ensures left.0,
      λ q. in_leaf args.head.now (good_present _ _ good) head-from.result head-from.ensures.0 _
          (held_left head-from.result _ _ _ _ _ _ resize.ensures left (eqb-true _ 1 (sym is_held_lem.ensures ∙ q))),
    )

pub returns : goal.returns
returns c =
    let args = c.args in
    let bad-flag = c.bad_flag in
    let if1 = c.if-bad_flag in
    let number_of_law = c.number_of-a in
    let resize = c.resize-r in
    let head-from = c.head_from in
    let cursor-from = c.cursor_from-at in
    let lengths-from = c.lengths_from-lengths in
    let g = given args.head.now args.leaves.now args.inners.now args.homes.now in
    reply_settled number_of number_answer (λ (q : FlatNumber). q.number) (λ x. refl) _ g _ _ _ _ _ _ _ _
    (sym bad-flag.ensures ∙ if1.false) number_of_law.ensures c.settle_found.ensures
    (resize.ensures
    ∙ ap₃ (λ (h : Head) (k : Cursor) (l : Lengths). size.resize base (eqb args.summed 1) (state h args.leaves.now args.inners.now args.homes.now) k (list_of l))
    head-from.ensures.0 cursor-from.ensures lengths-from.ensures)
    ∙ resize_flat g (cursor_from args.leaf args.slot args.stamp) (lengths_from args.prepare args.effect args.lines) args.summed
