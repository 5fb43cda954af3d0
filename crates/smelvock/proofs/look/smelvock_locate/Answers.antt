-- `smelvock::look::smelvock_locate`: 10 where head or view is bad, else the call's answer in words, and its finger where it was done.
use mathlib.Core.Path.{refl, sym, ap₂, ◌∙◌}
use Rattle.smelvock_marshal.specs.Flat.{head_after, located_of}
use Rattle.smelvock_marshal.specs.Lent.{given}
use Rattle.model.specs.Length.{view_number}
use Rattle.model.specs.Kind.{base}
use Rattle.model.specs.Examined as count
use Rattle.model.specs.Examined.{located_answer}
use Rattle.model.specs.State.{state}
use Rattle.smelvock.specs.Changes as flat
use Rattle.smelvock.proofs.FlatLaws.{reply_refused, reply_settled}
use Rattle.smelvock.proofs.KeptLaws.{locate_fingered, finger_alone, in_leaf}
use Rattle.smelvock_marshal.proofs.HeadLaws.{good_flag, good_present}
use Rattle.model.specs.declared.head.Head.{Head}
use Rattle.model.specs.declared.length.View.{View}
use Rattle.smelvock_marshal.specs.declared.flat.FlatLocated.{FlatLocated}
use Rattle.smelvock.proofs.look.smelvock_locate.Goals as goal

pub returns-then-bad_view : goal.returns-then-bad_view
unfolding flat.locate
returns-then-bad_view c =
    let args = c.args in
    reply_refused located_of located_answer head_after _ (given args.head.now args.leaves.now args.inners.now args.homes.now) _ _
    (sym c.bad_view.ensures ∙ c.if-bad_view.true) c.refused_located.ensures

pub head_from-requires : goal.head_from-requires
head_from-requires c = good_flag _ _ (sym c.bad_view.ensures ∙ c.if-bad_view.false)

pub settle_found-requires : goal.settle_found-requires
settle_found-requires c =
    let bad-view = c.bad_view in
    let if1 = c.if-bad_view in
    let args = c.args in
    let head-from = c.head_from in
    let locate = c.locate-r in
    let view-from = c.view_from in (
      good_flag _ _ (sym bad-view.ensures ∙ if1.false),
      head-from.ensures.1,
      λ _. finger_alone args.head.now head-from.result _ args.leaves.now args.inners.now args.homes.now _ _ _ _ _
          head-from.ensures.0 locate.ensures.0
          (locate_fingered base (state head-from.result args.leaves.now args.inners.now args.homes.now) (view_number view-from.result) args.index),
      λ q. in_leaf args.head.now (good_present _ _ (sym bad-view.ensures ∙ if1.false)) head-from.result head-from.ensures.0 locate.result.head.finger (locate.ensures.1 q),
    )

pub returns : goal.returns
unfolding flat.locate
returns c =
    let args = c.args in
    let bad-view = c.bad_view in
    let if1 = c.if-bad_view in
    let located-of = c.located_of-a in
    let locate = c.locate-r in
    let head-from = c.head_from in
    let view-from = c.view_from in
    reply_settled located_of located_answer (λ (q : FlatLocated). q.number) (λ x. refl) _ (given args.head.now args.leaves.now args.inners.now args.homes.now) _ _ _ _ _ _ _ _
    (sym bad-view.ensures
    ∙ if1.false) located-of.ensures
    c.settle_found.ensures (locate.ensures.0
    ∙ ap₂ (λ (h : Head) (v : View). count.locate base (state h args.leaves.now args.inners.now args.homes.now) (view_number v) args.index)
    head-from.ensures.0 view-from.ensures)
