-- `smelvock::mend::smelvock_repair`: 10 where the head is no stored one, else the call's answer in words, and the finger gone where it was done.
use mathlib.Core.Path.{refl, sym, ap, ap₂, ◌∙◌}
use native.Mathlib.Omega.{arith}
use Rattle.model.specs.Kind.{base}
use Rattle.model.specs.State.{state}
use Rattle.model.specs.Answer.{number_answer}
use Rattle.model.specs.Repair as mended
use Rattle.model.specs.declared.head.Head.{Head}
use Rattle.model.specs.declared.seats.Seats.{Seats}
use Rattle.model_laws.specs.Words.{lent}
use Rattle.tree_seats.specs.Words.{seats_from}
use Rattle.smelvock_marshal.specs.Flat.{head_after, number_of}
use Rattle.smelvock_marshal.specs.Lent.{given}
use Rattle.smelvock_marshal.specs.declared.flat.FlatNumber.{FlatNumber}
use Rattle.smelvock_marshal.proofs.HeadLaws.{good_stored}
use Rattle.smelvock.specs.Changes as flat
use Rattle.smelvock.proofs.FlatLaws.{reply_refused, reply_settled}
use Rattle.smelvock.proofs.KeptLaws.{repair_fingered, finger_alone}
use Rattle.smelvock.proofs.mend.smelvock_repair.Goals as goal

pub returns-then-bad_stored : goal.returns-then-bad_stored
unfolding flat.repair
returns-then-bad_stored c =
    let args = c.args in
    reply_refused number_of number_answer head_after _ (given args.head.now args.leaves.now args.inners.now args.homes.now) _ _
    (sym c.bad_stored.ensures ∙ c.if-bad_stored.true) c.refused_number.ensures

pub head_from-requires : goal.head_from-requires
head_from-requires c = good_stored _ (sym c.bad_stored.ensures ∙ c.if-bad_stored.false)

pub slice_bounds-repair-end : goal.slice_bounds-repair-end
slice_bounds-repair-end c =
    let args = c.args in
    omega (arith, good_stored args.head.now (sym c.bad_stored.ensures ∙ c.if-bad_stored.false))

pub settle_finger-requires : goal.settle_finger-requires
settle_finger-requires c =
    let args = c.args in
    let bad-stored = c.bad_stored in
    let if1 = c.if-bad_stored in
    let head-from = c.head_from in
    let repair = c.repair-r in (
      good_stored _ (sym bad-stored.ensures ∙ if1.false),
      head-from.ensures.1,
      λ _. finger_alone args.head.now head-from.result _ args.leaves.now args.inners.now args.homes.now _ _ _ _ _
          head-from.ensures.0 repair.ensures (repair_fingered base (state head-from.result args.leaves.now args.inners.now args.homes.now) _),
    )

pub returns : goal.returns
unfolding flat.repair
returns c =
    let args = c.args in
    let bad-stored = c.bad_stored in
    let if1 = c.if-bad_stored in
    let head-from = c.head_from in
    let repair = c.repair-r in
    reply_settled number_of number_answer (λ (q : FlatNumber). q.number) (λ x. refl) _ (given args.head.now args.leaves.now args.inners.now args.homes.now) _ _ _ _ _ _ _ _
    (sym bad-stored.ensures ∙ if1.false) c.number_of-a.ensures c.settle_finger.ensures
    (repair.ensures
    ∙ ap₂ (λ (h : Head) (b : Seats). mended.repair base (state h args.leaves.now args.inners.now args.homes.now) b) head-from.ensures.0
    (ap seats_from (lent 19 17 args.head.now)))
