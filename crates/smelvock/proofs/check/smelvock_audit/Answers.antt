-- `smelvock::check::smelvock_audit`: 10 where head or seats are bad, else the call's answer in words.
use mathlib.Core.Path.{sym, ap, ap₂, ◌∙◌}
use native.Mathlib.Omega.{arith}
use Rattle.model.specs.Kind.{base}
use Rattle.model.specs.State.{state}
use Rattle.model.specs.Answer.{verdict_answer}
use Rattle.model.specs.SeatedCalls.{audit_seated}
use Rattle.model.specs.declared.head.Head.{Head}
use Rattle.model.specs.declared.seats.Seats.{Seats}
use Rattle.model_laws.specs.Words.{lent}
use Rattle.tree_seats.specs.Words.{seats_from}
use Rattle.smelvock_marshal.specs.Flat.{number_of}
use Rattle.smelvock_marshal.proofs.HeadLaws.{good_seats}
use Rattle.smelvock.specs.Reads as flat
use Rattle.smelvock_marshal.proofs.LentLaws.{answer_refused, answer_good}
use Rattle.smelvock.proofs.SeatLaws.{lent_length}
use Rattle.smelvock.proofs.check.smelvock_audit.Goals as goal

pub returns-then-bad_seats : goal.returns-then-bad_seats
unfolding flat.audit
returns-then-bad_seats c = answer_refused number_of _ _ _ (sym c.bad_seats.ensures ∙ c.if-bad_seats.true) c.refused_number.ensures

pub head_from-requires : goal.head_from-requires
head_from-requires c = (good_seats _ (sym c.bad_seats.ensures ∙ c.if-bad_seats.false)).0

pub slice_bounds-audit-end : goal.slice_bounds-audit-end
slice_bounds-audit-end c = omega (arith, (good_seats c.args.head.now (sym c.bad_seats.ensures ∙ c.if-bad_seats.false)).0)

pub audit-a-requires : goal.audit-a-requires
audit-a-requires c = lent_length c.args.head.now (good_seats c.args.head.now (sym c.bad_seats.ensures ∙ c.if-bad_seats.false)).0

pub returns : goal.returns
unfolding flat.audit
returns c =
    let a = c.args in
    answer_good number_of _ _ _ _ (sym c.bad_seats.ensures ∙ c.if-bad_seats.false) c.number_of_verdict.ensures
    (ap verdict_answer (c.audit-a.ensures
    ∙ ap₂ (λ (h : Head) (b : Seats). audit_seated base (state h a.leaves.now a.inners.now a.homes.now) b) c.head_from.ensures.0 (ap seats_from (lent 19 17 a.head.now))))
