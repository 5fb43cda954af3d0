-- `smelvock::make::smelvock_reset_words`: 10 where head or seats are bad, else the call's answer in words, and its head and seats where it was done.
use mathlib.Core.Path.{refl, sym, ap, ◌∙◌}
use native.Mathlib.Omega.{arith}
use lib.ListN.{take, drop}
use Rattle.model.specs.Length.{list_of}
use Rattle.model.specs.State.{state}
use Rattle.model_laws.specs.Words.{lent}
use Rattle.tree_seats.specs.Words.{seats_from}
use Rattle.smelvock_marshal.specs.Lent.{given, number_alone}
use Rattle.smelvock.specs.Changes as flat
use Rattle.model.specs.Kind.{base}
use Rattle.model.specs.Answer.{outcome_answer}
use Rattle.model.specs.SeatedCalls.{reset_seated}
use Rattle.smelvock_marshal.proofs.HeadLaws.{good_seats}
use Rattle.smelvock.specs.Changes.{seated_after}
use Rattle.smelvock.proofs.FlatLaws.{seated_refused, seated_good}
use Rattle.smelvock.proofs.SeatLaws.{lent_length, head_length, words_settled, kept_by, reset_kept, reset_same}
use Rattle.smelvock.proofs.make.smelvock_reset_words.Goals as goal

pub returns-then-bad_seats : goal.returns-then-bad_seats
unfolding flat.reset
returns-then-bad_seats c =
    let a = c.args in
    seated_refused number_alone outcome_answer seated_after _ (given a.head.now a.leaves.now a.inners.now a.homes.now) _ _ (sym c.bad_seats.ensures ∙ c.if-bad_seats.true) refl

pub head_from-h-requires : goal.head_from-h-requires
head_from-h-requires c = (good_seats _ (sym c.bad_seats.ensures ∙ c.if-bad_seats.false)).0

pub slice_bounds-reset-end : goal.slice_bounds-reset-end
slice_bounds-reset-end c = omega (arith, (good_seats c.args.head.now (sym c.bad_seats.ensures ∙ c.if-bad_seats.false)).0)

pub reset-r-requires : goal.reset-r-requires
reset-r-requires c = lent_length c.args.head.now (good_seats c.args.head.now (sym c.bad_seats.ensures ∙ c.if-bad_seats.false)).0

pub settle-requires : goal.settle-requires
settle-requires c =
    let e = (good_seats c.args.head.now (sym c.bad_seats.ensures ∙ c.if-bad_seats.false)).0 in
    head_length c.args.head.now c.reset-r.new.seats e (c.reset-r.auto.seats ∙ lent_length c.args.head.now e)

pub returns : goal.returns
unfolding flat.reset
returns c =
    let a = c.args in
    let w = a.head.now in
    let bad = sym c.bad_seats.ensures ∙ c.if-bad_seats.false in
    let good = good_seats w bad in
    let r = c.reset-r in
    let s = state c.head_from-h.result a.leaves.now a.inners.now a.homes.now in
    let b = seats_from (take 17 (drop 19 w)) in
    let l = list_of c.lengths_from.result in
    seated_good number_alone outcome_answer seated_after _ (given a.head.now a.leaves.now a.inners.now a.homes.now) _ _ _ _ _ _ _ _ _ bad c.outcome_of-a.ensures
    (words_settled w _ good.0 (r.auto.seats ∙ lent_length w good.0) _ _ _ _ c.settle.ensures c.outcome_of-a.ensures good.1 r.ensures.1
    (kept_by outcome_answer (reset_seated base s b l) b (reset_kept s b l) _ _ _ r.ensures.0 _ c.outcome_of-a.ensures))
    (r.ensures.0 ∙ reset_same a.leaves.now a.inners.now a.homes.now c.head_from-h.ensures.0 (ap seats_from (lent 19 17 w)) c.lengths_from.ensures)
