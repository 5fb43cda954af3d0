-- `smelvock::change::smelvock_insert_words`: 10 where head, seats or flag are bad, else the call's answer in words, and what it changed of head and seats where it was done.
use mathlib.Core.Path.{sym, ap, ◌∙◌}
use native.Mathlib.Omega.{arith}
use lib.ListN.{take, drop}
use borrow.Rule.Slice.PartMut.{put_mid}
use Rattle.model.specs.Length.{list_of}
use Rattle.model.specs.State.{state}
use Rattle.model_laws.specs.Words.{lent}
use Rattle.tree_seats.specs.Words.{seats_from}
use Rattle.smelvock.specs.Changes as flat
use Rattle.model.specs.Kind.{base}
use Rattle.model.specs.Answer.{inserted_answer}
use Rattle.model.specs.SeatedCalls.{insert_seated}
use Rattle.smelvock_marshal.specs.Flat.{target_from, inserted_of}
use Rattle.smelvock_marshal.specs.Lent.{given}
use Rattle.smelvock_marshal.specs.declared.flat.FlatInserted.{FlatInserted}
use Rattle.smelvock_marshal.proofs.HeadLaws.{good_seated_flag}
use Rattle.smelvock.specs.Changes.{seated_after}
use Rattle.smelvock.proofs.FlatLaws.{seated_refused, seated_good}
use Rattle.smelvock.proofs.SeatLaws.{lent_length, head_length, words_there, words_settled, kept_by, insert_kept, insert_sizes, sizes_since, insert_same}
use Rattle.smelvock.proofs.change.smelvock_insert_words.Goals as goal

pub returns-then-bad_seated_flag : goal.returns-then-bad_seated_flag
unfolding flat.insert
returns-then-bad_seated_flag c =
    let a = c.args in
    seated_refused inserted_of inserted_answer seated_after _ (given a.head.now a.leaves.now a.inners.now a.homes.now) _ _ (sym c.bad_seated_flag.ensures ∙ c.if-bad_seated_flag.true) c.refused_inserted.ensures

pub head_from-h-requires : goal.head_from-h-requires
head_from-h-requires c = (good_seated_flag _ _ (sym c.bad_seated_flag.ensures ∙ c.if-bad_seated_flag.false)).0

pub slice_bounds-insert-end : goal.slice_bounds-insert-end
slice_bounds-insert-end c = omega (arith, (good_seated_flag c.args.head.now _ (sym c.bad_seated_flag.ensures ∙ c.if-bad_seated_flag.false)).0)

pub insert-r-requires : goal.insert-r-requires
insert-r-requires c = lent_length c.args.head.now (good_seated_flag c.args.head.now _ (sym c.bad_seated_flag.ensures ∙ c.if-bad_seated_flag.false)).0

pub settle_grown-requires : goal.settle_grown-requires
settle_grown-requires c =
    let a = c.args in
    let e = (good_seated_flag a.head.now _ (sym c.bad_seated_flag.ensures ∙ c.if-bad_seated_flag.false)).0 in
    let r = c.insert-r in
    let n = r.auto.seats ∙ lent_length a.head.now e in
    let s = state c.head_from-h.result a.leaves.now a.inners.now a.homes.now in (
      head_length a.head.now r.new.seats e n,
      λ _. sizes_since a.head.now (put_mid 19 17 a.head.now r.new.seats) (words_there a.head.now r.new.seats e n) c.head_from-h.result _ a.leaves.now a.inners.now a.homes.now _ _ _ _ _ _ c.head_from-h.ensures.0 r.ensures.0
          (insert_sizes s (seats_from (take 17 (drop 19 a.head.now))) c.seat_from.result c.target_from-before.result (list_of c.lengths_from-lengths.result)),
    )

pub returns : goal.returns
unfolding flat.insert
returns c =
    let a = c.args in
    let w = a.head.now in
    let bad = sym c.bad_seated_flag.ensures ∙ c.if-bad_seated_flag.false in
    let good = good_seated_flag w _ bad in
    let r = c.insert-r in
    let number = ap (λ (q : FlatInserted). q.number) c.inserted_of-a.ensures in
    let s = state c.head_from-h.result a.leaves.now a.inners.now a.homes.now in
    let b = seats_from (take 17 (drop 19 w)) in
    seated_good inserted_of inserted_answer seated_after _ (given a.head.now a.leaves.now a.inners.now a.homes.now) _ _ _ _ _ _ _ _ _ bad c.inserted_of-a.ensures
    (words_settled w _ good.0 (r.auto.seats ∙ lent_length w good.0) _ _ _ _ c.settle_grown.ensures number good.1 r.ensures.1
    (kept_by inserted_answer (insert_seated base s b c.seat_from.result c.target_from-before.result (list_of c.lengths_from-lengths.result)) b
    (insert_kept s b c.seat_from.result c.target_from-before.result (list_of c.lengths_from-lengths.result)) _ _ _ r.ensures.0 _ number))
    (r.ensures.0
    ∙ insert_same a.leaves.now a.inners.now a.homes.now c.head_from-h.ensures.0 (ap seats_from (lent 19 17 w)) c.lengths_from-lengths.ensures c.seat_from.ensures
    (c.target_from-before.ensures ∙ ap (target_from a.end) c.cursor_from.ensures))
