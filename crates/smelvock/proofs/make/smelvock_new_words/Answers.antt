-- `smelvock::make::smelvock_new_words`: 10 where the head isn't thirty-six words or the shares are bad, else the call's head, seats and answer in words.
use mathlib.Core.Path.{refl, sym, ap, ◌∙◌}
use mathlib.Core.List.{List, ◌++◌}
use native.Mathlib.Omega.{arith}
use Prim.Native.Nat.{ℕ}
use Rattle.model.specs.Length.{list_of}
use Rattle.model.specs.Kind.{base}
use Rattle.model.specs.Answer.{outcome_answer}
use Rattle.model.specs.declared.head.Head.{Head}
use Rattle.model.specs.declared.length.Lengths.{Lengths}
use Rattle.model.specs.declared.seats.Seats.{Seats}
use Rattle.tree_seats.specs.Words.{seats_words}
use Rattle.calls_make.specs.Made.{make_with}
use Rattle.smelvock_marshal.specs.Flat.{head_words}
use Rattle.smelvock_marshal.specs.Lent.{given, number_alone}
use Rattle.smelvock_marshal.proofs.HeadLaws.{good_made}
use Rattle.smelvock.specs.Changes as flat
use Rattle.smelvock.proofs.FlatLaws.{seated_refused, seated_good}
use Rattle.smelvock.proofs.SeatLaws.{lent_length, head_length, words_made}
use Rattle.smelvock.proofs.make.smelvock_new_words.Goals as goal

-- what the lent words are after it
abbrev made : ℕ → Head → Seats → List ℕ → List ℕ
made n h b w = head_words h ++ seats_words b

pub returns-then-bad_made : goal.returns-then-bad_made
unfolding flat.make
returns-then-bad_made c =
    let a = c.args in
    seated_refused number_alone outcome_answer made _ (given a.head.now a.leaves.now a.inners.now a.homes.now) _ _ (sym c.bad_made.ensures ∙ c.if-bad_made.true) refl

pub slice_bounds-new-end : goal.slice_bounds-new-end
slice_bounds-new-end c = omega (arith, (good_made c.args.head.now c.args.shares.now (sym c.bad_made.ensures ∙ c.if-bad_made.false)).0)

pub new-r-requires : goal.new-r-requires
new-r-requires c =
    let good = good_made c.args.head.now c.args.shares.now (sym c.bad_made.ensures ∙ c.if-bad_made.false) in
    (lent_length c.args.head.now good.0, good.1)

pub put_head-requires : goal.put_head-requires
put_head-requires c =
    let e = (good_made c.args.head.now c.args.shares.now (sym c.bad_made.ensures ∙ c.if-bad_made.false)).0 in
    head_length c.args.head.now c.new-r.new.seats e (c.new-r.auto.seats ∙ lent_length c.args.head.now e)

pub returns : goal.returns
unfolding flat.make
returns c =
    let a = c.args in
    let w = a.head.now in
    let bad = sym c.bad_made.ensures ∙ c.if-bad_made.false in
    let e = (good_made w a.shares.now bad).0 in
    let r = c.new-r in
    seated_good number_alone outcome_answer made _ (given a.head.now a.leaves.now a.inners.now a.homes.now) _ _ _ _ _ _ _ _ _ bad c.outcome_of.ensures
    (words_made w _ e (r.auto.seats ∙ lent_length w e) _ _ c.put_head.ensures r.ensures.1)
    (r.ensures.0 ∙ ap (λ (l : Lengths). make_with base a.fan a.limit a.shares.now (list_of l) a.leaves.now a.inners.now a.homes.now) c.lengths_from.ensures)
