-- `smelvock_reading::change::smelvock_read_split`: 10 where the head or the flag is bad, else what the call answers in words, and its head where it was done.
use mathlib.Core.Path.{refl, sym, ap, ◌∙◌}
use mathlib.Core.List.{[], ◌∷◌}
use lib.Dec.{eqb}
use Rattle.model.specs.Kind.{reading}
use Rattle.model.specs.Row as row
use Rattle.model.specs.State.{state}
use Rattle.model.specs.ById.{tree_step}
use Rattle.model.specs.declared.head.Head.{Head}
use Rattle.smelvock_marshal.specs.Flat.{head_after, number_of}
use Rattle.smelvock_marshal.specs.Lent.{given}
use Rattle.smelvock_marshal.specs.declared.flat.FlatNumber.{FlatNumber}
use Rattle.smelvock_marshal.proofs.HeadLaws.{good_flag}
use Rattle.smelvock_marshal.proofs.LentLaws.{left_refused, left_settled}
use Rattle.smelvock_reading.specs.Calls as flat
use Rattle.smelvock_reading.proofs.change.smelvock_read_split.Goals as goal

pub returns-then-bad_flag : goal.returns-then-bad_flag
unfolding flat.split
returns-then-bad_flag c =
    let a = c.args in
    let g = given a.head.now a.leaves.now a.inners.now a.homes.now in
    left_refused number_of head_after _ g _ _ (sym c.bad_flag.ensures ∙ c.if-bad_flag.true) c.refused_number.ensures

pub head_from-requires : goal.head_from-requires
head_from-requires c = good_flag _ _ (sym c.bad_flag.ensures ∙ c.if-bad_flag.false)

pub settle-requires : goal.settle-requires
settle-requires c =
    let bad-flag = c.bad_flag in
    let if1 = c.if-bad_flag in
    good_flag _ _ (sym bad-flag.ensures ∙ if1.false)

pub returns : goal.returns
unfolding flat.split
returns c =
    let a = c.args in
    let bad-flag = c.bad_flag in
    let if1 = c.if-bad_flag in
    let number-of-divided = c.number_of_divided-a in
    let head-from = c.head_from in
    let g = given a.head.now a.leaves.now a.inners.now a.homes.now in
    left_settled number_of (λ (q : FlatNumber). q.number) (λ x. refl) _ g _ _ _ _ _ _ _ _
    (sym bad-flag.ensures ∙ if1.false) number-of-divided.ensures c.settle.ensures
    (c.split-r.ensures
    ∙ ap (λ (h : Head). tree_step reading (state h a.leaves.now a.inners.now a.homes.now) (row.split (eqb a.before 1) a.id (a.length ∷ []))) head-from.ensures.0)
