-- `smelvock_planning::make::smelvock_plan_new`: 10 where the head isn't thirty-six words, else the call's answer in words, its head and no seats.
use mathlib.Core.List.{[], ◌∷◌}
use Rattle.model.specs.Kind.{planning}
use Rattle.smelvock_marshal.specs.Lent.{given}
use Rattle.smelvock_marshal.proofs.LentLaws.{make_refused, make_good}
use Rattle.smelvock_planning.specs.Calls as flat
use Rattle.smelvock_planning.proofs.make.smelvock_plan_new.Goals as goal

pub returns-then-head-ne36 : goal.returns-then-head-ne36
unfolding flat.make
returns-then-head-ne36 c =
    let a = c.args in
    let g = given a.head.now a.leaves.now a.inners.now a.homes.now in
    make_refused planning a.fan a.limit (a.lowest ∷ a.highest ∷ []) g c.if-head-ne36.true

pub put_unseated-requires : goal.put_unseated-requires
put_unseated-requires c =
    let if1 = c.if-head-ne36 in
    if1.false

pub returns : goal.returns
unfolding flat.make
returns c =
    let a = c.args in
    let g = given a.head.now a.leaves.now a.inners.now a.homes.now in
    let if1 = c.if-head-ne36 in
    let new = c.new-r in
    make_good planning a.fan a.limit (a.lowest ∷ a.highest ∷ []) g _ _ _ _ _ _ _
    if1.false c.outcome_of.ensures c.put_unseated.ensures new.ensures
