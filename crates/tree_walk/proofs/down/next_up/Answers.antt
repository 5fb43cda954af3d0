-- `tree_walk::down::next_up`: the leaf after the place reached is the leaf asked for; each turn goes up one level from a last place.
use Rattle.std.proofs.Common.{◌≡◌, ◌+◌, ◌-◌, true, sym, ◌∙◌, arith}
use Rattle.model_laws.specs.Down.{sized, next_end, next_broken, next_past, next_down, next_on}
use Rattle.tree_walk.proofs.down.next_up.Goals.{Else-not-sized}
use Rattle.tree_walk.proofs.down.next_up.Goals as goal

-- the node of a turn is in the area and says no more slots than it has
turn : (c : Else-not-sized) → sized c.args.g c.loop-climbed.node c.args.inners.now ≡ true
turn c = sym c.sized.ensures ∙ c.if-not-sized.false

pub returns-then-not-sized : goal.returns-then-not-sized
returns-then-not-sized c =
    let args = c.args in
    let the-loop = c.loop-climbed in
    sym (next_broken args.g _ _ _ _ _ (omega arith) (sym c.sized.ensures ∙ c.if-not-sized.true)) ∙ the-loop.invariant

pub returns-then-at-len : goal.returns-then-at-len
returns-then-at-len c =
    let args = c.args in
    let the-loop = c.loop-climbed in
    sym (next_past args.g _ _ _ _ _ (omega arith) (omega (arith, c.len_of-len.ensures, c.if-at-len.true))) ∙ the-loop.invariant

pub returns-then-at-len-2 : goal.returns-then-at-len-2
returns-then-at-len-2 c =
    rw c.child_of-next.ensures at c.first_down.ensures
    ∙ sym (next_down c.args.g _ _ _ _ _
    (omega arith) (turn (goal.at.returns-then-at-len-2 c).Else-not-sized)
    (omega (arith, c.len_of-len.ensures, c.if-at-len-2.true))) ∙ c.loop-climbed.invariant

pub loop-climbed-preserved : goal.loop-climbed-preserved
loop-climbed-preserved c =
    let args = c.args in
    let len_of_lem = c.len_of-len in
    let if2 = c.if-at-len in
    let the-loop = c.loop-climbed in
    let one : args.left - (the-loop.climbed + 1) ≡ args.left - the-loop.climbed - 1 = omega arith in
    rw (one, c.parent_of-up.ensures, c.at_of-at.ensures)
    (sym (next_on args.g _ _ _ _ _ (omega arith) (turn (goal.at.loop-climbed-preserved c).Else-not-sized) (omega (arith, len_of_lem.ensures, if2.false))
    (omega (arith, len_of_lem.ensures, c.if-at-len-2.false))) ∙ the-loop.invariant)

pub returns : goal.returns
returns c =
    let args = c.args in
    sym (next_end args.g _ _ _ _ _ (omega arith)) ∙ c.loop-climbed.invariant
