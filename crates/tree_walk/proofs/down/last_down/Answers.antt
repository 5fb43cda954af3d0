-- `tree_walk::down::last_down`: the leaf from here on is the leaf asked for; each turn goes down one level by the last slot in use.
use Rattle.std.proofs.Common.{◌≡◌, ◌+◌, ◌-◌, true, sym, ◌∙◌, arith, ltb-false, ltb-true}
use Rattle.model_laws.specs.Down.{sized, last_end, last_out, last_broken, last_none, last_on}
use Rattle.tree_walk.proofs.down.last_down.Goals.{Else-not-sized}
use Rattle.tree_walk.proofs.down.last_down.Goals as goal

-- the node of a turn is in the area and says no more slots than it has
turn : (c : Else-not-sized) → sized c.args.g c.loop.node c.args.inners.now ≡ true
turn c = sym c.sized.ensures ∙ c.if-not-sized.false

pub returns-then-not-sized : goal.returns-then-not-sized
returns-then-not-sized c =
    let args = c.args in
    let the-loop = c.loop in
    sym (last_broken args.g _ _ _ (omega arith) (sym c.sized.ensures ∙ c.if-not-sized.true)) ∙ the-loop.invariant

pub returns-then-len-eq0 : goal.returns-then-len-eq0
returns-then-len-eq0 c =
    let args = c.args in
    let the-loop = c.loop in
    sym (last_none args.g _ _ _ (omega arith) (turn (goal.at.returns-then-len-eq0 c).Else-not-sized) (sym c.len_of-len.ensures ∙ c.if-len-eq0.true)) ∙ the-loop.invariant

pub loop-preserved : goal.loop-preserved
loop-preserved c =
    let one : c.args.left - (c.loop.counter + 1) ≡ c.args.left - c.loop.counter - 1 = omega arith in
    rw (one, c.child_of-node.ensures, c.len_of-len.ensures)
    (sym (last_on c.args.g _ _ _ (omega arith)
    (turn (goal.at.loop-preserved c).Else-not-sized) (omega (arith, c.len_of-len.ensures, c.if-len-eq0.false))) ∙ c.loop.invariant)

pub returns-then-not-held : goal.returns-then-not-held
returns-then-not-held c =
    let args = c.args in
    let the-loop = c.loop in
    sym (last_out args.g _ _ _ (omega arith) (ltb-false _ _ (sym c.held.ensures ∙ c.if-not-held.true))) ∙ the-loop.invariant

pub returns : goal.returns
returns c =
    let args = c.args in
    let the-loop = c.loop in
    sym (last_end args.g _ _ _ (omega arith) (ltb-true _ _ (sym c.held.ensures ∙ c.if-not-held.false))) ∙ the-loop.invariant
