-- `tree_walk::down::first_down`: the leaf from here on is the leaf asked for; each turn goes down one level by the first slot.
use Rattle.std.proofs.Common.{◌≡◌, ◌<◌, ◌+◌, ◌-◌, sym, ◌∙◌, arith, ltb-false, ltb-true}
use Rattle.model_laws.specs.Down.{first_end, first_broken, first_on}
use Rattle.tree_walk.proofs.down.first_down.Goals.{Else-not-held}
use Rattle.tree_walk.proofs.down.first_down.Goals as goal

-- the node of a turn is in the area
turn : (c : Else-not-held) → c.loop.node < c.args.g.nodes
turn c = ltb-true _ _ (sym c.held.ensures ∙ c.if-not-held.false)

pub returns-then-not-held : goal.returns-then-not-held
returns-then-not-held c =
    let args = c.args in
    let the-loop = c.loop in
    sym (first_broken args.g _ _ _ (ltb-false _ _ (sym c.held.ensures ∙ c.if-not-held.true))) ∙ the-loop.invariant

pub loop-preserved : goal.loop-preserved
loop-preserved c =
    let args = c.args in
    let the-loop = c.loop in
    let one : args.left - (the-loop.counter + 1) ≡ args.left - the-loop.counter - 1 = omega arith in
    rw (one, c.child_of-node.ensures) (sym (first_on args.g _ _ _ (omega arith) (turn (goal.at.loop-preserved c).Else-not-held)) ∙ the-loop.invariant)

pub returns-then-not-held-2 : goal.returns-then-not-held-2
returns-then-not-held-2 c =
    let args = c.args in
    let the-loop = c.loop in
    sym (first_broken args.g _ _ _ (ltb-false _ _ (sym c.held-2.ensures ∙ c.if-not-held-2.true))) ∙ the-loop.invariant

pub returns : goal.returns
returns c =
    let args = c.args in
    let the-loop = c.loop in
    sym (first_end args.g _ _ _ (omega arith) (ltb-true _ _ (sym c.held-2.ensures ∙ c.if-not-held-2.false))) ∙ the-loop.invariant
