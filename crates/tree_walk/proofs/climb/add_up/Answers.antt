-- `tree_walk::climb::add_up`: what the walk from here on leaves of the area is what the walk asked for leaves; each turn goes up one level.
use Rattle.std.proofs.Common.{◌≡◌, ◌+◌, ◌-◌, true, sym, ◌∙◌, arith}
use Rattle.model.specs.Climb.{inside}
use Rattle.tree_walk.specs.Raise.{raise_end, raise_broken, raise_on}
use Rattle.tree_walk.proofs.climb.add_up.Goals.{Else-not-inside}
use Rattle.tree_walk.proofs.climb.add_up.Goals as goal

-- the place of a turn is inside
turn : (c : Else-not-inside) → inside c.args.g c.loop.node_id c.loop.at ≡ true
turn c = sym c.inside.ensures ∙ c.if-not-inside.false

pub returns-then-not-inside : goal.returns-then-not-inside
returns-then-not-inside c =
    let args = c.args in
    let the-loop = c.loop in
    sym (raise_broken args.g _ _ _ _ _ (omega arith) (sym c.inside.ensures ∙ c.if-not-inside.true)) ∙ the-loop.invariant.1

pub loop-preserved : goal.loop-preserved
loop-preserved c =
    let the-loop = c.loop in
    let parent_of = c.parent_of-up in
    let at_of = c.at_of-place in
    let args = c.args in
    let one : args.left - (the-loop.counter + 1) ≡ args.left - the-loop.counter - 1 = omega arith in (
      c.raise_in.auto.area ∙ the-loop.invariant.0,
      rw (one, parent_of.ensures, at_of.ensures, c.raise_in.ensures) (sym (raise_on args.g _ _ _ _ _ (omega arith) (turn (goal.at.loop-preserved c).Else-not-inside)) ∙ the-loop.invariant.1),
    )

pub returns : goal.returns
returns c =
    let args = c.args in
    sym (raise_end args.g _ _ _ _ _ (omega arith)) ∙ c.loop.invariant.1
