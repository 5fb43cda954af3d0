-- `tree_walk::climb::climb_up`: the climb from here on, with what is summed up modulo 2 ^ 32 and added so far, is the climb asked for; each turn goes up one level.
use Rattle.std.proofs.Common.{◌≡◌, ◌+◌, ◌-◌, true, sym, refl, ◌∙◌, arith}
use Rattle.model.specs.Climb.{inside}
use Rattle.tree_walk.specs.Low.{low_sum_law, low_end, low_broken, low_on}
use Rattle.tree_walk.proofs.climb.climb_up.Goals.{Else-not-inside}
use Rattle.tree_walk.proofs.climb.climb_up.Goals as goal

-- the place of a turn is inside
turn : (c : Else-not-inside) → inside c.args.g c.loop.node_id c.loop.child ≡ true
turn c = sym c.inside.ensures ∙ c.if-not-inside.false

pub returns-then-not-inside : goal.returns-then-not-inside
returns-then-not-inside c =
    let args = c.args in
    let the-loop = c.loop in
    low_broken args.g _ _ _ _ _ _ _ (omega arith) (sym c.inside.ensures ∙ c.if-not-inside.true) ∙ the-loop.invariant.2

pub loop-preserved : goal.loop-preserved
loop-preserved c =
    let the-loop = c.loop in
    let args = c.args in
    let start-low-in = c.start_low_in-here in
    let parent_of = c.parent_of-up in
    let at_of = c.at_of-place in
    let one : args.left - (the-loop.counter + 1) ≡ args.left - the-loop.counter - 1 = omega arith in (
      c.raise_in.auto.area ∙ the-loop.invariant.0,
      omega arith,
      rw one (low_on args.g _ _ _ _ _ _ _ (omega arith) (turn (goal.at.loop-preserved c).Else-not-inside) _ _ _ _ (low_sum_law _ _ _ _ refl start-low-in.ensures)
          parent_of.ensures at_of.ensures c.raise_in.ensures ∙ the-loop.invariant.2),
    )

pub returns : goal.returns
returns c =
    let args = c.args in
    low_end args.g _ _ _ _ _ _ _ (omega arith) c.loop.invariant.1 ∙ c.loop.invariant.2
