-- `tree_walk::climb::rank_up`: the rank from here on, with what is summed up, is the rank asked for; each turn goes up one level.
use Rattle.std.proofs.Common.{◌≡◌, ◌+◌, ◌-◌, true, sym, ◌∙◌, arith}
use Rattle.model.specs.Climb.{inside}
use Rattle.model_laws.specs.Climb.{rank_end, rank_broken, rank_on}
use Rattle.tree_walk.proofs.climb.rank_up.Goals.{Else-not-inside}
use Rattle.tree_walk.proofs.climb.rank_up.Goals as goal

-- the place of a turn is inside
turn : (c : Else-not-inside) → inside c.args.g c.loop.node c.loop.at ≡ true
turn c = sym c.inside.ensures ∙ c.if-not-inside.false

pub returns-then-not-inside : goal.returns-then-not-inside
returns-then-not-inside c =
    let args = c.args in
    let the-loop = c.loop in
    sym (rank_broken args.g _ _ _ _ _ _ (omega (arith, c.loop-test.true)) (sym c.inside.ensures ∙ c.if-not-inside.true)) ∙ the-loop.invariant.1

pub loop-preserved : goal.loop-preserved
loop-preserved c =
    let args = c.args in
    let the-loop = c.loop in
    let one : args.left - (the-loop.counter + 1) ≡ args.left - the-loop.counter - 1 = omega arith in (
      omega arith,
      rw (one, c.parent_of-up.ensures, c.at_of-at.ensures, c.start_in-total.ensures.0)
          (sym (rank_on args.g _ _ _ _ _ _ (omega arith) (turn (goal.at.loop-preserved c).Else-not-inside)) ∙ the-loop.invariant.1),
    )

pub returns : goal.returns
returns c =
    let args = c.args in
    sym (rank_end args.g _ _ _ _ _ _ (omega arith)) ∙ c.loop.invariant.1
