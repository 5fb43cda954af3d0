-- `tree_walk::climb::steps_up`: the places on the way from here on, before those written so far, are the places asked for.
use Rattle.std.proofs.Common.{◌≡◌, true, sym, refl, ◌∙◌, arith, length-set}
use Rattle.model.specs.Climb.{inside}
use Rattle.model_laws.specs.Climb.{steps_end, steps_broken, steps_on, step_more, no_steps, all_steps}
use Rattle.tree_walk.proofs.climb.steps_up.Goals.{Else-not-inside}
use Rattle.tree_walk.proofs.climb.steps_up.Goals as goal

-- the place of a turn is inside
turn : (c : Else-not-inside) → inside c.args.g c.loop-level.node_id c.loop-level.at ≡ true
turn c = sym c.inside.ensures ∙ c.if-not-inside.false

pub loop-level-init : goal.loop-level-init
loop-level-init c = (omega arith, refl, rw (no_steps c.args.left))

pub returns-then-not-inside : goal.returns-then-not-inside
returns-then-not-inside c =
    let l = c.loop-level in (
      sym (steps_broken c.args.g _ _ _ _ _ c.loop-level-test.true (sym c.inside.ensures ∙ c.if-not-inside.true)) ∙ l.invariant.2,
      l.invariant.1 ∙ c.requires.2,
    )

pub loop-level-preserved : goal.loop-level-preserved
loop-level-preserved c =
    let l = c.loop-level in
    let more = c.loop-level-test.true in (
      omega arith,
      simp length-set l.invariant.1,
      rw (c.parent_of-up.ensures, c.at_of-at.ensures, step_more l.level c.args.left l.at l.steps more l.invariant.0 (omega (arith, l.invariant, c.requires)))
          (sym (steps_on c.args.g _ _ _ _ _ more (turn (goal.at.loop-level-preserved c).Else-not-inside)) ∙ l.invariant.2),
    )

pub returns : goal.returns
returns c =
    let l = c.loop-level in
    (all_steps _ _ _ c.loop-level-test.false ∙ sym (steps_end c.args.g _ _ _ _ _ c.loop-level-test.false) ∙ l.invariant.2, l.invariant.1 ∙ c.requires.2)
