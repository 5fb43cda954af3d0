-- `tree_links::parts::adopt_all`: what is left to do from place i on, of the areas as they are, is what there was to do at the start.
use mathlib.Core.Path.{sym, ◌∙◌}
use native.Mathlib.Omega.{arith}
use Rattle.model_laws.specs.Grow.{all_end, all_bad, all_more}
use Rattle.tree_links.proofs.parts.adopt_all.Goals as goal

pub returns-then-child-g : goal.returns-then-child-g
returns-then-child-g c =
    let loop-test = c.loop-i-test in
    let pre = c.requires in
    let the-loop = c.loop-i in
    sym (all_bad _ _ _ _ _ _ _ loop-test.true pre.2 (omega (arith, pre.0.shaped.columns)) c.word-child.ensures c.if-child-g.true) ∙ the-loop.invariant.2

pub loop-i-preserved : goal.loop-i-preserved
loop-i-preserved c =
    let adopt = c.adopt in
    let the-loop = c.loop-i in
    let loop-test = c.loop-i-test in
    let pre = c.requires in
    let word = c.word-child in
    let if1 = c.if-child-g in (
      adopt.auto.leaves ∙ the-loop.invariant.0,
      adopt.auto.inners
          ∙ the-loop.invariant.1,
      all_more _ _ _ _ _ _ _ loop-test.true pre.2 (omega (arith, pre.0.shaped.columns)) word.ensures _ if1.false adopt.ensures ∙ the-loop.invariant.2,
    )

pub returns : goal.returns
returns c = sym (all_end _ _ _ _ _ _ c.loop-i-test.false) ∙ c.loop-i.invariant.2
