-- `tree_walk::climb::in_order`: the steps from step j on compare as all steps do, since those before are equal.
use Rattle.std.proofs.Common.{sym, ◌∙◌, arith}
use Rattle.model_laws.specs.Find.{order_end, order_before, order_after, order_on}
use Rattle.tree_walk.proofs.climb.in_order.Goals as goal

pub returns-then-xs-j : goal.returns-then-xs-j
returns-then-xs-j c =
    let t = c.loop-j-test.true in
    sym (order_before c.args.n c.args.n _ _ _ t (omega (arith, c.requires)) t (omega (arith, c.requires)) c.if-xs-j.true) ∙ c.loop-j.invariant

pub returns-then-xs-j-2 : goal.returns-then-xs-j-2
returns-then-xs-j-2 c =
    let t = c.loop-j-test.true in
    sym (order_after c.args.n c.args.n _ _ _ t (omega (arith, c.requires)) t (omega (arith, c.requires)) c.if-xs-j-2.true) ∙ c.loop-j.invariant

pub loop-j-preserved : goal.loop-j-preserved
loop-j-preserved c =
    let t = c.loop-j-test.true in
    sym (order_on c.args.n c.args.n _ _ _ t (omega (arith, c.requires)) t (omega (arith, c.requires))
    (omega (arith, c.if-xs-j.false, c.if-xs-j-2.false))) ∙ c.loop-j.invariant

pub returns : goal.returns
returns c = sym (order_end c.args.n c.args.n _ _ _ c.loop-j-test.false) ∙ c.loop-j.invariant
