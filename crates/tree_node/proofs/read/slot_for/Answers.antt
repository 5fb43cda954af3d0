-- `tree_node::read::slot_for`: the sums are the totals of the slots passed modulo 2 ^ 32, in the views that there are.
use Rattle.std.proofs.Common.{ℕ, ◌≡◌, [], ◌∷◌, refl, ◌∙◌, arith}
use Rattle.model.specs.Node.{slots_from, total, node_of, wrap, slot_for}
use Rattle.model_laws.specs.Read.{low_none, low_more, slot_written}
use Rattle.tree_node.proofs.read.slot_for.Goals.{else-stride-gt2, else-stride-gt3, then-stride-gt2, then-stride-gt3}
use Rattle.tree_node.proofs.read.slot_for.Goals as goal

pub loop-i-init : goal.loop-i-init
loop-i-init c =
    let none : (v : ℕ) → 0 ≡ wrap (total v (slots_from c.args.g.stride 0 3 c.args.node.now)) = λ v. low_none c.args.g.stride 3 v c.args.node.now in
    (none 0, (λ _. none 1), (λ _. none 2))

pub loop-i-preserved : goal.loop-i-preserved
loop-i-preserved c =
    let l = c.loop-i in (
      low_more _ _ _ 0 _ _ _ _ (omega (arith, c.requires.0)) (omega arith) l.invariant.0 refl,
      (λ h. elim c.if-stride-gt2.branch [ then-stride-gt2 w ↦ w.second-is ∙ low_more _ _ _ 1 _ _ _ _ h (omega arith) (l.invariant.1 h) refl | else-stride-gt2 w ↦ absurd (omega (arith, w.if-stride-gt2.false, h)) ]),
      (λ h. elim c.if-stride-gt3.branch [ then-stride-gt3 w ↦ w.third-is ∙ low_more _ _ _ 2 _ _ _ _ h (omega arith) (l.invariant.2 h) refl | else-stride-gt3 w ↦ absurd (omega (arith, w.if-stride-gt3.false, h)) ]),
    )

pub returns : goal.returns
unfolding node_of slot_for
returns c =
    let l = c.loop-i in
    let e : l.i ≡ c.args.g.fan = omega arith in
    (rw (← e) (slot_written _ _ _ _ _ l.invariant.0 c.args.g.stride (0 ∷ 0 ∷ 0 ∷ 0 ∷ []) refl c.requires.0.columns c.requires.0.narrow l.invariant.1 l.invariant.2), refl)
