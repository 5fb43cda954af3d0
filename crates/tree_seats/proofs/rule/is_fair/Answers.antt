-- `tree_seats::rule::is_fair`: a tree without seats is fair; of a seated one three sums are tested.
use Rattle.std.proofs.Common.{◌∙◌, sym, arith, eq-eqb, eqb-true, ltb-true}
use Rattle.std.proofs.lemmas.Bool.{eqb-false}
use Rattle.tree_seats.proofs.RuleLaws.{fair_unseated, fair_high, fair_charges, fair_covers}
use Rattle.tree_seats.proofs.rule.is_fair.Goals as goal
use Rattle.tree_seats.proofs.rule.is_fair.Goals.{then-sum-wide, else-sum-wide}

pub returns-then-seats-eq0 : goal.returns-then-seats-eq0
returns-then-seats-eq0 c = eq-eqb _ 0 c.if-seats-eq0.true ∙ fair_unseated c.args.limit c.args.entries c.args.seats.now c.if-seats-eq0.true

-- the shares and the charges are as they should be
pub returns-then-sum-wide-2 : goal.returns-then-sum-wide-2
returns-then-sum-wide-2 c =
    let a = c.args in
    let limit = c.wide.ensures.0 in
    elim c.if-sum-wide.branch [
      | then-sum-wide w ↦
          let one = eqb-true _ _ (sym w.value-is ∙ c.if-sum-wide-2.true) ∙ w.wide-then-sum-wide.ensures.0 in
          fair_covers a.limit a.entries a.seats.now c.if-seats-eq0.false _ c.sum.ensures.0 (omega (arith, limit, w.if-sum-wide.true)) _ w.sum-then-sum-wide.ensures.0 one _ _ c.unused.ensures c.left.ensures.0
      | else-sum-wide w ↦ absurd (omega (arith, w.if-sum-wide.false, ltb-true _ _ (sym w.value-is ∙ c.if-sum-wide-2.true)))
    ]

-- the shares sum too high, or the charges to another number
pub returns-else-sum-wide-2 : goal.returns-else-sum-wide-2
returns-else-sum-wide-2 c =
    let a = c.args in
    let limit = c.wide.ensures.0 in
    c.if-sum-wide-2.false
    ∙ elim c.if-sum-wide.branch [
      | then-sum-wide w ↦
          let other = eqb-false _ _ (sym w.value-is ∙ c.if-sum-wide-2.false) in
          fair_charges a.limit a.entries a.seats.now c.if-seats-eq0.false _ c.sum.ensures.0 (omega (arith, limit, w.if-sum-wide.true)) _ w.sum-then-sum-wide.ensures.0 (λ z. other (z ∙ sym w.wide-then-sum-wide.ensures.0))
      | else-sum-wide w ↦ fair_high a.limit a.entries a.seats.now c.if-seats-eq0.false _ c.sum.ensures.0 (omega (arith, limit, w.if-sum-wide.false))
    ]
