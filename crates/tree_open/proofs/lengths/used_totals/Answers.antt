-- `tree_open::lengths::used_totals`: each sum is the total of the slots passed in its view, and each turn adds the next slot's length.
use Rattle.std.proofs.Common.{◌<◌, ◌+◌, ◌*◌, ltb, cond, List, ℕ, refl, sym, ap, ◌∙◌, arith}
use Rattle.model.specs.Node.{total}
use Rattle.model_laws.specs.Read.{total_none, total_more}
use Rattle.tree_open.proofs.LengthLaws.{in_use_law}
use Rattle.tree_open.proofs.TotalLaws.{sum_none, sum_more}
use Rattle.tree_open.proofs.lengths.used_totals.Goals.{then-stride-gt2, else-stride-gt2, then-stride-gt3, else-stride-gt3}
use Rattle.tree_open.proofs.lengths.used_totals.Goals as goal

pub loop-k-init : goal.loop-k-init
loop-k-init c =
    let s = c.args.g.stride in
    let ws = c.args.node.now in
    (omega arith, omega arith, omega arith, sym (total_none s 3 0 ws), sum_none s 1 2 ws, sum_none s 2 3 ws)

pub loop-k-preserved : goal.loop-k-preserved
loop-k-preserved c =
    let s = c.args.g.stride in
    let ws = c.args.node.now in
    let l = c.loop-k in
    let if1 = c.if-stride-gt2 in
    let if2 = c.if-stride-gt3 in
    let p = 3 + l.k * s in
    let one : 1 < s = omega (arith, c.requires.0) in (
      omega (arith, c.type_inv.node (p + 1)),
      elim if1.branch [ then-stride-gt2 w ↦ omega (arith, w.second-is, l.invariant.1, c.type_inv.node (p + 2)) | else-stride-gt2 w ↦ omega (arith, w.second-is, l.invariant.1) ],
      elim if2.branch [ then-stride-gt3 w ↦ omega (arith, w.third-is, l.invariant.2, c.type_inv.node (p + 3)) | else-stride-gt3 w ↦ omega (arith, w.third-is, l.invariant.2) ],
      total_more s l.k 3 0 (p + 1) _ _ ws one refl l.invariant.3 refl,
      sum_more s l.k 1 (p + 2) 2 l.second if1.second ws refl refl l.invariant.4
          (λ h. elim if1.branch [ then-stride-gt2 w ↦ w.second-is | else-stride-gt2 w ↦ absurd (omega (arith, w.if-stride-gt2.false, h)) ]) (λ h. elim if1.branch [ then-stride-gt2 w ↦ absurd (omega (arith, w.if-stride-gt2.true, h)) | else-stride-gt2 w ↦ w.second-is ]),
      sum_more s l.k 2 (p + 3) 3 l.third if2.third ws refl refl l.invariant.5
          (λ h. elim if2.branch [ then-stride-gt3 w ↦ w.third-is | else-stride-gt3 w ↦ absurd (omega (arith, w.if-stride-gt3.false, h)) ]) (λ h. elim if2.branch [ then-stride-gt3 w ↦ absurd (omega (arith, w.if-stride-gt3.true, h)) | else-stride-gt3 w ↦ w.third-is ]),
    )

pub returns : goal.returns
returns c =
    let args = c.args in
    let l = c.loop-k in
    let n = c.in_use-len in
    let e = in_use_law args.g.stride args.g.fan _ _ args.node.now n.ensures.1 l.auto.k-end c.loop-k-test.false in
    record {
      first = l.invariant.3 ∙ ap (total 0) e;
      second = l.invariant.4 ∙ ap (λ (x : List (List ℕ)). cond (ltb 2 args.g.stride) (total 1 x) 0) e;
      third = l.invariant.5 ∙ ap (λ (x : List (List ℕ)). cond (ltb 3 args.g.stride) (total 2 x) 0) e;
      first_most = omega (arith, c.requires.0, n.ensures.0, l.auto.k-end, l.invariant.0);
      second_most = omega (arith, c.requires.0, n.ensures.0, l.auto.k-end, l.invariant.1);
      third_most = omega (arith, c.requires.0, n.ensures.0, l.auto.k-end, l.invariant.2);
    }
