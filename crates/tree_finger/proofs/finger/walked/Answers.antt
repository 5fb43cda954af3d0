-- `tree_finger::finger::walked`: each answer is the definition's at the slot to which the finger goes back.
use Rattle.std.proofs.Common.{◌≡◌, ℕ, ◌-◌, ◌<◌, ◌≤◌, List, sym, ap, ◌∙◌, arith}
use Rattle.model.specs.Locate.{stand, back}
use Rattle.model.specs.declared.head.Finger.{Finger}
use Rattle.model_laws.specs.Find.{used_ranged}
use Rattle.model_laws.specs.Examined.{walk_counted}
use Rattle.model_laws.specs.Locate.{back_slot, walked_broken, walked_miss, walked_found}
use Rattle.tree_finger.proofs.finger.walked.Goals.{In-Some}
use Rattle.tree_finger.proofs.finger.walked.Goals as goal

-- the finger goes back to a slot in use
from : (v e : ℕ) (f : Finger) (index len : ℕ) (slots : List (List ℕ)) (b w x y : ℕ) → stand b w x y ≡ back v e slots index f.slot f.within f.effect_within f.prepare_within → f.slot < len → b < len
from v e f index len slots b w x y h lt = omega (arith, ap (λ s. s.slot) h, back_slot v e slots index f.slot f.within f.effect_within f.prepare_within)

-- what was found lies in the leaf, and no more than the index is left
found : (c : In-Some) → (c.in-Some.slot < c.args.g.fan) × (c.in-Some.offset ≤ c.args.index)
found c =
    let b = c.back-b.result in
    let f = from _ _ c.args.f _ _ _ _ _ _ _ c.back-b.ensures c.requires.5 in
    let e = sym c.find_in.ensures.finds ∙ c.in-Some.is in
    let r = used_ranged c.args.g c.args.view c.args.effect c.args.f.leaf b.slot (c.args.index - b.within) b.effect_within b.prepare_within c.args.leaves.now c.requires.4 (omega arith) in
    (omega (arith, f, c.requires.4, r.slot _ _ _ _ e), omega (arith, r.offset _ _ _ _ e))

pub returns-then-index-b : goal.returns-then-index-b
returns-then-index-b c =
    let args = c.args in
    let back = c.back-b in
    walk_counted args.f args.len _ _ (walked_broken _ _ args.f _ _ _ _ _ _ back.ensures c.if-index-b.true)

pub find_in-requires : goal.find_in-requires
find_in-requires c =
    (c.requires.0, c.requires.3, c.requires.1, c.requires.2, c.requires.4, omega (arith, from _ _ c.args.f _ _ _ _ _ _ _ c.back-b.ensures c.requires.5), omega (arith, c.back-b.type_inv), omega (arith, c.back-b.type_inv))

pub returns-in_default : goal.returns-in_default
returns-in_default c =
    let args = c.args in
    let back = c.back-b in
    let if1 = c.if-index-b in
    walk_counted args.f args.len _ _ (walked_miss _ _ args.f _ _ _ _ _ _ back.ensures if1.false (sym c.find_in.ensures.finds ∙ c.in_default.is))

pub overflow_cast-at : goal.overflow_cast-at
overflow_cast-at c =
    let pre = c.requires in
    omega (arith, found (goal.at.overflow_cast-at c).In-Some, pre.0.shaped)

pub overflow_sub-finger : goal.overflow_sub-finger
overflow_sub-finger c = omega (arith, found (goal.at.overflow_sub-finger c).In-Some)

pub span-requires : goal.span-requires
span-requires c =
    let pre = c.requires in
    (omega (arith, pre.4, pre.5, pre.0.shaped), omega (arith, found (goal.at.span-requires c).In-Some, pre.0.shaped))

pub returns : goal.returns
returns c =
    let args = c.args in
    let back = c.back-b in
    let if1 = c.if-index-b in
    let find-in = c.find_in in
    rw c.span.ensures
    (walk_counted args.f args.len _ _
    (walked_found _ _ args.f _ _ _ _ _ _ back.ensures _ _ _ _ if1.false (sym find-in.ensures.finds ∙ c.in-Some.is)))
