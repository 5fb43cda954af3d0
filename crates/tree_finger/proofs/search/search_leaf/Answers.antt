-- `tree_finger::search::search_leaf`: each answer is the definition's at what the search in the leaf finds.
use Rattle.std.proofs.Common.{◌<◌, ◌≤◌, sym, ◌∙◌, arith}
use Rattle.model.specs.State.{node_at}
use Rattle.model_laws.specs.Find.{used_ranged}
use Rattle.model_laws.specs.Examined.{leaf_counted}
use Rattle.tree_finger.proofs.search.search_leaf.Goals.{Else-len-g, In-Some}
use Rattle.tree_finger.proofs.search.search_leaf.Goals as goal

-- the leaf says no more slots than it has
filled : (c : Else-len-g) → (node_at c.args.g c.args.k.0 c.args.leaves.now).len ≤ c.args.g.fan
filled c = omega (arith, c.len_of-len.ensures, c.if-len-g.false)

-- what was found lies in the leaf, and no more than the position is left
found : (c : In-Some) → (c.in-Some.slot < c.args.g.fan) × (c.in-Some.offset ≤ c.args.rest)
found c =
    let a = c.args in
    let t : (node_at a.g a.k.0 a.leaves.now).len ≤ a.g.fan = omega (arith, c.len_of-len.ensures, c.if-len-g.false) in
    let e = sym c.find_in.ensures.finds ∙ c.in-Some.is in
    let r = used_ranged a.g _ _ a.k.0 0 _ _ _ a.leaves.now t (omega arith) in
    (omega (arith, t, r.slot _ _ _ _ e), r.offset _ _ _ _ e)

pub overflow_cast-finger-3 : goal.overflow_cast-finger-3
overflow_cast-finger-3 c =
    let pre = c.requires in
    omega (arith, found (goal.at.overflow_cast-finger-3 c).In-Some, pre.0.shaped)

pub overflow_sub-finger-2 : goal.overflow_sub-finger-2
overflow_sub-finger-2 c = omega (arith, found (goal.at.overflow_sub-finger-2 c).In-Some)

pub overflow_cast-result : goal.overflow_cast-result
overflow_cast-result c =
    let pre = c.requires in
    omega (arith, found (goal.at.overflow_cast-result c).In-Some, pre.0.shaped)

pub overflow_add-result : goal.overflow_add-result
overflow_add-result c =
    let pre = c.requires in
    omega (arith, found (goal.at.overflow_add-result c).In-Some, pre.0.shaped, pre.5)

pub overflow_add-result-2 : goal.overflow_add-result-2
overflow_add-result-2 c =
    let pre = c.requires in
    omega (arith, found (goal.at.overflow_add-result-2 c).In-Some, pre.0.shaped, pre.5)

pub returns : goal.returns
returns c =
    leaf_counted _ _ c.args.g _ _ _ _ _ _ _ _ _ _ _ _
    c.if-leaf-used.false (filled (goal.at.returns c).Else-len-g) (sym c.find_in.ensures.finds ∙ c.in-Some.is)
