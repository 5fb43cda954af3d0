-- `tree_open::lengths::totals_in`: the part that is lent is inner node k.
use mathlib.Core.List.{List}
use mathlib.Core.Path.{subst}
use Prim.Native.Nat.{ℕ, ◌*◌}
use native.Mathlib.Omega.{arith}
use Rattle.model.specs.Node.{node_of}
use Rattle.model_laws.specs.AreaRead.{node_length}
use Rattle.model_laws.specs.Words.{lent}
use Rattle.tree_area.proofs.Lend.{ends}
use Rattle.tree_open.specs.Lengths.{TotalsIn}
use Rattle.tree_open.proofs.lengths.totals_in.Goals as goal

pub overflow_mul-a : goal.overflow_mul-a
overflow_mul-a c = omega (arith, ends c.args.k.0 c.requires.0 c.requires.1)

pub overflow_add-e : goal.overflow_add-e
overflow_add-e c = omega (arith, ends c.args.k.0 c.requires.0 c.requires.1)

pub offset_bounds-inners-a : goal.offset_bounds-inners-a
offset_bounds-inners-a c = omega (arith, ends c.args.k.0 c.requires.0 c.requires.1)

pub slice_bounds-used_totals-count : goal.slice_bounds-used_totals-count
slice_bounds-used_totals-count c = omega arith

pub slice_bounds-used_totals-start : goal.slice_bounds-used_totals-start
slice_bounds-used_totals-start c = omega arith

pub slice_bounds-used_totals-end : goal.slice_bounds-used_totals-end
slice_bounds-used_totals-end c = ends c.args.k.0 c.requires.0 c.requires.1

pub used_totals-requires : goal.used_totals-requires
used_totals-requires c =
    let pre = c.requires in
    let args = c.args in
    (pre.0.shaped, rw lent (node_length args.g _ _ pre.1 pre.0.room))

pub returns : goal.returns
returns c =
    let args = c.args in
    let g = args.g in
    let t = c.used_totals in
    subst (λ (w : List ℕ). TotalsIn g (node_of g.stride g.fan w) t.result.first t.result.second t.result.third)
    (lent (args.k.0 * g.size) g.size args.inners.now) t.ensures
