-- `tree_open::lengths::low_in`: the part that is lent is inner node k, of whose words in use each is low.
use Prim.Native.Nat.{◌*◌}
use native.Mathlib.Omega.{arith}
use Rattle.model_laws.specs.AreaRead.{node_length}
use Rattle.model_laws.specs.Words.{lent}
use Rattle.tree_area.proofs.Lend.{ends}
use Rattle.tree_open.proofs.TotalLaws.{low_node}
use Rattle.tree_open.proofs.lengths.low_in.Goals as goal

pub overflow_mul-a : goal.overflow_mul-a
overflow_mul-a c = omega (arith, ends c.args.k.0 c.requires.0 c.requires.1)

pub overflow_add-e : goal.overflow_add-e
overflow_add-e c = omega (arith, ends c.args.k.0 c.requires.0 c.requires.1)

pub offset_bounds-inners-a : goal.offset_bounds-inners-a
offset_bounds-inners-a c = omega (arith, ends c.args.k.0 c.requires.0 c.requires.1)

pub bounds-inners-a : goal.bounds-inners-a
bounds-inners-a c =
    let args = c.args in
    let pre = c.requires in
    omega (arith, ends args.k.0 pre.0 pre.1, pre.0.shaped.words)

pub overflow_cast-inners : goal.overflow_cast-inners
overflow_cast-inners c =
    let args = c.args in
    omega (arith, c.type_inv.inners (args.k.0 * args.g.size))

pub offset_bounds-inners-a-2 : goal.offset_bounds-inners-a-2
offset_bounds-inners-a-2 c =
    let args = c.args in
    let pre = c.requires in
    omega (arith, ends args.k.0 pre.0 pre.1)

pub slice_bounds-low-count : goal.slice_bounds-low-count
slice_bounds-low-count c = omega arith

pub slice_bounds-low-start : goal.slice_bounds-low-start
slice_bounds-low-start c = omega arith

pub slice_bounds-low-end : goal.slice_bounds-low-end
slice_bounds-low-end c =
    let args = c.args in
    let pre = c.requires in
    ends args.k.0 pre.0 pre.1

pub low-requires : goal.low-requires
low-requires c =
    let pre = c.requires in
    let args = c.args in
    (pre.0.shaped, rw lent (node_length args.g _ _ pre.1 pre.0.room), c.in_use-len.ensures.0)

pub returns : goal.returns
returns c e =
    let args = c.args in
    let pre = c.requires in
    low_node args.g args.k.0 c.in_use-len.result args.inners.now pre.0 pre.1 c.in_use-len.ensures.0 c.in_use-len.ensures.1 (c.low.ensures e)
