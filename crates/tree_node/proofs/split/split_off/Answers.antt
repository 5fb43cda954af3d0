-- `tree_node::split::split_off`: the upper slots are copied into node j, which keeps those alone, and node k keeps the lower ones.
use Rattle.std.proofs.Common.{◌≡◌, suc, ◌+◌, ◌-◌, ◌*◌, ◌/◌, ◌≤◌, length, ◌∙◌, arith}
use Rattle.model_laws.specs.Lists.{rows_between, row_end}
use Rattle.tree_node.proofs.SplitLaws.{split_off_area}
use Rattle.tree_node.proofs.split.split_off.Goals.{After-shape_for-g}
use Rattle.tree_node.proofs.split.split_off.Goals as goal

-- node k ends where node j begins or before, node j lies in the area, and the halves are all slots
room : (c : After-shape_for-g) → (c.args.k * c.shape_for-g.result.size + c.shape_for-g.result.size ≤ c.args.j * c.shape_for-g.result.size) × (c.args.j * c.shape_for-g.result.size + c.shape_for-g.result.size ≤ length c.args.area.now) × (3 + c.args.fan / 2 * c.shape_for-g.result.stride + (c.args.fan - c.args.fan / 2) * c.shape_for-g.result.stride ≡ c.shape_for-g.result.size)
room c =
    let a = c.args in
    rw c.shape_for-g.ensures
    (row_end a.k a.j (3 + a.fan * suc a.views) c.requires.1, c.requires.2, omega (arith, rows_between (a.fan / 2) a.fan (suc a.views) (omega arith)))

pub clear-requires : goal.clear-requires
clear-requires c =
    let shape-for = c.shape_for-g in
    let keep-in = c.keep_in in
    let shift = c.shift in
    (rw shape-for.ensures (omega arith), omega (arith, room (goal.at.clear-requires c).After-shape_for-g, keep-in.auto.area, shift.auto.ws))

pub returns : goal.returns
returns c =
    let shape-for = c.shape_for-g in
    let shift = c.shift in
    let keep-in = c.keep_in in
    split_off_area c.args.views c.args.fan c.args.nodes c.args.k c.args.j _ c.args.area.now _ _ _ shape-for.ensures c.requires.1
    (room (goal.at.returns c).After-shape_for-g).1 (keep-in.auto.area ∙ shift.auto.ws) shift.ensures
    keep-in.ensures c.clear.ensures
