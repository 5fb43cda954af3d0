-- `tree_place::size::way_sum`: the climb starts with what the leaf says of itself, and the sum modulo 2^32.
use Rattle.std.proofs.Common.{[], ◌∷◌}
use Rattle.tree_place.proofs.SizeLaws.{way_summed}
use Rattle.tree_place.proofs.size.way_sum.Goals as goal

pub returns : goal.returns
returns c =
    let a = c.args in
    way_summed _ a.views a.fan a.nodes c.shape_for-g.ensures (a.d0 ∷ a.d1 ∷ a.d2 ∷ []) a.levels a.k.0 _ _ a.leaves.now a.inners.now c.parent_of.ensures c.at_of-at.ensures
    a.effect a.i _ _ c.start_low_in-sum.ensures c.climb_up.ensures
