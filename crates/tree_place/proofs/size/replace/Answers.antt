-- `tree_place::size::replace`: the leaf gets the lengths, and the finger learns of the change.
use Rattle.tree_place.proofs.SizeLaws.{replaced}
use Rattle.tree_place.proofs.size.replace.Goals as goal

pub returns : goal.returns
returns c =
    let args = c.args in
    λ xs hs. replaced args.g _ _ _ _ _ _ args.leaves.now _ xs hs c.set_lengths.ensures c.changing.ensures c.with_finger.ensures
