-- `tree_node::split::new_two`: the two slots that were written first are all that the node keeps.
use Rattle.std.proofs.Common.{◌≡◌, ℕ, ◌+◌, ◌*◌, ◌≤◌, List, [], ◌∷◌, length, take, ap, ◌∙◌, arith}
use Rattle.model.specs.Lists.{All, put_at}
use Rattle.model.specs.Node.{words_of}
use Rattle.model_laws.specs.Slots.{flat, flat_two}
use Rattle.model_laws.specs.Words.{put_next}
use Rattle.model_laws.specs.Changes.{new_node_law}
use Rattle.tree_node.proofs.WriteLaws.{front_length}
use Rattle.tree_node.specs.Shaped.{whole, slots_in_law}
use Rattle.tree_node.proofs.split.new_two.Goals.{Start}
use Rattle.tree_node.proofs.split.new_two.Goals as goal

-- two slots lie in the node
room : (c : Start) → 3 + 2 * c.args.g.stride ≤ length c.args.node.now
room c = slots_in_law c.args.g _ c.requires.0 c.requires.1 2 (omega (arith, c.requires.0))

-- two slots written one after the other
both : (s : ℕ) (x y ws one two : List ℕ) → length x ≡ s → 3 + s + length y ≤ length ws → one ≡ put_at 3 x ws → two ≡ put_at (3 + s) y one → two ≡ put_at 3 (flat (x ∷ y ∷ [])) ws
both s x y ws one two e h p q = rw (flat_two, q, p) (put_next 3 (3 + s) x y ws (omega arith) h)

pub returns : goal.returns
unfolding All
returns c =
    let n = c.args.g.stride in
    let lx : length (take n c.args.x.now) ≡ n = front_length n c.args.x.now (omega (arith, c.requires.0, c.requires.2)) in
    let ly : length (take n c.args.y.now) ≡ n = front_length n c.args.y.now (omega (arith, c.requires.0, c.requires.3)) in
    let e = both _ _ _ _ _ _ lx (omega (arith, room (goal.at.returns c).Start, ly)) c.put_slot.ensures c.put_slot-2.ensures in
    c.keep.ensures ∙ ap words_of
    (new_node_law _ _ _ (take n c.args.x.now ∷ take n c.args.y.now ∷ []) _ _ (whole _ _ c.requires.0 c.requires.1) (lx, (ly, tt)) (omega (arith, c.requires.0)) e)
