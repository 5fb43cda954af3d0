-- A node's part of an area, lent and back. Assumes nothing.
use mathlib.Core.Path.{◌≡◌}
use mathlib.Core.List.{List}
use Prim.Native.Nat.{ℕ, ◌+◌, ◌*◌, ◌-◌, ◌<◌, ◌≤◌}
use lib.ListN.{length, take, drop}
use borrow.Rule.Slice.PartMut.{put_mid}
use Rattle.model.specs.Lists.{part}
use Rattle.model.specs.Node.{Node, node_of, words_of}
use Rattle.model.specs.State.{node_at, put_node}
use Rattle.model.specs.declared.shape.Shape.{Shape}
use Rattle.model_laws.specs.AreaRead.{node_end, node_length}
use Rattle.model_laws.specs.Put.{change_back}
use Rattle.tree_area.specs.Area.{AreaHolds}

-- node k ends within the area
pub ends : {g : Shape} {n : ℕ} (k : ℕ) → AreaHolds g n → k < g.nodes → k * g.size + g.size ≤ n
ends {g} {n} k a h = node_end g k n h a.room

-- node k has all its words
pub whole : {g : Shape} (k : ℕ) (xs : List ℕ) → AreaHolds g (length xs) → k < g.nodes → length (part (k * g.size) g.size xs) ≡ g.size
whole {g} k xs a h = node_length g k xs h a.room

-- the area when node k's part is back as the words of f of that node
pub back : {g : Shape} (k : ℕ) (xs ys : List ℕ) (f : Node → Node) → AreaHolds g (length xs) → k < g.nodes
    → length ys ≡ length (take (k * g.size + g.size - k * g.size) (drop (k * g.size) xs))
    → ys ≡ words_of (f (node_of g.stride g.fan (take (k * g.size + g.size - k * g.size) (drop (k * g.size) xs))))
    → put_mid (k * g.size) (k * g.size + g.size - k * g.size) xs ys ≡ put_node g k (f (node_at g k xs)) xs
back {g} k xs ys f a h l e = change_back g k xs ys (ends k a h) l f e
