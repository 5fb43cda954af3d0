-- What is known where none of the first tests gives a number. Assumes nothing.
use Rattle.std.specs.Prelude.{◌≡◌, ◌*◌, ◌≤◌, ◌<◌, length}
use Rattle.model.specs.State.{State, node_at}
use Rattle.model.specs.Refuse.{shape_of}
use Rattle.model.specs.declared.shape.Kind.{Kind}
use Rattle.model.specs.declared.shape.Shape.{Shape}
use Rattle.model.specs.declared.head.Cursor.{Cursor}
use Rattle.tree_node.specs.Shaped.{Shaped}

-- g is the shape of a tree of kind K, the areas are long enough, and the head leads nowhere outside
pub record Ready (K : Kind) (s : State) (g : Shape) : Type 0 where
  pub same : g ≡ shape_of K s.head
  pub shaped : Shaped g
  pub limit_most : s.head.limit ≤ 65536
  pub leaf_area : g.nodes * g.size ≤ length s.leaves
  pub inner_area : g.nodes * g.size ≤ length s.inners
  pub home_area : s.head.limit ≤ length s.homes
  pub root : s.head.root.0 < g.nodes
  pub levels_least : 1 ≤ s.head.levels
  pub levels_most : s.head.levels ≤ 15
  pub leaves : s.head.leaves ≤ g.nodes
  pub inners : s.head.inners ≤ g.nodes
  pub entries : s.head.entries ≤ s.head.limit

-- the cursor's leaf is in use, and so is its slot, which the leaf has
pub record CursorReady (K : Kind) (s : State) (c : Cursor) (g : Shape) : Type 0 where
  pub ready : Ready K s g
  pub leaf : c.leaf.0 < s.head.leaves
  pub slot : c.slot < (node_at g c.leaf.0 s.leaves).len
  pub few : (node_at g c.leaf.0 s.leaves).len ≤ g.fan
