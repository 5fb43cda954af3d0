-- What the functions ask of the areas that they are lent. Assumes nothing.
use Rattle.std.specs.Prelude.{List, ℕ, ◌*◌, ◌<◌, ◌≤◌}
use Rattle.model.specs.State.{node_at}
use Rattle.model.specs.declared.shape.Shape.{Shape}
use Rattle.tree_node.specs.Shaped.{Shaped}

-- an area of l words and one of n hold as many nodes each as the shape says
pub record AreasHold (g : Shape) (l n : ℕ) : Type 0 where
  pub shaped : Shaped g
  pub leaves : g.nodes * g.size ≤ l
  pub inners : g.nodes * g.size ≤ n

-- inner node p has a slot at place i, and room for one more
pub record NodeRoom (g : Shape) (p i : ℕ) (xs : List ℕ) : Type 0 where
  pub place : i < (node_at g p xs).len
  pub space : (node_at g p xs).len < g.fan
