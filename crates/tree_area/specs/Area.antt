-- An area that holds as many nodes as the shape says. Assumes nothing.
use Rattle.std.specs.Prelude.{ℕ, ◌+◌, ◌*◌, ◌<◌, ◌≤◌}
use Rattle.std.proofs.Common.{arith}
use Rattle.model.specs.declared.shape.Shape.{Shape}
use Rattle.model_laws.specs.Lists.{row_end}
use Rattle.tree_node.specs.Shaped.{Shaped}

-- n is the area's length
pub record AreaHolds (g : Shape) (n : ℕ) : Type 0 where
  pub shaped : Shaped g
  pub room : g.nodes * g.size ≤ n

-- each of its nodes ends within it
pub node_in_law : (g : Shape) (n k : ℕ) → AreaHolds g n → k < g.nodes → k * g.size + g.size ≤ n
node_in_law g n k a h = omega (arith, a.room, row_end k g.nodes g.size h)
