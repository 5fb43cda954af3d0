-- What is known of a tree whose first numbers are good: sizes, areas and counts. Assumes nothing.
use Rattle.std.specs.Prelude.{ℕ, ◌≤◌}
use Rattle.model.specs.declared.shape.Shape.{Shape}
use Rattle.model.specs.declared.head.Head.{Head}
use Rattle.tree_area.specs.Area.{AreaHolds}

-- n and m are the lengths of the leaf area and the inner area
pub record Known (h : Head) (g : Shape) (n m : ℕ) : Type 0 where
  pub leaf_area : AreaHolds g n
  pub inner_area : AreaHolds g m
  pub levels : h.levels ≤ 15
  pub leaves : h.leaves ≤ g.nodes
  pub inners : h.inners ≤ g.nodes
