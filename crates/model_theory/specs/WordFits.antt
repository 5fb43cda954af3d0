-- Nodes within an area that is long enough for them. Assumes nothing.
use Rattle.std.specs.Prelude.{◌≡◌, List, ℕ, ◌+◌, ◌*◌, ◌<◌, ◌≤◌, length}
use Rattle.std.proofs.Common.{arith}
use Rattle.model.specs.declared.shape.Shape.{Shape}
use Rattle.model_laws.specs.Lists.{row_end}

-- the size of a node is that of its three words and its slots
abbrev pub NodeSized : Shape → Type 0
NodeSized g = g.size ≡ 3 + g.fan * g.stride

-- the area is long enough for node k
abbrev pub NodeFits : Shape → ℕ → List ℕ → Type 0
NodeFits g k area = k * g.size + g.size ≤ length area

pub fits : (g : Shape) (k : ℕ) (area : List ℕ) → k < g.nodes → g.nodes * g.size ≤ length area → NodeFits g k area
fits g k area lt h = omega (arith, row_end k g.nodes g.size lt)
