-- Where a new child goes. Assumes nothing.
use Rattle.std.specs.Prelude.{Bool, cond, ◌&&◌, ℕ, ltb, leb, Some, None, Option}
use Rattle.model.specs.State.{node_at}
use Rattle.model.specs.Grow.{Areas, node_in}
use Rattle.model.specs.declared.shape.Shape.{Shape}

-- inner node p is one of the c in use, after and new are nodes of the level's area, and after's place is one in use of no more than there are
abbrev pub tests : Shape → ℕ → ℕ → ℕ → ℕ → ℕ → Areas → Bool
tests g c level p after new a =
    ltb p c && ltb after g.nodes && ltb new g.nodes && ltb (node_in g level after a).at (node_at g p a.inners).len && leb (node_at g p a.inners).len g.fan

-- the place of the node after in inner node p, behind which the node new comes
unfoldable pub standing : Shape → ℕ → ℕ → ℕ → ℕ → ℕ → Areas → Option ℕ
standing g c level p after new a = cond (tests g c level p after new a) (Some (node_in g level after a).at) None
