-- The first test of a tree's head, and room for all that is met. Assumes nothing.
use Rattle.std.specs.Prelude.{◌≡◌, Bool, ◌&&◌, List, ℕ, suc, ◌≤◌, leb, replicate}
use Rattle.model.specs.State.{shape}
use Rattle.model.specs.declared.head.Head.{Head}
use Rattle.model.specs.declared.shape.Shape.{Shape}

abbrev pub counted_by : Head → Shape → Bool
counted_by h g = leb h.entries h.limit && leb h.leaves g.nodes && leb h.inners g.nodes && leb 1 h.levels && leb h.levels 15

-- a good fan and limit, a queue for all nodes and ids, and no mark set
pub record FreshQueue (h : Head) (g : Shape) (room : ℕ) (inners leaves ids : List ℕ) : Type 0 where
  pub views : ℕ
  pub same : g ≡ shape (suc views) h.fan h.limit
  pub nodes : g.nodes ≤ 32768
  pub limit : h.limit ≤ 65536
  pub order : 131072 ≤ room
  pub inner_marks : inners ≡ replicate 32768 0
  pub leaf_marks : leaves ≡ replicate 32768 0
  pub id_marks : ids ≡ replicate 65536 0
