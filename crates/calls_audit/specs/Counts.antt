-- The head's counts within their bounds. Assumes nothing.
use Rattle.std.specs.Prelude.{Bool, ◌&&◌, ltb, leb}
use Rattle.model.specs.declared.shape.Shape.{Shape}
use Rattle.model.specs.declared.head.Head.{Head}

abbrev pub counts_by : Head → Shape → Bool
counts_by h g =
    leb h.entries h.limit && leb h.leaves g.nodes && leb h.inners g.nodes && leb 1 h.levels && leb h.levels 15 && ltb h.root.0 h.inners
