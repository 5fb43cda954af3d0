-- `calls_read::any::slot_of`: the part that is lent holds the node's words.
use Rattle.std.proofs.Common.{ap}
use Rattle.model.specs.Node.{node_of}
use Rattle.model.specs.declared.shape.Scan.{Scan}
use Rattle.model_laws.specs.Words.{lent}
use Rattle.model_laws.specs.AreaRead.{node_length}
use Rattle.calls_read.proofs.any.slot_of.Goals as goal

pub index_of-requires : goal.index_of-requires
unfolding node_of
index_of-requires c =
    let pre = c.requires in (
      pre.0.shaped,
      rw lent (node_length c.args.g _ _ pre.1 pre.0.room),
      rw lent pre.2,
    )

pub returns : goal.returns
returns c = ap (λ (r : Scan). r.place) (rw lent at c.index_of.ensures)
