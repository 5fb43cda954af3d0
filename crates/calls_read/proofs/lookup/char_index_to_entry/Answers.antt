-- `calls_read::lookup::char_index_to_entry`: `locate`, less the two positions.
use Rattle.model.specs.Kind.{base}
use Rattle.model.specs.Length.{view_number}
use Rattle.calls_read.proofs.LookupLaws.{less_positions_law}
use Rattle.calls_read.proofs.lookup.char_index_to_entry.Goals as goal

pub returns-in-Ok : goal.returns-in-Ok
returns-in-Ok c = less_positions_law _ base (view_number c.args.view) _ c.locate-r.result c.locate-r.ensures.0 _ c.in-Ok.is

pub returns-in-Err : goal.returns-in-Err
returns-in-Err c = less_positions_law _ base (view_number c.args.view) _ c.locate-r.result c.locate-r.ensures.0 _ c.in-Err.is
