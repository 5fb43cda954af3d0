-- `list_row::step::is_overlong`: the calls that give lengths are those that can give too many line ends.
use Rattle.model.specs.Kind.{base}
use Rattle.model.specs.Row.{overlong}
use Rattle.list_records.specs.Said.{call_of}
use Rattle.list_records.specs.declared.call.Call.{Call}
use Rattle.list_row.proofs.FindLaws.{call_by, long_resize}
use Rattle.list_row.proofs.step.is_overlong.Goals as goal

pub returns-in-Reset : goal.returns-in-Reset
returns-in-Reset c = call_by (λ (z : Call). overlong base (call_of z)) _ _ c.in-Reset.is _ c.overlong.ensures

pub returns-in-Insert : goal.returns-in-Insert
returns-in-Insert c = call_by (λ (z : Call). overlong base (call_of z)) _ _ c.in-Insert.is _ c.overlong-in-Insert.ensures

pub returns-in-Split : goal.returns-in-Split
returns-in-Split c = call_by (λ (z : Call). overlong base (call_of z)) _ _ c.in-Split.is _ c.overlong-in-Split.ensures

pub returns-in-Resize : goal.returns-in-Resize
returns-in-Resize c = long_resize _ _ _ _ c.in-Resize.is _ c.overlong-in-Resize.ensures
