-- `list_row::find::ids_of`: each call names what its kind says.
use mathlib.Core.Path.{refl}
use Rattle.list_records.specs.Said.{call_of}
use Rattle.list_records.specs.declared.call.Call.{Call}
use Rattle.list_row.specs.Find.{ids_of}
use Rattle.list_row.proofs.FindLaws.{call_by, ids_resize}
use Rattle.list_row.proofs.find.ids_of.Goals as goal

pub returns-in-Insert : goal.returns-in-Insert
returns-in-Insert c = call_by (λ (z : Call). ids_of (call_of z)) _ _ c.in-Insert.is _ c.target_ids.ensures

pub returns-in-Split : goal.returns-in-Split
returns-in-Split c = call_by (λ (z : Call). ids_of (call_of z)) _ _ c.in-Split.is _ c.one_id.ensures

pub returns-in-Resize : goal.returns-in-Resize
returns-in-Resize c = ids_resize _ _ _ _ c.in-Resize.is _ c.one_id-in-Resize.ensures

pub returns-in-Rank : goal.returns-in-Rank
returns-in-Rank c = call_by (λ (z : Call). ids_of (call_of z)) _ _ c.in-Rank.is _ c.one_id-in-Rank.ensures

pub returns-in-Next : goal.returns-in-Next
returns-in-Next c = call_by (λ (z : Call). ids_of (call_of z)) _ _ c.in-Next.is _ c.one_id-in-Next.ensures

pub returns-in-Compare : goal.returns-in-Compare
returns-in-Compare c = call_by (λ (z : Call). ids_of (call_of z)) _ _ c.in-Compare.is _ refl

pub returns-in-LengthsOf : goal.returns-in-LengthsOf
returns-in-LengthsOf c = call_by (λ (z : Call). ids_of (call_of z)) _ _ c.in-LengthsOf.is _ c.one_id-in-LengthsOf.ensures
