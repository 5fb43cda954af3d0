-- The code's fields, calls and answers in the row's own form. Assumes nothing.
use Rattle.std.specs.Prelude.{cond, [], ◌∷◌, get_or}
use Rattle.model.specs.Length.{list_of, view_number}
use Rattle.model.specs.Row as row
use Rattle.model.specs.Record as record'
use Rattle.model.specs.Record.{kinds}
use Rattle.list_records.specs.declared.fields.Fields.{Fields}
use Rattle.list_records.specs.declared.call.Call.{Call}
use Rattle.list_records.specs.declared.call.Call.TheVariants as call
use Rattle.list_records.specs.declared.answer.Answer.{Answer}

abbrev pub plain_fields : Fields → record'.Fields
plain_fields f = record { kind = f.kind; flag = f.flag; lines = f.lines; a = f.a; b = f.b; c = f.c }

abbrev pub call_of : Call → row.Call
call_of (call.Reset l) = row.reset (list_of l)
call_of (call.Insert i l) = row.insert i.0 (list_of l)
call_of (call.Split flag i l) = row.split flag i.0 (list_of l)
call_of (call.Resize summed i l) = cond summed (row.update i.0 (list_of l)) (row.set_lengths i.0 (list_of l))
call_of (call.Lookup v index) = row.lookup (view_number v) index
call_of (call.Rank v i) = row.rank (view_number v) i.0
call_of (call.Next i) = row.next i.0
call_of (call.Compare i j) = row.compare i.0 j.0
call_of (call.LengthsOf i) = row.lengths i.0
call_of call.Count = row.count
call_of call.First = row.first
call_of call.Malformed = row.malformed

-- what fields say: `decode` reads them from a record's bytes
unfoldable pub said : record'.Fields → row.Call
said f = get_or (kinds f) f.kind row.malformed

-- an answer's three values, those it lacks as 0; and back
abbrev pub answer_of : row.Answer → Answer
answer_of r = record { number = r.number; x = get_or r.values 0 0; y = get_or r.values 1 0; z = get_or r.values 2 0 }

abbrev pub filled : Answer → row.Answer
filled a = record { number = a.number; values = a.x ∷ a.y ∷ a.z ∷ [] }
