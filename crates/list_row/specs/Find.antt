-- A call of a list as the entries that it names, which are found first, and the call there. Assumes nothing.
use Rattle.model.specs.Numbered.{Numbered}
use Rattle.std.specs.Prelude.{cond, ℕ, zero, suc, eqb, Ok, Err}
use Rattle.model.specs.Kind.{base}
use Rattle.model.specs.Row as row
use Rattle.model.specs.Row.{Moved, moved, refused, no_entry}
use Rattle.model.specs.Answer.{outcome_answer, number_answer, compared_answer, inserted_answer}
use Rattle.model.specs.State.{State}
use Rattle.model.specs.Calls as calls
use Rattle.model.specs.Calls.{cursor_at}
use Rattle.model.specs.ById.{told, next_answer, divided_id_answer, tree_move}
use Rattle.model.specs.declared.head.Cursor.{Cursor}
use Rattle.calls_by_id.specs.Target.{target_of}
use Rattle.list_row.specs.declared.find.Ids.{Ids}

abbrev pub no_ids : Ids
no_ids = record { count = 0; first = 0; second = 0 }

abbrev pub one_id : ℕ → Ids
one_id i = record { count = 1; first = i; second = 0 }

-- the end, where an entry may be inserted, is no entry
abbrev pub target_ids : ℕ → Ids
target_ids i = cond (eqb i no_entry) no_ids (one_id i)

-- the ids that a call names
abbrev pub ids_of : row.Call → Ids
ids_of (row.reset l) = no_ids
ids_of (row.insert i l) = target_ids i
ids_of (row.split flag i l) = one_id i
ids_of (row.set_lengths i l) = one_id i
ids_of (row.update i l) = one_id i
ids_of (row.lookup v index) = no_ids
ids_of (row.rank v i) = one_id i
ids_of (row.next i) = one_id i
ids_of (row.compare i j) = record { count = 2; first = i; second = j }
ids_of (row.lengths i) = one_id i
ids_of row.count = no_ids
ids_of row.first = no_ids
ids_of row.malformed = no_ids

-- goes on with a cursor, or passes its refusal on
abbrev pub onward : Numbered Cursor → (Cursor → Numbered (Cursor × Cursor)) → Numbered (Cursor × Cursor)
onward (Ok c) f = f c
onward (Err n) f = Err n

-- the last two cursors where as many entries are left, i and then j
unfoldable pub found_from : State → ℕ → ℕ → ℕ → Cursor → Cursor → Numbered (Cursor × Cursor)
found_from s zero i j a b = Ok (a, b)
found_from s (suc n) i j a b = onward (calls.cursor base s i) (λ c. found_from s n j j b c)

-- the cursors of the entries with these ids; in the place of one that isn't looked for stands a cursor of no account
abbrev pub found_of : State → Ids → Numbered (Cursor × Cursor)
found_of s k = found_from s k.count k.first k.second (cursor_at 0 0 0) (cursor_at 0 0 0)

-- what a call does at the cursors of the entries that it names: b, and a for the first of two
unfoldable pub call_at : State → row.Call → Cursor → Cursor → Moved State
call_at s (row.reset l) a b = tree_move base s (row.reset l)
call_at s (row.insert i l) a b = told (calls.insert base s (target_of i b) l) inserted_answer
call_at s (row.split flag i l) a b = told (calls.split_entry base s b l flag) divided_id_answer
call_at s (row.set_lengths i l) a b = told (calls.set_lengths base s b l) outcome_answer
call_at s (row.update i l) a b = told (calls.update base s b l) number_answer
call_at s (row.lookup v index) a b = tree_move base s (row.lookup v index)
call_at s (row.rank v i) a b = moved s (number_answer (calls.entry_to_char_index base s v b))
call_at s (row.next i) a b = moved s (next_answer base s (calls.next_after base s b))
call_at s (row.compare i j) a b = moved s (compared_answer (calls.cmp base s a b))
call_at s (row.lengths i) a b = moved s (calls.entry_lengths base s b)
call_at s row.count a b = tree_move base s row.count
call_at s row.first a b = tree_move base s row.first
call_at s row.malformed a b = tree_move base s row.malformed
