-- The calls of lib.rs as they are, on cursors, in a list: what each does to a tree, its answer read with every cursor as the entry at which it
-- stands in the tree after the call, and the call of the row that it means. Assumes nothing.
use Rattle.model.specs.declared.number.EntryId.{EntryId}
use Rattle.model.specs.Numbered.{Numbered}
use Rattle.std.specs.Prelude.{Bool, cond, List, [], ◌∷◌, ℕ, eqb, take, Ok, Err, Some, None, Option}
use Rattle.model.specs.Lists.{refusal}
use Rattle.model.specs.Kind.{too_many_lines}
use Rattle.model.specs.declared.shape.Kind.{Kind}
use Rattle.model.specs.Node.{child}
use Rattle.model.specs.State.{State}
use Rattle.model.specs.Row as row
use Rattle.model.specs.Row.{Row, Call, Answer, done, refused, Moved, moved, no_entry, row_step}
use Rattle.model.specs.Refuse.{stale}
use Rattle.model.specs.Calls as calls
use Rattle.model.specs.Answer.{outcome_answer, number_answer, verdict_answer, named_answer, compared_answer, inserted_answer}
use Rattle.model.specs.ById.{told, id_answer, standing_id_answer, next_answer, located_answer}
use Rattle.model.specs.declared.head.Cursor.{Cursor}

-- every public call of lib.rs but make and add
pub data CursorCall : Type 0 where
  reset : List ℕ → CursorCall
  insert : Option Cursor → List ℕ → CursorCall
  split : Bool → Cursor → List ℕ → CursorCall
  set_lengths : Cursor → List ℕ → CursorCall
  update : Cursor → List ℕ → CursorCall
  locate : ℕ → ℕ → CursorCall
  select : ℕ → ℕ → CursorCall
  rank : ℕ → Cursor → CursorCall
  next : Cursor → CursorCall
  compare : Cursor → Cursor → CursorCall
  lengths : Cursor → CursorCall
  id : Cursor → CursorCall
  cursor : ℕ → CursorCall
  first : CursorCall
  len : CursorCall
  is_empty : CursorCall

-- on a tree ---------------------------------------------------------------------------------------------------------------------------------

-- answers read: a cursor as the id at which it stands in the tree after the call (ById's reading, `calls.id`); one that isn't current reads as its refusal
abbrev pub selected_id_answer : Kind → State → Numbered (Cursor × ℕ) → Answer
selected_id_answer K s (Ok (c, offset)) = id_answer (calls.id K s c) (offset ∷ [])
selected_id_answer K s (Err n) = refused n

-- the new id, and both parts in order
abbrev pub parts_of : ℕ → Numbered EntryId → Numbered EntryId → Answer
parts_of i (Ok a) (Ok b) = done (i ∷ a.0 ∷ b.0 ∷ [])
parts_of i (Ok a) (Err n) = refused n
parts_of i (Err n) b = refused n

abbrev pub parts_answer : Kind → State → Numbered (EntryId × Cursor × Cursor) → Answer
parts_answer K s (Ok (i, a, b)) = parts_of i.0 (calls.id K s a) (calls.id K s b)
parts_answer K s (Err n) = refused n

unfoldable pub cursor_step : Kind → State → CursorCall → Moved State
cursor_step K s (reset l) = told (calls.reset K s l) outcome_answer
cursor_step K s (insert t l) = told (calls.insert K s t l) inserted_answer
cursor_step K s (split flag c l) = let r = calls.split_entry K s c l flag in moved r.after (parts_answer K r.after r.answer)
cursor_step K s (set_lengths c l) = told (calls.set_lengths K s c l) outcome_answer
cursor_step K s (update c l) = told (calls.update K s c l) number_answer
cursor_step K s (locate v x) = let r = calls.locate K s v x in moved r.after (located_answer K r.after r.answer)
cursor_step K s (select v x) = let r = calls.char_index_to_entry K s v x in moved r.after (selected_id_answer K r.after r.answer)
cursor_step K s (rank v c) = moved s (number_answer (calls.entry_to_char_index K s v c))
cursor_step K s (next c) = moved s (next_answer K s (calls.next_after K s c))
cursor_step K s (compare a b) = moved s (compared_answer (calls.cmp K s a b))
cursor_step K s (lengths c) = moved s (calls.entry_lengths K s c)
cursor_step K s (id c) = moved s (named_answer (calls.id K s c))
cursor_step K s (cursor i) = moved s (standing_id_answer K s (calls.cursor K s i))
cursor_step K s first = moved s (standing_id_answer K s (calls.first K s))
cursor_step K s len = moved s (number_answer (calls.len s.head))
cursor_step K s is_empty = moved s (verdict_answer (calls.is_empty s.head))

-- on the row --------------------------------------------------------------------------------------------------------------------------------

-- a call with entries for cursors: a call of the row, one of the four that the row hasn't, or a cursor that fails by that number
pub data EntryCall : Type 0 where
  plain : Call → EntryCall
  parts : Bool → ℕ → List ℕ → EntryCall
  select : ℕ → ℕ → EntryCall
  self : ℕ → EntryCall
  is_empty : EntryCall
  failed : ℕ → EntryCall

-- the row's split with both parts' ids in order: the new one stands before the old one if so flagged, else after
abbrev pub part_ids : Bool → ℕ → List ℕ → List ℕ
part_ids flag i [] = []
part_ids flag i (n ∷ ns) = n ∷ cond flag n i ∷ cond flag i n ∷ []

abbrev pub with_parts : Bool → ℕ → Answer → Answer
with_parts flag i a = record { number = a.number; values = part_ids flag i a.values }

-- the row's lookup less the two positions
abbrev pub less_positions : Answer → Answer
less_positions a = record { number = a.number; values = take 2 a.values }

unfoldable pub entry_step : Kind → Row → EntryCall → Moved Row
entry_step K r (plain c) = row_step K r c
entry_step K r (parts flag i l) = let m = row_step K r (row.split flag i l) in moved m.after (with_parts flag i m.answer)
entry_step K r (select v x) = let m = row_step K r (row.lookup v x) in moved m.after (less_positions m.answer)
entry_step K r (self i) = row.unless r (row.no_such_id r i ∷ []) r.entries (done (i ∷ []))
entry_step K r is_empty = moved r (done (0 ∷ []))
entry_step K r (failed n) = moved r (refused n)

-- what a call means: each of its cursors, tested in order in the tree before the call, stands for the entry at its leaf and slot, or fails ----------

abbrev pub entry_at : Kind → State → Cursor → ℕ
entry_at K s c = child (calls.slot_at K s c)

unfoldable pub standing : Kind → State → Cursor → (ℕ → EntryCall) → EntryCall
standing K s c f = let n = refusal (stale K s c) in cond (eqb n 0) (f (entry_at K s c)) (failed n)

-- the cursor of a call that gives lengths: one with too many line ends is refused whatever its cursor
unfoldable pub standing_for : Kind → State → List ℕ → Cursor → (ℕ → EntryCall) → EntryCall
standing_for K s l c f = cond (too_many_lines K l) (f (entry_at K s c)) (standing K s c f)

unfoldable pub meant : Kind → State → CursorCall → EntryCall
meant K s (reset l) = plain (row.reset l)
meant K s (insert (Some c) l) = standing_for K s l c (λ i. plain (row.insert i l))
meant K s (insert None l) = plain (row.insert no_entry l)
meant K s (split flag c l) = standing_for K s l c (λ i. parts flag i l)
meant K s (set_lengths c l) = standing_for K s l c (λ i. plain (row.set_lengths i l))
meant K s (update c l) = standing_for K s l c (λ i. plain (row.update i l))
meant K s (locate v x) = plain (row.lookup v x)
meant K s (select v x) = select v x
meant K s (rank v c) = standing K s c (λ i. plain (row.rank v i))
meant K s (next c) = standing K s c (λ i. plain (row.next i))
meant K s (compare a b) = standing K s a (λ i. standing K s b (λ j. plain (row.compare i j)))
meant K s (lengths c) = standing K s c (λ i. plain (row.lengths i))
meant K s (id c) = standing K s c self
meant K s (cursor i) = self i
meant K s first = plain row.first
meant K s len = plain row.count
meant K s is_empty = is_empty

-- the list of calls that a list on cursors means, each read in the tree that the one before left
unfoldable pub meant_all : Kind → State → List CursorCall → List EntryCall
meant_all K s [] = []
meant_all K s (c ∷ cs) = meant K s c ∷ meant_all K (cursor_step K s c).after cs
