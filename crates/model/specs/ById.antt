-- The calls of a list on a tree (document 01, "The plain row"): each is `cursor(id)` and then the call of lib.rs named there. Assumes nothing.
use Rattle.model.specs.declared.number.EntryId.{EntryId}
use Rattle.model.specs.Numbered.{Numbered}
use Rattle.std.specs.Prelude.{cond, List, [], ◌∷◌, ℕ, eqb, Ok, Err, Some, None, Option}
use Rattle.model.specs.Row.{Call, reset, insert, split, set_lengths, update, lookup, rank, next, compare, lengths, count, first, malformed, Answer, done, refused, Moved, moved, no_entry, overlong}
use Rattle.model.specs.declared.shape.Kind.{Kind}
use Rattle.model.specs.State.{State}
use Rattle.model.specs.Answer.{outcome_answer, number_answer, compared_answer, inserted_answer}
use Rattle.model.specs.Calls as calls
use Rattle.model.specs.declared.head.Cursor.{Cursor}

-- goes on with a cursor, or passes its refusal on
abbrev pub with_cursor : {S : Type 0} → S → Numbered Cursor → (Cursor → Moved S) → Moved S
with_cursor s (Ok c) f = f c
with_cursor s (Err n) f = moved s (refused n)

-- goes on with the target of an insertion: the end, or the entry i, whose cursor is asked for
abbrev pub at_target : {S : Type 0} → S → ℕ → Numbered Cursor → (Option Cursor → Moved S) → Moved S
at_target s i c f = cond (eqb i no_entry) (f None) (with_cursor s c (λ c. f (Some c)))

abbrev pub with_target : Kind → State → ℕ → (Option Cursor → Moved State) → Moved State
with_target K s i f = at_target s i (calls.cursor K s i) f

-- the id at a cursor, then more values
abbrev pub id_answer : Numbered EntryId → List ℕ → Answer
id_answer (Ok i) vs = done (i.0 ∷ vs)
id_answer (Err n) vs = refused n

abbrev pub standing_id_answer : Kind → State → Numbered Cursor → Answer
standing_id_answer K s (Ok c) = id_answer (calls.id K s c) []
standing_id_answer K s (Err n) = refused n

abbrev pub next_answer : Kind → State → Numbered (Option Cursor) → Answer
next_answer K s (Ok (Some c)) = id_answer (calls.id K s c) []
next_answer K s (Ok None) = done (no_entry ∷ [])
next_answer K s (Err n) = refused n

abbrev pub located_answer : Kind → State → Numbered (Cursor × ℕ × ℕ × ℕ) → Answer
located_answer K s (Ok (c, offset, effect, prepare)) = id_answer (calls.id K s c) (offset ∷ effect ∷ prepare ∷ [])
located_answer K s (Err n) = refused n

abbrev pub divided_id_answer : Numbered (EntryId × Cursor × Cursor) → Answer
divided_id_answer (Ok (i, a, b)) = done (i.0 ∷ [])
divided_id_answer (Err n) = refused n

-- a call's reply with its answer in the row's form
abbrev pub told : {A : Type 0} → calls.Reply A → (A → Answer) → Moved State
told r f = moved r.after (f r.answer)

-- what a call does that doesn't give too many line ends; and every call, 10 before all else, even the causes of `cursor(id)`
unfoldable pub tree_move : Kind → State → Call → Moved State
tree_move K s (reset l) = told (calls.reset K s l) outcome_answer
tree_move K s (insert i l) = with_target K s i (λ t. told (calls.insert K s t l) inserted_answer)
tree_move K s (split flag i l) = with_cursor s (calls.cursor K s i) (λ c. told (calls.split_entry K s c l flag) divided_id_answer)
tree_move K s (set_lengths i l) = with_cursor s (calls.cursor K s i) (λ c. told (calls.set_lengths K s c l) outcome_answer)
tree_move K s (update i l) = with_cursor s (calls.cursor K s i) (λ c. told (calls.update K s c l) number_answer)
tree_move K s (lookup v index) = let r = calls.locate K s v index in moved r.after (located_answer K r.after r.answer)
tree_move K s (rank v i) = with_cursor s (calls.cursor K s i) (λ c. moved s (number_answer (calls.entry_to_char_index K s v c)))
tree_move K s (next i) = with_cursor s (calls.cursor K s i) (λ c. moved s (next_answer K s (calls.next_after K s c)))
tree_move K s (compare i j) = with_cursor s (calls.cursor K s i) (λ a. with_cursor s (calls.cursor K s j) (λ b. moved s (compared_answer (calls.cmp K s a b))))
tree_move K s (lengths i) = with_cursor s (calls.cursor K s i) (λ c. moved s (calls.entry_lengths K s c))
tree_move K s count = let h = s.head in moved s (number_answer (calls.unless (calls.area_causes K h.fan h.limit s.leaves s.inners s.homes) Err (calls.len h)))
tree_move K s first = moved s (standing_id_answer K s (calls.first K s))
tree_move K s malformed = moved s (refused 10)

unfoldable pub tree_step : Kind → State → Call → Moved State
tree_step K s c = cond (overlong K c) (moved s (refused 10)) (tree_move K s c)
