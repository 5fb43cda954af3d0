-- Document 01's number and values for each case of each answer. Assumes nothing.
use Rattle.model.specs.declared.length.Lengths.{Lengths}
use Rattle.model.specs.declared.number.EntryId.{EntryId}
use Rattle.std.specs.declared.cmp.Ordering.TheVariants.{Less, Equal, Greater}
use Rattle.std.specs.declared.cmp.Ordering.{Ordering}
use Rattle.model.specs.Numbered.{Numbered}
use Rattle.std.specs.Prelude.{List, [], ◌∷◌, ◌++◌, ℕ, Ok, Err, Some, None, Option, Bool, true, false}
use Rattle.model.specs.Length.{list_of}
use Rattle.model.specs.Row.{Answer, done, refused}
use Rattle.model.specs.declared.head.Cursor.{Cursor}

abbrev pub cursor_values : Cursor → List ℕ
cursor_values c = c.leaf.0 ∷ c.slot ∷ c.stamp ∷ []

abbrev pub outcome_answer : Numbered (Unit {0}) → Answer
outcome_answer (Ok tt) = done []
outcome_answer (Err n) = refused n

abbrev pub number_answer : Numbered ℕ → Answer
number_answer (Ok n) = done (n ∷ [])
number_answer (Err n) = refused n

abbrev pub verdict_answer : Numbered Bool → Answer
verdict_answer (Ok true) = done (1 ∷ [])
verdict_answer (Ok false) = done (0 ∷ [])
verdict_answer (Err n) = refused n

abbrev pub standing_answer : Numbered Cursor → Answer
standing_answer (Ok c) = done (cursor_values c)
standing_answer (Err n) = refused n

-- "none" is 4,294,967,295
abbrev pub next_answer : Numbered (Option Cursor) → Answer
next_answer (Ok (Some c)) = done (cursor_values c)
next_answer (Ok None) = done (4294967295 ∷ [])
next_answer (Err n) = refused n

abbrev pub named_answer : Numbered EntryId → Answer
named_answer (Ok i) = done (i.0 ∷ [])
named_answer (Err n) = refused n

abbrev pub measured_answer : Numbered Lengths → Answer
measured_answer (Ok l) = done (list_of l)
measured_answer (Err n) = refused n

-- compare gives 0, 1, 2
abbrev pub compared_answer : Numbered Ordering → Answer
compared_answer (Ok Less) = done (0 ∷ [])
compared_answer (Ok Equal) = done (1 ∷ [])
compared_answer (Ok Greater) = done (2 ∷ [])
compared_answer (Err n) = refused n

abbrev pub selected_answer : Numbered (Cursor × ℕ) → Answer
selected_answer (Ok (c, offset)) = done (cursor_values c ++ offset ∷ [])
selected_answer (Err n) = refused n

abbrev pub located_answer : Numbered (Cursor × ℕ × ℕ × ℕ) → Answer
located_answer (Ok (c, offset, effect, prepare)) = done (cursor_values c ++ offset ∷ effect ∷ prepare ∷ [])
located_answer (Err n) = refused n

abbrev pub inserted_answer : Numbered (EntryId × ℕ) → Answer
inserted_answer (Ok (i, position)) = done (i.0 ∷ position ∷ [])
inserted_answer (Err n) = refused n

abbrev pub divided_answer : Numbered (EntryId × Cursor × Cursor) → Answer
divided_answer (Ok (i, a, b)) = done (i.0 ∷ (cursor_values a ++ cursor_values b))
divided_answer (Err n) = refused n
