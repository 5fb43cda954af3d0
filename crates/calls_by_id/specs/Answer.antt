-- Document 01's number and values for the answers that name an entry by its id. Assumes nothing.
use Rattle.model.specs.declared.number.EntryId.{EntryId}
use Rattle.model.specs.Numbered.{Numbered}
use Rattle.std.specs.Prelude.{[], ◌∷◌, Ok, Err, Some, None, Option, ℕ}
use Rattle.model.specs.Row.{Answer, done, refused, no_entry}

abbrev pub looked_answer : Numbered (EntryId × ℕ × ℕ × ℕ) → Answer
looked_answer (Ok (i, offset, effect, prepare)) = done (i.0 ∷ offset ∷ effect ∷ prepare ∷ [])
looked_answer (Err n) = refused n

-- "none" is 4,294,967,295
abbrev pub following_answer : Numbered (Option EntryId) → Answer
following_answer (Ok (Some i)) = done (i.0 ∷ [])
following_answer (Ok None) = done (no_entry ∷ [])
following_answer (Err n) = refused n
