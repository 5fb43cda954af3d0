-- The lengths of an entry of the planning tree, and document 01's number and values for the answers that the full tree's calls don't have. Assumes nothing.
use Rattle.model.specs.declared.number.EntryId.{EntryId}
use Rattle.model.specs.Numbered.{Numbered}
use Rattle.std.specs.Prelude.{List, [], ◌∷◌, ℕ, Ok, Err}
use Rattle.model.specs.Row.{Answer, done, refused, Moved, moved}
use Rattle.model.specs.State.{State}
use Rattle.model.specs.Plan.{id_only}
use Rattle.calls_planning.specs.declared.bounds.Bounds.{Bounds}

-- one length a view
abbrev pub bounds_of : Bounds → List ℕ
bounds_of b = b.lowest ∷ b.highest ∷ []

abbrev pub ranged_answer : Numbered Bounds → Answer
ranged_answer (Ok b) = done (bounds_of b)
ranged_answer (Err n) = refused n

-- a lookup that answers the id alone
abbrev pub id_move : Moved State → Moved State
id_move m = moved m.after (id_only m.answer)

abbrev pub named_of : Numbered (EntryId × ℕ × ℕ × ℕ) → Numbered EntryId
named_of (Ok (i, offset, effect, prepare)) = Ok i
named_of (Err n) = Err n
