-- The cursor of the entry before which a new one comes. Assumes nothing.
use Rattle.model.specs.declared.head.Cursor.{Cursor}
use Rattle.model.specs.Numbered.{Numbered}
use Rattle.std.specs.Prelude.{cond, ℕ, eqb, Ok}
use Rattle.model.specs.Row.{no_entry}
use Rattle.model.specs.State.{State}
use Rattle.model.specs.Calls as calls
use Rattle.model.specs.Calls.{cursor_at}
use Rattle.model.specs.declared.shape.Kind.{Kind}

-- at the end there is none, and one of no account stands for it
abbrev pub place_of : Kind → State → ℕ → Numbered Cursor
place_of K s i = cond (eqb i no_entry) (Ok (cursor_at 0 0 0)) (calls.cursor K s i)
