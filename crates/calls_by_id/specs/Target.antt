-- Where an entry is inserted, by the id that it comes before and that entry's cursor. Assumes nothing.
use Rattle.std.specs.Prelude.{cond, ℕ, eqb, Some, None, Option}
use Rattle.model.specs.Row.{no_entry}
use Rattle.model.specs.declared.head.Cursor.{Cursor}

-- at the end for the id that no entry has, else before the one found
abbrev pub target_of : ℕ → Cursor → Option Cursor
target_of i c = cond (eqb i no_entry) None (Some c)
