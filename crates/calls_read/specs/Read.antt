-- Parts of the calls that read one entry. Assumes nothing.
use Rattle.model.specs.declared.head.Cursor.{Cursor}
use Rattle.model.specs.Numbered.{Numbered}
use Rattle.std.specs.Prelude.{ℕ, cond, List, ◌==◌, nat_le, Err}
use Rattle.model.specs.Row.{Answer, done, refused}
use Rattle.model.specs.Node.{used, index_from}
use Rattle.model.specs.State.{node_at}
use Rattle.model.specs.Calls.{standing_in}
use Rattle.model.specs.declared.shape.Shape.{Shape}

-- the cursor of the entry i, where leaf k holds it
unfoldable pub cursor_in : Shape → List ℕ → ℕ → ℕ → ℕ → Numbered Cursor
cursor_in g ls k i stamp = let m = node_at g k ls in cond (nat_le m.len g.fan) (standing_in stamp k (index_from i 0 (used m))) (Err 9)

-- an answer of lengths, or of a refusal's number where there is one
abbrev pub lengths_by : ℕ → List ℕ → Answer
lengths_by n ls = cond (n == 0) (done ls) (refused n)
