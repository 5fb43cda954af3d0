-- Calls on a tree with their answers as lines of text (document 01, "Door and program"). Assumes nothing.
use Rattle.std.specs.Prelude.{cond, List, [], ◌∷◌, ◌++◌, ℕ, ◌-◌, ◌%◌, take, eqb}
use Rattle.model.specs.Kind.{base}
use Rattle.model.specs.Row.{Call, Answer, refused}
use Rattle.model.specs.Lists.{part}
use Rattle.model.specs.State.{State}
use Rattle.model.specs.ById.{tree_step}
use Rattle.model.specs.Promise.{answers, finally}
use Rattle.list_records.specs.Said.{answer_of}
use Rattle.list_row.specs.Run.{records_of, calls_of}
use Rattle.list_stream.specs.Text.{line, put}

-- a line for each answer
unfoldable pub lines : List Answer → List ℕ
lines [] = []
lines (a ∷ more) = line (answer_of a) ++ lines more

-- a tree, the place behind the text and the buffer that holds it
pub record Shown : Type 0 where
  pub after : State
  pub written : ℕ × List ℕ

abbrev pub shown : State → ℕ → List ℕ → Shown
shown s end out = record { after = s; written = (end, out) }

-- one call, its line from place `at` on
unfoldable pub show_one : State → Call → ℕ → List ℕ → Shown
show_one s c at out = let m = tree_step base s c in record { after = m.after; written = put out at (line (answer_of m.answer)) }

-- a list of calls
unfoldable pub show_from : State → List Call → ℕ → List ℕ → Shown
show_from s cs at out = record { after = finally (tree_step base) s cs; written = put out at (lines (answers (tree_step base) s cs)) }

-- what stray bytes at the end print
unfoldable pub tail : ℕ → List ℕ
tail stray = cond (eqb stray 0) [] (line (answer_of (refused 11)))

-- what is shown of a block's first bytes, and what is kept of them: how many, and the block with these at its start
pub record Fed : Type 0 where
  pub seen : Shown
  pub kept : ℕ × List ℕ

abbrev pub fed_of : State → ℕ → List ℕ → ℕ → List ℕ → Fed
fed_of s end out kept block = record { seen = shown s end out; kept = (kept, block) }

unfoldable pub feed : State → List ℕ → ℕ → List ℕ → Fed
feed s block have out = record {
  seen = show_from s (calls_of (records_of (take have block))) 0 out;
  kept = put block 0 (part (have - have % 16) (have % 16) block);
}
