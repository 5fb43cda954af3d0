-- What the program does with the bytes that a read gives it, and the row that its tree stands for. Assumes nothing.
use Rattle.std.specs.Prelude.{◌≡◌, List, ℕ, ◌+◌, ◌-◌, ◌%◌, ◌<◌, ◌≤◌, length, take, Option, Some, None, Result, Ok, Err}
use Rattle.model.specs.Kind.{base}
use Rattle.model.specs.Lists.{part}
use Rattle.model.specs.Row.{Row, Call, row_step}
use Rattle.model.specs.State.{State, state}
use Rattle.model.specs.ById.{tree_step}
use Rattle.model.specs.Promise.{finally, Represents}
use Rattle.list_stream.specs.Text.{put}
use Rattle.list_row.specs.Run.{records_of, left}
use Rattle.list_row.specs.Made.{door_row}
use Rattle.sheetrun.specs.declared.Left.{Left}

-- the whole records among the first `have` bytes of a block
abbrev pub whole_of : ℕ → List ℕ → List (List ℕ)
whole_of have block = records_of (take (have - have % 16) block)

-- they are played on the tree s, which leaves t, and the bytes behind them stand at the block's start
pub record BlockPlayed (s : State) (block : List ℕ) (have : ℕ) (t : State) (kept : ℕ) (b : List ℕ) : Type 0 where
  pub tree : t ≡ left (tree_step base) s (whole_of have block)
  pub row : (q : Row) → Represents base s q → Represents base t (left (row_step base) q (whole_of have block))
  pub rest : (kept, b) ≡ put block 0 (part (have - have % 16) (have % 16) block)

-- a turn after which the input goes on: n bytes were read behind the kept ones, and played; at its end nothing is changed
abbrev pub Turned : {E : Type 0} → Result (Option Left) E → State → List ℕ → ℕ → List ℕ → List ℕ → List ℕ → List ℕ → Type 0
Turned (Ok (Some l)) s block kept ls xs hs b =
    (given : List ℕ) × (n : ℕ) × (0 < n) × (kept + n ≤ length given) × (take kept given ≡ take kept block) × BlockPlayed s given (kept + n) (state l.head ls xs hs) l.kept b
Turned (Ok None) s block kept ls xs hs b = state s.head ls xs hs ≡ s
Turned (Err e) s block kept ls xs hs b = Unit {0}

-- the row that some calls make of the door's, and a tree that stands for such a row
abbrev pub left_row : List Call → Row
left_row cs = finally (row_step base) door_row cs

pub record ForRow (s : State) : Type 0 where
  pub calls : List Call
  pub stands : Represents base s (left_row calls)
