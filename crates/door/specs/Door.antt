-- What the door answers (document 01, "Door and program"): the plain row's answer records, from one entry of lengths 0, 0, 0. Assumes nothing.
use Rattle.std.specs.Prelude.{cond, List, ℕ}
use Rattle.model.specs.Kind.{base}
use Rattle.model.specs.Row.{row_step}
use Rattle.list_row.specs.Run.{records_of, played, fit}
use Rattle.list_row.specs.Made.{door_row}

-- the number returned, and the output
pub record DoorAnswer : Type 0 where
  pub number : ℕ
  pub out : List ℕ

abbrev pub door_answer : ℕ → List ℕ → DoorAnswer
door_answer n out = record { number = n; out = out }

unfoldable pub door_on : List ℕ → List ℕ → DoorAnswer
door_on bs out = cond (fit bs out) (door_answer 0 (played (row_step base) door_row (records_of bs))) (door_answer 11 out)
