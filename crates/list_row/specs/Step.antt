-- A tree after a record, and the answer's number and three values. Assumes nothing.
use Rattle.model.specs.Row.{Moved}
use Rattle.model.specs.State.{State}
use Rattle.list_records.specs.Said.{answer_of}
use Rattle.list_records.specs.declared.answer.Answer.{Answer}

pub record Stepped : Type 0 where
  pub after : State
  pub answer : Answer

abbrev pub stepped : State → Answer → Stepped
stepped s a = record { after = s; answer = a }

abbrev pub step_by : Moved State → Stepped
step_by m = stepped m.after (answer_of m.answer)
