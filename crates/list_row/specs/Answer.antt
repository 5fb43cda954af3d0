-- An answer as the code hands it back with the head. Assumes nothing.
use Rattle.model.specs.Row as row
use Rattle.model.specs.declared.head.Head.{Head}
use Rattle.list_records.specs.Said.{answer_of}
use Rattle.list_row.specs.declared.answer.Step.{Step}

abbrev pub step_of : Head → row.Answer → Step
step_of h a = record { head = h; answer = answer_of a }
