-- `calls_edits::check::check`: the length is tested first, then the count of edits, then the records in order.
use mathlib.Core.Path.{sym}
use Rattle.calls_edits.specs.Answered.{checks}
use Rattle.calls_edits.proofs.RecordLaws.{by_answer}
use Rattle.calls_edits.proofs.check.check.Goals as goal

pub returns-then-length-ne0 : goal.returns-then-length-ne0
returns-then-length-ne0 c = sym ((checks _).cut c.if-length-ne0.true)

pub returns-then-n-gt512 : goal.returns-then-n-gt512
returns-then-n-gt512 c = sym ((checks _).crowded c.if-length-ne0.false c.if-n-gt512.true)

pub returns : goal.returns
returns c = sym (by_answer _ c.if-length-ne0.false c.if-n-gt512.false _ c.check_records.ensures)
