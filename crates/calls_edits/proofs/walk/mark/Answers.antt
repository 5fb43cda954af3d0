-- `calls_edits::walk::mark`: past the marks nothing is set.
use mathlib.Core.Path.{sym}
use lib.Seq.{set_out}
use Rattle.calls_edits.proofs.walk.mark.Goals as goal

pub returns-else-p-marks : goal.returns-else-p-marks
returns-else-p-marks c = sym (set_out _ _ _ c.if-p-marks.false)
