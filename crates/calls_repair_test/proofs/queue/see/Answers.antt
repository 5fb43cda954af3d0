-- A node is noted where each test passes; where one fails the queue stays as it was.
use Rattle.calls_repair_test.proofs.QueueLaws.{not_below, not_new, no_room, is_noted}
use Rattle.calls_repair_test.proofs.queue.see.Goals as goal
use Rattle.calls_repair_test.proofs.queue.see.Goals.{then-c-n-via-then-c-n, then-c-n-via-else-c-n+then-marks-c-ne0, then-c-n-via-else-c-n+else-marks-c-ne0+then-count-most}

pub returns-then-c-n : goal.returns-then-c-n
returns-then-c-n c = elim c.then-c-n.branch [
  | then-c-n-via-then-c-n w ↦ not_below _ _ _ _ _ _ w.if-c-n.true
  | then-c-n-via-else-c-n+then-marks-c-ne0 w ↦ not_new _ _ _ _ _ _ w.if-c-n.false w.if-marks-c-ne0.true
  | then-c-n-via-else-c-n+else-marks-c-ne0+then-count-most w ↦ no_room _ _ _ _ _ _ w.if-c-n.false w.if-marks-c-ne0.false w.if-count-most.true
]

pub returns : goal.returns
returns c = is_noted _ _ _ _ _ _ c.if-c-n.false c.if-marks-c-ne0.false c.if-count-most.false
