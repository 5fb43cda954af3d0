-- `calls_edits::walk::step`: the two words of a marked edit are marked.
use Rattle.calls_edits.proofs.WalkLaws.{step_not, step_marked}
use Rattle.calls_edits.proofs.walk.step.Goals as goal

pub returns-then-marks-k-ne1 : goal.returns-then-marks-k-ne1
returns-then-marks-k-ne1 c = step_not _ _ _ c.if-marks-k-ne1.true

pub returns : goal.returns
returns c =
    let if1 = c.if-marks-k-ne1 in
    let word_at = c.word_at-left in
    let word-at2 = c.word_at-right in
    let mark = c.mark in
    step_marked _ _ _ _ _ _ _ if1.false word_at.ensures word-at2.ensures mark.ensures c.mark-2.ensures
