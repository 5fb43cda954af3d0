-- `calls_edits::walk::reached`: the walk down from the edit's own mark marks what it rests on.
use native.Mathlib.Omega.{arith}
use lib.ListN.{length-set, length-replicate}
use Rattle.calls_edits.specs.Answered.{accepted}
use Rattle.calls_edits.proofs.WalkLaws.{marks_are}
use Rattle.calls_edits.proofs.walk.reached.Goals as goal

pub bounds-marks-e : goal.bounds-marks-e
bounds-marks-e c = omega (arith, c.requires.1, (accepted _ c.requires.0).few)

pub walk-requires : goal.walk-requires
walk-requires c = (omega (arith, c.requires.1), simp (length-set, length-replicate) (omega (arith, c.requires.1, (accepted _ c.requires.0).few)))

pub returns : goal.returns
returns c =
    let pre = c.requires in
    marks_are _ (accepted _ pre.0).records _ _ pre.1 (accepted _ pre.0).few c.walk.ensures
