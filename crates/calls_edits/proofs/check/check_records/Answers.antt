-- `calls_edits::check::check_records`: the records from e on decide as all do, for those before are good.
use Rattle.std.proofs.Common.{arith, refl, ◌∙◌}
use Rattle.model_laws.specs.Handed.{handed_number}
use Rattle.calls_edits.proofs.RecordLaws.{no_record_yet, bad_record, good_record, no_record, above_zero}
use Rattle.calls_edits.proofs.check.check_records.Goals as goal

pub loop-e-init : goal.loop-e-init
loop-e-init c = no_record_yet _ _

pub returns-in_err-check_record : goal.returns-in_err-check_record
returns-in_err-check_record c =
    handed_number _ _ c.from_residual.ensures.1 ∙ bad_record _ _ _ _ c.loop-e-test.true c.in_err-check_record.ensures (above_zero _) c.loop-e.invariant

pub loop-e-preserved : goal.loop-e-preserved
loop-e-preserved c = good_record _ _ _ _ c.loop-e-test.true c.in_ok-check_record.ensures refl c.loop-e.invariant

pub returns : goal.returns
returns c = no_record _ _ _ (omega arith) c.loop-e.invariant
