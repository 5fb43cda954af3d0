-- `calls_edits::check::check_records`: the records from e on decide as all do, for those before are good.
use Rattle.std.proofs.Common.{◌≡◌, ◌-◌}
use Rattle.model.specs.Lists.{refusal}
use Rattle.calls_edits.specs.Edits.{records_causes}
use Rattle.calls_edits.specs.Causes.{after}
use Rattle.calls_edits.proofs.check.check_records.Given as goal

abbrev pub invariant-loop-e : goal.invariant-loop-e
invariant-loop-e l = after l.file l.e (l.n - l.e) ≡ refusal (records_causes l.file l.n)
