-- `calls_audit::entry::is_entry`: its tests are the definition's, in its order.
use lib.Seq.{get_or-drop}
use Rattle.std.proofs.Common.{arith}
use Rattle.std.proofs.lemmas.Grind.{common_steps}
use Rattle.calls_audit.specs.Links.{entry_by}
use Rattle.calls_audit.proofs.entry.is_entry.Goals as goal

pub returns-then-not-is_crossed : goal.returns-then-not-is_crossed
unfolding entry_by
returns-then-not-is_crossed c = simp get_or-drop (grind (arith, common_steps))

pub returns-else-not-is_crossed : goal.returns-else-not-is_crossed
unfolding entry_by
returns-else-not-is_crossed c = simp get_or-drop (grind (arith, common_steps))
