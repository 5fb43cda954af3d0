-- `calls_audit::link::is_child`: its tests are the definition's, in its order.
use Rattle.std.proofs.Common.{arith}
use Rattle.std.proofs.lemmas.Grind.{common_steps}
use Rattle.calls_audit.specs.Links.{child_by}
use Rattle.calls_audit.proofs.link.is_child.Goals as goal

pub returns-then-at_of-i : goal.returns-then-at_of-i
unfolding child_by
returns-then-at_of-i c = grind (arith, common_steps)

pub returns-else-at_of-i : goal.returns-else-at_of-i
unfolding child_by
returns-else-at_of-i c = grind (arith, common_steps)
