-- `calls_audit::link::is_below`: the root is asked the one, every other node the other.
use Rattle.std.proofs.Common.{arith}
use Rattle.std.proofs.lemmas.Grind.{common_steps}
use Rattle.calls_audit.specs.Links.{root_by}
use Rattle.calls_audit.proofs.link.is_below.Goals as goal

pub returns-then-parent : goal.returns-then-parent
unfolding root_by
returns-then-parent c = grind (arith, common_steps)

pub returns-else-parent : goal.returns-else-parent
unfolding root_by
returns-else-parent c = grind (arith, common_steps)

pub returns-else-k-head : goal.returns-else-k-head
unfolding root_by
returns-else-k-head c = grind (arith, common_steps)
