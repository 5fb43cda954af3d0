-- `calls_audit::link::is_held`: its tests are the definition's, in its order.
use Rattle.std.proofs.Common.{arith}
use Rattle.std.proofs.lemmas.Grind.{common_steps}
use Rattle.calls_audit.specs.Links.{held_by}
use Rattle.calls_audit.proofs.link.is_held.Goals as goal

pub returns-then-parent-used : goal.returns-then-parent-used
unfolding held_by
returns-then-parent-used c = grind (arith, common_steps)

pub returns-then-len-g : goal.returns-then-len-g
unfolding held_by
returns-then-len-g c = grind (arith, common_steps)

pub returns-else-len-g : goal.returns-else-len-g
unfolding held_by
returns-else-len-g c = grind (arith, common_steps)
