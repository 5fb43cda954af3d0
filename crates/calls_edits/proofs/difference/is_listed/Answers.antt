-- `calls_edits::difference::is_listed`: marked in one, and then not in two.
use Rattle.std.proofs.Common.{◌∙◌}
use borrow.Author.Tests.{ne_eqb}
use Rattle.calls_edits.proofs.ListLaws.{not_one, only_two}
use Rattle.calls_edits.proofs.difference.is_listed.Goals as goal

pub returns-then-one-k-eq1 : goal.returns-then-one-k-eq1
returns-then-one-k-eq1 c = only_two _ _ _ c.if-one-k-eq1.true

pub returns-else-one-k-eq1 : goal.returns-else-one-k-eq1
returns-else-one-k-eq1 c = ne_eqb _ _ c.if-one-k-eq1.false ∙ not_one _ _ _ c.if-one-k-eq1.false
