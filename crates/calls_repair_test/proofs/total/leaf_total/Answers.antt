-- The part that is lent holds the leaf's words.
use Rattle.model_laws.specs.Words.{lent}
use Rattle.calls_repair_test.proofs.total.leaf_total.Goals as goal

pub returns : goal.returns
returns c = (rw lent at c.used_total.ensures.0, c.used_total.ensures.1)
