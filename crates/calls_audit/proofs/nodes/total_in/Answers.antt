-- `calls_audit::nodes::total_in`: the part that is lent holds the node's words.
use Rattle.model_laws.specs.Words.{lent}
use Rattle.calls_audit.proofs.nodes.total_in.Goals as goal

pub returns : goal.returns
returns c = rw lent at c.used_total.ensures.0
