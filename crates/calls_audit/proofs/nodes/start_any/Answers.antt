-- `calls_audit::nodes::start_any`: past the last slot all lengths are summed.
use mathlib.Core.Path.{◌∙◌}
use Rattle.calls_audit.proofs.AreaLaws.{start_least}
use Rattle.calls_audit.proofs.nodes.start_any.Goals as goal

pub returns : goal.returns
returns c =
    let a = c.args in
    rw c.min.ensures at c.start_in.ensures.0 ∙ start_least a.g a.view a.k a.i a.area.now
