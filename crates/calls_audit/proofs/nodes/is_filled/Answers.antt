-- `calls_audit::nodes::is_filled`: its tests are the definition's, in its order.
use mathlib.Core.Path.{ap}
use Rattle.std.proofs.Common.{arith}
use Rattle.std.proofs.lemmas.Grind.{common_steps}
use Rattle.model.specs.Audit.{is_filled}
use Rattle.model.specs.declared.shape.Shape.{Shape}
use Rattle.calls_audit.proofs.AreaLaws.{fan}
use Rattle.calls_audit.proofs.nodes.is_filled.Goals as goal

pub returns-then-len-g : goal.returns-then-len-g
unfolding is_filled
returns-then-len-g c = (
  λ K e.
      let same = fan K c.args.head c.args.g e in
      let empty = c.is_empty_from.ensures K (ap (λ (x : Shape). x.stride) e) in
      grind (arith, common_steps),
  grind (arith, common_steps),
)

pub returns-else-len-g : goal.returns-else-len-g
unfolding is_filled
returns-else-len-g c = (
  λ K e.
      let same = fan K c.args.head c.args.g e in
      grind (arith, common_steps),
  grind (arith, common_steps),
)
