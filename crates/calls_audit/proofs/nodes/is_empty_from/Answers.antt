-- `calls_audit::nodes::is_empty_from`: each slot is asked what the definition asks of it.
use Prim.Native.Nat.{◌-◌}
use mathlib.Core.Path.{refl}
use mathlib.Core.List.{[]}
use lib.ListN.{get_or}
use Rattle.std.proofs.Common.{rules}
use Rattle.model.specs.State.{node_at}
use Rattle.model.specs.Audit.{is_empty_slot}
use Rattle.calls_audit.proofs.Every.{every_from_all}
use Rattle.calls_audit.proofs.nodes.is_empty_from.Goals as goal

pub returns : goal.returns
returns c K e = every_from_all (λ i. is_empty_slot K (get_or (node_at c.args.g c.args.k c.args.area.now).slots i [])) c.args.len c.args.g.fan (c.args.g.fan - c.args.len) refl refl c.all.ensures.ran (λ x t f k. search rules)
