-- `calls_audit::any::totals`: each view is asked what the definition asks of it.
use Prim.Native.Nat.{◌-◌}
use mathlib.Core.Path.{refl}
use native.Mathlib.Omega.{arith}
use Rattle.std.proofs.Common.{rules}
use Rattle.model.specs.State.{node_at}
use Rattle.calls_audit.proofs.TreeLaws.{fits}
use Rattle.calls_audit.proofs.Every.{every_from_all}
use Rattle.calls_audit.proofs.any.totals.Goals as goal

pub returns : goal.returns
returns c = every_from_all (fits (node_at c.args.g c.args.root.0 c.args.inners.now)) 0 (c.args.g.stride - 1) (c.args.g.stride - 1) refl (omega arith) c.all.ensures.ran (λ x t f k. search rules)
