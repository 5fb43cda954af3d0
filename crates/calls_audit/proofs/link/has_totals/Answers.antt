-- `calls_audit::link::has_totals`: each view is asked what the definition asks of it.
use Prim.Native.Nat.{◌-◌}
use mathlib.Core.List.{[]}
use lib.ListN.{get_or}
use mathlib.Core.Path.{refl}
use native.Mathlib.Omega.{arith}
use Rattle.std.proofs.Common.{rules}
use Rattle.model.specs.State.{node_at}
use Rattle.calls_audit.specs.Links.{totals_by}
use Rattle.calls_audit.proofs.LinkLaws.{same_total}
use Rattle.calls_audit.proofs.Every.{every_from_all}
use Rattle.calls_audit.proofs.link.has_totals.Goals as goal

pub returns : goal.returns
unfolding totals_by
returns c =
    let a = c.args in
    every_from_all (same_total (get_or (node_at a.g a.k.0 a.inners.now).slots a.i []) (node_at a.g a.child a.low.now)) 0 (a.g.stride - 1) (a.g.stride - 1) refl (omega arith) c.all.ensures.ran (λ x t f k. search rules)
