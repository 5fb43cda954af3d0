-- `calls_audit::nodes::is_empty_slot`: the child is tested first; then each view is asked what the definition asks of it.
use Prim.Native.Nat.{◌-◌}
use mathlib.Core.List.{[]}
use lib.ListN.{get_or}
use mathlib.Core.Path.{refl}
use native.Mathlib.Omega.{arith}
use Rattle.std.proofs.Common.{rules}
use Rattle.model.specs.State.{node_at}
use Rattle.calls_audit.proofs.AreaLaws.{no_length, slot_views}
use Rattle.calls_audit.proofs.Every.{every_from_all}
use Rattle.calls_audit.proofs.nodes.is_empty_slot.Goals as goal

pub returns-then-child_of : goal.returns-then-child_of
returns-then-child_of c K e =
    let a = c.args in
    let x = get_or (node_at a.g a.k a.area.now).slots a.i [] in
    slot_views K a.g.stride e x c.child_of.result c.child_of.ensures c.if-child_of.true c.all.result
    (every_from_all (no_length x) 0 (a.g.stride - 1) (a.g.stride - 1) refl (omega arith) c.all.ensures.ran (λ v t f k. search rules))
