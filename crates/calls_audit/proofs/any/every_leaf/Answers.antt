-- `calls_audit::any::every_leaf`: each leaf is asked what the definition asks of it.
use mathlib.Core.Path.{refl}
use native.Mathlib.Omega.{arith}
use Rattle.std.proofs.Common.{rules}
use Rattle.model.specs.State.{state}
use Rattle.model.specs.Audit.{is_leaf}
use Rattle.calls_audit.proofs.Every.{every_from_all}
use Rattle.calls_audit.proofs.any.every_leaf.Goals as goal

pub returns : goal.returns
returns c K e o =
    let a = c.args in
    every_from_all (is_leaf K (state a.head a.leaves.now a.inners.now a.homes.now)) 0 a.count a.count refl (omega arith) c.all.ensures.ran (λ x t f k. search rules)
