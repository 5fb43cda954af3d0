-- `calls_audit::link::is_inner`: its tests are the definition's, in its order.
use mathlib.Core.List.{[]}
use Rattle.std.proofs.Common.{arith}
use Rattle.std.proofs.lemmas.Grind.{common_steps}
use Rattle.model.specs.Kind.{stride}
use Rattle.calls_audit.proofs.InnerLaws.{inner_by_law}
use Rattle.calls_audit.proofs.link.is_inner.Goals as goal

pub returns-then-d-lt1 : goal.returns-then-d-lt1
returns-then-d-lt1 c K e =
    let a = c.args in
    let whole = inner_by_law K a.head a.leaves.now a.inners.now [] a.g a.k.0 e in
    grind (arith, common_steps)

pub returns-then-not-is_filled : goal.returns-then-not-is_filled
returns-then-not-is_filled c K e =
    let a = c.args in
    let whole = inner_by_law K a.head a.leaves.now a.inners.now [] a.g a.k.0 e in
    let least = c.least_inner-least.ensures (stride K) in
    let filled = c.is_filled.ensures.0 K e in
    grind (arith, common_steps)

pub returns-then-d-head-2 : goal.returns-then-d-head-2
returns-then-d-head-2 c K e =
    let a = c.args in
    let whole = inner_by_law K a.head a.leaves.now a.inners.now [] a.g a.k.0 e in
    let least = c.least_inner-least.ensures (stride K) in
    let filled = c.is_filled.ensures.0 K e in
    grind (arith, common_steps)

pub returns-else-d-head-2 : goal.returns-else-d-head-2
returns-else-d-head-2 c K e =
    let a = c.args in
    let whole = inner_by_law K a.head a.leaves.now a.inners.now [] a.g a.k.0 e in
    let least = c.least_inner-least.ensures (stride K) in
    let filled = c.is_filled.ensures.0 K e in
    grind (arith, common_steps)
