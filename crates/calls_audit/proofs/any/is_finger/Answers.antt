-- `calls_audit::any::is_finger`: its place, then its sums view by view.
use Prim.Native.Nat.{suc}
use mathlib.Core.Path.{◌≡◌, ap}
use mathlib.Core.List.{[]}
use Rattle.std.proofs.Common.{arith}
use Rattle.std.proofs.lemmas.Grind.{common_steps}
use Rattle.model.specs.Kind.{kind_of}
use Rattle.model.specs.declared.shape.Shape.{Shape}
use Rattle.calls_audit.proofs.TreeLaws.{finger_by_law}
use Rattle.calls_audit.proofs.any.is_finger.Goals as goal

pub returns-then-is_part : goal.returns-then-is_part
returns-then-is_part c views ordered e =
    let a = c.args in
    let whole = finger_by_law (kind_of views a.effect ordered) a.head a.leaves.now a.inners.now [] a.f a.g e in
    let columns : a.g.stride ≡ suc views = ap (λ (x : Shape). x.stride) e in
    grind (arith, common_steps)

pub returns-else-is_part : goal.returns-else-is_part
returns-else-is_part c views ordered e =
    let a = c.args in
    let whole = finger_by_law (kind_of views a.effect ordered) a.head a.leaves.now a.inners.now [] a.f a.g e in
    let columns : a.g.stride ≡ suc views = ap (λ (x : Shape). x.stride) e in
    grind (arith, common_steps)
