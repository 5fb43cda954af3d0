-- `calls_audit::link::are_children`: each child is asked what the definition asks of it.
use mathlib.Core.Path.{refl}
use native.Mathlib.Omega.{arith}
use Rattle.std.proofs.Common.{rules}
use Rattle.calls_audit.specs.Links.{child_by}
use Rattle.calls_audit.proofs.Every.{every_from_all}
use Rattle.calls_audit.proofs.link.are_children.Goals as goal

pub returns : goal.returns
returns c =
    let a = c.args in
    every_from_all (child_by a.g a.used a.low.now a.inners.now a.k.0) 0 a.len a.len refl (omega arith) c.all.ensures.ran (λ x t f k. search rules)
