-- `calls_make::begin::new`: the call at any width, at the full tree's.
use Rattle.std.proofs.Common.{[], ◌∷◌, refl, ap, ◌∙◌, arith}
use Rattle.model.specs.Kind.{base}
use Rattle.model.specs.Calls.{make}
use Rattle.model.specs.declared.length.Slot.{Slot}
use Rattle.calls_make.proofs.BeginLaws.{no_more, make_plain}
use Rattle.calls_make.proofs.begin.new.Goals as goal

pub new-requires : goal.new-requires
new-requires c =
    let the-new = c.new-slot in
    (omega arith, omega arith, ap (λ (y : Slot). y.child) the-new.ensures, refl)

pub returns : goal.returns
returns c =
    let args = c.args in
    let slot = c.new-slot in
    c.new.ensures 1 [] no_more
    ∙ make_plain base args.fan args.limit _ args.leaves.now args.inners.now args.homes.now
    ∙ ap (λ (y : Slot). make base args.fan args.limit (y.prepare_len ∷ y.effect_len ∷ y.line_ends ∷ []) args.leaves.now args.inners.now args.homes.now) slot.ensures
