-- `calls_make::begin::reset`: the call at any width, at the full tree's.
use Rattle.std.proofs.Common.{[], ◌∷◌, refl, ap, ◌∙◌, arith}
use Rattle.model.specs.Kind.{base}
use Rattle.model.specs.State.{state}
use Rattle.model.specs.Calls.{reset}
use Rattle.model.specs.declared.length.Slot.{Slot}
use Rattle.calls_make.proofs.begin.reset.Goals as goal

pub reset-requires : goal.reset-requires
reset-requires c =
    let new = c.new-slot in
    (omega arith, omega arith, ap (λ (y : Slot). y.child) new.ensures, refl)

pub returns : goal.returns
returns c =
    let args = c.args in
    let slot = c.new-slot in
    c.reset.ensures 1
    ∙ ap (λ (y : Slot). reset base (state args.head args.leaves.now args.inners.now args.homes.now) (y.prepare_len ∷ y.effect_len ∷ y.line_ends ∷ [])) slot.ensures
