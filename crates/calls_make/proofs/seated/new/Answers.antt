-- `calls_make::seated::new`: the tree is made with the causes that its shares add, and its seats by the answer.
use Rattle.std.proofs.Common.{[], ◌∷◌, refl, ap, ◌∙◌, arith}
use Rattle.model.specs.Kind.{base}
use Rattle.model.specs.Length.{list_of}
use Rattle.model.specs.declared.length.Slot.{Slot}
use Rattle.calls_make.specs.Made.{make_by, shares_causes}
use Rattle.calls_make.proofs.SeatedLaws.{made_reply, made_given}
use Rattle.calls_make.proofs.seated.new.Goals as goal

pub new-r-requires : goal.new-r-requires
new-r-requires c =
    let the-new = c.new-slot in
    (omega arith, omega arith, ap (λ (z : Slot). z.child) the-new.ensures, refl)

pub returns : goal.returns
returns c =
    let a = c.args in
    let more = shares_causes a.limit a.shares.now in
    let made = c.new-r.ensures 1 more c.fit-shared.ensures in
    let slot = ap (λ (z : Slot). make_by base more a.fan a.limit (z.prepare_len ∷ z.effect_len ∷ z.line_ends ∷ []) a.leaves.now a.inners.now a.homes.now) c.new-slot.ensures in
    (made_reply _ _ _ _ _ (made ∙ slot) c.put_made.ensures.0 ∙ made_given a.fan a.limit a.shares.now (list_of a.lengths) a.leaves.now a.inners.now a.homes.now, c.put_made.ensures.1)
