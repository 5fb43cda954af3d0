-- `calls_audit::any::audit`: fan, limit and areas are tested, then the tree.
use Rattle.std.proofs.Common.{◌∙◌, refl}
use Rattle.model.specs.Kind.{kind_of}
use Rattle.model.specs.State.{state}
use Rattle.model_laws.specs.Handed.{handed}
use Rattle.calls_make.proofs.BeginLaws.{room}
use Rattle.calls_audit.proofs.SoundLaws.{view_wide, audit_refused, audit_good}
use Rattle.calls_audit.proofs.any.audit.Goals as goal

pub is_sound-requires : goal.is_sound-requires
is_sound-requires c =
    let a = c.args in
    let pre = c.requires in
    let r = room (kind_of a.views a.effect a.ordered) (pre.0, pre.1) a.head.fan a.head.limit a.leaves.now a.inners.now a.homes.now _ (c.in_ok-g.ensures a.effect) _ refl in (
      record { shaped = r.shaped; room = r.leaf_area },
      record { shaped = r.shaped; room = r.inner_area },
      view_wide _ a.views a.head.fan a.head.limit a.effect r.same pre.2,
      r.home_area,
    )

pub returns-in_err-g : goal.returns-in_err-g
returns-in_err-g c =
    let a = c.args in
    handed _ _ c.from_residual.ensures.1
    ∙ audit_refused (kind_of a.views a.effect a.ordered) (state a.head a.leaves.now a.inners.now a.homes.now) _ (c.in_err-g.ensures a.effect) _ refl

pub returns : goal.returns
returns c =
    let a = c.args in
    audit_good (kind_of a.views a.effect a.ordered) (state a.head a.leaves.now a.inners.now a.homes.now) _ (c.in_ok-g.ensures a.effect) _ refl _ (c.is_sound.ensures a.views)
