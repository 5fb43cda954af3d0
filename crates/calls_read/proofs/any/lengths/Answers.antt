-- `calls_read::any::lengths`: a current cursor's slot holds the lengths behind its child.
use Rattle.std.proofs.Common.{refl, ap, ◌∙◌}
use Rattle.model.specs.Kind.{kind}
use Rattle.model.specs.Length.{lengths_in}
use Rattle.model_laws.specs.Handed.{handed_number}
use Rattle.tree_open.proofs.ReadyLaws.{views_are}
use Rattle.tree_open.proofs.CursorLaws.{cursor_ready, slot_in_law}
use Rattle.calls_read.specs.Read.{lengths_by}
use Rattle.calls_read.proofs.ReadLaws.{lengths_refused, lengths_good}
use Rattle.calls_read.proofs.any.lengths.Goals as goal

pub lengths_at-requires : goal.lengths_at-requires
lengths_at-requires c =
    let pre = c.requires in
    let i = slot_in_law _ c.args.at _ (cursor_ready (kind c.args.views 0) (pre.0, pre.1) _ c.args.at _ _ (c.in_ok-g.ensures 0) refl) in
    (i.0, i.1, i.2, pre.2)

pub returns-in_err-g : goal.returns-in_err-g
returns-in_err-g c =
    let x = lengths_in c.args.views c.args.x.now in (
      (λ effect. ap (λ n. lengths_by n x) (handed_number _ _ c.from_residual.ensures.1)
          ∙ lengths_refused (kind c.args.views effect) _ c.args.at _ (c.in_err-g.ensures effect) x),
      c.requires.2,
    )

pub returns : goal.returns
returns c = (
  (λ effect. let h = cursor_ready (kind c.args.views effect) (c.requires.0, c.requires.1) _ c.args.at _ _ (c.in_ok-g.ensures effect) refl in
      lengths_good (kind c.args.views effect) _ c.args.at _ (c.in_ok-g.ensures effect) c.args.views c.lengths_at.new.x (views_are _ _ h.ready) c.lengths_at.ensures.0),
  c.lengths_at.ensures.1,
)
