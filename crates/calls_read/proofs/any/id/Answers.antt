-- `calls_read::any::id`: a current cursor's slot holds the id as its child.
use Rattle.std.proofs.Common.{refl, ◌∙◌}
use Rattle.model.specs.Kind.{kind}
use Rattle.model_laws.specs.Handed.{handed}
use Rattle.tree_open.proofs.CursorLaws.{cursor_ready, slot_in_law}
use Rattle.calls_read.proofs.ReadLaws.{id_refused, id_good}
use Rattle.calls_read.proofs.any.id.Goals as goal

pub child_of-id-requires : goal.child_of-id-requires
child_of-id-requires c = slot_in_law _ c.args.at _ (cursor_ready (kind _ 0) c.requires _ c.args.at _ _ (c.in_ok-g.ensures 0) refl)

pub returns-in_err-g : goal.returns-in_err-g
returns-in_err-g c effect = handed _ _ c.from_residual.ensures.1 ∙ id_refused (kind _ effect) _ c.args.at _ (c.in_err-g.ensures effect)

pub returns : goal.returns
returns c effect = id_good (kind _ effect) _ c.args.at _ (c.in_ok-g.ensures effect) _ c.child_of-id.ensures
