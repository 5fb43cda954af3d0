-- `tree_open::open::open`: the areas are tested first, then the head's counts.
use Rattle.std.proofs.Common.{◌∙◌, refl}
use Rattle.model.specs.Kind.{kind}
use Rattle.model_laws.specs.Handed.{handed}
use Rattle.tree_open.proofs.OpenLaws.{open_refused, open_astray, open_good}
use Rattle.tree_open.proofs.open.open.Goals as goal

pub returns-in_err-g : goal.returns-in_err-g
returns-in_err-g c effect = handed _ _ c.from_residual.ensures.1 ∙ open_refused (kind _ effect) _ _ (c.in_err-g.ensures effect) _ refl

pub returns-then-astray : goal.returns-then-astray
returns-then-astray c effect = open_astray (kind _ effect) _ _ (c.in_ok-g.ensures effect) _ refl _ c.astray.ensures c.if-astray.true

pub returns : goal.returns
returns c effect = open_good (kind _ effect) _ _ (c.in_ok-g.ensures effect) _ refl _ c.astray.ensures c.if-astray.false
