-- `calls_print::any::open_print`: the areas are tested first, then the buffer, then the head's counts.
use Rattle.std.proofs.Common.{◌∙◌, refl}
use Rattle.model.specs.Kind.{kind}
use Rattle.model_laws.specs.Handed.{handed}
use Rattle.calls_print.proofs.OpenLaws.{areas_refused, small, outside, good}
use Rattle.calls_print.proofs.any.open_print.Goals as goal

pub returns-then-bytes-pages_for : goal.returns-then-bytes-pages_for
returns-then-bytes-pages_for c effect =
    let args = c.args in
    small (kind args.views effect) _ _ _ (c.in_ok-g.ensures effect) _ refl _ c.pages_for.ensures c.if-bytes-pages_for.true

pub returns-then-astray : goal.returns-then-astray
returns-then-astray c effect =
    let args = c.args in
    let pages-for = c.pages_for in
    outside (kind args.views effect) _ _ _ (c.in_ok-g.ensures effect) _ refl _ pages-for.ensures c.if-bytes-pages_for.false _ c.astray.ensures c.if-astray.true

pub returns-in_err-g : goal.returns-in_err-g
returns-in_err-g c effect =
    let args = c.args in
    handed _ _ c.from_residual.ensures.1 ∙ areas_refused (kind args.views effect) _ _ _ (c.in_err-g.ensures effect) _ refl

pub returns-else-astray : goal.returns-else-astray
returns-else-astray c effect =
    let args = c.args in
    let pages-for = c.pages_for in
    good (kind args.views effect) _ _ _ (c.in_ok-g.ensures effect) _ refl _ pages-for.ensures c.if-bytes-pages_for.false _ c.astray.ensures c.if-astray.false
