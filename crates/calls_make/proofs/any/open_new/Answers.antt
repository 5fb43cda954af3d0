-- `calls_make::any::open_new`: what `open_make` answers, and behind it the number for the shares.
use Rattle.std.proofs.Common.{refl, ap, ◌∙◌}
use Rattle.std.specs.Result.{result_from_control_flow}
use Rattle.model.specs.Numbered.{number_of}
use Rattle.model.specs.Kind.{kind_of}
use Rattle.model.specs.Length.{lengths_in}
use Rattle.model_laws.specs.Handed.{handed}
use Rattle.calls_make.proofs.BeginLaws.{new_stop, new_high, new_good}
use Rattle.calls_make.proofs.any.open_new.Goals as goal

pub returns-in_err-g : goal.returns-in_err-g
returns-in_err-g c effect more room =
    let a = c.args in
    handed _ _ c.from_residual.ensures.1
    ∙ new_stop (kind_of a.views effect a.ordered) a.fan a.limit (lengths_in a.views a.x.now) a.leaves.now a.inners.now a.homes.now _ (c.in_err-g.ensures effect) more _ refl

pub returns-in_err-shared : goal.returns-in_err-shared
returns-in_err-shared c effect more room =
    let a = c.args in
    handed _ _ c.from_residual-in_err-shared.ensures.1
    ∙ new_high (kind_of a.views effect a.ordered) a.fan a.limit (lengths_in a.views a.x.now) a.leaves.now a.inners.now a.homes.now _ (c.in_ok-g.ensures effect) more _ refl _ room _ (ap number_of (c.branch-shared.ensures ∙ ap result_from_control_flow c.in_err-shared.is))

pub returns : goal.returns
returns c effect more room =
    let a = c.args in
    new_good (kind_of a.views effect a.ordered) a.fan a.limit (lengths_in a.views a.x.now) a.leaves.now a.inners.now a.homes.now _ (c.in_ok-g.ensures effect) more _ refl _ room (ap number_of (c.branch-shared.ensures ∙ ap result_from_control_flow c.in_ok-shared.is))
