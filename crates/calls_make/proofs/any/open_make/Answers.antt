-- `calls_make::any::open_make`: too many line ends give 10, then the areas give the number, and then crossed lengths 20.
use Rattle.std.proofs.Common.{refl, sym, ◌∙◌}
use Rattle.model.specs.Kind.{kind_of}
use Rattle.model.specs.Length.{lengths_in}
use Rattle.model_laws.specs.Handed.{handed}
use Rattle.tree_open.proofs.Causes.{opened_first}
use Rattle.calls_make.proofs.BeginLaws.{make_closed, make_crossed, make_opened}
use Rattle.calls_make.proofs.any.open_make.Goals as goal

pub returns-then-too_many_lines : goal.returns-then-too_many_lines
returns-then-too_many_lines c effect = sym (opened_first 9 _ _ _ (sym (c.too_many_lines.ensures effect) ∙ c.if-too_many_lines.true))

pub returns-in_err-g : goal.returns-in_err-g
returns-in_err-g c effect =
    let a = c.args in
    handed _ _ c.from_residual.ensures.1
    ∙ make_closed (kind_of a.views effect a.ordered) a.fan a.limit (lengths_in a.views a.x.now) a.leaves.now a.inners.now a.homes.now _ (c.too_many_lines.ensures effect) c.if-too_many_lines.false _ (c.in_err-g.ensures effect) _ refl

pub returns-then-crossed : goal.returns-then-crossed
returns-then-crossed c effect =
    let a = c.args in
    make_crossed (kind_of a.views effect a.ordered) a.fan a.limit (lengths_in a.views a.x.now) a.leaves.now a.inners.now a.homes.now _ (c.too_many_lines.ensures effect) c.if-too_many_lines.false _ (c.in_ok-g.ensures effect) _ refl _ c.crossed.ensures c.if-crossed.true

pub returns : goal.returns
returns c effect =
    let a = c.args in
    make_opened (kind_of a.views effect a.ordered) a.fan a.limit (lengths_in a.views a.x.now) a.leaves.now a.inners.now a.homes.now _ (c.too_many_lines.ensures effect) c.if-too_many_lines.false _ (c.in_ok-g.ensures effect) _ refl _ c.crossed.ensures c.if-crossed.false
