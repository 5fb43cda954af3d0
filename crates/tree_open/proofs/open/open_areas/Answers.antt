-- `tree_open::open::open_areas`: the first test that holds gives the number, and none gives the sizes.
use mathlib.Core.Path.{sym, ◌∙◌}
use Rattle.model.specs.Kind.{kind}
use Rattle.tree_open.proofs.OpenLaws.{short_areas, long_areas, sized}
use Rattle.tree_open.proofs.Causes.{opened_first}
use Rattle.tree_open.proofs.open.open_areas.Goals as goal

pub returns-then-bad_size : goal.returns-then-bad_size
returns-then-bad_size c effect = sym (opened_first 0 _ _ _ (sym c.bad_size.ensures ∙ c.if-bad_size.true))

pub shape_of-g-requires : goal.shape_of-g-requires
shape_of-g-requires c =
    let z = sized _ _ (sym c.bad_size.ensures ∙ c.if-bad_size.false) in
    (c.requires.0, c.requires.1, z.fan_least, z.fan_most, z.limit_most)

pub too_short-requires : goal.too_short-requires
too_short-requires c = c.shape_of-g.ensures.1

pub returns-then-too_short : goal.returns-then-too_short
returns-then-too_short c effect =
    let args = c.args in
    let bad-size = c.bad_size in
    let if1 = c.if-bad_size in
    short_areas (kind args.views effect) _ _ args.leaves.now args.inners.now args.homes.now _ _ _ bad-size.ensures if1.false c.shape_of-g.ensures.0
    c.too_short.ensures c.if-too_short.true

pub returns : goal.returns
returns c effect =
    let args = c.args in
    let bad-size = c.bad_size in
    let if1 = c.if-bad_size in
    long_areas (kind args.views effect) _ _ args.leaves.now args.inners.now args.homes.now _ _ _ bad-size.ensures if1.false c.shape_of-g.ensures.0
    c.too_short.ensures c.if-too_short.false
