-- `calls_make::any::begin`: the first slot's words are written into node 0 of both areas, and home 0 is leaf 0.
use Rattle.calls_make.proofs.BeginLaws.{begin_words}
use Rattle.calls_make.proofs.any.begin.Goals as goal

pub returns : goal.returns
returns c K e =
    let args = c.args in
    let pre = c.requires in
    begin_words K args.fan args.limit args.stamp args.g e args.leaves.now args.inners.now args.homes.now args.x.now _ _ pre.4 pre.5 c.write_first.ensures
    c.write_first-2.ensures
