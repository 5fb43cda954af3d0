-- `tree_open::lengths::past`: where all words are low no total passes; else the sums say it.
use Rattle.std.proofs.Common.{false}
use Rattle.tree_open.proofs.TotalLaws.{past_none, past_for}
use Rattle.tree_open.proofs.lengths.past.Goals as goal

pub returns-then-low_in : goal.returns-then-low_in
returns-then-low_in c =
    let args = c.args in
    let pre = c.requires in
    let g = c.shape_for-g in
    past_for args.views args.fan args.nodes args.root.0 args.inners.now args.old.now args.new.now g.result false g.ensures
    (past_none g.result args.root.0 args.inners.now args.old.now args.new.now (rw g.ensures pre.0.shaped) pre.3 (c.small.ensures c.if-small.true) (c.low_in.ensures c.if-low_in.true))
