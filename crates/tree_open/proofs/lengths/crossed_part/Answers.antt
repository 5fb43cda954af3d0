-- `tree_open::lengths::crossed_part`: what is moved is tested, then what is left, length by length.
use Rattle.tree_open.proofs.LengthLaws.{crossed_left}
use Rattle.tree_open.proofs.lengths.crossed_part.Goals as goal

pub returns-else-crossed : goal.returns-else-crossed
returns-else-crossed c =
    let args = c.args in
    let pre = c.requires in
    crossed_left args.views args.ordered pre.1 args.given.now args.own.now pre.2 pre.3 _ c.crossed.ensures c.if-crossed.false _ _ _ c.left.ensures c.left-2.ensures c.left-3.ensures _ c.crossed-else-crossed.ensures
