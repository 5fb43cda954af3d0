-- `tree_place::home::rehome`: each turn gives one more of the leaf's entries its home.
use Rattle.tree_place.proofs.HomeLaws.{turn_on, turn_past, turn_end}
use Rattle.tree_place.proofs.home.rehome.Goals as goal

pub returns-then-entries-id : goal.returns-then-entries-id
returns-then-entries-id c =
    turn_past c.args.g _ _ _ _ _ c.args.leaves.now _ _ c.len_of-len.ensures c.requires.2 c.loop-i.invariant c.loop-i-test.true c.child_of-id.ensures c.if-entries-id.true

pub loop-i-preserved : goal.loop-i-preserved
loop-i-preserved c =
    turn_on c.args.g _ _ _ _ _ c.args.leaves.now _ _ c.len_of-len.ensures c.requires.2 c.loop-i.invariant c.loop-i-test.true c.child_of-id.ensures c.if-entries-id.false

pub returns : goal.returns
returns c = turn_end c.args.g _ _ _ _ 0 c.args.leaves.now _ _ c.len_of-len.ensures c.requires.2 c.loop-i.invariant c.loop-i-test.false
