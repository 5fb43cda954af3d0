-- `tree_node::read::start`: the sum is the total of the slots passed, and each turn adds the next slot's length.
use Rattle.std.proofs.Common.{◌≡◌, sym, arith}
use Rattle.model.specs.Node.{node_of}
use Rattle.model_laws.specs.Slots.{slots_take}
use Rattle.model_laws.specs.Read.{total_none, total_more}
use Rattle.tree_node.proofs.read.start.Goals as goal

pub loop-init : goal.loop-init
loop-init c = (omega arith, omega arith, sym (total_none _ _ _ _))

pub loop-preserved : goal.loop-preserved
loop-preserved c =
    let l = c.loop in
    (omega arith, omega arith, total_more _ _ _ _ _ _ _ _ c.requires.2 l.invariant.0 l.invariant.2 c.from-sum.ensures)

pub returns : goal.returns
unfolding node_of
returns c =
    let e : c.loop.counter ≡ c.args.i = omega arith in
    (rw (slots_take _ _ _ 3 c.args.node.now c.requires.3, ← e) c.loop.invariant.2, omega (arith, c.requires.0))
