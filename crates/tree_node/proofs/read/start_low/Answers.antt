-- `tree_node::read::start_low`: the sum is the total of the slots passed modulo 2 ^ 32, and each turn adds the next slot's length.
use Rattle.std.proofs.Common.{◌≡◌, refl, arith}
use Rattle.model.specs.Node.{node_of}
use Rattle.model_laws.specs.Slots.{slots_take}
use Rattle.model_laws.specs.Read.{low_none, low_more}
use Rattle.tree_node.proofs.read.start_low.Goals as goal

pub loop-init : goal.loop-init
loop-init c = (omega arith, low_none _ _ _ _)

pub loop-preserved : goal.loop-preserved
loop-preserved c = (omega arith, low_more _ _ _ _ _ _ _ _ c.requires.2 c.loop.invariant.0 c.loop.invariant.1 refl)

pub returns : goal.returns
unfolding node_of
returns c =
    let e : c.loop.counter ≡ c.args.i = omega arith in
    rw (slots_take _ _ _ 3 c.args.node.now c.requires.3, ← e) c.loop.invariant.1
