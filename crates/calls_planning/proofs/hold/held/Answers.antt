-- `calls_planning::hold::held`: the lookup on a tree of any kind, with two lengths an entry, and of its answer the id alone.
use Rattle.calls_planning.proofs.Laws.{held_is}
use Rattle.model.specs.State.{state}
use Rattle.model.specs.Numbered.{numbered}
use Rattle.calls_planning.proofs.hold.held.Goals as goal

pub returns : goal.returns
returns c =
    let found = c.locate-r in
    held_is (state c.args.head c.args.leaves.now c.args.inners.now c.args.homes.now)
    (state found.result.head c.args.leaves.now c.args.inners.now c.args.homes.now) c.args.view c.args.index (numbered found.result.answer) found.ensures _ c.named.ensures
