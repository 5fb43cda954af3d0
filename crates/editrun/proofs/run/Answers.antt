-- `editrun::run`: the block holds an input, read after read, and so when its list is shown.
use Rattle.std.proofs.Common.{arith, ap, ◌∙◌}
use Rattle.std.specs.Prelude.{Ok}
use Rattle.editrun.proofs.HeldLaws.{held_small, held_none, turned_more, turned_end}
use Rattle.editrun.proofs.run.Goals as goal

pub loop-init : goal.loop-init
loop-init c = held_none c.args.block.now

pub turn-requires : goal.turn-requires
turn-requires c = omega (arith, held_small c.loop.invariant.input c.loop.block c.loop.kept c.loop.invariant.held)

pub show-requires : goal.show-requires
show-requires c = (turned_end _ _ _ _ c.turn.ensures (c.in-Ok-None.is ∙ ap Ok c.in-Ok-None.field-0-is) c.loop.invariant, omega arith, omega arith)

pub loop-preserved : goal.loop-preserved
loop-preserved c = turned_more _ _ _ _ c.turn.ensures _ (c.in-Ok-Some.is ∙ ap Ok c.in-Ok-Some.field-0-is) c.loop.invariant
