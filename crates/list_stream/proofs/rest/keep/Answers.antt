-- `list_stream::rest::keep`: each turn moves one byte more, from behind all that were written.
use mathlib.Core.Path.{refl, ◌∙◌}
use lib.ListN.{length-set}
use Rattle.list_stream.proofs.RestLaws.{keep_more, keep_none}
use Rattle.list_stream.proofs.rest.keep.Goals as goal

pub loop-i-init : goal.loop-i-init
loop-i-init c = (refl, keep_none c.args.block.now c.args.from)

pub loop-i-preserved : goal.loop-i-preserved
loop-i-preserved c =
    let l = c.loop-i in (
      length-set l.block _ _ ∙ l.invariant.0,
      keep_more c.args.block.now l.block c.args.from l.i c.args.n c.requires c.loop-i-test.true l.invariant.1,
    )
