-- `list_stream::rest::keep`: each turn moves one byte more, from behind all that were written.
use mathlib.Core.Path.{◌≡◌}
use lib.ListN.{length}
use Rattle.model.specs.Lists.{part}
use Rattle.list_stream.specs.Text.{put}
use Rattle.list_stream.proofs.rest.keep.Given as goal

abbrev pub invariant-loop-i : goal.invariant-loop-i
invariant-loop-i l = (length l.block ≡ length l.initial.block) × ((l.i, l.block) ≡ put l.initial.block 0 (part l.from l.i l.initial.block))
