-- `replay::turn`: one record's line is at most as long as its room.
use mathlib.Core.Path.{sym}
use native.Mathlib.Omega.{arith}
use lib.Seq.{length-take-le}
use Rattle.list_stream.proofs.FeedLaws.{shown_short}
use Rattle.replay.proofs.turn.Goals as goal

pub slice_bounds-out-end : goal.slice_bounds-out-end
slice_bounds-out-end c =
    let show = c.show-played in
    omega (arith, shown_short _ _ c.read_exact.new.buf _ _ show.result.end show.ensures, c.read_exact.auto.buf, show.auto.out)

pub slice_bounds-write_all-end : goal.slice_bounds-write_all-end
slice_bounds-write_all-end c =
    let show = c.show-played in
    sym (length-take-le show.result.end show.new.out
    (omega (arith, shown_short _ _ c.read_exact.new.buf _ _ show.result.end show.ensures, c.read_exact.auto.buf, show.auto.out)))
