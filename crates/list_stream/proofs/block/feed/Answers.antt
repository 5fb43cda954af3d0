-- `list_stream::block::feed`: the block's front is shown, and then the bytes behind its whole records are kept.
use mathlib.Core.Path.{refl, sym}
use lib.Seq.{length-take-le}
use Rattle.list_stream.proofs.FeedLaws.{front_room, fed}
use Rattle.list_stream.proofs.block.feed.Goals as goal

pub slice_bounds-show-end-2 : goal.slice_bounds-show-end-2
slice_bounds-show-end-2 c =
    let args = c.args in
    let pre = c.requires in
    sym (length-take-le args.have args.block.now pre.0)

pub show-played-requires : goal.show-played-requires
show-played-requires c =
    let args = c.args in
    let pre = c.requires in
    front_room args.block.now args.have _ pre.0 pre.1

pub returns : goal.returns
returns c =
    let args = c.args in
    let show = c.show-played in
    fed _ _ args.block.now _ _ args.have show.result.end args.out.now _ refl show.ensures c.keep.ensures
