-- `list_stream::block::show`: what the records left show from here on is what the whole block shows from its start.
use Rattle.std.proofs.Common.{◌∙◌, ap, length, arith, length-append}
use Rattle.list_stream.proofs.ShownLaws.{one_short, turn, finish}
use Rattle.list_stream.proofs.block.show.Goals as goal

pub loop-record-preserved : goal.loop-record-preserved
loop-record-preserved c =
    let steps = c.in-Some.ensures.steps in
    let inv = c.loop-record.invariant in
    let less = simp length-append at (ap length steps.1.0) in
    record {
      size = steps.0 ∙ inv.size;
      room = omega (arith, inv.room, less, steps.1.1, inv.size, c.show_record-played.auto.out, one_short _ _ _ c.loop-record.end c.show_record-played.result.end c.loop-record.out _ c.show_record-played.ensures);
      shown = turn _ _ _ _ _ _ c.loop-record.out _ c.loop-record.end _ inv.shown steps.1.0 (steps.1.1 ∙ inv.size) c.show_record-played.ensures;
    }

pub returns : goal.returns
returns c = finish _ _ _ c.loop-record.out c.loop-record.end c.loop-record.invariant.shown (omega (arith, c.in-None.ensures.steps.1.0, c.loop-record.invariant.size))
