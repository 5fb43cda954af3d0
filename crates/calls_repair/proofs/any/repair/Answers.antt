-- Where fan, limit and areas are good the tree is tested and mended, else their cause is answered.
use Rattle.std.proofs.Common.{ap}
use Rattle.model.specs.Numbered.{numbered}
use Rattle.model.specs.State.{state}
use Rattle.calls_repair.proofs.AnswerLaws.{call_stops, opens, call_goes}
use Rattle.calls_repair.proofs.any.repair.Goals as goal

pub with_queue-requires : goal.with_queue-requires
with_queue-requires c =
    let args = c.args in
    let pre = c.requires in
    let open-areas = c.open_areas in
    opens args.views args.effect args.ordered (pre.0, pre.1)
    (state args.head args.leaves.now args.inners.now args.homes.now)
    (open-areas.ensures args.effect) (ap numbered c.in-Ok.is)

pub returns-in-Err : goal.returns-in-Err
returns-in-Err c =
    let args = c.args in
    let pre = c.requires in
    let open-areas = c.open_areas in
    call_stops args.views args.effect args.ordered (pre.0, pre.1)
    (state args.head args.leaves.now args.inners.now args.homes.now)
    (open-areas.ensures args.effect) args.fair (ap numbered c.in-Err.is)

pub returns-in-Ok : goal.returns-in-Ok
returns-in-Ok c =
    let args = c.args in
    let pre = c.requires in
    let open-areas = c.open_areas in
    let with-queue = c.with_queue in
    call_goes args.views args.effect args.ordered (pre.0, pre.1)
    (state args.head args.leaves.now args.inners.now args.homes.now)
    (open-areas.ensures args.effect) args.fair (ap numbered c.in-Ok.is) with-queue.ensures
