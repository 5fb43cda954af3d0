-- `list_row::run::one`: the fields say a call, the call steps the tree, and its answer is written with the kind given.
use Rattle.list_row.proofs.RunLaws.{one_record}
use Rattle.list_row.proofs.run.one.Goals as goal

pub returns : goal.returns
returns c =
    let read = c.read-fields in
    let decode = c.decode-call in
    let step = c.step-done in
    one_record _ _ read.result read.ensures decode.result decode.ensures _ _ step.ensures _ c.write.ensures
