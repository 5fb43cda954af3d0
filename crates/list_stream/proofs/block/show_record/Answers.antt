-- `list_stream::block::show_record`: the record's call is stepped, and its answer's line is put behind the text.
use Rattle.list_stream.proofs.ShownLaws.{said_decode, one_shown}
use Rattle.list_stream.proofs.block.show_record.Goals as goal

pub returns : goal.returns
returns c =
    let step = c.step-done in
    let args = c.args in
    let decode = c.decode-call in
    let read = c.read in
    one_shown _ _ _ _ step.result.answer args.at c.line-end.result args.out.now c.line-end.new.out step.ensures
    (said_decode _ _ _ decode.ensures read.ensures) c.line-end.ensures
