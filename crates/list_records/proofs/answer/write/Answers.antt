-- `list_records::answer::write`: the sixteen bytes are written in order, over all that was there.
use Rattle.std.proofs.Common.{◌∙◌}
use Rattle.model.specs.Record.{encode}
use Rattle.list_records.proofs.Laws.{record_of}
use Rattle.list_records.proofs.answer.write.Goals as goal

pub returns : goal.returns
unfolding encode
returns c =
    let x = c.copy_from_slice.ensures.after ∙ c.to_le_bytes.ensures in
    let y = c.copy_from_slice-2.ensures.after ∙ c.to_le_bytes-2.ensures in
    let z = c.copy_from_slice-3.ensures.after ∙ c.to_le_bytes-3.ensures in
    record_of c.args.out.now c.fill.new.self _ _ _ _ _ _ _ _ c.requires (c.fill.ensures.after (λ y e. e)) x y z
