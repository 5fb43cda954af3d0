-- `list_records::fields::read`: each field is read at its own bytes.
use Rattle.std.proofs.Common.{◌≡◌, ◌+◌, ◌*◌, get_or, arith}
use Rattle.model.specs.Record.{fields_of}
use Rattle.list_records.proofs.fields.read.Goals as goal

pub returns : goal.returns
unfolding fields_of
returns c =
    let lines : c.from_le_bytes.result ≡ get_or c.args.bytes.now 2 0 + 256 * get_or c.args.bytes.now 3 0 = omega (arith, c.from_le_bytes.ensures) in
    rw (c.from.ensures, c.from-2.ensures, c.from-3.ensures, lines, c.word_at.ensures, c.word_at-2.ensures, c.word_at-3.ensures)
