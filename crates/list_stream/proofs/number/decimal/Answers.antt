-- `list_stream::number::decimal`: a u32's numeral, by its definition.
use Rattle.model.specs.Numeral.{decimal}
use Rattle.list_stream.proofs.number.decimal.Goals as goal

pub returns : goal.returns
unfolding decimal
returns c = c.digits.ensures
