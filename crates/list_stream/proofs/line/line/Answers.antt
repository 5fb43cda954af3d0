-- `list_stream::line::line`: the four fields are put one behind the other.
use native.Mathlib.Omega.{arith}
use Rattle.list_stream.proofs.TextLaws.{field_short, line_of}
use Rattle.list_stream.proofs.line.line.Goals as goal

pub field-second-requires : goal.field-second-requires
field-second-requires c =
    let args = c.args in
    let field = c.field-first in
    omega (arith, field_short args.out.now field.new.out args.at field.result args.answer.number 32 field.ensures, field.auto.out)

pub field-third-requires : goal.field-third-requires
field-third-requires c =
    let args = c.args in
    let field = c.field-first in
    let field2 = c.field-second in
    omega (
      arith,
      field_short args.out.now field.new.out args.at field.result args.answer.number 32 field.ensures,
      field.auto.out,
      field_short field.new.out
          field2.new.out field.result field2.result args.answer.x 32 field2.ensures,
      field2.auto.out,
    )

pub field-requires : goal.field-requires
field-requires c =
    let args = c.args in
    let field = c.field-first in
    let field2 = c.field-second in
    let field3 = c.field-third in
    omega (
      arith,
      field_short args.out.now field.new.out args.at field.result args.answer.number 32 field.ensures,
      field.auto.out,
      field_short field.new.out
          field2.new.out field.result field2.result args.answer.x 32 field2.ensures,
      field2.auto.out,
      field_short field2.new.out field3.new.out field2.result
          field3.result args.answer.y 32 field3.ensures,
      field3.auto.out,
    )

pub returns : goal.returns
returns c =
    let args = c.args in
    let field = c.field-first in
    let field2 = c.field-second in
    let field3 = c.field-third in
    line_of args.answer args.out.now field.new.out field2.new.out field3.new.out c.field.new.out args.at field.result field2.result
    field3.result c.field.result field.ensures field2.ensures field3.ensures c.field.ensures
