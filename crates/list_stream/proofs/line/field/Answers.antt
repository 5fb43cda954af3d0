-- `list_stream::line::field`: one byte is put behind the digits.
use native.Mathlib.Omega.{arith}
use Rattle.model.specs.Numeral.{decimal}
use Rattle.model_laws.specs.Sheet.{decimal_short}
use Rattle.list_stream.proofs.TextLaws.{behind, field_of}
use Rattle.list_stream.proofs.line.field.Goals as goal

pub bounds-out-next : goal.bounds-out-next
bounds-out-next c =
    let args = c.args in
    let pre = c.requires in
    omega (
      arith,
      behind args.out.now c.decimal-next.new.out args.at c.decimal-next.result (decimal args.n)
          c.decimal-next.ensures,
      decimal_short args.n,
      c.decimal-next.auto.out,
      pre,
    )

pub overflow_add-result : goal.overflow_add-result
overflow_add-result c =
    let args = c.args in
    let pre = c.requires in
    record {
      fits = omega (
        arith,
        behind args.out.now c.decimal-next.new.out args.at c.decimal-next.result (decimal args.n)
            c.decimal-next.ensures,
        decimal_short args.n,
        pre,
      );
    }

pub returns : goal.returns
returns c =
    let args = c.args in
    field_of args.out.now c.decimal-next.new.out args.at c.decimal-next.result args.n args.behind c.decimal-next.ensures
