-- `list_stream::number::digits`: each call writes one digit behind those of a tenth of the number; at most `most` calls remain.
use native.Mathlib.Omega.{arith}
use Prim.Native.Nat.{◌/◌}
use Rattle.list_stream.proofs.TextLaws.{none_left, last_digit, one_more, last_in}
use Rattle.list_stream.proofs.number.+digits.Goals as goal

pub returns-then-most-eq0 : goal.returns-then-most-eq0
returns-then-most-eq0 t c = none_left c.args.out.now c.args.at c.args.n c.args.most c.if-most-eq0.true

pub returns-then-n-lt10 : goal.returns-then-n-lt10
returns-then-n-lt10 t c = last_digit c.args.out.now c.args.at c.args.n c.args.most c.if-most-eq0.false c.if-n-lt10.true

pub bounds-out-next : goal.bounds-out-next
bounds-out-next t c =
    omega (
      arith,
      last_in c.args.out.now c.digits-next.new.out c.args.at c.digits-next.result (c.args.n / 10) c.args.most c.if-most-eq0.false c.requires
          c.digits-next.ensures,
      c.digits-next.auto.out,
    )

pub overflow_add-result-2 : goal.overflow_add-result-2
overflow_add-result-2 t c = record {
  fits = omega (
    arith,
    last_in c.args.out.now c.digits-next.new.out c.args.at c.digits-next.result (c.args.n / 10) c.args.most c.if-most-eq0.false c.requires
        c.digits-next.ensures,
  );
}

pub returns : goal.returns
returns t c = one_more c.args.out.now c.digits-next.new.out c.args.at c.digits-next.result c.args.n c.args.most c.if-most-eq0.false c.if-n-lt10.false c.digits-next.ensures
