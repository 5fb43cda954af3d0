-- `smelvock_marshal::given::seat_from`: one number is nobody, any other a seat.
use Rattle.std.specs.Prelude.{Some, None}
use mathlib.Core.Path.{sym, ap}
use mathlib.Core.Bool.{Bool, cond}
use borrow.Author.Tests.{eq-eqb, ne_eqb}
use Rattle.smelvock_marshal.specs.Flat.{seat_from}
use Rattle.smelvock_marshal.proofs.given.seat_from.Goals as goal

pub returns-then-seat-eq-NONE : goal.returns-then-seat-eq-NONE
unfolding seat_from
returns-then-seat-eq-NONE c = sym (ap (λ (t : Bool). cond t None (Some c.args.seat)) (eq-eqb c.args.seat 4294967295 c.if-seat-eq-NONE.true))

pub returns : goal.returns
unfolding seat_from
returns c = sym (ap (λ (t : Bool). cond t None (Some c.args.seat)) (ne_eqb c.args.seat 4294967295 c.if-seat-eq-NONE.false))
