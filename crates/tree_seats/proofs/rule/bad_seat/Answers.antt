-- `tree_seats::rule::bad_seat`: the flag is read, and where a seat is named its number is tested.
use Rattle.std.proofs.Common.{◌∙◌, eq-eqb}
use Rattle.tree_seats.proofs.RuleLaws.{bad_nobody, bad_unseated, bad_number}
use Rattle.tree_seats.proofs.rule.bad_seat.Goals as goal

pub returns-in-None : goal.returns-in-None
returns-in-None c = bad_nobody c.args.seats.now c.args.seat c.in-None.is

pub returns-then-seats-eq0 : goal.returns-then-seats-eq0
returns-then-seats-eq0 c = eq-eqb _ 0 c.if-seats-eq0.true ∙ bad_unseated c.args.seats.now c.args.seat _ c.in-Some.is c.if-seats-eq0.true

pub returns-else-seats-eq0 : goal.returns-else-seats-eq0
returns-else-seats-eq0 c = bad_number c.args.seats.now c.args.seat _ c.in-Some.is c.if-seats-eq0.false
