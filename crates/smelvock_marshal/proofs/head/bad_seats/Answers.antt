-- `smelvock_marshal::head::bad_seats`: the head is tested, then the seats' first word.
use mathlib.Core.Path.{sym, ◌∙◌}
use native.Mathlib.Omega.{arith}
use Rattle.smelvock_marshal.proofs.HeadLaws.{good_head, seats_bad, seats_test}
use Rattle.smelvock_marshal.proofs.head.bad_seats.Goals as goal

pub returns-then-bad_head : goal.returns-then-bad_head
returns-then-bad_head c = c.if-bad_head.true ∙ seats_bad c.args.head.now _ c.bad_head.ensures c.if-bad_head.true

pub bounds-head-19 : goal.bounds-head-19
bounds-head-19 c = omega (arith, good_head c.args.head.now (sym c.bad_head.ensures ∙ c.if-bad_head.false))

pub returns-else-bad_head : goal.returns-else-bad_head
returns-else-bad_head c = seats_test c.args.head.now _ c.bad_head.ensures c.if-bad_head.false
