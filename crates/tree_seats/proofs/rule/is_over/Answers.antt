-- `tree_seats::rule::is_over`: a seat at or over its share has nothing unused, so that all unused shares are the others'.
use Rattle.std.proofs.Common.{◌∙◌}
use borrow.Author.Tests.{lt-leb}
use Rattle.tree_seats.proofs.RuleLaws.{seat_below, seat_at}
use Rattle.tree_seats.proofs.rule.is_over.Goals as goal

pub returns-then-seats-i : goal.returns-then-seats-i
returns-then-seats-i c = seat_at c.args.limit c.args.entries c.args.seats.now c.args.i c.requires.1 c.if-seats-i.true _ _ c.left.ensures.0 c.unused.ensures

pub returns-else-seats-i : goal.returns-else-seats-i
returns-else-seats-i c = lt-leb _ _ c.if-seats-i.false ∙ seat_below c.args.limit c.args.entries c.args.seats.now c.args.i c.requires.1 c.if-seats-i.false
