-- `tree_seats::rule::with`: 18 by the rules, then 9 where no entry is free.
use Rattle.tree_seats.proofs.RuleLaws.{room_over, room_none, room_some}
use Rattle.tree_seats.proofs.rule.with.Goals as goal

pub returns-then-is_over : goal.returns-then-is_over
returns-then-is_over c = room_over c.args.limit c.args.entries _ _ c.is_over.ensures c.if-is_over.true

pub returns-then-limit-entries : goal.returns-then-limit-entries
returns-then-limit-entries c = room_none c.args.limit c.args.entries _ _ c.is_over.ensures c.if-is_over.false c.if-limit-entries.true

pub returns : goal.returns
returns c = room_some c.args.limit c.args.entries _ _ c.is_over.ensures c.if-is_over.false c.if-limit-entries.false
