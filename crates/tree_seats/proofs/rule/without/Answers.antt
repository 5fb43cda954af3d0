-- `tree_seats::rule::without`: the limit is the one cause.
use Rattle.tree_seats.proofs.RuleLaws.{limit_reached, limit_free}
use Rattle.tree_seats.proofs.rule.without.Goals as goal

pub returns-then-limit-entries : goal.returns-then-limit-entries
returns-then-limit-entries c = limit_reached _ _ c.if-limit-entries.true

pub returns : goal.returns
returns c = limit_free _ _ c.if-limit-entries.false
