-- `tree_seats::rule::within`: the sum of the shares is held against the limit.
use Rattle.std.proofs.Common.{arith}
use Rattle.tree_seats.proofs.RuleLaws.{shares_high, shares_low}
use Rattle.tree_seats.proofs.rule.within.Goals as goal

pub returns-then-wide-sum : goal.returns-then-wide-sum
returns-then-wide-sum c = shares_high c.args.limit c.args.shares.now c.sum.result c.sum.ensures.0 (omega (arith, c.wide.ensures.0, c.if-wide-sum.true))

pub returns : goal.returns
returns c = shares_low c.args.limit c.args.shares.now c.sum.result c.sum.ensures.0 (omega (arith, c.wide.ensures.0, c.if-wide-sum.false))
