-- `tree_open::open::reciprocal`: each arm's number is 2^21 over the half that leaves its remainder, and one more; the last arm is that by a law.
use Prim.Native.Nat.{◌+◌, ◌/◌}
use borrow.Author.Rules.{rules}
use Rattle.tree_open.proofs.Quotient.{reciprocals, small}
use Rattle.tree_open.proofs.open.reciprocal.Goals as goal

pub overflow_add-result : goal.overflow_add-result
overflow_add-result c = record { fits = small (2097152 / c.args.half + 1) (reciprocals c.args.half (search rules)).2 }

pub returns-in_default : goal.returns-in_default
returns-in_default c = reciprocals c.args.half (search rules)
