-- `calls_read::read::is_empty`: the one test gives 1, and else the answer is the definition's.
use Rattle.std.specs.Prelude.{Err}
use Rattle.std.proofs.Common.{sym, ◌∙◌}
use Rattle.model.specs.Calls.{is_empty}
use Rattle.tree_open.proofs.Causes.{one_refused, one_good}
use Rattle.calls_read.proofs.read.is_empty.Goals as goal

pub returns-then-bad_size : goal.returns-then-bad_size
unfolding is_empty
returns-then-bad_size c = one_refused Err _ 0 _ (sym c.bad_size.ensures ∙ c.if-bad_size.true)

pub returns : goal.returns
unfolding is_empty
returns c = one_good Err _ 0 _ (sym c.bad_size.ensures ∙ c.if-bad_size.false)
