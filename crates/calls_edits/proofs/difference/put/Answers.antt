-- `calls_edits::difference::put`: a listed number goes behind the others, any other nowhere.
use Rattle.calls_edits.proofs.ListLaws.{not_placed, is_placed}
use Rattle.calls_edits.proofs.difference.put.Goals as goal

pub returns-then-not-yes : goal.returns-then-not-yes
returns-then-not-yes c = not_placed _ _ _ _ (c.if-not-yes.true)

pub returns : goal.returns
returns c = is_placed _ _ _ _ (c.if-not-yes.false)
