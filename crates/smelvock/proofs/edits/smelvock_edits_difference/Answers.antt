-- `smelvock::edits::smelvock_edits_difference`: the call's answer in words, and the area as the call leaves it.
use Rattle.smelvock.specs.Edits as flat
use Rattle.smelvock.proofs.FlatLaws.{difference_listed}
use Rattle.smelvock.proofs.edits.smelvock_edits_difference.Goals as goal

pub returns : goal.returns
unfolding flat.difference
returns c = difference_listed _ _ _ _ c.number_of.ensures c.difference-a.ensures
