-- `tree_open::lengths::past_in`: both sides of the test fit.
use mathlib.Core.Path.{refl}
use Rattle.tree_open.proofs.lengths.past_in.Goals as goal

pub returns : goal.returns
returns c = refl
