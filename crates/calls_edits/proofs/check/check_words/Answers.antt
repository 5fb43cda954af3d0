-- `calls_edits::check::check_words`: the rest is tested before the parents.
use Rattle.std.proofs.Common.{arith}
use Rattle.std.proofs.lemmas.Grind.{common_steps}
use Rattle.model.specs.Lists.{refusal}
use Rattle.calls_edits.specs.Edits.{causes_of}
use Rattle.calls_edits.proofs.check.check_words.Goals as goal

pub returns-then-filled : goal.returns-then-filled
unfolding causes_of refusal
returns-then-filled c = grind (arith, common_steps)

pub returns-then-late : goal.returns-then-late
unfolding causes_of refusal
returns-then-late c = grind (arith, common_steps)

pub returns : goal.returns
unfolding causes_of refusal
returns c = grind (arith, common_steps)
