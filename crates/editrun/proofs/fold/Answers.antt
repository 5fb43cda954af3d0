-- `editrun::fold`: fewer than 8,208 bytes are all held.
use Rattle.editrun.proofs.HeldLaws.{folded_less, folded_more}
use Rattle.editrun.proofs.fold.Goals as goal

pub returns-then-have-lt8208 : goal.returns-then-have-lt8208
returns-then-have-lt8208 c = folded_less _ c.if-have-lt8208.true

pub returns : goal.returns
returns c = folded_more _ c.if-have-lt8208.false
