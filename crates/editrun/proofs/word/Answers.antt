-- `editrun::word`: a u32 holds what is below 2 ^ 32.
use Rattle.std.proofs.Common.{arith}
use Rattle.editrun.proofs.AskedLaws.{is_word, no_word}
use Rattle.editrun.proofs.word.Goals as goal

pub returns-in-Ok : goal.returns-in-Ok
returns-in-Ok c = rw c.in-Ok.ensures.1 (is_word _ c.in-Ok.ensures.0)

pub returns-in-Err : goal.returns-in-Err
returns-in-Err c = let big = c.in-Err.ensures in no_word _ (omega arith)
