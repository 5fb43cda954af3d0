-- `calls_make::seated::put_made`: the seats asked for where the tree was made, else none.
use Rattle.std.proofs.Common.{ap}
use Rattle.model.specs.Numbered.{numbered}
use Rattle.calls_make.proofs.SeatedLaws.{made_done, made_refused}
use Rattle.calls_make.proofs.seated.put_made.Goals as goal

pub returns-in-Ok : goal.returns-in-Ok
returns-in-Ok c = (made_done _ _ _ (ap numbered c.in-Ok.is) c.put_seats.ensures.0, c.put_seats.ensures.1)

pub returns-in-Err : goal.returns-in-Err
returns-in-Err c = (made_refused _ _ _ _ (ap numbered c.in-Err.is) c.put_none.ensures.0, c.put_none.ensures.1)
