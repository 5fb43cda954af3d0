-- `calls_make::seated::put_none`: the words of a tree without seats.
use Rattle.std.proofs.Common.{refl, ap, ◌∙◌, arith}
use Rattle.tree_seats.specs.Words.{seats_from}
use Rattle.tree_seats.proofs.WriteLaws.{seats_begun}
use Rattle.calls_make.proofs.SeatedLaws.{flag_at}
use Rattle.calls_make.proofs.seated.put_none.Goals as goal

pub returns : goal.returns
returns c =
    let words = c.begin.ensures in
    (ap seats_from words ∙ seats_begun 0 _ refl, flag_at _ _ 0 words (omega arith))
