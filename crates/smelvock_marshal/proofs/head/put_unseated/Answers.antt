-- `smelvock_marshal::head::put_unseated`: the head's words, and zeros over what stood behind them.
use mathlib.Core.Path.{◌∙◌}
use Rattle.smelvock_marshal.proofs.HeadLaws.{unseated}
use Rattle.smelvock_marshal.proofs.head.put_unseated.Goals as goal

pub clear_seats-requires : goal.clear_seats-requires
clear_seats-requires c =
    let put-head = c.put_head in
    let pre = c.requires in
    put-head.auto.head ∙ pre

pub returns : goal.returns
returns c =
    let a = c.args in
    unseated a.h a.head.now _ _ c.put_head.ensures c.clear_seats.ensures
