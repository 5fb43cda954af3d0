-- `smelvock_marshal::head::head_from`: word by word; the stamp of two, the finger by its flag.
use mathlib.Core.Path.{ap₂}
use lib.ListN.{get_or}
use Rattle.model.specs.State.{head_of}
use Rattle.smelvock_marshal.specs.Flat.{head_from}
use Rattle.smelvock_marshal.proofs.head.head_from.Goals as goal

pub returns : goal.returns
unfolding head_from
returns c =
    let w = c.args.head.now in
    (ap₂ (head_of (get_or w 0 0) (get_or w 1 0) (get_or w 2 0) (get_or w 3 0) (get_or w 4 0) (get_or w 5 0) (get_or w 6 0)) c.stamp_from-stamp.ensures.0 c.held_from-finger.ensures, c.stamp_from-stamp.ensures.1)
