-- `smelvock_marshal::head::settle_grown`: all but fan and limit, which can't differ, is written where the number is 0.
use mathlib.Core.Path.{◌∙◌}
use Rattle.smelvock_marshal.proofs.HeadLaws.{put_grown, after_done, after_refused}
use Rattle.smelvock_marshal.proofs.head.settle_grown.Goals as goal

pub put_counts-requires : goal.put_counts-requires
put_counts-requires c =
    let pre = c.requires in
    pre.0

pub put_finger-requires : goal.put_finger-requires
put_finger-requires c =
    let put-counts = c.put_counts in
    let pre = c.requires in
    put-counts.auto.head ∙ pre.0

pub put_stamp-requires : goal.put_stamp-requires
put_stamp-requires c =
    let put-finger = c.put_finger in
    let put-counts = c.put_counts in
    let pre = c.requires in
    put-finger.auto.head ∙ put-counts.auto.head ∙ pre.0

pub shape_of-head : goal.shape_of-head
shape_of-head c =
    let put-finger = c.put_finger in
    let put-counts = c.put_counts in
    c.put_stamp.auto.head ∙ put-finger.auto.head ∙ put-counts.auto.head

pub returns-then-number-eq0 : goal.returns-then-number-eq0
returns-then-number-eq0 c =
    after_done c.args.number c.args.h c.args.head.now _ c.if-number-eq0.true
    (put_grown c.args.h c.args.head.now _ _ _ c.requires.0 (c.requires.1 c.if-number-eq0.true).0 (c.requires.1 c.if-number-eq0.true).1 c.put_counts.ensures c.put_finger.ensures c.put_stamp.ensures)

pub returns-else-number-eq0 : goal.returns-else-number-eq0
returns-else-number-eq0 c = after_refused c.args.number c.args.h c.args.head.now c.if-number-eq0.false
