-- `smelvock_marshal::head::settle_finger`: the finger's words, which alone can differ, are written where the number is 0.
use Rattle.smelvock_marshal.proofs.HeadLaws.{put_fingered, after_done, after_refused}
use Rattle.smelvock_marshal.proofs.head.settle_finger.Goals as goal

pub put_finger-requires : goal.put_finger-requires
put_finger-requires c =
    let pre = c.requires in
    pre.0

pub shape_of-head : goal.shape_of-head
shape_of-head c = c.put_finger.auto.head

pub returns-then-number-eq0 : goal.returns-then-number-eq0
returns-then-number-eq0 c =
    let args = c.args in
    let pre = c.requires in
    let if1 = c.if-number-eq0 in
    after_done args.number args.h args.head.now _ if1.true
    (put_fingered args.h args.head.now _ pre.0 pre.1 (pre.2 if1.true) c.put_finger.ensures)

pub returns-else-number-eq0 : goal.returns-else-number-eq0
returns-else-number-eq0 c = after_refused c.args.number c.args.h c.args.head.now c.if-number-eq0.false
