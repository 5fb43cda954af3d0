-- `smelvock_marshal::head::settle`: the words are written where the number is 0.
use Rattle.smelvock_marshal.proofs.HeadLaws.{after_done, after_refused}
use Rattle.smelvock_marshal.proofs.head.settle.Goals as goal

pub returns-then-number-eq0 : goal.returns-then-number-eq0
returns-then-number-eq0 c =
    let args = c.args in
    let if1 = c.if-number-eq0 in
    after_done args.number args.h args.head.now _ if1.true c.put_head.ensures

pub returns-else-number-eq0 : goal.returns-else-number-eq0
returns-else-number-eq0 c = after_refused c.args.number c.args.h c.args.head.now c.if-number-eq0.false
