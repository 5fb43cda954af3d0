-- `list_stream::rest::tail`: the line of number 11 where there are stray bytes.
use Rattle.list_stream.proofs.RestLaws.{no_tail, a_tail}
use Rattle.list_stream.proofs.rest.tail.Goals as goal

pub returns-then-stray-eq0 : goal.returns-then-stray-eq0
returns-then-stray-eq0 c = no_tail c.args.stray c.args.out.now c.if-stray-eq0.true

pub returns : goal.returns
returns c =
    let args = c.args in
    let if1 = c.if-stray-eq0 in
    a_tail args.stray c.line.result args.out.now c.line.new.out if1.false c.line.ensures
