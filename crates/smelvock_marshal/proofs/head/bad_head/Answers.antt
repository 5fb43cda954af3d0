-- `smelvock_marshal::head::bad_head`: the length is tested, then the flag.
use mathlib.Core.Path.{ap, ◌∙◌}
use mathlib.Core.Bool.{not}
use lib.ListN.{length}
use borrow.Author.Tests.{ne_eqb}
use Rattle.smelvock_marshal.specs.Flat.{bad_head}
use Rattle.smelvock_marshal.proofs.HeadLaws.{bad_length, flag_test}
use Rattle.smelvock_marshal.proofs.head.bad_head.Goals as goal

pub returns-then-head-ne36 : goal.returns-then-head-ne36
unfolding bad_head
returns-then-head-ne36 c = let w = c.args.head.now in ap not (ne_eqb (length w) 36 c.if-head-ne36.true) ∙ bad_length 7 w c.if-head-ne36.true

pub returns-else-head-ne36 : goal.returns-else-head-ne36
unfolding bad_head
returns-else-head-ne36 c = flag_test 7 c.args.head.now c.if-head-ne36.false
