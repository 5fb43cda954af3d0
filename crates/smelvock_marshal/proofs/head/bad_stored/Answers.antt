-- `smelvock_marshal::head::bad_stored`: the length is tested, then the seats' flag.
use mathlib.Core.Path.{ap, ◌∙◌}
use mathlib.Core.Bool.{not}
use lib.ListN.{length}
use borrow.Author.Tests.{ne_eqb}
use Rattle.smelvock_marshal.specs.Flat.{bad_stored}
use Rattle.smelvock_marshal.proofs.HeadLaws.{bad_length, flag_test}
use Rattle.smelvock_marshal.proofs.head.bad_stored.Goals as goal

pub returns-then-head-ne36 : goal.returns-then-head-ne36
unfolding bad_stored
returns-then-head-ne36 c = let w = c.args.head.now in ap not (ne_eqb (length w) 36 c.if-head-ne36.true) ∙ bad_length 19 w c.if-head-ne36.true

pub returns-else-head-ne36 : goal.returns-else-head-ne36
unfolding bad_stored
returns-else-head-ne36 c = flag_test 19 c.args.head.now c.if-head-ne36.false
