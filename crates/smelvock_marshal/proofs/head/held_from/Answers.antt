-- `smelvock_marshal::head::held_from`: a finger is there unless its flag is 0.
use Rattle.std.specs.Prelude.{Some, None}
use mathlib.Core.Path.{sym, ap}
use mathlib.Core.Bool.{Bool, cond}
use lib.ListN.{get_or}
use borrow.Author.Tests.{eq-eqb, ne_eqb}
use Rattle.smelvock_marshal.specs.Flat.{held_from, finger_from}
use Rattle.smelvock_marshal.proofs.head.held_from.Goals as goal

pub returns-then-head-eq0 : goal.returns-then-head-eq0
unfolding held_from
returns-then-head-eq0 c = sym (ap (λ (t : Bool). cond t None (Some (finger_from c.args.head.now))) (eq-eqb (get_or c.args.head.now 7 0) 0 c.if-head-eq0.true))

pub returns : goal.returns
unfolding held_from
returns c =
    let args = c.args in
    let if1 = c.if-head-eq0 in
    sym (ap (λ (t : Bool). cond t None (Some (finger_from args.head.now))) (ne_eqb (get_or args.head.now 7 0) 0 if1.false))
