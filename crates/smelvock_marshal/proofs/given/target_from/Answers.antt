-- `smelvock_marshal::given::target_from`: the end unless the flag is 0.
use Rattle.std.specs.Prelude.{Some, None}
use mathlib.Core.Path.{sym, ap}
use mathlib.Core.Bool.{Bool, cond}
use borrow.Author.Tests.{eq-eqb, ne_eqb}
use Rattle.smelvock_marshal.specs.Flat.{target_from}
use Rattle.smelvock_marshal.proofs.given.target_from.Goals as goal

pub returns-then-end-eq0 : goal.returns-then-end-eq0
unfolding target_from
returns-then-end-eq0 c = sym (ap (λ (t : Bool). cond t (Some c.args.before) None) (eq-eqb c.args.end 0 c.if-end-eq0.true))

pub returns : goal.returns
unfolding target_from
returns c = sym (ap (λ (t : Bool). cond t (Some c.args.before) None) (ne_eqb c.args.end 0 c.if-end-eq0.false))
