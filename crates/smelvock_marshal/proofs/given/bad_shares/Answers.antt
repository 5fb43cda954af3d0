-- `smelvock_marshal::given::bad_shares`: none are good, and else eight.
use mathlib.Core.Path.{sym, ap, ◌∙◌}
use mathlib.Core.Bool.{Bool, not, ◌&&◌}
use lib.Dec.{eqb}
use lib.ListN.{length}
use Rattle.smelvock_marshal.specs.Flat.{bad_shares}
use Rattle.smelvock_marshal.proofs.given.bad_shares.Goals as goal

pub returns-then-not-is_empty : goal.returns-then-not-is_empty
unfolding bad_shares
returns-then-not-is_empty c =
    let w = c.args.shares.now in
    sym (ap (λ (t : Bool). not t && not (eqb (length w) 8)) (sym c.is_empty.ensures ∙ c.if-not-is_empty.true))

pub returns-else-not-is_empty : goal.returns-else-not-is_empty
unfolding bad_shares
returns-else-not-is_empty c =
    let w = c.args.shares.now in
    ap not c.if-not-is_empty.false ∙ sym (ap (λ (t : Bool). not t && not (eqb (length w) 8)) (sym c.is_empty.ensures ∙ c.if-not-is_empty.false))
