-- `smelvock_marshal::given::view_from`: prepare is 0, effect is 1.
use mathlib.Core.Path.{◌≡◌, refl, sym, ap₂}
use mathlib.Core.Bool.{Bool, true, false, cond}
use Prim.Native.Nat.{ℕ}
use lib.Dec.{eqb}
use borrow.Author.Tests.{eq-eqb, ne_eqb}
use Rattle.model.specs.declared.length.View.TheVariants.{Prepare, Effect, Lines}
use Rattle.smelvock_marshal.specs.Flat.{view_from}
use Rattle.smelvock_marshal.proofs.given.view_from.Goals as goal

tested : (n : ℕ) (a b : Bool) → eqb n 0 ≡ a → eqb n 1 ≡ b → cond a Prepare (cond b Effect Lines) ≡ view_from n
unfolding view_from
tested n a b p q = sym (ap₂ (λ (s t : Bool). cond s Prepare (cond t Effect Lines)) p q)

pub returns-then-view-eq0 : goal.returns-then-view-eq0
returns-then-view-eq0 c =
    let args = c.args in
    tested args.view true (eqb args.view 1) (eq-eqb args.view 0 c.if-view-eq0.true) refl

pub returns-then-view-eq1 : goal.returns-then-view-eq1
returns-then-view-eq1 c =
    let args = c.args in
    tested args.view false true (ne_eqb args.view 0 c.if-view-eq0.false) (eq-eqb args.view 1 c.if-view-eq1.true)

pub returns : goal.returns
returns c =
    let args = c.args in
    tested args.view false false (ne_eqb args.view 0 c.if-view-eq0.false) (ne_eqb args.view 1 c.if-view-eq1.false)
