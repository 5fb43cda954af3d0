-- `smelvock_marshal::head::is_held`: the first of the finger's words says it.
use mathlib.Core.Path.{ap}
use Prim.Native.Nat.{ℕ}
use lib.Dec.{eqb}
use Rattle.smelvock_marshal.proofs.head.is_held.Goals as goal

pub returns : goal.returns
returns c = ap (λ (n : ℕ). eqb n 1) c.present_of.ensures
