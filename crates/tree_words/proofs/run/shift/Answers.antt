-- `tree_words::run::shift`: down to word w, the words from w up to q have moved.
use mathlib.Core.Path.{◌≡◌, refl}
use Prim.Native.Nat.{◌-◌}
use native.Mathlib.Omega.{arith}
use lib.ListN.{length-set}
use Rattle.model_laws.specs.Words.{part_none, put_none}
use Rattle.tree_words.proofs.Turns.{shift_turn}
use Rattle.tree_words.proofs.run.shift.Goals as goal

pub loop-w-init : goal.loop-w-init
loop-w-init c =
    let e : c.args.q - c.args.q ≡ 0 = omega arith in
    (omega arith, refl, rw (e, part_none, put_none))

pub loop-w-preserved : goal.loop-w-preserved
loop-w-preserved c = (omega arith, simp length-set c.loop-w.invariant.1, rw c.loop-w.invariant.2 (shift_turn _ _ _ _ (omega arith) (omega arith) (omega arith)))

pub returns : goal.returns
returns c =
    let e : c.loop-w.w ≡ c.args.p = omega arith in
    rw e at c.loop-w.invariant.2
