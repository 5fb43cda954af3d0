-- `tree_words::run::shift`: down to word w, the words from w up to q have moved.
use Prim.Native.Nat.{◌+◌, ◌-◌, ◌≤◌}
use mathlib.Core.Path.{◌≡◌}
use lib.ListN.{length}
use Rattle.model.specs.Lists.{part, put_at}
use Rattle.tree_words.proofs.run.shift.Given as goal

abbrev pub invariant-loop-w : goal.invariant-loop-w
invariant-loop-w l = (l.p ≤ l.w) × (length l.ws ≡ length l.initial.ws) × (l.ws ≡ put_at (l.w + l.s) (part l.w (l.q - l.w) l.initial.ws) l.initial.ws)
