-- `calls_audit::entry::is_new`: the test of the slots from here on is the test of all.
use Prim.Native.Nat.{◌-◌}
use mathlib.Core.Path.{◌≡◌}
use Rattle.model.specs.State.{node_at}
use Rattle.model.specs.Audit.{every, is_other}
use Rattle.calls_audit.proofs.entry.is_new.Given as goal

abbrev pub invariant-loop-j : goal.invariant-loop-j
invariant-loop-j l = every (is_other (node_at l.g l.k.0 l.leaves) l.id.0) l.j (l.i - l.j) ≡ every (is_other (node_at l.g l.k.0 l.leaves) l.id.0) 0 l.i
