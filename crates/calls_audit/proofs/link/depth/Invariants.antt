-- `calls_audit::link::depth`: the nodes passed and the depth from here on are the depth asked for; each turn goes up one level.
use Prim.Native.Nat.{◌+◌, ◌-◌}
use mathlib.Core.Path.{◌≡◌}
use Rattle.calls_audit.specs.Links.{depth_by}
use Rattle.calls_audit.proofs.link.depth.Given as goal

abbrev pub invariant-loop-passed : goal.invariant-loop-passed
invariant-loop-passed l = depth_by l.g l.used l.inners l.levels l.initial.node ≡ l.passed + depth_by l.g l.used l.inners (l.levels - l.passed) l.node
