-- `calls_audit::link::depth`: the nodes passed and the depth from here on are the depth asked for; each turn goes up one level.
use Prim.Native.Nat.{◌+◌, ◌-◌}
use mathlib.Core.Path.{◌≡◌}
use native.Mathlib.Omega.{arith}
use Rattle.calls_audit.proofs.LinkLaws.{depth_root, depth_end, depth_astray, depth_on}
use Rattle.calls_audit.proofs.link.depth.Goals as goal

pub returns-then-node : goal.returns-then-node
returns-then-node c =
    let a = c.args in
    omega (arith, c.loop-passed.invariant, depth_root a.g a.used a.inners.now (a.levels - c.loop-passed.passed) c.loop-passed.node c.if-node.true)

pub returns-then-node-used : goal.returns-then-node-used
returns-then-node-used c =
    let a = c.args in
    let l = c.loop-passed in
    omega (arith, l.invariant, depth_astray a.g a.used a.inners.now (a.levels - l.passed) l.node (omega arith) c.if-node.false c.if-node-used.true)

pub loop-passed-preserved : goal.loop-passed-preserved
loop-passed-preserved c =
    let a = c.args in
    let l = c.loop-passed in
    let less : a.levels - l.passed - 1 ≡ a.levels - (l.passed + 1) = omega arith in
    let on = depth_on a.g a.used a.inners.now (a.levels - l.passed) l.node (omega arith) c.if-node.false c.if-node-used.false in
    rw c.parent_of-node.ensures (omega (arith, l.invariant, rw less at on))

pub returns-then-node-2 : goal.returns-then-node-2
returns-then-node-2 c =
    let a = c.args in
    omega (arith, c.loop-passed.invariant, depth_root a.g a.used a.inners.now (a.levels - c.loop-passed.passed) c.loop-passed.node c.if-node-2.true)

pub returns-else-node-2 : goal.returns-else-node-2
returns-else-node-2 c =
    let a = c.args in
    let l = c.loop-passed in
    omega (arith, l.invariant, depth_end a.g a.used a.inners.now (a.levels - l.passed) l.node (omega arith) c.if-node-2.false)
