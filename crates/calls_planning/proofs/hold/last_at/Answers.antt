-- `calls_planning::hold::last_at`: the tree's tests refuse every lookup alike; behind them the root's totals say which one it is.
use Rattle.std.proofs.Common.{refl, arith}
use Rattle.model.specs.Kind.{kind}
use Rattle.model.specs.State.{State, state}
use Rattle.tree_open.proofs.ReadyLaws.{ready, inner_area}
use Rattle.calls_planning.proofs.LastLaws.{totals_are, last_shut, last_low, last_high}
use Rattle.calls_planning.proofs.hold.last_at.Goals.{Start}
use Rattle.calls_planning.proofs.hold.last_at.Goals as goal

-- the tree as it was lent
abbrev entry : Start → State
entry a = state a.args.head a.args.leaves.now a.args.inners.now a.args.homes.now

pub totals_in-t-requires : goal.totals_in-t-requires
totals_in-t-requires c =
    let h = ready (kind 2 1) (omega arith, omega arith) (entry (goal.at.totals_in-t-requires c).Start) _ _ (c.in-Ok.ensures 1) refl in
    (inner_area (entry (goal.at.totals_in-t-requires c).Start) _ h, h.root)

pub returns-then-position-t : goal.returns-then-position-t
returns-then-position-t c =
    let h = ready (kind 2 1) (omega arith, omega arith) (entry (goal.at.returns-then-position-t c).Start) _ _ (c.in-Ok.ensures 1) refl in
    let t = totals_are (entry (goal.at.returns-then-position-t c).Start) _ h.same _ _ _ c.totals_in-t.ensures in
    last_low (entry (goal.at.returns-then-position-t c).Start) c.args.position _ t.0 _ c.if-position-t.true c.held.ensures

pub returns-in-Err : goal.returns-in-Err
returns-in-Err c =
    last_shut (entry (goal.at.returns-in-Err c).Start) c.args.position _ (c.in-Err.ensures 1) _ refl

pub returns-else-position-t : goal.returns-else-position-t
returns-else-position-t c =
    let h = ready (kind 2 1) (omega arith, omega arith) (entry (goal.at.returns-else-position-t c).Start) _ _ (c.in-Ok.ensures 1) refl in
    let t = totals_are (entry (goal.at.returns-else-position-t c).Start) _ h.same _ _ _ c.totals_in-t.ensures in
    last_high (entry (goal.at.returns-else-position-t c).Start) c.args.position _ t.0 _ c.if-position-t.false _ _ t.1 c.last_position-at.ensures c.held-in-Ok.ensures
