-- `rowrun::answer`: bytes are fed; at the end of the input the tail has its line.
use mathlib.Core.Path.{sym, subst}
use Prim.Native.Nat.{ℕ, ◌≤◌}
use Rattle.model.specs.State.{state}
use Rattle.rowrun.proofs.TurnLaws.{none_read, bytes_read, answered_short}
use Rattle.rowrun.proofs.answer.Goals as goal

pub returns-then-n-eq0 : goal.returns-then-n-eq0
returns-then-n-eq0 c =
    let args = c.args in
    let pre = c.requires in
    let tail = c.tail-end in
    let e = none_read (state args.head args.leaves.now args.inners.now args.homes.now) args.block.now args.kept args.n args.out.now
    c.if-n-eq0.true _ _ tail.ensures in
    record { block_after = e; end_in_bounds = subst (λ (k : ℕ). tail.result ≤ k) (sym tail.auto.out) (answered_short _ _ _ _ _ _ args.kept args.n _ _ _ e pre.1 pre.2) }

pub returns : goal.returns
returns c =
    let args = c.args in
    let pre = c.requires in
    let feed = c.feed in
    let e = bytes_read (state args.head args.leaves.now args.inners.now args.homes.now) args.block.now args.kept args.n args.out.now
    c.if-n-eq0.false _ feed.ensures in
    record { block_after = e; end_in_bounds = subst (λ (k : ℕ). feed.result.end ≤ k) (sym feed.auto.out) (answered_short _ _ _ _ _ _ args.kept args.n _ _ _ e pre.1 pre.2) }
