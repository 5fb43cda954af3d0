-- `list_row::run::run`: the lengths are tested, then all records are played; the list theorem turns the tree's answers into the row's.
use Rattle.std.specs.Prelude.{Err}
use Rattle.std.proofs.Common.{ℕ, arith}
use Rattle.model.specs.State.{state}
use Rattle.list_row.proofs.RunLaws.{Promises, run_unequal, run_uneven, run_whole}
use Rattle.list_row.specs.Run.{ran}
use Rattle.list_row.proofs.run.run.Goals as goal
use Rattle.list_row.proofs.run.run.Goals.{then-records-out-via-then-records-out, then-records-out-via-else-records-out+then-records-ne0}

pub returns-then-records-out : goal.returns-then-records-out
returns-then-records-out c =
    let args = c.args in
    let tree = state args.head args.leaves.now args.inners.now args.homes.now in
    let all_promised = elim c.then-records-out.branch as (λ b. Promises tree args.records.now args.out.now (ran tree (Err 11) args.out.now)) [
      | then-records-out-via-then-records-out w ↦ run_unequal tree args.records.now args.out.now (λ (i : ℕ). omega (arith, c.type_inv.records i)) w.if-records-out.true
      | then-records-out-via-else-records-out+then-records-ne0 w ↦ run_uneven tree args.records.now args.out.now (λ (i : ℕ). omega (arith, c.type_inv.records i)) w.if-records-out.false w.if-records-ne0.true
    ] in
    record { out_after = all_promised.0; as_row = all_promised.1 }

pub returns : goal.returns
returns c =
    let args = c.args in
    let all_promised = run_whole (state args.head args.leaves.now args.inners.now args.homes.now) args.records.now args.out.now
    (λ (i : ℕ). omega (arith, c.type_inv.records i)) c.if-records-out.false c.if-records-ne0.false _ _ c.all-after.ensures in
    record { out_after = all_promised.0; as_row = all_promised.1 }
