-- `list_row::made::make_and_run`: the tree that make leaves stands for the row that it begins, so the run on it answers as that row does.
use mathlib.Core.Path.{ap}
use Prim.Native.Nat.{ℕ}
use Rattle.model.specs.Numbered.{numbered}
use native.Mathlib.Omega.{arith}
use Rattle.list_row.proofs.MadeLaws.{three_words, make_refused, make_done}
use Rattle.list_row.proofs.made.make_and_run.Goals as goal

pub returns-in-Ok : goal.returns-in-Ok
returns-in-Ok c =
    let args = c.args in
    let good = c.well_formed in
    let new = c.new-made in
    let words = three_words args.lengths.prepare args.lengths.effect args.lengths.lines (omega (arith, good)) (omega (arith, good)) (omega (arith, good)) in
    let all_promised = make_done _ _ _ args.leaves.now args.inners.now args.homes.now words args.records.now args.out.now (λ (i : ℕ). omega (arith, c.type_inv.records i)) _ _
    new.ensures (ap numbered c.in-Ok.is) _
    c.run.ensures.out_after in
    record { out_after = all_promised.0; as_row = all_promised.1 }

pub returns-in-Err : goal.returns-in-Err
returns-in-Err c =
    let args = c.args in
    let good = c.well_formed in
    let new = c.new-made in
    let words = three_words args.lengths.prepare args.lengths.effect args.lengths.lines (omega (arith, good)) (omega (arith, good)) (omega (arith, good)) in
    let all_promised = make_refused _ _ _ args.leaves.now args.inners.now args.homes.now words args.records.now args.out.now (λ (i : ℕ). omega (arith, c.type_inv.records i)) _ _
    new.ensures _ (ap numbered c.in-Err.is) in
    record { out_after = all_promised.0; as_row = all_promised.1 }
