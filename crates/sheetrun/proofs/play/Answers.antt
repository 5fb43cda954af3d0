-- `sheetrun::play`: whole records with an equally long output are run, and the bytes behind them kept.
use mathlib.Core.Path.{sym}
use Prim.Native.Nat.{◌-◌, ◌%◌}
use native.Mathlib.Omega.{arith}
use lib.Seq.{length-take-le}
use Rattle.sheetrun.proofs.TurnLaws.{played}
use Rattle.sheetrun.proofs.play.Goals as goal

pub slice_bounds-run-end-2 : goal.slice_bounds-run-end-2
slice_bounds-run-end-2 c =
    let args = c.args in
    let pre = c.requires in
    sym (length-take-le (args.have - args.have % 16) args.block.now (omega (arith, pre.0)))

pub slice_bounds-run-end-4 : goal.slice_bounds-run-end-4
slice_bounds-run-end-4 c =
    let args = c.args in
    let pre = c.requires in
    sym (length-take-le (args.have - args.have % 16) args.out.now (omega (arith, pre.0, pre.1)))

pub returns : goal.returns
returns c =
    let args = c.args in
    let pre = c.requires in
    let run = c.run-ran in
    played _ _ _ args.have args.block.now _ _ _ _ pre.0 (length-take-le (args.have - args.have % 16) args.out.now (omega (arith, pre.0, pre.1)))
    run.ensures.out_after run.ensures.as_row c.keep.ensures
