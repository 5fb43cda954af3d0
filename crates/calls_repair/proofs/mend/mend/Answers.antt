-- Cleared words are those of empty slots, which the writer copies from; the rest is its contract.
use Prim.Native.Nat.{ℕ}
use native.Mathlib.Omega.{arith}
use lib.ListN.{length-replicate}
use Rattle.calls_repair.proofs.JobLaws.{blank_of}
use Rattle.calls_repair.proofs.mend.mend.Goals as goal

pub write-requires : goal.write-requires
write-requires c =
    let pre = c.requires in
    let clear = c.clear in
    (pre, blank_of _ _ _ (omega (arith, pre.shaped.columns)) pre.shaped.narrow (length-replicate {A = ℕ} 128 0) clear.ensures)
