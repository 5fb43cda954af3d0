-- `door::door`: a run of records on the tree that make leaves, which answers as the row of one entry does.
use Rattle.std.specs.Prelude.{Ok}
use Prim.Native.Nat.{ℕ}
use lib.ListN.{length-replicate}
use mathlib.Core.Path.{ap, ◌∙◌}
use Rattle.model.specs.Numbered.{numbered}
use Rattle.door.specs.Door.{door_answer}
use Rattle.door.proofs.Laws.{by_answer}
use Rattle.door.proofs.door.Goals as goal

pub returns-in-Ok : goal.returns-in-Ok
returns-in-Ok c =
    let make-and-run = c.make_and_run-ran in
    by_answer _ _ _ (length-replicate {A = ℕ} 4480 0) (length-replicate {A = ℕ} 4480 0) (length-replicate {A = ℕ} 512 0) _ _ _ make-and-run.ensures.out_after
    make-and-run.ensures.as_row (Ok tt) (ap numbered c.in-Ok.is)

pub returns-in-Err : goal.returns-in-Err
returns-in-Err c =
    let make-and-run = c.make_and_run-ran in
    ap (λ (n : ℕ). door_answer n make-and-run.new.out) c.number.ensures
    ∙ by_answer _ _ _ (length-replicate {A = ℕ} 4480 0) (length-replicate {A = ℕ} 4480 0) (length-replicate {A = ℕ} 512 0) _ _ _ make-and-run.ensures.out_after
    make-and-run.ensures.as_row _ (ap numbered c.in-Err.is)
