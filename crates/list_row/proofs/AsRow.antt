-- Records on a tree that stands for a row: the list theorem, read on bytes. Assumes nothing.
use mathlib.Core.Path.{◌≡◌, ap}
use mathlib.Core.Bool.{true}
use mathlib.Core.List.{List}
use Prim.Native.Nat.{ℕ, ◌/◌}
use native.Mathlib.Omega.{arith}
use lib.ListN.{length}
use Rattle.model.specs.Kind.{base}
use Rattle.model.specs.Row.{Row, row_step}
use Rattle.model.specs.State.{State}
use Rattle.model.specs.ById.{tree_step}
use Rattle.model.specs.Promise.{Represents}
use Rattle.model_theory.specs.TopById.{runs_alike, fan_kept, invariant_of}
use Rattle.list_row.specs.Run.{records_of, calls_of, written, left, fit, run_on, AsRow}
use Rattle.list_row.proofs.Words.{Bytes, calls_words}

pub as_row : (s : State) (bs out : List ℕ) (r : Row) → Bytes bs → fit bs out ≡ true → Represents base s r → AsRow bs (run_on s bs out) s.head.fan r
unfolding run_on
as_row s bs out r h f w =
    let a = runs_alike base (omega arith) s r (calls_of (records_of bs)) w (calls_words (length bs / 16) bs h) in
    rw f
    (record {
      says = ap (written (records_of bs)) a.0;
      kept = invariant_of base (omega arith) s.head.fan (left (tree_step base) s (records_of bs)) (left (row_step base) r (records_of bs)) a.1 (fan_kept base s (calls_of (records_of bs)));
    })
