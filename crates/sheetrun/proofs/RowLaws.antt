-- The row that the program's tree stands for: calls after calls, and its limit, so that the sheet fits eleven pages. Assumes nothing.
use mathlib.Core.Path.{◌≡◌, refl, sym, ap, ◌∙◌}
use mathlib.Core.Bool.{Bool, true, false, cond}
use mathlib.Core.List.{List, [], ◌∷◌, ◌++◌}
use Prim.Native.Nat.{ℕ, ◌*◌, ◌≤◌}
use native.Mathlib.Omega.{arith}
use lib.Dec.{eqb}
use lib.ListN.{length}
use Rattle.model.specs.Kind.{base}
use Rattle.model.specs.Lists.{Cause, refusal}
use Rattle.model.specs.Row as row
use Rattle.model.specs.Row.{Row, Call, Entry, Answer, Moved, moved, unless, overlong, row_move, row_step}
use Rattle.model.specs.State.{State}
use Rattle.model.specs.Sheet.{pages_for}
use Rattle.model.specs.Promise.{finally, Represents}
use Rattle.model_theory.specs.CallSimulates.{count_is}
use Rattle.list_row.specs.Made.{door_row}
use Rattle.sheetrun.specs.Turn.{left_row}

-- calls behind calls
pub finally_append : {S : Type 0} (move : S → Call → Moved S) (s : S) (cs ds : List Call) → finally move (finally move s cs) ds ≡ finally move s (cs ++ ds)
unfolding finally
finally_append move s [] ds = refl
finally_append move s (c ∷ cs) ds = finally_append move (move s c).after cs ds

-- no call changes a row's limit
unless_limit : (r : Row) (cs : List Cause) (es : List Entry) (a : Answer) → (unless r cs es a).after.limit ≡ r.limit
unfolding unless
unless_limit r cs es a = go (eqb (refusal cs) 0)
  where
    go : (b : Bool) → (cond b (moved (row.row r.limit es) a) (moved r (row.refused (refusal cs)))).after.limit ≡ r.limit
    go true = refl
    go false = refl

move_limit : (r : Row) (c : Call) → (row_move base r c).after.limit ≡ r.limit
unfolding row_move
move_limit r (row.reset l) = unless_limit r _ _ _
move_limit r (row.insert i l) = unless_limit r _ _ _
move_limit r (row.split flag i l) = unless_limit r _ _ _
move_limit r (row.set_lengths i l) = unless_limit r _ _ _
move_limit r (row.update i l) = unless_limit r _ _ _
move_limit r (row.lookup v x) = unless_limit r _ _ _
move_limit r (row.rank v i) = unless_limit r _ _ _
move_limit r (row.next i) = unless_limit r _ _ _
move_limit r (row.compare i j) = unless_limit r _ _ _
move_limit r (row.lengths i) = unless_limit r _ _ _
move_limit r row.count = refl
move_limit r row.first = refl
move_limit r row.malformed = refl

ten_limit : (long : Bool) (r : Row) (m : Moved Row) → m.after.limit ≡ r.limit → (cond long (moved r (row.refused 10)) m).after.limit ≡ r.limit
ten_limit true r m h = refl
ten_limit false r m h = h

step_limit : (r : Row) (c : Call) → (row_step base r c).after.limit ≡ r.limit
unfolding row_step
step_limit r c = ten_limit (overlong base c) r (row_move base r c) (move_limit r c)

limit_kept : (r : Row) (cs : List Call) → (finally (row_step base) r cs).limit ≡ r.limit
unfolding finally
limit_kept r [] = refl
limit_kept r (c ∷ cs) = limit_kept (row_step base r c).after cs ∙ step_limit r c

-- at most 512 entries
pub fits : (s : State) (cs : List Call) → Represents base s (left_row cs) → (n : ℕ) → n ≡ 30250 → 2750 * pages_for (length (left_row cs).entries) ≤ n
fits s cs st n e =
    let count : length (left_row cs).entries ≡ s.head.entries = sym (ap length st.entries) ∙ count_is base s st.sound.coherent in
    let few : length (left_row cs).entries ≤ 512 = omega (arith, st.sound.coherent.entry_count, st.limit, limit_kept door_row cs) in
    omega arith
