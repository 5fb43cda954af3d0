-- What a block leaves: its whole records played, and fewer than sixteen bytes kept. Assumes nothing.
use Rattle.model.specs.Numbered.{Numbered}
use Rattle.std.specs.Prelude.{Option, Some, None, Result, Ok, Err, IsErrAnd}
use mathlib.Core.Path.{◌≡◌, refl, sym, ap, ap₂, ◌∙◌, subst}
use mathlib.Core.Bool.{true}
use mathlib.Core.List.{List, [], ◌++◌}
use Prim.Native.Nat.{ℕ, ◌+◌, ◌-◌, ◌*◌, ◌%◌, ◌<◌, ◌≤◌}
use native.Mathlib.Omega.{arith}
use lib.ListN.{length, take}
use lib.Seq.{length-take-le}
use borrow.Author.Tests.{eq-eqb}
use Rattle.model.specs.Kind.{base}
use Rattle.model.specs.Lists.{part}
use Rattle.model.specs.Row.{Row, Call, row_step}
use Rattle.model.specs.State.{State, state}
use Rattle.model.specs.ById.{tree_step}
use Rattle.model.specs.Promise.{finally, Represents}
use Rattle.model.specs.Sheet.{pages_for, sheet}
use Rattle.model.specs.Print.{print}
use Rattle.model_laws.specs.Words.{length_part}
use Rattle.model_theory.specs.CallPrint.{prints_row, print_leaves}
use Rattle.list_stream.specs.Text.{put}
use Rattle.list_stream.proofs.TextLaws.{behind}
use Rattle.list_row.specs.Run.{records_of, calls_of, left, fit, Ran, ran, run_on, AsRow}
use Rattle.list_row.specs.Made.{door_row}
use Rattle.sheetrun.specs.Turn.{whole_of, BlockPlayed, Turned, left_row, ForRow}
use Rattle.sheetrun.specs.declared.Left.{Left}
use Rattle.sheetrun.proofs.RowLaws.{finally_append, fits}

-- whole records and an equally long output
pub fit_whole : (have : ℕ) (block out : List ℕ) → have ≤ length block → length out ≡ have - have % 16 → fit (take (have - have % 16) block) out ≡ true
fit_whole have block out h e =
    let l : length (take (have - have % 16) block) ≡ have - have % 16 = length-take-le (have - have % 16) block (omega arith) in
    rw (l, e, eq-eqb (have - have % 16) (have - have % 16) refl, eq-eqb ((have - have % 16) % 16) 0 (omega arith))

run_tree : (s t : State) (a : Numbered (Unit {0})) (bs out o : List ℕ) → fit bs out ≡ true → ran t a o ≡ run_on s bs out → t ≡ left (tree_step base) s (records_of bs)
unfolding run_on
run_tree s t a bs out o f e = ap (λ (r : Ran). r.after) e ∙ rw f

module _ (s t : State) (a : Numbered (Unit {0})) (have : ℕ) (block out o b : List ℕ) (kept : ℕ) (h : have ≤ length block) (l : length out ≡ have - have % 16) where
  pub played : ran t a o ≡ run_on s (take (have - have % 16) block) out
      → ((q : Row) → fit (take (have - have % 16) block) out ≡ true → Represents base s q → AsRow (take (have - have % 16) block) (ran t a o) s.head.fan q)
      → (kept, b) ≡ put block 0 (part (have - have % 16) (have % 16) block) → BlockPlayed s block have t kept b
  played e r k = record {
    tree = run_tree s t a (take (have - have % 16) block) out o (fit_whole have block out h l) e;
    row = λ q st. (let w = (r q (fit_whole have block out h l) st).kept in record { sound = w.sound; entries = w.entries; limit = w.limit });
    rest = k;
  }

-- fewer than sixteen bytes are kept
pub kept_of : {E : Type 0} (r : Result (Option Left) E) (s : State) (block : List ℕ) (kept : ℕ) (ls xs hs b : List ℕ) → Turned r s block kept ls xs hs b → (l : Left) → r ≡ Ok (Some l) → l.kept < 16
kept_of {E} r s block kept ls xs hs b turned out e =
    let t = subst (λ (x : Result (Option Left) E). Turned x s block kept ls xs hs b) e turned in
    let have : ℕ = kept + t.1 in
    let l : length (part (kept + t.1 - (kept + t.1) % 16) ((kept + t.1) % 16) t.0) ≡ (kept + t.1) % 16 = length_part (kept + t.1 - (kept + t.1) % 16) ((kept + t.1) % 16) t.0 (omega (arith, t.3)) in
    omega (arith, behind t.0 b 0 out.kept (part (kept + t.1 - (kept + t.1) % 16) ((kept + t.1) % 16) t.0) t.5.rest, l)

-- the tree stands for a row from the start, and still
pub door_row_law : (s : State) → Represents base s door_row → ForRow s
unfolding finally
door_row_law s st = record { calls = []; stands = st }

pub more_row : {E : Type 0} (r : Result (Option Left) E) (s : State) (block : List ℕ) (kept : ℕ) (ls xs hs b : List ℕ) → Turned r s block kept ls xs hs b → ForRow s → (l : Left) → r ≡ Ok (Some l) → ForRow (state l.head ls xs hs)
more_row {E} r s block kept ls xs hs b turned f out e =
    let t = subst (λ (x : Result (Option Left) E). Turned x s block kept ls xs hs b) e turned in
    let more = calls_of (whole_of (kept + t.1) t.0) in
    record { calls = f.calls ++ more; stands = subst (Represents base (state out.head ls xs hs)) (finally_append (row_step base) door_row f.calls more) (t.5.row (left_row f.calls) f.stands) }

pub end_row : {E : Type 0} (r : Result (Option Left) E) (s : State) (block : List ℕ) (kept : ℕ) (ls xs hs b : List ℕ) → Turned r s block kept ls xs hs b → ForRow s → r ≡ Ok None → ForRow (state s.head ls xs hs)
end_row {E} r s block kept ls xs hs b turned f e =
    let t = subst (λ (x : Result (Option Left) E). Turned x s block kept ls xs hs b) e turned in
    subst ForRow (sym t) f

-- of a read that failed nothing is said
pub turned_none : {E : Type 0} (P : E → Type 0) (r : Result (Option Left) E) (s : State) (block : List ℕ) (kept : ℕ) (ls xs hs b : List ℕ) → IsErrAnd r P → Turned r s block kept ls xs hs b
turned_none P (Ok x) s block have ls xs hs b f = absurd f
turned_none P (Err e) s block have ls xs hs b f = tt

-- the pages: how many bytes, and whose sheet
module _ (s : State) (page new : List ℕ) (a : Numbered ℕ) (e : (a, new) ≡ print base s page) where
  answer : a ≡ (print base s page).0
  answer = ap (λ (x : Numbered ℕ × List ℕ). x.0) e

  buffer : new ≡ (print base s page).1
  buffer = ap (λ (x : Numbered ℕ × List ℕ). x.1) e

  same : length new ≡ length page
  same = ap length buffer ∙ (print_leaves base s page).long

  pub pages_in : (n : ℕ) → a ≡ Ok n → 2750 * n ≤ length new
  pages_in n d = omega (arith, same, (print_leaves base s page).within n (sym answer ∙ d))

  module _ (cs : List Call) (st : Represents base s (left_row cs)) (l : length page ≡ 30250) where
    reply : a ≡ Ok (pages_for (length (left_row cs).entries))
    reply = answer ∙ (prints_row base (omega arith) s (left_row cs) st page).pages (fits s cs st (length page) l)

    pub pages_are : (n : ℕ) → a ≡ Ok n → (2750 * n ≡ 2750 * pages_for (length (left_row cs).entries)) × (take (2750 * n) new ≡ sheet base (left_row cs).entries)
    pages_are n d =
        let q : n ≡ pages_for (length (left_row cs).entries) = cc (sym d ∙ reply) in
        (ap (λ (k : ℕ). 2750 * k) q, ap₂ (λ (k : ℕ) (x : List ℕ). take (2750 * k) x) q buffer ∙ (prints_row base (omega arith) s (left_row cs) st page).written (fits s cs st (length page) l))

    pub not_refused : (m : ℕ) → a ≡ Err m → ⊥
    not_refused m d = let z : ◌≡◌ {A = ℕ} 0 1 = cc (sym d ∙ reply) in omega arith
