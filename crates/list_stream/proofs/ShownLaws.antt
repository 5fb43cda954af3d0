-- A block's records shown one by one are shown as a list. Assumes nothing.
use mathlib.Core.Path.{◌≡◌, sym, ap, ap₂, ◌∙◌}
use mathlib.Core.List.{List, [], ◌∷◌, ◌++◌}
use Prim.Native.Nat.{ℕ, suc, ◌+◌, ◌/◌, ◌≤◌, ◌<◌}
use native.Mathlib.Omega.{arith}
use lib.ListN.{length, length-append}
use Rattle.std.proofs.lemmas.List.{take_at, drop_at}
use Rattle.model.specs.Kind.{base}
use Rattle.model.specs.Row.{Call}
use Rattle.model.specs.Record.{Fields, fields_of, decode}
use Rattle.model.specs.State.{State}
use Rattle.model.specs.ById.{tree_step}
use Rattle.model.specs.Promise.{answers, finally}
use Rattle.list_records.specs.Said.{said, answer_of}
use Rattle.list_records.specs.declared.answer.Answer.{Answer}
use Rattle.list_row.specs.Run.{records, records_of, calls_of}
use Rattle.list_row.specs.Step.{Stepped, stepped, step_by}
use Rattle.list_stream.specs.Text.{line, put}
use Rattle.list_stream.proofs.TextLaws.{behind, put_more, put_nil, line_short}
use Rattle.list_stream.specs.Shown.{lines, Shown, shown, show_one, show_from}

pub said_decode : (c : Call) (f : Fields) (bs : List ℕ) → c ≡ said f → f ≡ fields_of bs → c ≡ decode bs
unfolding said decode
said_decode c f bs e q = e ∙ ap said q

abbrev both : State → ℕ × List ℕ → Shown
both s w = record { after = s; written = w }

pub one_shown : (s t : State) (c d : Call) (a : Answer) (at end : ℕ) (out o : List ℕ) → stepped t a ≡ step_by (tree_step base s c) → c ≡ d → (end, o) ≡ put out at (line a)
    → shown t end o ≡ show_one s d at out
unfolding show_one
one_shown s t c d a at end out o e q l =
    ap₂ both
    (ap (λ (x : Stepped). x.after) e ∙ ap (λ (x : Call). (tree_step base s x).after) q)
    (l ∙ ap (λ (x : Stepped). put out at (line x.answer)) e ∙ ap (λ (x : Call). put out at (line (answer_of (tree_step base s x).answer))) q)

-- what showing one call says by its parts
module _ (s t : State) (c : Call) (at end : ℕ) (out o : List ℕ) (e : shown t end o ≡ show_one s c at out) where
  tree : t ≡ (tree_step base s c).after
  unfolding show_one
  tree = ap (λ (x : Shown). x.after) e

  text : (end, o) ≡ put out at (line (answer_of (tree_step base s c).answer))
  unfolding show_one
  text = ap (λ (x : Shown). x.written) e

  pub one_short : end ≤ at + 44
  one_short = omega (arith, behind out o at end (line (answer_of (tree_step base s c).answer)) text, line_short (answer_of (tree_step base s c).answer))

  more : (cs : List Call) → show_from s (c ∷ cs) at out ≡ show_from t cs end o
  unfolding show_from lines answers finally
  more cs =
      ap (λ (x : State). both (finally (tree_step base) x cs) (put out at (line (answer_of (tree_step base s c).answer) ++ lines (answers (tree_step base) x cs)))) (sym tree)
      ∙ ap (λ (w : ℕ × List ℕ). both (finally (tree_step base) t cs) w) (sym (put_more out o at end (line (answer_of (tree_step base s c).answer)) (lines (answers (tree_step base) t cs)) text))

-- a whole record comes first, and fewer bytes are none
records_more : (r more : List ℕ) → length r ≡ 16 → records_of (r ++ more) ≡ r ∷ records_of more
unfolding records
records_more r more h =
    let n : length (r ++ more) / 16 ≡ suc (length more / 16) = omega (arith, length-append r more) in
    rw (n, take_at r more 16 h, drop_at r more 16 h)

records_none : (bs : List ℕ) → length bs < 16 → records_of bs ≡ []
unfolding records
records_none bs h =
    let n : length bs / 16 ≡ 0 = omega arith in
    rw n

-- a turn of the loop, and its end
pub turn : (whole : Shown) (s t : State) (bs r rest out o : List ℕ) (end next : ℕ) → whole ≡ show_from s (calls_of (records_of bs)) end out → bs ≡ r ++ rest → length r ≡ 16
    → shown t next o ≡ show_one s (decode r) end out → whole ≡ show_from t (calls_of (records_of rest)) next o
turn whole s t bs r rest out o end next w b h e =
    w
    ∙ ap (λ (x : List ℕ). show_from s (calls_of (records_of x)) end out) b
    ∙ ap (λ (rs : List (List ℕ)). show_from s (calls_of rs) end out) (records_more r rest h)
    ∙ more s t (decode r) end next out o e (calls_of (records_of rest))

pub finish : (whole : Shown) (s : State) (bs out : List ℕ) (end : ℕ) → whole ≡ show_from s (calls_of (records_of bs)) end out → length bs < 16 → shown s end out ≡ whole
unfolding show_from lines answers finally
finish whole s bs out end w h = sym (w ∙ ap (λ (rs : List (List ℕ)). show_from s (calls_of rs) end out) (records_none bs h) ∙ ap (both s) (put_nil out end))
