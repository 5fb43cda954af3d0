-- Records on a tree: one record by its bytes, one more in a list, and the list as a whole. Assumes nothing.
use Rattle.std.specs.Prelude.{Ok, Err}
use mathlib.Core.Path.{◌≡◌, refl, sym, ap, ◌∙◌, subst}
use mathlib.Core.Bool.{true, false}
use mathlib.Core.List.{List, ◌++◌, append_assoc, append-nil}
use Prim.Native.Nat.{ℕ, suc, ◌+◌, ◌-◌, ◌%◌, ◌≤◌, ◌<◌}
use native.Mathlib.Omega.{arith}
use lib.ListN.{length, take, drop, length-append}
use lib.Seq.{length-take-le, take_at, take_all, drop-drop}
use borrow.Author.Tests.{eq-eqb, ne_eqb}
use borrow.Rule.Slice.PartAt.{part_count}
use borrow.Rule.Slice.PartMut.{put_mid, post_of}
use Rattle.model.specs.Kind.{base}
use Rattle.model.specs.Row as row
use Rattle.model.specs.Record.{fields_of, decode, encode}
use Rattle.model.specs.State.{State}
use Rattle.model.specs.ById.{tree_step}
use Rattle.model.specs.Promise.{answers, finally, Represents}
use Rattle.list_records.specs.Said.{plain_fields, call_of, said, filled}
use Rattle.list_records.specs.declared.fields.Fields.{Fields}
use Rattle.list_records.specs.declared.call.Call.{Call}
use Rattle.list_records.specs.declared.answer.Answer.{Answer}
use Rattle.list_row.specs.Step.{Stepped, stepped, step_by}
use Rattle.list_row.specs.Run.{records, records_of, written, TreeOutput, tree_output, turn, turns, fit, Ran, ran, run_on, AsRow}
use Rattle.list_row.proofs.AsRow.{as_row}
use Rattle.list_row.proofs.Words.{Bytes}

-- one record, by its fields, its call and its answer
pub one_record : (s : State) (bs : List ℕ) (f : Fields) → plain_fields f ≡ fields_of bs → (k : Call) → call_of k ≡ said (plain_fields f)
    → (t : State) (a : Answer) → stepped t a ≡ step_by (tree_step base s (call_of k)) → (o : List ℕ) → o ≡ encode f.kind (filled a) → tree_output t o ≡ turn s bs
unfolding said decode encode
one_record s bs f ef k ek t a e o eo =
    let same : call_of k ≡ decode bs = ek ∙ ap said ef in
    let kind : f.kind ≡ (fields_of bs).kind = ap (λ x. x.kind) ef in
    ap (tree_output t) eo
    ∙ ap (λ (y : Stepped). tree_output y.after (encode f.kind (filled y.answer))) (e ∙ ap (λ (c : row.Call). step_by (tree_step base s c)) same)
    ∙ ap (λ (n : ℕ). tree_output (tree_step base s (decode bs)).after (encode n (tree_step base s (decode bs)).answer)) kind

encode_length : (k : ℕ) (a : row.Answer) → length (encode k a) ≡ 16
unfolding encode
encode_length k a = refl

-- what is written so far, and what the records from byte at on will give
abbrev pub onward : State → List ℕ → List ℕ → ℕ → ℕ → TreeOutput
onward s bs out at n = let m = turns s (records n (drop at bs)) in tree_output m.after (take at out ++ m.out)

-- one record more at the front of what is left
more : (s : State) (bs out : List ℕ) (at n : ℕ) (t : State) (o : List ℕ) → tree_output t o ≡ turn s (take 16 (drop at bs))
    → onward s bs out at (suc n) ≡ tree_output (turns t (records n (drop (at + 16) bs))).after (take at out ++ (o ++ (turns t (records n (drop (at + 16) bs))).out))
unfolding records answers finally written
more s bs out at n t o e =
    rw (drop-drop 16 at bs)
    (ap (λ (y : TreeOutput). tree_output (turns y.after (records n (drop (at + 16) bs))).after (take at out ++ (y.out ++ (turns y.after (records n (drop (at + 16) bs))).out))) (sym e))

-- what a turn does to the bytes written so far
put_turn : (out o rest : List ℕ) (at e : ℕ) → at + 16 ≡ e → e ≤ length out → length o ≡ 16
    → take at out ++ (o ++ rest) ≡ take e (put_mid at (e - at) out o) ++ rest
put_turn out o rest at e ae h lo =
    let p = take at out in
    let len : length (p ++ o) ≡ e = length-append p o ∙ omega (arith, length-take-le at out (omega arith), lo) in
    sym (append_assoc p o rest)
    ∙ ap (λ (l : List ℕ). l ++ rest) (sym (take_at (p ++ o) (post_of at (e - at) out) e len))
    ∙ ap (λ (l : List ℕ). take e l ++ rest) (append_assoc p o (post_of at (e - at) out))

pub next_turn : (whole : TreeOutput) (s : State) (bs out : List ℕ) (at n : ℕ) → whole ≡ onward s bs out at n → 0 < n → at + 16 ≤ length out
    → (t : State) (o : List ℕ) → tree_output t o ≡ turn s (take (at + 16 - at) (drop at bs))
    → whole ≡ onward t bs (put_mid at (at + 16 - at) out o) (at + 16) (n - 1)
next_turn whole s bs out at n w pos room t o e =
    let l : n ≡ suc (n - 1) = omega arith in
    let sixteen : at + 16 - at ≡ 16 = omega arith in
    let e' : tree_output t o ≡ turn s (take 16 (drop at bs)) = e ∙ ap (λ (k : ℕ). turn s (take k (drop at bs))) sixteen in
    let m = turns t (records (n - 1) (drop (at + 16) bs)) in
    let lo : length o ≡ 16 = ap (λ (y : TreeOutput). length y.out) e' ∙ encode_length (fields_of (take 16 (drop at bs))).kind (tree_step base s (decode (take 16 (drop at bs)))).answer in
    w
    ∙ ap (onward s bs out at) l
    ∙ more s bs out at (n - 1) t o e'
    ∙ ap (tree_output m.after) (put_turn out o m.out at (at + 16) refl room lo)

pub last_turn : (whole : TreeOutput) (s : State) (bs out : List ℕ) (at n : ℕ) → whole ≡ onward s bs out at n → n ≤ 0 → length out ≤ at
    → tree_output s out ≡ whole
unfolding records answers finally written
last_turn whole s bs out at n w z h =
    let none : n ≡ 0 = omega arith in
    sym (w ∙ ap (onward s bs out at) none ∙ ap (tree_output s) (append-nil (take at out) ∙ take_all at out h))

-- a record in its list
pub part_long : (at : ℕ) (l : List ℕ) → at + 16 ≤ length l → length (take (at + 16 - at) (drop at l)) ≡ 16
part_long at l h = let ahead : at ≤ at + 16 = omega arith in omega (arith, part_count l at (at + 16) (ahead, h))

-- the lengths
unequal : (bs out : List ℕ) → (length bs ≡ length out → ⊥) → fit bs out ≡ false
unequal bs out h = rw (ne_eqb (length bs) (length out) h)

uneven : (bs out : List ℕ) → length bs ≡ length out → (length bs % 16 ≡ 0 → ⊥) → fit bs out ≡ false
uneven bs out e h = rw (eq-eqb (length bs) (length out) e, ne_eqb (length bs % 16) 0 h)

fitting : (bs out : List ℕ) → length bs ≡ length out → length bs % 16 ≡ 0 → fit bs out ≡ true
fitting bs out e h = rw (eq-eqb (length bs) (length out) e, eq-eqb (length bs % 16) 0 h)

-- a run's two promises
abbrev pub Promises : State → List ℕ → List ℕ → Ran → Type 0
Promises s bs out m = (m ≡ run_on s bs out) × ((q : row.Row) → fit bs out ≡ true → Represents base s q → AsRow bs m s.head.fan q)

promised : (s : State) (bs out : List ℕ) (m : Ran) → Bytes bs → m ≡ run_on s bs out → Promises s bs out m
promised s bs out m b e = (e, λ q f w. subst (λ (x : Ran). AsRow bs x s.head.fan q) (sym e) (as_row s bs out q b f w))

refused_run : (s : State) (bs out : List ℕ) → Bytes bs → fit bs out ≡ false → Promises s bs out (ran s (Err 11) out)
unfolding run_on
refused_run s bs out b f = promised s bs out (ran s (Err 11) out) b (rw f)

pub run_unequal : (s : State) (bs out : List ℕ) → Bytes bs → (length bs ≡ length out → ⊥) → Promises s bs out (ran s (Err 11) out)
run_unequal s bs out b h = refused_run s bs out b (unequal bs out h)

pub run_uneven : (s : State) (bs out : List ℕ) → Bytes bs → length bs ≡ length out → (length bs % 16 ≡ 0 → ⊥) → Promises s bs out (ran s (Err 11) out)
run_uneven s bs out b e h = refused_run s bs out b (uneven bs out e h)

pub run_whole : (s : State) (bs out : List ℕ) → Bytes bs → length bs ≡ length out → length bs % 16 ≡ 0 → (t : State) (o : List ℕ) → tree_output t o ≡ turns s (records_of bs)
    → Promises s bs out (ran t (Ok tt) o)
unfolding run_on
run_whole s bs out b e h t o q =
    promised s bs out (ran t (Ok tt) o) b (rw (fitting bs out e h) (ap (λ (y : TreeOutput). ran y.after (Ok tt) y.out) q))
