-- One record's number by its words, and that of the records in order. Assumes nothing.
use mathlib.Core.Path.{◌≡◌, refl, sym, ap, ◌∙◌}
use mathlib.Core.Logic.{◌≢◌}
use mathlib.Core.List.{List, flat_map}
use Prim.Native.Nat.{ℕ, suc, ◌+◌, ◌-◌, ◌<◌, ◌≤◌}
use native.Mathlib.Omega.{arith}
use native.Mathlib.Numerals.{add-one}
use borrow.Author.Tests.{eq-eqb, ne_eqb}
use Rattle.std.specs.Prelude.{Result, Ok, Err, length, ◌%◌}
use Rattle.model.specs.Numbered.{refusal_number, number_of, numbered}
use Rattle.model.specs.declared.refusal.Refusal.{Refusal}
use Rattle.model.specs.declared.refusal.Refusal.TheVariants as refusal
use Rattle.model.specs.Lists.{range, refusal}
use Rattle.calls_edits.specs.Edits.{edits, left, right, third, fourth, causes_of, record_causes, records_causes, check}
use Rattle.calls_edits.specs.Causes.{after, one_more}
use Rattle.calls_edits.specs.Answered.{by_records, by_none}

pub by_words : (file : List ℕ) (e p q x y r : ℕ) → p ≡ left file e → q ≡ right file e → x ≡ third file e → y ≡ fourth file e → r ≡ refusal (causes_of e p q x y) → r ≡ refusal (record_causes file e)
unfolding record_causes
by_words file e p q x y r ep eq ex ey er = er ∙ rw (ep, eq, ex, ey)

-- the records from e on decide as all do, while those before are good
module _ (file : List ℕ) where
  pub no_record_yet : (n : ℕ) → after file 0 (n - 0) ≡ refusal (records_causes file n)
  unfolding records_causes
  no_record_yet n =
      let e : n - 0 ≡ n = omega arith in
      ap (after file 0) e

  pub bad_record : (e n x : ℕ) → e < n → x ≡ refusal (record_causes file e) → x ≢ 0 → after file e (n - e) ≡ refusal (records_causes file n) → x ≡ refusal (records_causes file n)
  bad_record e n x h ex nx inv =
      let s : n - e ≡ suc (n - (e + 1)) = omega arith in
      let g : after file e (n - e) ≡ refusal (record_causes file e) = rw (s, one_more file e (n - (e + 1)), ← ex, ne_eqb x 0 nx) in
      ex ∙ (sym g ∙ inv)

  pub good_record : (e n x : ℕ) → e < n → x ≡ refusal (record_causes file e) → x ≡ 0 → after file e (n - e) ≡ refusal (records_causes file n) → after file (e + 1) (n - (e + 1)) ≡ refusal (records_causes file n)
  good_record e n x h ex nx inv =
      let s : n - e ≡ suc (n - (e + 1)) = omega arith in
      let g : after file e (n - e) ≡ after file (e + 1) (n - (e + 1)) = rw (s, one_more file e (n - (e + 1)), ← ex, eq-eqb x 0 nx, add-one e) in
      sym g ∙ inv

  pub no_record : (e n : ℕ) → n ≤ e → after file e (n - e) ≡ refusal (records_causes file n) → 0 ≡ refusal (records_causes file n)
  unfolding range flat_map refusal
  no_record e n h inv =
      let s : n - e ≡ 0 = omega arith in
      rw s at inv

-- no refusal has the number of an answer
pub above_zero : (why : Refusal) → refusal_number why ≢ 0
above_zero refusal.Size = λ z. omega arith
above_zero refusal.Area = λ z. omega arith
above_zero refusal.Stamp = λ z. omega arith
above_zero refusal.Id = λ z. omega arith
above_zero refusal.Position = λ z. omega arith
above_zero refusal.Split = λ z. omega arith
above_zero refusal.Total = λ z. omega arith
above_zero refusal.Full = λ z. omega arith
above_zero refusal.Link = λ z. omega arith
above_zero refusal.Field = λ z. omega arith
above_zero refusal.Records = λ z. omega arith
above_zero refusal.Buffer = λ z. omega arith
above_zero refusal.Leaf = λ z. omega arith
above_zero refusal.Slot = λ z. omega arith
above_zero refusal.Parent = λ z. omega arith
above_zero refusal.Edits = λ z. omega arith
above_zero refusal.Hollow = λ z. omega arith
above_zero refusal.Over = λ z. omega arith
above_zero refusal.Shares = λ z. omega arith
above_zero refusal.Bounds = λ z. omega arith
above_zero refusal.Unsound = λ z. omega arith

-- the whole file's answer, by the records' number
pub by_answer : (file : List ℕ) → length file % 16 ≡ 0 → edits file ≤ 512 → (r : Result (Unit {0}) Refusal) → number_of r ≡ refusal (records_causes file (edits file)) → check file ≡ numbered r
by_answer file whole few (Ok _) e = by_none file whole few 0 e refl
by_answer file whole few (Err why) e = by_records file whole few (refusal_number why) e (above_zero why)
