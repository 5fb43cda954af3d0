-- Splits on the row (document 02, CR 9): 17 comes exactly where a part is hollow and nothing up to 6 is refused, and a split that is answered leaves
-- two entries of which neither is hollow.
use Rattle.std.specs.Prelude.{◌≡◌, ◌≢◌, ◌⊎◌, Bool, ◌||◌, not, ℕ, ◌-◌, ◌<◌, ltb, eqb, length, get_or}
use Rattle.std.proofs.Math.Path.{refl}
use Rattle.std.proofs.Common.{sym, ap, ◌∙◌, subst, inl, inr, arith, eq-eqb, ne_eqb, le-ltb, ltb-true, ltb-false, leb-false}
use Rattle.std.proofs.Math.Bool.{true, false, cond}
use mathlib.Core.List.{List, [], ◌∷◌, ◌++◌, zip_with, append_assoc}
use Rattle.std.proofs.Math.Decide.{ℕ_discrete}
use Rattle.model.specs.Kind.{views_of, too_many_lines, hollow}
use Rattle.model.specs.declared.shape.Kind.{Kind}
use Rattle.model.specs.Lists.{All, some, Cause, cause, refusal}
use Rattle.model.specs.Row as row
use Rattle.model.specs.Row.{Row, Entry, entry, Moved, moved, refused, before, after, new_entry, divided, row_move, row_step}
use Rattle.model.specs.Promise.{Hollow, NotHollow, HollowPart, up_to_six, Parts}
use Rattle.model_laws.specs.Lists.{all_append, none_views}
use Rattle.model_tree.specs.Lists.{all_map}
use Rattle.model_tree.specs.Row.{RowWithout, from_at}
use Rattle.model_theory.specs.RowViews.{or_false, none_in, one_in}
use Rattle.model_theory.specs.CallOpen.{clear}
use Rattle.model_theory.specs.CallSimulates.{row_passed}
use Rattle.model_theory.specs.RowEach.{before_all}
use Rattle.model_theory.specs.RowNumbers.{number_is, comes_only, comes_then}

-- what the test says ------------------------------------------------------------------------------------------------------------------------

module _ (K : Kind) (l : List ℕ) where
  abbrev above : ℕ → Bool
  above v = ltb 0 (get_or l v 0)

  pub hollow_yes : hollow K l ≡ true → Hollow K l
  hollow_yes e v lv = (let z = ltb-false 0 (get_or l v 0) (none_in above K.views (go (some above (views_of K)) e) v lv) in omega arith)
    where
      go : (b : Bool) → not b ≡ true → b ≡ false
      go true q = sym q
      go false q = refl

  pub yes_hollow : Hollow K l → hollow K l ≡ true
  yes_hollow h = ap not (none_views K.views above (λ v lv. le-ltb 0 (get_or l v 0) (let z = h v lv in omega arith)))

  pub hollow_no : hollow K l ≡ false → NotHollow K l
  hollow_no e = let y = one_in above K.views (go (some above (views_of K)) e) in (y.0, y.1, ltb-true 0 (get_or l y.0 0) y.2)
    where
      go : (b : Bool) → not b ≡ false → b ≡ true
      go true q = refl
      go false q = sym q

-- the lengths in a row of two entries side by side -------------------------------------------------------------------------------------------

lengths_first : (i : ℕ) (es : List Entry) (e : Entry) (fs : List Entry) → RowWithout i es → e.id ≡ i → row.lengths_of i (es ++ e ∷ fs) ≡ e.lengths
lengths_first i es e fs w q = ap (λ (xs : List Entry). (get_or xs 0 (entry i [])).lengths) (from_at i es e fs w q)

lengths_second : (i : ℕ) (es : List Entry) (d e : Entry) (fs : List Entry) → RowWithout i es → d.id ≢ i → e.id ≡ i → row.lengths_of i (es ++ d ∷ e ∷ fs) ≡ e.lengths
unfolding All
lengths_second i es d e fs w n q =
    ap (row.lengths_of i) (sym (append_assoc es (d ∷ []) (e ∷ fs))) ∙ lengths_first i (es ++ d ∷ []) e fs (all_append (λ x. x.id ≢ i) es (d ∷ []) w (n, tt)) q

before_without : (i : ℕ) (es : List Entry) → RowWithout i (before i es)
unfolding All before
before_without i [] = tt
before_without i (e ∷ es) = go (ℕ_discrete e.id i) (before_without i es)
  where
    go : Dec (e.id ≡ i) → RowWithout i (before i es) → RowWithout i (cond (eqb e.id i) [] (e ∷ before i es))
    go (yes q) k = rw (eq-eqb e.id i q) tt
    go (no ne) k = rw (ne_eqb e.id i ne) (ne, k)

-- a split ---------------------------------------------------------------------------------------------------------------------------------

either_true : (a b : Bool) → (a || b) ≡ true → (a ≡ true) ⊎ (b ≡ true)
either_true true b e = inl refl
either_true false b e = inr e

module _ (K : Kind) (r : Row) (flag : Bool) (i : ℕ) (l : List ℕ) where
  abbrev own : List ℕ
  own = row.lengths_of i r.entries

  abbrev rest : List ℕ
  rest = zip_with ◌-◌ own l

  abbrev call : Moved Row
  call = row_step K r (row.split flag i l)

  abbrev first : List Cause
  first = cause 10 (too_many_lines K l) ∷ row.no_such_id r i ∷ row.too_much K l own ∷ []

  number : call.answer.number ≡ refusal (first ++ row.hollow_part K l own ∷ row.crossed_parts K l own ∷ row.full r ∷ [])
  unfolding row_move row_step refusal
  number = go (too_many_lines K l)
    where
      go : (b : Bool) → (cond b (moved r (refused 10)) (row_move K r (row.split flag i l))).answer.number ≡ cond b 10 (refusal (row.no_such_id r i ∷ row.too_much K l own ∷ row.hollow_part K l own ∷ row.crossed_parts K l own ∷ row.full r ∷ []))
      go true = refl
      go false = number_is r _ _ _

  part_yes : (hollow K l || hollow K rest) ≡ true → HollowPart K r i l
  part_yes e = go (either_true (hollow K l) (hollow K rest) e)
    where
      go : (hollow K l ≡ true) ⊎ (hollow K rest ≡ true) → HollowPart K r i l
      go (inl q) = inl (hollow_yes K l q)
      go (inr q) = inr (hollow_yes K rest q)

  yes_part : HollowPart K r i l → (hollow K l || hollow K rest) ≡ true
  yes_part (inl h) = rw (yes_hollow K l h)
  yes_part (inr h) = rw (yes_hollow K rest h) (last (hollow K l))
    where
      last : (b : Bool) → (b || true) ≡ true
      last true = refl
      last false = refl

  only : call.answer.number ≡ 17 → (up_to_six K r i l ≡ 0) × HollowPart K r i l
  unfolding All
  only e =
      let y = comes_only 17 first (row.crossed_parts K l own ∷ row.full r ∷ []) (row.hollow_part K l own).applies (λ z. omega arith) ((λ z. omega arith), ((λ z. omega arith), ((λ z. omega arith), tt))) ((λ z. omega arith), ((λ z. omega arith), tt)) (sym number ∙ e) in
      (y.0, part_yes y.1)

  exactly : up_to_six K r i l ≡ 0 → HollowPart K r i l → call.answer.number ≡ 17
  unfolding All
  exactly z h = number ∙ comes_then 17 first (row.crossed_parts K l own ∷ row.full r ∷ []) (row.hollow_part K l own).applies ((λ z. omega arith), ((λ z. omega arith), ((λ z. omega arith), tt))) (yes_part h) z

  -- a split that is answered
  module _ (below : All (λ e. e.id < length r.entries) r.entries) (answered : call.answer.number ≡ 0) where
    few : (too_many_lines K l ≡ false) × (refusal (row.no_such_id r i ∷ row.too_much K l own ∷ row.hollow_part K l own ∷ row.crossed_parts K l own ∷ row.full r ∷ []) ≡ 0)
    few = clear 10 (too_many_lines K l) _ (λ z. omega arith) (sym number ∙ answered)

    known : i < length r.entries
    known = leb-false (length r.entries) i (clear 4 (row.no_such_id r i).applies _ (λ z. omega arith) few.1).0

    parts : (hollow K l ≡ false) × (hollow K rest ≡ false)
    parts =
        let a = clear 4 (row.no_such_id r i).applies _ (λ z. omega arith) few.1 in
        let b = clear 6 (row.too_much K l own).applies _ (λ z. omega arith) a.1 in
        or_false (hollow K l) (hollow K rest) (clear 17 (row.hollow_part K l own).applies _ (λ z. omega arith) b.1).0

    left_is : call.after.entries ≡ divided flag i (new_entry r l) r.entries
    unfolding row_move row_step
    left_is = rw few.0 (ap (λ (m : Moved Row). m.after.entries) (row_passed r _ _ _ few.1))

    apart : RowWithout (length r.entries) (before i r.entries)
    apart = before_all (λ e. e.id ≢ length r.entries) i r.entries (all_map (λ e. e.id < length r.entries) (λ e. e.id ≢ length r.entries) (λ e lt q. omega arith) r.entries below)

    made_lengths : row.lengths_of (length r.entries) (divided flag i (new_entry r l) r.entries) ≡ l
    unfolding divided
    made_lengths = go flag
      where
        go : (b : Bool) → row.lengths_of (length r.entries) (before i r.entries ++ cond b (new_entry r l ∷ entry i rest ∷ after i r.entries) (entry i rest ∷ new_entry r l ∷ after i r.entries)) ≡ l
        go true = lengths_first (length r.entries) (before i r.entries) (new_entry r l) _ apart refl
        go false = lengths_second (length r.entries) (before i r.entries) (entry i rest) (new_entry r l) _ apart (λ q. let z = known in omega arith) refl

    left_lengths : row.lengths_of i (divided flag i (new_entry r l) r.entries) ≡ rest
    unfolding divided
    left_lengths = go flag
      where
        go : (b : Bool) → row.lengths_of i (before i r.entries ++ cond b (new_entry r l ∷ entry i rest ∷ after i r.entries) (entry i rest ∷ new_entry r l ∷ after i r.entries)) ≡ rest
        go true = lengths_second i (before i r.entries) (new_entry r l) (entry i rest) _ (before_without i r.entries) (λ q. let z = known in omega arith) refl
        go false = lengths_first i (before i r.entries) (entry i rest) _ (before_without i r.entries) refl

    made : NotHollow K (row.lengths_of (length r.entries) call.after.entries)
    made = subst (NotHollow K) (sym (ap (row.lengths_of (length r.entries)) left_is ∙ made_lengths)) (hollow_no K l parts.0)

    left : NotHollow K (row.lengths_of i call.after.entries)
    left = subst (NotHollow K) (sym (ap (row.lengths_of i) left_is ∙ left_lengths)) (hollow_no K rest parts.1)

-- on a row whose ids are below its count, as on every row that calls have made
pub parts_are : (K : Kind) (r : Row) → All (λ e. e.id < length r.entries) r.entries → (flag : Bool) (i : ℕ) (l : List ℕ) → Parts K r flag i l
parts_are K r below flag i l = record { only = only K r flag i l; exactly = exactly K r flag i l; made = made K r flag i l below; left = left K r flag i l below }
