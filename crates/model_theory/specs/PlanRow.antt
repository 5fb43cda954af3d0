-- What the planning row answers, by the choice of lengths: an entry's positions are the sums of the bounds before it; the first entry that could hold a
-- position is found in the highest lengths; the last in the lowest, or at the last position of the highest.
use Rattle.std.specs.Prelude.{◌≡◌, refl, Bool, true, false, cond, List, [], ◌∷◌, ◌++◌, ℕ, zero, suc, ◌+◌, ◌-◌, ◌%◌, ◌^◌, ◌≤◌, ◌<◌, eqb, length}
use Rattle.std.proofs.Common.{sym, ◌∙◌, not-suc-le-zero, arith}
use Rattle.std.proofs.Math.Path.{ap, subst}
use Rattle.std.proofs.Math.Decide.{dec_lt}
use Rattle.std.proofs.Math.ListN.{take}
use borrow.Author.Tests.{lt-ltb, le-ltb, le-leb, lt-leb, ltb-false}
use Rattle.model.specs.Kind.{planning}
use Rattle.model.specs.Lists.{sum_by, All, refusal}
use Rattle.model.specs.Row as row
use Rattle.model.specs.Row.{Row, Entry, Moved, moved, done, refused, found, length_in, total, before, from, unless, row_move, row_step}
use Rattle.model.specs.Choice.{behind, CouldHold, FirstToHold, LastToHold, Earliest, Latest}
use Rattle.model.specs.Plan as plan
use Rattle.model.specs.Plan.{id_only, row_plan, Ordered, ByChoice}
use Rattle.model_theory.specs.CallSimulates.{row_passed}
use Rattle.model_theory.specs.RowBounds.{Level, step_level}
use Rattle.model_theory.specs.RowNumbers.{number_is}
use Rattle.model_theory.specs.PlanChoice.{up_to, HoldsPosition, holder, first_is, last_low, last_high, none_could, totals_high, earliest_is, latest_is}

-- no lowest above a highest, as the kind tests it
pub ordered_of : (es : List Entry) → Level planning es → Ordered es
unfolding All
ordered_of [] h = tt
ordered_of (e ∷ es) h = (ltb-false (length_in 1 e) (length_in 0 e) h.0, ordered_of es h.1)

-- the entries before one are as many first ones
before_first : (i : ℕ) (es : List Entry) → before i es ≡ take (length (before i es)) es
unfolding before
before_first i [] = refl
before_first i (e ∷ es) = go (eqb e.id i) (before_first i es)
  where
    go : (b : Bool) → before i es ≡ take (length (before i es)) es → cond b [] (e ∷ before i es) ≡ take (length (cond b [] (e ∷ before i es))) (e ∷ es)
    go true k = refl
    go false k = ap (λ (xs : List Entry). e ∷ xs) k

sum_before_law : (v i : ℕ) (es : List Entry) → total v (before i es) ≡ up_to v (length (before i es)) es
sum_before_law v i es = ap (total v) (before_first i es)

-- and the first of a row in which an entry was put behind them
first_before : (xs : List Entry) (e : Entry) (ys : List Entry) → take (length xs) (xs ++ e ∷ ys) ≡ xs
first_before [] e ys = refl
first_before (x ∷ xs) e ys = ap (λ (zs : List Entry). x ∷ zs) (first_before xs e ys)

one_there : (xs : List Entry) (e : Entry) (ys : List Entry) → length xs < length (xs ++ e ∷ ys)
one_there [] e ys = omega arith
one_there (x ∷ xs) e ys = (let z = one_there xs e ys in omega arith)

-- the id that a lookup finds
id_found : (v p s f q : ℕ) (es : List Entry) (m : ℕ) → m < length es → s + up_to v m es ≤ p → p < s + up_to v m es + length_in v (behind m es) → take 1 (found planning v p s f q es) ≡ (behind m es).id ∷ []
unfolding found sum_by
id_found v p s f q [] m lm lo hi = absurd (not-suc-le-zero lm)
id_found v p s f q (e ∷ es) zero lm lo hi = rw (le-leb s p (omega arith), lt-ltb p (s + length_in v e) (omega arith))
id_found v p s f q (e ∷ es) (suc m) lm lo hi =
    rw (le-leb s p (omega arith), le-ltb p (s + length_in v e) (omega arith)) (id_found v p (s + length_in v e) (f + length_in 1 e) (q + length_in 0 e) es m (omega arith) (omega arith) (omega arith))

module _ (r : Row) where
  looked : (v p : ℕ) → p < total v r.entries → (m : ℕ) → HoldsPosition v p r.entries m → id_only (row_step planning r (row.lookup v p)).answer ≡ done ((behind m r.entries).id ∷ [])
  unfolding row_step row_move unless refusal
  looked v p lt m h =
      rw (lt-leb (total v r.entries) p lt) (ap done (id_found v p 0 0 0 r.entries m h.there (let z = h.start in omega arith) (let z = h.end in omega arith)))

  lost : (v p : ℕ) → total v r.entries ≤ p → (row_step planning r (row.lookup v p)).answer ≡ refused 5
  unfolding row_step row_move unless refusal
  lost v p le = rw (le-leb (total v r.entries) p le)

  module _ (level : Level planning r.entries) (small : total 1 r.entries < 4294967296) where
    o : Ordered r.entries
    o = ordered_of r.entries level

    first_holding : (p : ℕ) → p < total 1 r.entries → (m : ℕ) × ((row_plan r (plan.first_at p)).answer ≡ done ((behind m r.entries).id ∷ [])) × FirstToHold r.entries m p
    unfolding row_plan
    first_holding p lt = let h = holder 1 p r.entries lt in (h.0, looked 1 p lt h.0 h.1, first_is r.entries o h.0 p h.1)

    last_holding : (p : ℕ) → p < total 1 r.entries → (m : ℕ) × ((row_plan r (plan.last_at p)).answer ≡ done ((behind m r.entries).id ∷ [])) × LastToHold r.entries m p
    unfolding row_plan
    last_holding p lt = elim (dec_lt p (total 0 r.entries)) [
      | yes l ↦ (let h = holder 0 p r.entries l in (h.0, rw (lt-ltb p (total 0 r.entries) l) (looked 0 p l h.0 h.1), last_low r.entries o h.0 p h.1))
      | no ge ↦ (let h = holder 1 (total 1 r.entries - 1) r.entries (omega arith) in
          let w : (total 1 r.entries - 1) % 2 ^ 32 ≡ total 1 r.entries - 1 = (let z = small in omega arith) in
          (h.0, rw (le-ltb p (total 0 r.entries) (omega arith), lt-ltb p (total 1 r.entries) lt, w) (looked 1 (total 1 r.entries - 1) (omega arith) h.0 h.1), last_high r.entries o h.0 p (omega arith) lt h.1))
    ]

    -- at or past the highest total, which is at or past the lowest
    past_holding : (p : ℕ) → total 1 r.entries ≤ p → ((row_plan r (plan.first_at p)).answer ≡ refused 5) × ((row_plan r (plan.last_at p)).answer ≡ refused 5) × ((m : ℕ) → CouldHold r.entries m p → ⊥)
    unfolding row_plan
    past_holding p le =
        (ap id_only (lost 1 p le), rw (le-ltb p (total 0 r.entries) (let z = totals_high r.entries o in omega arith), le-ltb p (total 1 r.entries) le) (ap id_only (lost 1 p le)), none_could r.entries p le)

    -- an entry that is there
    module _ (i : ℕ) (known : i < length r.entries) (there : length (before i r.entries) < length r.entries) where
      ranked : (v : ℕ) → (row_step planning r (row.rank v i)).answer ≡ done (total v (before i r.entries) ∷ [])
      unfolding row_step row_move unless refusal
      ranked v = rw (lt-leb (length r.entries) i known)

      earliest_at : (p : ℕ) × ((row_plan r (plan.earliest i)).answer ≡ done (p ∷ [])) × Earliest r.entries (length (before i r.entries)) p
      unfolding row_plan
      earliest_at = (total 0 (before i r.entries), ranked 0, subst (Earliest r.entries (length (before i r.entries))) (sym (sum_before_law 0 i r.entries)) (earliest_is r.entries o (length (before i r.entries)) there))

      latest_at : (p : ℕ) × ((row_plan r (plan.latest i)).answer ≡ done (p ∷ [])) × Latest r.entries (length (before i r.entries)) p
      unfolding row_plan
      latest_at = (total 1 (before i r.entries), ranked 1, subst (Latest r.entries (length (before i r.entries))) (sym (sum_before_law 1 i r.entries)) (latest_is r.entries o (length (before i r.entries)) there))

    -- an insert that is answered
    module _ (i : ℕ) (l : List ℕ) where
      abbrev behind_others : List Entry
      behind_others = row.inserted i (row.new_entry r l) r.entries

      abbrev position : ℕ
      position = total 1 (before i r.entries)

      answered : (row_plan r (plan.insert i l)).answer.number ≡ 0 → row_step planning r (row.insert i l) ≡ moved (row.row r.limit behind_others) (done (length r.entries ∷ position ∷ []))
      unfolding row_plan row_step row_move
      answered e = row_passed r _ behind_others (done (length r.entries ∷ position ∷ [])) (sym (number_is r _ behind_others (length r.entries ∷ position ∷ [])) ∙ e)

      inserted_at : (row_plan r (plan.insert i l)).answer.number ≡ 0
          → (p : ℕ) × ((row_plan r (plan.insert i l)).answer ≡ done (length r.entries ∷ p ∷ [])) × Latest (row_plan r (plan.insert i l)).after.entries (length (before i r.entries)) p
      unfolding row_plan
      inserted_at e =
          let q = answered e in
          let w : Level planning behind_others = subst (λ (m : Moved Row). Level planning m.after.entries) q (step_level planning r (row.insert i l) level) in
          let first : take (length (before i r.entries)) behind_others ≡ before i r.entries = first_before (before i r.entries) (row.new_entry r l) (from i r.entries) in (
            position,
            ap (λ (m : Moved Row). m.answer) q,
            subst (λ (m : Moved Row). Latest m.after.entries (length (before i r.entries)) position) (sym q)
                (subst (Latest behind_others (length (before i r.entries))) (ap (total 1) first)
                (latest_is behind_others (ordered_of behind_others w) (length (before i r.entries)) (one_there (before i r.entries) (row.new_entry r l) (from i r.entries)))),
          )

    pub by_choice : ((i : ℕ) → i < length r.entries → length (before i r.entries) < length r.entries) → ByChoice r
    by_choice there = record {
      ordered = o;
      earliest = λ i known. earliest_at i known (there i known);
      latest = λ i known. latest_at i known (there i known);
      first = first_holding;
      last = last_holding;
      past = past_holding;
      inserted = inserted_at;
    }
