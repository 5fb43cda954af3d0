-- The sums of the bounds decide what a choice of lengths can do: every choice keeps between them, and every number between them is met. So an
-- entry could hold p exactly if the lowest lengths before it come to at most p, the highest with its own to more than p, and its own isn't 0.
use Rattle.std.specs.Prelude.{◌≡◌, refl, List, [], ◌∷◌, ℕ, zero, suc, ◌+◌, ◌-◌, ◌≤◌, ◌<◌, length, get_or, take}
use Rattle.std.proofs.Common.{ap, not-suc-le-zero, arith}
use Rattle.std.proofs.Math.Decide.{dec_lt}
use Rattle.model.specs.Lists.{sum_by, All}
use Rattle.model.specs.Row.{Entry, length_in, total}
use Rattle.model.specs.Choice.{low, high, behind, Chosen, sum_before, CouldHold, FirstToHold, LastToHold, Earliest, Latest}
use Rattle.model.specs.Plan.{Ordered}

-- the sum of the lengths in view v of the first m entries
abbrev pub up_to : ℕ → ℕ → List Entry → ℕ
up_to v m es = total v (take m es)

one_more : (v m : ℕ) (es : List Entry) → m < length es → up_to v (suc m) es ≡ up_to v m es + length_in v (behind m es)
unfolding sum_by
one_more v m [] h = absurd (not-suc-le-zero h)
one_more v zero (e ∷ es) h = omega arith
one_more v (suc m) (e ∷ es) h = (let z = one_more v m es (omega arith) in omega arith)

more : (v m n : ℕ) (es : List Entry) → m ≤ n → up_to v m es ≤ up_to v n es
unfolding sum_by
more v zero n es h = omega arith
more v (suc m) n [] h = omega arith
more v (suc m) zero (e ∷ es) h = absurd (omega arith)
more v (suc m) (suc n) (e ∷ es) h = (let z = more v m n es (omega arith) in omega arith)

all_of : (v : ℕ) (es : List Entry) (n : ℕ) → length es ≤ n → up_to v n es ≡ total v es
unfolding sum_by
all_of v [] zero h = refl
all_of v [] (suc n) h = refl
all_of v (e ∷ es) zero h = absurd (omega arith)
all_of v (e ∷ es) (suc n) h = ap (λ (s : ℕ). length_in v e + s) (all_of v es n (omega arith))

low_high : (m : ℕ) (es : List Entry) → Ordered es → up_to 0 m es ≤ up_to 1 m es
unfolding sum_by All
low_high zero es o = omega arith
low_high (suc m) [] o = omega arith
low_high (suc m) (e ∷ es) o = (let z = low_high m es o.1 in let y = o.0 in omega arith)

pub totals_high : (es : List Entry) → Ordered es → total 0 es ≤ total 1 es
totals_high es o = (let z = low_high (length es) es o in let a = all_of 0 es (length es) (omega arith) in let b = all_of 1 es (length es) (omega arith) in omega arith)

own_order : (m : ℕ) (es : List Entry) → Ordered es → m < length es → low (behind m es) ≤ high (behind m es)
unfolding All
own_order m [] o h = absurd (not-suc-le-zero h)
own_order zero (e ∷ es) o h = o.0
own_order (suc m) (e ∷ es) o h = own_order m es o.1 (omega arith)

-- every choice keeps within the sums of the bounds
pub bounds : (cs : List ℕ) (es : List Entry) → Chosen cs es → (m : ℕ) → (up_to 0 m es ≤ sum_before m cs) × (sum_before m cs ≤ up_to 1 m es)
unfolding Chosen sum_by
bounds [] [] c zero = (omega arith, omega arith)
bounds [] [] c (suc m) = (omega arith, omega arith)
bounds [] (e ∷ es) c m = absurd c
bounds (x ∷ cs) [] c m = absurd c
bounds (x ∷ cs) (e ∷ es) c zero = (omega arith, omega arith)
bounds (x ∷ cs) (e ∷ es) c (suc m) = (let z = bounds cs es c.2 m in let a = c.0 in let b = c.1 in (omega arith, omega arith))

own_bound : (cs : List ℕ) (es : List Entry) → Chosen cs es → (m : ℕ) → m < length es → get_or cs m 0 ≤ high (behind m es)
unfolding Chosen
own_bound [] [] c m h = absurd (not-suc-le-zero h)
own_bound [] (e ∷ es) c m h = absurd c
own_bound (x ∷ cs) [] c m h = absurd c
own_bound (x ∷ cs) (e ∷ es) c zero h = c.1
own_bound (x ∷ cs) (e ∷ es) c (suc m) h = own_bound cs es c.2 m (omega arith)

-- the lowest lengths are a choice
lows : (es : List Entry) → Ordered es → (cs : List ℕ) × Chosen cs es
unfolding Chosen All
lows [] o = ([], tt)
lows (e ∷ es) o = let r = lows es o.1 in (low e ∷ r.0, (omega arith, o.0, r.1))

-- any sum between the bounds is that of a choice, with the entry's own highest length behind it
pub pick : (es : List Entry) → Ordered es → (m s : ℕ) → m < length es → up_to 0 m es ≤ s → s ≤ up_to 1 m es → (cs : List ℕ) × Chosen cs es × (sum_before m cs ≡ s) × (get_or cs m 0 ≡ high (behind m es))
unfolding Chosen All sum_by
pick [] o m s h lo hi = absurd (not-suc-le-zero h)
pick (e ∷ es) o zero s h lo hi = let r = lows es o.1 in (high e ∷ r.0, (o.0, omega arith, r.1), omega arith, refl)
pick (e ∷ es) o (suc m) s h lo hi = (let lh = low_high m es o.1 in elim (dec_lt (low e + up_to 1 m es) s) [
  | yes lt ↦ (let r = pick es o.1 m (up_to 1 m es) (omega arith) lh (omega arith) in
      ((s - up_to 1 m es) ∷ r.0, (omega arith, omega arith, r.1), (let z = r.2 in omega arith), r.3))
  | no ge ↦ (let r = pick es o.1 m (s - low e) (omega arith) (omega arith) (omega arith) in
      (low e ∷ r.0, (omega arith, o.0, r.1), (let z = r.2 in omega arith), r.3))
])

-- could hold, by the sums of the bounds
pub could_of : (es : List Entry) (m p : ℕ) → CouldHold es m p → (up_to 0 m es ≤ p) × (p < up_to 1 m es + high (behind m es)) × (0 < high (behind m es))
could_of es m p h =
    let b = bounds h.chosen es h.within m in
    let o = own_bound h.chosen es h.within m h.there in
    let x = h.before in
    let y = h.above in
    (omega arith, omega arith, omega arith)

pub of_could : (es : List Entry) → Ordered es → (m p : ℕ) → m < length es → up_to 0 m es ≤ p → p < up_to 1 m es + high (behind m es) → 0 < high (behind m es) → CouldHold es m p
of_could es o m p lm lo hi some = go (dec_lt p (up_to 1 m es))
  where
    go : Dec (p < up_to 1 m es) → CouldHold es m p
    go (yes lt) =
        let r = pick es o m p lm lo (omega arith) in
        let z = r.2 in
        let y = r.3 in
        record { chosen = r.0; within = r.1; there = lm; before = omega arith; above = omega arith }
    go (no ge) =
        let r = pick es o m (up_to 1 m es) lm (low_high m es o) (omega arith) in
        let z = r.2 in
        let y = r.3 in
        record { chosen = r.0; within = r.1; there = lm; before = omega arith; above = omega arith }

-- the entry that holds a position of view v: it stands behind m others
pub record HoldsPosition (v p : ℕ) (es : List Entry) (m : ℕ) : Type 0 where
  pub there : m < length es
  pub start : up_to v m es ≤ p
  pub end : p < up_to v m es + length_in v (behind m es)

-- below the view's total there is one
pub holder : (v p : ℕ) (es : List Entry) → p < total v es → (m : ℕ) × HoldsPosition v p es m
unfolding sum_by
holder v p [] h = absurd (not-suc-le-zero h)
holder v p (e ∷ es) h = elim (dec_lt p (length_in v e)) [
  | yes lt ↦ (0, record { there = omega arith; start = omega arith; end = omega arith })
  | no ge ↦ (let r = holder v (p - length_in v e) es (omega arith) in
      let x = r.1.there in
      let a = r.1.start in
      let b = r.1.end in
      (suc r.0, record { there = omega arith; start = omega arith; end = omega arith }))
]

-- the first that could hold p holds it in the highest lengths
pub first_is : (es : List Entry) → Ordered es → (m p : ℕ) → HoldsPosition 1 p es m → FirstToHold es m p
first_is es o m p h = record {
  could = of_could es o m p h.there (let z = low_high m es o in let y = h.start in omega arith) h.end (let y = h.start in let x = h.end in omega arith);
  first = λ j c. elim (dec_lt j m) [
    | yes lt ↦ absurd (let z = could_of es j p c in let a = one_more 1 j es c.there in let b = more 1 (suc j) m es lt in let y = h.start in omega arith)
    | no ge ↦ omega arith
  ];
}

-- the last that could hold p holds it in the lowest lengths, where their total is above p
pub last_low : (es : List Entry) → Ordered es → (m p : ℕ) → HoldsPosition 0 p es m → LastToHold es m p
last_low es o m p h =
    let q = own_order m es o h.there in
    let z = low_high m es o in
    let y = h.start in
    let x = h.end in
    record {
      could = of_could es o m p h.there y (omega arith) (omega arith);
      last = λ j c. elim (dec_lt m j) [
        | yes lt ↦ absurd (let u = could_of es j p c in let a = one_more 0 m es h.there in let b = more 0 (suc m) j es lt in omega arith)
        | no ge ↦ omega arith
      ];
    }

-- and else it holds the last position in the highest lengths
pub last_high : (es : List Entry) → Ordered es → (m p : ℕ) → total 0 es ≤ p → p < total 1 es → HoldsPosition 1 (total 1 es - 1) es m → LastToHold es m p
last_high es o m p lo hi h =
    let y = h.start in
    let x = h.end in
    let a = one_more 1 m es h.there in
    let e0 = all_of 0 es (length es) (omega arith) in
    let e1 = all_of 1 es (length es) (omega arith) in
    let b = more 1 (suc m) (length es) es h.there in
    let d = more 0 m (length es) es (let z = h.there in omega arith) in
    record {
      could = of_could es o m p h.there (omega arith) (omega arith) (omega arith);
      last = λ j c. elim (dec_lt m j) [
        | yes lt ↦ absurd (let u = could_of es j p c in let f = one_more 1 j es c.there in let g = more 1 (suc m) j es lt in let k = more 1 (suc j) (length es) es c.there in omega arith)
        | no ge ↦ omega arith
      ];
    }

-- at or past the highest total no entry could hold p
pub none_could : (es : List Entry) (p : ℕ) → total 1 es ≤ p → (m : ℕ) → CouldHold es m p → ⊥
none_could es p le m c =
    let u = could_of es m p c in
    let a = one_more 1 m es c.there in
    let e1 = all_of 1 es (length es) (omega arith) in
    let b = more 1 (suc m) (length es) es c.there in
    omega arith

-- an entry's earliest position is the sum of the lowest lengths before it, its latest that of the highest
pub earliest_is : (es : List Entry) → Ordered es → (m : ℕ) → m < length es → Earliest es m (up_to 0 m es)
earliest_is es o m lm =
    let r = pick es o m (up_to 0 m es) lm (omega arith) (low_high m es o) in
    record { could = record { chosen = r.0; within = r.1; there = lm; is = r.2 }; least = λ q c. (let b = bounds c.chosen es c.within m in let e = c.is in omega arith) }

pub latest_is : (es : List Entry) → Ordered es → (m : ℕ) → m < length es → Latest es m (up_to 1 m es)
latest_is es o m lm =
    let r = pick es o m (up_to 1 m es) lm (low_high m es o) (omega arith) in
    record { could = record { chosen = r.0; within = r.1; there = lm; is = r.2 }; greatest = λ q c. (let b = bounds c.chosen es c.within m in let e = c.is in omega arith) }
