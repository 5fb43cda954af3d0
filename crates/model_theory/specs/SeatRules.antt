-- Seats on numbers alone: where the rules let an entry pass, below a share always, one is free, and the free entries go on covering all unused shares;
-- audit's three tests say the same.
use Rattle.std.specs.Prelude.{◌≡◌, refl, ◌≢◌, Bool, true, false, cond, not, ◌&&◌, ◌||◌, List, ℕ, zero, suc, ◌+◌, ◌-◌, ◌≤◌, ◌<◌, leb, eqb, length, get_or, set}
use Rattle.std.proofs.Common.{ap, ap₂, ◌∙◌, arith, get_or-set_same, get_or-set_other, lt-ltb, ltb-true, le-leb, leb-true, leb-false, eq-eqb, ne_eqb, eqb-true}
use Rattle.std.proofs.Math.Decide.{ℕ_discrete, dec_lt}
use Rattle.std.proofs.lemmas.Bool.{lt-leb}
use Rattle.model.specs.Node.{wrap}
use Rattle.model.specs.Seats.{seats_of, no_charges, sum_from, over_seats, sum, share, charge, unused, all_unused, others_unused, free, within_limit, over, charged, FairShares, Fair, is_fair}
use Rattle.model.specs.declared.seats.Seats.{Seats}
use Rattle.model_theory.specs.AuditTests.{both, zero_at}

-- sums of the same numbers, and of numbers that differ at one place
sum_same : (f g : ℕ → ℕ) (k n : ℕ) → ((j : ℕ) → k ≤ j → f j ≡ g j) → sum_from f k n ≡ sum_from g k n
unfolding sum_from
sum_same f g k zero h = refl
sum_same f g k (suc n) h = ap₂ ◌+◌ (h k (omega arith)) (sum_same f g (suc k) n (λ j le. h j (omega arith)))

sum_but : (f g : ℕ → ℕ) (i k n : ℕ) → ((j : ℕ) → j ≢ i → f j ≡ g j) → k ≤ i → i < k + n → sum_from f k n + g i ≡ sum_from g k n + f i
unfolding sum_from
sum_but f g i k zero h lo hi = absurd (omega arith)
sum_but f g i k (suc n) h lo hi = go (ℕ_discrete k i) (λ ne. sum_but f g i (suc k) n h (above ne (dec_lt k i)) (omega arith))
  where
    above : k ≢ i → Dec (k < i) → suc k ≤ i
    above ne (yes lt) = lt
    above ne (no ge) = absurd (ne (omega arith))

    go : Dec (k ≡ i) → (k ≢ i → sum_from f (suc k) n + g i ≡ sum_from g (suc k) n + f i) → f k + sum_from f (suc k) n + g i ≡ g k + sum_from g (suc k) n + f i
    go (yes e) ih = (let s = sum_same f g (suc k) n (λ j le. h j (λ z. omega arith)) in let a : f k ≡ f i = ap f e in let b : g k ≡ g i = ap g e in omega arith)
    go (no ne) ih = (let s = ih ne in let a = h k ne in omega arith)

-- one seat's and the others'
but_one : (f : ℕ → ℕ) (i : ℕ) → i < 8 → over_seats (λ j. cond (eqb j i) 0 (f j)) + f i ≡ over_seats f
but_one f i lt =
    let z = sum_but (λ j. cond (eqb j i) 0 (f j)) f i 0 8 (λ j ne. rw (ne_eqb j i ne)) (omega arith) (omega arith) in
    let y : cond (eqb i i) 0 (f i) ≡ 0 = rw (eq-eqb i i refl) in
    omega arith

-- the rules in words
pub over_when : (limit n : ℕ) (b : Seats) (i : ℕ) → (over limit n b i).applies ≡ true → (share b i ≤ charge b i) × (free limit n ≤ others_unused b i)
over_when limit n b i e =
    let r = both (leb (share b i) (charge b i)) (leb (free limit n) (others_unused b i)) e in
    (leb-true (share b i) (charge b i) r.0, leb-true (free limit n) (others_unused b i) r.1)

pub over_then : (limit n : ℕ) (b : Seats) (i : ℕ) → (share b i ≤ charge b i) × (free limit n ≤ others_unused b i) → (over limit n b i).applies ≡ true
over_then limit n b i h = rw (le-leb (share b i) (charge b i) h.0, le-leb (free limit n) (others_unused b i) h.1)

-- below its share no seat is over the rules
pub below_share : (limit n : ℕ) (b : Seats) (i : ℕ) → charge b i < share b i → (over limit n b i).applies ≡ false
below_share limit n b i lt = rw (lt-leb (share b i) (charge b i) lt)

module _ (limit n : ℕ) (b : Seats) (f : FairShares limit n b) (i : ℕ) (seat : i < 8) where
  -- the unused shares of all are seat i's and the others'
  parts : others_unused b i + (share b i - charge b i) ≡ all_unused b
  parts = but_one (unused b) i seat

  -- where the rules let an entry pass, the free entries outnumber the others' unused shares, below the share too
  pub outnumber : (over limit n b i).applies ≡ false → others_unused b i < limit - n
  outnumber e = go (dec_lt (charge b i) (share b i))
    where
      go : Dec (charge b i < share b i) → others_unused b i < limit - n
      go (yes lt) = (let z = parts in let y = f.covers in omega arith)
      go (no ge) = leb-false (limit - n) (others_unused b i) (rw (le-leb (share b i) (charge b i) (omega arith)) at e)

  -- one entry more for a seat that may take it: no charge goes round
  pub fair_take : length b.charges ≡ 8 → limit ≤ 65536 → (over limit n b i).applies ≡ false → FairShares limit (n + 1) (charged i b)
  fair_take eight small e =
      let lt = outnumber e in
      let cs : List ℕ = set b.charges i (wrap (charge b i + 1)) in
      let now : get_or cs i 0 ≡ charge b i + 1 = get_or-set_same b.charges i (wrap (charge b i + 1)) 0 (omega arith) ∙ (let z = but_one (charge b) i seat in let y = f.charges in omega arith) in
      let others : (j : ℕ) → j ≢ i → get_or cs j 0 ≡ charge b j = λ j ne. get_or-set_other b.charges i j (wrap (charge b i + 1)) 0 ne in
      record {
        shares = f.shares;
        charges = (let z = sum_but (λ j. get_or cs j 0) (charge b) i 0 8 others (omega arith) (omega arith) in let x = f.charges in omega arith);
        covers = (let z = sum_but (λ j. share b j - get_or cs j 0) (unused b) i 0 8 (λ j ne. ap (λ (m : ℕ). share b j - m) (others j ne)) (omega arith) (omega arith) in
            let v = parts in let u = f.covers in omega arith);
      }

-- make and reset
no_charges_law : sum no_charges + 1 ≡ 1
unfolding sum_from
no_charges_law = refl

pub fair_begun : (limit : ℕ) (seated : Bool) (shares : List ℕ) → sum shares < limit → FairShares limit 1 (seats_of seated shares no_charges)
fair_begun limit seated shares lt =
    let z : all_unused (seats_of seated shares no_charges) ≡ sum shares = sum_same (unused (seats_of seated shares no_charges)) (λ j. get_or shares j 0) 0 8 (λ j le. let y = zero_at 8 j in omega arith) in
    record { shares = lt; charges = no_charges_law; covers = omega arith }

-- audit's tests
pub fair_exactly : (limit n : ℕ) (b : Seats) → (is_fair limit n b ≡ true → Fair limit n b) × (Fair limit n b → is_fair limit n b ≡ true)
unfolding is_fair
fair_exactly limit n b = (λ e s. there (rw s at e), λ f. back b.seated refl f)
  where
    there : (within_limit limit b.shares && eqb (sum b.charges + 1) n && leb (all_unused b) (free limit n)) ≡ true → FairShares limit n b
    there q =
        let r = both (within_limit limit b.shares && eqb (sum b.charges + 1) n) (leb (all_unused b) (free limit n)) q in
        let s = both (within_limit limit b.shares) (eqb (sum b.charges + 1) n) r.0 in
        record { shares = ltb-true (sum b.shares) limit s.0; charges = eqb-true (sum b.charges + 1) n s.1; covers = leb-true (all_unused b) (free limit n) r.1 }

    back : (s : Bool) → b.seated ≡ s → Fair limit n b → (not b.seated || (within_limit limit b.shares && eqb (sum b.charges + 1) n && leb (all_unused b) (free limit n))) ≡ true
    back false e f = rw e
    back true e f = rw (e, lt-ltb (sum b.shares) limit (f e).shares, eq-eqb (sum b.charges + 1) n (f e).charges, le-leb (all_unused b) (free limit n) (f e).covers)
