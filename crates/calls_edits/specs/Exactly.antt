-- In an accepted file parents are smaller, so that `rests_on` says yes exactly where a chain of parents leads from one edit to the other, and the list
-- of a difference is exactly what it has to be (`exactly`); no other list is (`only_one`). Assumes nothing.
use Rattle.std.specs.Prelude.{◌≡◌, refl, ◌≢◌, ◌⊎◌, Bool, true, false, cond, ◌&&◌, ◌||◌, not, List, [], ◌∷◌, ℕ, zero, suc, ◌+◌, ◌<◌, ◌≤◌, length, eqb}
use Rattle.std.proofs.Common.{sym, ap, ap₂, subst, ◌∙◌, inl, inr, ⊎_elim, arith, eqb-true, eq-eqb, ne_eqb}
use Rattle.std.proofs.lemmas.Bool.{eqb-false}
use Rattle.model.specs.Lists.{range}
use Rattle.calls_edits.specs.Edits.{none, edits, left, right, Parent, by_left, by_right, Rests, itself, through, within, rests_on, picked, beyond}
use Rattle.calls_edits.specs.Promised.{In, here, later, Rising, done, more, Difference, Good}

-- chains ----------------------------------------------------------------------------------------------------------------------------------

pub chained : {file : List ℕ} {e f g : ℕ} → Rests file e f → Rests file f g → Rests file e g
chained itself r = r
chained (through q s) r = through q (chained s r)

some_of : (a b c : Bool) → (a || b || c) ≡ true → (a ≡ true) ⊎ ((b ≡ true) ⊎ (c ≡ true))
some_of true b c e = inl refl
some_of false true c e = inr (inl refl)
some_of false false c e = inr (inr e)

step_of : (p : ℕ) (b : Bool) → (not (eqb p none) && b) ≡ true → (p ≢ none) × (b ≡ true)
step_of p b = go (eqb p none) refl
  where
    go : (t : Bool) → eqb p none ≡ t → (not t && b) ≡ true → (p ≢ none) × (b ≡ true)
    go true q e = let z : ◌≡◌ {A = ℕ} 0 1 = cc in absurd (omega arith)
    go false q e = (eqb-false p none q, e)

within_rests : (file : List ℕ) (n e f : ℕ) → within file n e f ≡ true → Rests file e f
unfolding within
within_rests file zero e f h = subst (λ (x : ℕ). Rests file e x) (eqb-true e f h) itself
within_rests file (suc n) e f h =
    ⊎_elim (λ q. subst (λ (x : ℕ). Rests file e x) (eqb-true e f q) itself)
    (⊎_elim (λ q. through (by_left refl (step_of (left file e) _ q).0) (within_rests file n (left file e) f (step_of (left file e) _ q).1))
    (λ q. through (by_right refl (step_of (right file e) _ q).0) (within_rests file n (right file e) f (step_of (right file e) _ q).1)))
    (some_of (eqb e f) _ _ h)

or_left : (a b c : Bool) → a ≡ true → (a || b || c) ≡ true
or_left true b c e = refl
or_left false b c e = let z : ◌≡◌ {A = ℕ} 0 1 = cc in absurd (omega arith)

or_mid : (a b c : Bool) → b ≡ true → (a || b || c) ≡ true
or_mid true b c e = refl
or_mid false true c e = refl
or_mid false false c e = let z : ◌≡◌ {A = ℕ} 0 1 = cc in absurd (omega arith)

or_right : (a b c : Bool) → c ≡ true → (a || b || c) ≡ true
or_right true b c e = refl
or_right false true c e = refl
or_right false false c e = e

both : (p : ℕ) (b : Bool) → p ≢ none → b ≡ true → (not (eqb p none) && b) ≡ true
both p b h e = rw (ne_eqb p none h) e

step_in : (file : List ℕ) (n e p f : ℕ) → Parent file e p → within file n p f ≡ true → within file (suc n) e f ≡ true
unfolding within
step_in file n e p f (by_left q h) w =
    or_mid (eqb e f) _ _ (subst (λ (x : ℕ). (not (eqb x none) && within file n x f) ≡ true) (sym q) (both p _ h w))
step_in file n e p f (by_right q h) w =
    or_right (eqb e f) _ _ (subst (λ (x : ℕ). (not (eqb x none) && within file n x f) ≡ true) (sym q) (both p _ h w))

within_self : (file : List ℕ) (n e : ℕ) → within file n e e ≡ true
unfolding within
within_self file zero e = eq-eqb e e refl
within_self file (suc n) e = or_left (eqb e e) _ _ (eq-eqb e e refl)

-- every record is good
abbrev pub AllGood : List ℕ → Type 0
AllGood file = (e : ℕ) → e < edits file → Good file e

-- a chain from e has at most e parents
rests_within : {file : List ℕ} (good : AllGood file) (n : ℕ) {e f : ℕ} → e < edits file → e ≤ n → Rests file e f → within file n e f ≡ true
rests_within {file} good n {e} h g itself = within_self file n e
rests_within {file} good zero {e} {f} h g (through {p = p} q r) =
    let s : p < e = (good e h).parents p q in
    absurd (omega arith)
rests_within {file} good (suc n) {e} {f} h g (through {p = p} q r) =
    let s : p < e = (good e h).parents p q in
    step_in file n e p f q (rests_within good n (omega arith) (omega arith) r)

-- what an edit rests on isn't larger
rests_le : {file : List ℕ} (good : AllGood file) {e f : ℕ} → e < edits file → Rests file e f → f ≤ e
rests_le good h itself = omega arith
rests_le {file} good {e} {f} h (through {p = p} q r) =
    let s : p < e = (good e h).parents p q in
    let t : f ≤ p = rests_le good (omega arith) r in
    omega arith

module _ (file : List ℕ) (good : AllGood file) (e : ℕ) (h : e < edits file) (f : ℕ) where
  pub rests_yes : Rests file e f → rests_on file e f ≡ true
  rests_yes r = rests_within good e h (omega arith) r

  pub rests_no : (Rests file e f → ⊥) → rests_on file e f ≡ false
  rests_no n = go (rests_on file e f) refl
    where
      go : (b : Bool) → rests_on file e f ≡ b → rests_on file e f ≡ false
      go true q = absurd (n (within_rests file e e f q))
      go false q = q

  no_rests : rests_on file e f ≡ false → Rests file e f → ⊥
  no_rests q r =
      let y : rests_on file e f ≡ true = rests_yes r in
      let z : ◌≡◌ {A = ℕ} 0 1 = cc in
      omega arith

-- the list of a difference ----------------------------------------------------------------------------------------------------------------

rising_less : {m n : ℕ} {ks : List ℕ} → m ≤ n → Rising n ks → Rising m ks
rising_less h done = done
rising_less {m} h (more {k = k} g r) = more {m = m} {k = k} (omega arith) r

picked_rising : (q : ℕ → Bool) (i n : ℕ) → Rising i (picked q (range i n))
unfolding picked range
picked_rising q i zero = done
picked_rising q i (suc n) = go (q i) (picked_rising q (suc i) n)
  where
    go : (b : Bool) → Rising (suc i) (picked q (range (suc i) n)) → Rising i (cond b (i ∷ picked q (range (suc i) n)) (picked q (range (suc i) n)))
    go true r = more {m = i} {k = i} (omega arith) r
    go false r = rising_less (omega arith) r

pub length_picked : (q : ℕ → Bool) (i n : ℕ) → length (picked q (range i n)) ≤ n
unfolding picked range
length_picked q i zero = omega arith
length_picked q i (suc n) = go (q i) (length_picked q (suc i) n)
  where
    go : (b : Bool) → length (picked q (range (suc i) n)) ≤ n → length (cond b (i ∷ picked q (range (suc i) n)) (picked q (range (suc i) n))) ≤ suc n
    go true h = omega arith
    go false h = omega arith

-- k is picked exactly if it is in range and the test says so
picked_in : (q : ℕ → Bool) (i n k : ℕ) → i ≤ k → k < i + n → q k ≡ true → In k (picked q (range i n))
unfolding picked range
picked_in q i zero k h g e = absurd (omega arith)
picked_in q i (suc n) k h g e = go (eqb i k) refl (λ (l : suc i ≤ k). picked_in q (suc i) n k l (omega arith) e)
  where
    behind : (b : Bool) → In k (picked q (range (suc i) n)) → In k (cond b (i ∷ picked q (range (suc i) n)) (picked q (range (suc i) n)))
    behind true r = later r
    behind false r = r

    first : i ≡ k → In k (cond (q i) (i ∷ picked q (range (suc i) n)) (picked q (range (suc i) n)))
    first m = rw (m, e) here

    go : (b : Bool) → eqb i k ≡ b → (suc i ≤ k → In k (picked q (range (suc i) n))) → In k (cond (q i) (i ∷ picked q (range (suc i) n)) (picked q (range (suc i) n)))
    go true m r = first (eqb-true i k m)
    go false m r =
        let d : i ≡ k → ⊥ = eqb-false i k m in
        behind (q i) (r (omega arith))

in_cons : {j k : ℕ} {ks : List ℕ} → In k (j ∷ ks) → (k ≡ j) ⊎ In k ks
in_cons here = inl refl
in_cons (later r) = inr r

no_nil : {k : ℕ} {ks : List ℕ} → In k ks → ks ≢ []
no_nil here e = let z : ◌≡◌ {A = ℕ} 0 1 = cc in omega arith
no_nil (later r) e = let z : ◌≡◌ {A = ℕ} 0 1 = cc in omega arith

in_picked : (q : ℕ → Bool) (i n k : ℕ) → In k (picked q (range i n)) → q k ≡ true
unfolding picked range
in_picked q i zero k r = absurd (no_nil r refl)
in_picked q i (suc n) k r = go (q i) refl r (in_picked q (suc i) n k)
  where
    go : (b : Bool) → q i ≡ b → In k (cond b (i ∷ picked q (range (suc i) n)) (picked q (range (suc i) n))) → (In k (picked q (range (suc i) n)) → q k ≡ true) → q k ≡ true
    go true e s f = ⊎_elim (λ m. ap q m ∙ e) f (in_cons s)
    go false e s f = f s

and_not : (a b : Bool) → (a && not b) ≡ true → (a ≡ true) × (b ≡ false)
and_not true true e = let z : ◌≡◌ {A = ℕ} 0 1 = cc in absurd (omega arith)
and_not true false e = (refl, refl)
and_not false b e = let z : ◌≡◌ {A = ℕ} 0 1 = cc in absurd (omega arith)

pub exactly : (file : List ℕ) → AllGood file → (a b : ℕ) → a < edits file → b < edits file → Difference file a b (beyond file a b)
unfolding beyond
exactly file good a b ha hb =
    let q : ℕ → Bool = λ k. rests_on file a k && not (rests_on file b k) in
    record {
      rising = picked_rising q 0 (edits file);
      only = λ k r.
          let t : (rests_on file a k ≡ true) × (rests_on file b k ≡ false) = and_not (rests_on file a k) (rests_on file b k) (in_picked q 0 (edits file) k r) in
          (within_rests file a a k t.0, no_rests file good b hb k t.1);
      all = λ k r n.
          let l : k ≤ a = rests_le good ha r in
          picked_in q 0 (edits file) k (omega arith) (omega arith) (rw (rests_yes file good a ha k r, rests_no file good b hb k n));
    }

-- no other list ---------------------------------------------------------------------------------------------------------------------------

first_least : {m k : ℕ} {ks : List ℕ} → Rising m (k ∷ ks) → (m ≤ k) × Rising (suc k) ks
first_least (more h r) = (h, r)

above : {m k : ℕ} {ks : List ℕ} → Rising m ks → In k ks → m ≤ k
above {m} {k} done s = elim s [ ]
above {m} {k} (more {k = j} h r) here = h
above {m} {k} (more {k = j} h r) (later s) =
    let l : suc j ≤ k = above r s in
    omega arith

same_first : (m n j k : ℕ) (js ks : List ℕ) → Rising m (j ∷ js) → Rising n (k ∷ ks) → In j (k ∷ ks) → In k (j ∷ js) → j ≡ k
same_first m n j k js ks r s p q = ⊎_elim (λ e. e) (λ t. ⊎_elim (λ e. sym e) (λ u. both_later t u) (in_cons q)) (in_cons p)
  where
    both_later : In j ks → In k js → j ≡ k
    both_later t u =
        let x : suc k ≤ j = above (first_least s).1 t in
        let y : suc j ≤ k = above (first_least r).1 u in
        absurd (omega arith)

-- a number of the rest of a rising list isn't its first
rest_in : (n j k : ℕ) (js : List ℕ) → Rising n (j ∷ js) → j ≡ k → In k js → ⊥
rest_in n j k js r e t =
    let x : suc j ≤ k = above (first_least r).1 t in
    omega arith

same_list : (m n : ℕ) (js ks : List ℕ) → Rising m js → Rising n ks → ((i : ℕ) → In i js → In i ks) → ((i : ℕ) → In i ks → In i js) → js ≡ ks
same_list m n [] [] r s f g = refl
same_list m n [] (k ∷ ks) r s f g = absurd (no_nil (g k here) refl)
same_list m n (j ∷ js) [] r s f g = absurd (no_nil (f j here) refl)
same_list m n (j ∷ js) (k ∷ ks) r s f g =
    ap₂ (λ (x : ℕ) (xs : List ℕ). x ∷ xs) first
    (same_list (suc j) (suc k) js ks (first_least r).1 (first_least s).1
    (λ i t. ⊎_elim (λ e. absurd (rest_in m j i js r (first ∙ sym e) t)) (λ u. u) (in_cons (f i (later t))))
    (λ i t. ⊎_elim (λ e. absurd (rest_in n k i ks s (sym first ∙ sym e) t)) (λ u. u) (in_cons (g i (later t)))))
  where
    first : j ≡ k
    first = same_first m n j k js ks r s (f j here) (g k here)

pub only_one : (file : List ℕ) (a b : ℕ) (js ks : List ℕ) → Difference file a b js → Difference file a b ks → js ≡ ks
only_one file a b js ks d e =
    same_list 0 0 js ks d.rising e.rising (λ i t. e.all i (d.only i t).0 (d.only i t).1) (λ i t. d.all i (e.only i t).0 (e.only i t).1)
