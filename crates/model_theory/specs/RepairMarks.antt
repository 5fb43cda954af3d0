-- Numbers marked one after the other in an array, each below n and not marked before: with n of them, that is `Once`. Assumes nothing.
use Rattle.std.specs.Prelude.{◌≡◌, refl, ◌≢◌, Bool, true, false, ◌&&◌, List, [], ◌∷◌, ℕ, ◌<◌, ◌≤◌, length, get_or, set, replicate, ltb, eqb}
use Rattle.std.proofs.Common.{sym, subst, ◌∙◌, arith, length-set, get_or-set_same, get_or-set_other, lt-ltb, ltb-true, ltb-false, eq-eqb, eqb-true}
use Rattle.std.proofs.Math.Decide.{ℕ_discrete}
use Rattle.std.proofs.lemmas.List.{length-replicate, get_or-replicate}
use Rattle.model.specs.Lists.{All, times}
use Rattle.model.specs.Sound.{Once}
use Rattle.model.specs.Mend.{fresh, is_once}
use Rattle.model_tree.specs.Lists.{all_map, NoDup}
use Rattle.model_tree.specs.Pigeon.{at_most}
use Rattle.model_theory.specs.AuditTests.{both}
use Rattle.model_theory.specs.LiftCount.{times_same, times_other, times_nodup, once_length, once_of, times_none}

-- what marks say -----------------------------------------------------------------------------------------------------------------------------

pub record SeenOnce (n : ℕ) (ks m : List ℕ) : Type 0 where
  pub below : All (λ k. k < n) ks
  pub new : (k : ℕ) → (get_or m k 0 ≡ 0 → ⊥) → times k ks ≡ 0
  pub most : (k : ℕ) → times k ks ≤ 1

nothing : (k : ℕ) → times k [] ≡ 0
unfolding times
nothing k = refl

pub fresh_seen : (n : ℕ) (ks m : List ℕ) → n ≤ length m → fresh n ks m ≡ true → SeenOnce n ks m
unfolding fresh All
fresh_seen n [] m l e = record { below = tt; new = λ k h. nothing k; most = λ k. omega (arith, nothing k) }
fresh_seen n (x ∷ ks) m l e =
    let a = both (ltb x n && eqb (get_or m x 0) 0) (fresh n ks (set m x 1)) e in
    let b = both (ltb x n) (eqb (get_or m x 0) 0) a.0 in
    let h : x < n = ltb-true x n b.0 in
    go h (eqb-true (get_or m x 0) 0 b.1) (fresh_seen n ks (set m x 1) (rw (length-set m x 1) l) a.1)
  where
    go : x < n → get_or m x 0 ≡ 0 → SeenOnce n ks (set m x 1) → SeenOnce n (x ∷ ks) m
    go h z r = record { below = (h, r.below); new = λ k u. new k u (ℕ_discrete x k); most = λ k. most k (ℕ_discrete x k) }
      where
        own : times x ks ≡ 0
        own = r.new x (λ q. omega (arith, get_or-set_same m x 1 0 (omega arith)))

        new : (k : ℕ) → (get_or m k 0 ≡ 0 → ⊥) → Dec (x ≡ k) → times k (x ∷ ks) ≡ 0
        new k u (yes q) = absurd (u (subst (λ (y : ℕ). get_or m y 0 ≡ 0) q z))
        new k u (no d) = times_other k x ks d ∙ r.new k (λ w. u (sym (get_or-set_other m x k 1 0 (λ y. d (sym y))) ∙ w))

        most : (k : ℕ) → Dec (x ≡ k) → times k (x ∷ ks) ≤ 1
        most k (yes q) = subst (λ (j : ℕ). times j (x ∷ ks) ≤ 1) q (omega (arith, times_same x x ks refl, own))
        most k (no d) = omega (arith, times_other k x ks d, r.most k)

-- as many numbers as there are: each once
pub is_once_law : (n : ℕ) (ks : List ℕ) → is_once n ks ≡ true → Once n ks
unfolding All
is_once_law n ks e =
    let a = both (fresh n ks (replicate n 0)) (eqb (length ks) n) e in
    let r : SeenOnce n ks (replicate n 0) = fresh_seen n ks (replicate n 0) (omega (arith, length-replicate {A = ℕ} n 0)) a.0 in
    let nd : NoDup ks = times_nodup ks r.most in
    once_of n ks nd r.below
    (λ k lt b. let z = at_most (k ∷ ks) n (all_map (λ y. y ≢ k) (λ y. k ≢ y) (λ y ne q. ne (sym q)) ks b, nd) (lt, r.below) in omega (arith, eqb-true (length ks) n a.1))

-- and back ------------------------------------------------------------------------------------------------------------------------------------

pub seen_fresh : (n : ℕ) (ks m : List ℕ) → n ≤ length m → All (λ k. k < n) ks → ((k : ℕ) → times k ks ≤ 1) → ((k : ℕ) → k < n → 0 < times k ks → get_or m k 0 ≡ 0) → fresh n ks m ≡ true
unfolding fresh All
seen_fresh n [] m l a f z = refl
seen_fresh n (x ∷ ks) m l a f z =
    rw (lt-ltb x n a.0, eq-eqb (get_or m x 0) 0 (z x a.0 (omega (arith, times_same x x ks refl))))
    (seen_fresh n ks (set m x 1) (rw (length-set m x 1) l) a.1 (λ k. fewer k (ℕ_discrete x k)) (λ k h g. still k h g (ℕ_discrete x k)))
  where
    fewer : (k : ℕ) → Dec (x ≡ k) → times k ks ≤ 1
    fewer k (yes q) = omega (arith, times_same k x ks q, f k)
    fewer k (no d) = omega (arith, times_other k x ks d, f k)

    still : (k : ℕ) → k < n → 0 < times k ks → Dec (x ≡ k) → get_or (set m x 1) k 0 ≡ 0
    still k h g (yes q) = absurd (omega (arith, times_same k x ks q, f k))
    still k h g (no d) = get_or-set_other m x k 1 0 (λ y. d (sym y)) ∙ z k h (omega (arith, times_other k x ks d))

pub once_most : (n : ℕ) (ks : List ℕ) → Once n ks → (k : ℕ) → times k ks ≤ 1
once_most n ks o k = go (ltb k n) refl
  where
    go : (b : Bool) → ltb k n ≡ b → times k ks ≤ 1
    go true q = omega (arith, o.once k (ltb-true k n q))
    go false q =
        let h : n ≤ k = ltb-false k n q in
        omega (arith, times_none k ks (all_map (λ y. y < n) (λ y. y ≢ k) (λ y lt e. omega arith) ks o.below))

pub once_is : (n : ℕ) (ks : List ℕ) → Once n ks → is_once n ks ≡ true
once_is n ks o =
    rw (seen_fresh n ks (replicate n 0) (omega (arith, length-replicate {A = ℕ} n 0)) o.below (once_most n ks o) (λ k h g. get_or-replicate {A = ℕ} n k 0 0 h))
    (eq-eqb (length ks) n (once_length n ks o))
