-- How often a number stands in a list, beside lists without repetition; `flat_map` is `cat`. Assumes nothing.
use Rattle.std.specs.Prelude.{◌≡◌, ◌≢◌, length}
use Rattle.std.proofs.Math.Path.{refl, sym, ap}
use Rattle.std.proofs.Common.{◌∙◌, eq-eqb, ne_eqb}
use mathlib.Core.List.{List, [], ◌∷◌, ◌++◌, flat_map}
use Prim.Native.Nat.{ℕ, suc, ◌+◌, ◌≤◌, ◌<◌}
use Rattle.std.proofs.Math.Decide.{ℕ_discrete, dec_lt}
use native.Mathlib.Omega.{arith}
use Rattle.model.specs.Lists.{All, times}
use Rattle.model.specs.Sound.{Once, until}
use Rattle.model_tree.specs.Lists.{cat, NoDup, all_map}
use Rattle.model_tree.specs.Pigeon.{Absent, at_most, at_least}

pub flat_cat : {A B : Type 0} (f : A → List B) (l : List A) → flat_map f l ≡ cat f l
unfolding flat_map
flat_cat f [] = refl
flat_cat {B = B} f (x ∷ l) = ap (λ (m : List B). f x ++ m) (flat_cat f l)

module _ (k : ℕ) where
  pub times_same : (x : ℕ) (l : List ℕ) → x ≡ k → times k (x ∷ l) ≡ suc (times k l)
  unfolding times
  times_same x l e = rw (eq-eqb x k e) (omega arith)

  pub times_other : (x : ℕ) (l : List ℕ) → x ≢ k → times k (x ∷ l) ≡ times k l
  unfolding times
  times_other x l ne = rw (ne_eqb x k ne) (omega arith)

  pub times_none : (l : List ℕ) → Absent k l → times k l ≡ 0
  unfolding times All
  times_none [] h = refl
  times_none (x ∷ l) h = times_other x l h.0 ∙ times_none l h.1

  pub times_absent : (l : List ℕ) → times k l ≡ 0 → Absent k l
  unfolding All
  times_absent [] e = tt
  times_absent (x ∷ l) e = elim (ℕ_discrete x k) [
    | yes q ↦ absurd (let z : times k (x ∷ l) ≡ suc (times k l) = times_same x l q in omega arith)
    | no ne ↦ (ne, times_absent l (sym (times_other x l ne) ∙ e))
  ]

  pub times_append : (l m : List ℕ) → times k (l ++ m) ≡ times k l + times k m
  unfolding times
  times_append [] m = omega arith
  times_append (x ∷ l) m = rw (times_append l m) (omega arith)

  -- a number that stands in a list without repetition stands there once
  pub times_once : (l : List ℕ) → NoDup l → (Absent k l → ⊥) → times k l ≡ 1
  unfolding All times
  times_once [] nd h = absurd (h tt)
  times_once (x ∷ l) nd h = elim (ℕ_discrete x k) [
    | yes q ↦ times_same x l q ∙ ap suc (times_none l (all_map (λ y. x ≢ y) (λ y. y ≢ k) (λ y ne e. ne (q ∙ sym e)) l nd.0))
    | no ne ↦ times_other x l ne ∙ times_once l nd.1 (λ a. h (ne, a))
  ]

pub times_nodup : (l : List ℕ) → ((k : ℕ) → times k l ≤ 1) → NoDup l
unfolding All
times_nodup [] h = tt
times_nodup (x ∷ l) h = (
  all_map (λ y. y ≢ x) (λ y. x ≢ y) (λ y ne e. ne (sym e)) l (times_absent x l (let a : times x (x ∷ l) ≡ suc (times x l) = times_same x x l refl in omega (arith, h x))),
  times_nodup l (λ k. one k (ℕ_discrete x k)),
)
  where
    one : (k : ℕ) → Dec (x ≡ k) → times k l ≤ 1
    one k (yes q) = let a : times k (x ∷ l) ≡ suc (times k l) = times_same k x l q in omega (arith, h k)
    one k (no ne) = let a : times k (x ∷ l) ≡ times k l = times_other k x l ne in omega (arith, h k)

-- each number below n once, in the two ways of saying it
pub once_nodup : (n : ℕ) (l : List ℕ) → Once n l → NoDup l
once_nodup n l o = times_nodup l (λ k. go k (dec_lt k n))
  where
    go : (k : ℕ) → Dec (k < n) → times k l ≤ 1
    go k (yes lt) = omega (arith, o.once k lt)
    go k (no ge) = omega (arith, times_none k l (all_map (λ y. y < n) (λ y. y ≢ k) (λ y lt e. omega arith) l o.below))

pub once_in : (n : ℕ) (l : List ℕ) → Once n l → (k : ℕ) → k < n → Absent k l → ⊥
once_in n l o k lt a = let z : times k l ≡ 0 = times_none k l a in omega (arith, o.once k lt)

pub once_length : (n : ℕ) (l : List ℕ) → Once n l → length l ≡ n
once_length n l o =
    let a : length l ≤ n = at_most l n (once_nodup n l o) o.below in
    let b : n ≤ length l = at_least l n (once_in n l o) in
    omega arith

pub once_of : (n : ℕ) (l : List ℕ) → NoDup l → All (λ k. k < n) l → ((k : ℕ) → k < n → Absent k l → ⊥) → Once n l
once_of n l nd b h = record { below = b; once = λ k lt. times_once k l nd (h k lt) }

-- what stands before the first k
pub until_at : (k : ℕ) (A B : List ℕ) → Absent k A → until k (A ++ k ∷ B) ≡ A
unfolding until All
until_at k [] B h = rw (eq-eqb k k refl)
until_at k (x ∷ A) B h = rw (ne_eqb x k h.0) (ap {B = List ℕ} (λ l. x ∷ l) (until_at k A B h.1))
