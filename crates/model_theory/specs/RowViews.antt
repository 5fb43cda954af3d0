-- Tests over all views of a kind, and lists of as many lengths.
use Rattle.std.specs.Prelude.{◌≡◌, refl, Bool, true, false, ◌||◌, ℕ, zero, suc, ◌+◌, ◌-◌, ◌≤◌, ◌<◌, length, get_or}
use Rattle.std.proofs.Common.{sym, ap, ◌∙◌, subst, arith}
use mathlib.Core.List.{List, [], ◌∷◌, zip_with}
use Rattle.std.proofs.Math.Decide.{ℕ_discrete}
use Rattle.model.specs.Lists.{All, some, range}
use Rattle.model_theory.specs.LiftEntries.{firsts, firsts_list}

pub or_false : (a b : Bool) → (a || b) ≡ false → (a ≡ false) × (b ≡ false)
or_false true b e = absurd (let z : ◌≡◌ {A = ℕ} 0 1 = cc in omega arith)
or_false false b e = (refl, e)

-- no view for which some test holds
some_none : (q : ℕ → Bool) (i n : ℕ) → some q (range i n) ≡ false → (v : ℕ) → i ≤ v → v < i + n → q v ≡ false
unfolding some range
some_none q i zero e v lo hi = absurd (omega arith)
some_none q i (suc n) e v lo hi = elim (ℕ_discrete i v) [
  | yes p ↦ (ap q (sym p) ∙ (or_false (q i) (some q (range (suc i) n)) e).0)
  | no ne ↦ some_none q (suc i) n (or_false (q i) (some q (range (suc i) n)) e).1 v (omega arith) (omega arith)
]

pub none_in : (q : ℕ → Bool) (n : ℕ) → some q (range 0 n) ≡ false → (v : ℕ) → v < n → q v ≡ false
none_in q n e v lv = some_none q 0 n e v (omega arith) (omega arith)

-- some view for which a test holds
some_one : (q : ℕ → Bool) (i n : ℕ) → some q (range i n) ≡ true → (v : ℕ) × (v < i + n) × (q v ≡ true)
unfolding some range
some_one q i zero e = absurd (let z : ◌≡◌ {A = ℕ} 0 1 = cc in omega arith)
some_one q i (suc n) e = go (q i) refl (some_one q (suc i) n)
  where
    go : (b : Bool) → q i ≡ b → (some q (range (suc i) n) ≡ true → (v : ℕ) × (v < suc i + n) × (q v ≡ true)) → (v : ℕ) × (v < i + suc n) × (q v ≡ true)
    go true z ih = (i, omega arith, z)
    go false z ih = (let y = ih (rw z at e) in (y.0, (let u = y.1 in omega arith), y.2))

pub one_in : (q : ℕ → Bool) (n : ℕ) → some q (range 0 n) ≡ true → (v : ℕ) × (v < n) × (q v ≡ true)
one_in q n e = let y = some_one q 0 n e in (y.0, (let u = y.1 in omega arith), y.2)

-- as many lengths as there are views
pub firsts_of : (n : ℕ) (l : List ℕ) → length l ≡ n → firsts n (λ v. get_or l v 0) ≡ l
firsts_of n l e = subst (λ (k : ℕ). firsts k (λ v. get_or l v 0) ≡ l) e (firsts_list l)

pub firsts_less : (n : ℕ) (f : ℕ → ℕ) (l : List ℕ) → length l ≡ n → firsts n (λ v. f v - get_or l v 0) ≡ zip_with ◌-◌ (firsts n f) l
unfolding firsts zip_with
firsts_less zero f l e = refl
firsts_less (suc n) f [] e = absurd (omega arith)
firsts_less (suc n) f (x ∷ l) e = ap (λ (m : List ℕ). (f 0 - x) ∷ m) (firsts_less n (λ v. f (suc v)) l (omega arith))

pub each_small : (b : ℕ) (l : List ℕ) → 0 < b → All (λ x. x < b) l → (v : ℕ) → get_or l v 0 < b
unfolding All
each_small b [] h a v = h
each_small b (x ∷ l) h a zero = a.0
each_small b (x ∷ l) h a (suc v) = each_small b l h a.1 v
