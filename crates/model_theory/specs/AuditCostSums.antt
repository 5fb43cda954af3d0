-- Laws for the bound on audit's steps: sums over the numbers of a range, two sums in either order, how often a number is hit. Assumes nothing.
use Rattle.std.specs.Prelude.{◌≡◌, Bool, true, false, cond, ◌&&◌, ℕ, zero, suc, ◌+◌, ◌*◌, ◌≤◌, ◌<◌, ltb, eqb}
use Rattle.std.proofs.Math.Path.{refl}
use Rattle.std.proofs.Common.{sym, ap, mul-le-mul_left, mul-le-mul_right, ltb-true, eq-eqb, ne_eqb}
use mathlib.Core.List.{List, [], ◌∷◌}
use Rattle.std.proofs.Math.Decide.{ℕ_discrete}
use native.Mathlib.Omega.{arith}
use Rattle.model.specs.Lists.{sum_by, range}

module _ {A : Type 0} where
  pub sum_le : (f g : A → ℕ) → ((x : A) → f x ≤ g x) → (l : List A) → sum_by f l ≤ sum_by g l
  unfolding sum_by
  sum_le f g h [] = omega arith
  sum_le f g h (x ∷ l) = omega (arith, h x, sum_le f g h l)

  pub sum_plus : (f g : A → ℕ) (l : List A) → sum_by (λ x. f x + g x) l ≡ sum_by f l + sum_by g l
  unfolding sum_by
  sum_plus f g [] = refl
  sum_plus f g (x ∷ l) = omega (arith, sum_plus f g l)

  sum_none : (l : List A) → sum_by (λ (x : A). 0) l ≡ 0
  unfolding sum_by
  sum_none [] = refl
  sum_none (x ∷ l) = omega (arith, sum_none l)

sum_swap : {A B : Type 0} (f : A → B → ℕ) (l : List A) (m : List B) → sum_by (λ x. sum_by (f x) m) l ≡ sum_by (λ y. sum_by (λ x. f x y) l) m
unfolding sum_by
sum_swap {B = B} f [] m = sym (sum_none {A = B} m)
sum_swap f (x ∷ l) m = omega (arith, sum_swap f l m, sum_plus (f x) (λ y. sum_by (λ z. f z y) l) m)

pub sum_same : (c i n : ℕ) → sum_by (λ (k : ℕ). c) (range i n) ≡ n * c
unfolding sum_by range
sum_same c i zero = omega arith
sum_same c i (suc n) = omega (arith, sum_same c (suc i) n)

-- one number of the range
one_of : (f : ℕ → ℕ) (c i n : ℕ) → i ≤ c → c < i + n → f c ≤ sum_by f (range i n)
unfolding sum_by range
one_of f c i zero lo hi = absurd (omega arith)
one_of f c i (suc n) lo hi = elim (ℕ_discrete i c) [
  | yes q ↦ (let z : f i ≡ f c = ap f q in omega arith)
  | no ne ↦ (let z = one_of f c (suc i) n (omega arith) (omega arith) in omega arith)
]

-- the range hits p at most once
none_hit : (w p i n : ℕ) → p < i → sum_by (λ k. cond (eqb p k) w 0) (range i n) ≡ 0
unfolding sum_by range
none_hit w p i zero lt = refl
none_hit w p i (suc n) lt = rw (ne_eqb p i (λ e. omega arith)) (omega (arith, none_hit w p (suc i) n (omega arith)))

hit : (w p i n : ℕ) → sum_by (λ k. cond (eqb p k) w 0) (range i n) ≤ w
unfolding sum_by range
hit w p i zero = omega arith
hit w p i (suc n) = elim (ℕ_discrete p i) [
  | yes q ↦ rw (eq-eqb p i q) (omega (arith, none_hit w p (suc i) n (omega arith)))
  | no ne ↦ rw (ne_eqb p i ne) (omega (arith, hit w p (suc i) n))
]

-- each c below the count names one parent
pub parents : (parent : ℕ → ℕ) (w n count : ℕ) → sum_by (λ k. sum_by (λ c. cond (eqb (parent c) k) w 0) (range 0 count)) (range 0 n) ≤ count * w
parents parent w n count =
    let a = sum_swap (λ k c. cond (eqb (parent c) k) w 0) (range 0 n) (range 0 count) in
    let b = sum_le (λ c. sum_by (λ k. cond (eqb (parent c) k) w 0) (range 0 n)) (λ c. w) (λ c. hit w (parent c) 0 n) (range 0 count) in
    omega (arith, sum_same w 0 count)

-- the slots of k whose child knows its place are at most the nodes that name k their parent
pub places : (parent at kid : ℕ → ℕ) (w k n count : ℕ)
    → sum_by (λ i. cond (ltb (kid i) count && eqb (parent (kid i)) k && eqb (at (kid i)) i) w 0) (range 0 n) ≤ sum_by (λ c. cond (eqb (parent c) k) w 0) (range 0 count)
places parent at kid w k n count =
    let place : ℕ → ℕ → ℕ = λ i c. cond (eqb (parent c) k && eqb (at c) i) w 0 in
    let a = sum_le (λ i. cond (ltb (kid i) count && eqb (parent (kid i)) k && eqb (at (kid i)) i) w 0) (λ i. sum_by (place i) (range 0 count)) (λ i. some (kid i) i) (range 0 n) in
    let b = sum_swap place (range 0 n) (range 0 count) in
    let d = sum_le (λ c. sum_by (λ i. place i c) (range 0 n)) (λ c. cond (eqb (parent c) k) w 0) (λ c. within (eqb (parent c) k) (at c)) (range 0 count) in
    omega arith
  where
    within : (b : Bool) (p : ℕ) → sum_by (λ i. cond (b && eqb p i) w 0) (range 0 n) ≤ cond b w 0
    within true p = hit w p 0 n
    within false p = omega (arith, sum_none (range 0 n))

    some : (c i : ℕ) → cond (ltb c count && eqb (parent c) k && eqb (at c) i) w 0 ≤ sum_by (λ c. cond (eqb (parent c) k && eqb (at c) i) w 0) (range 0 count)
    some c i = go (ltb c count) refl
      where
        go : (b : Bool) → ltb c count ≡ b → cond (b && eqb (parent c) k && eqb (at c) i) w 0 ≤ sum_by (λ c. cond (eqb (parent c) k && eqb (at c) i) w 0) (range 0 count)
        go true e = one_of (λ c. cond (eqb (parent c) k && eqb (at c) i) w 0) c 0 count (omega arith) (omega (arith, ltb-true c count e))
        go false e = omega arith

-- twice the sum of the n numbers from 2 + i on, and the half of a square for n up to 32
sum_upto : (i n : ℕ) → 2 * sum_by (λ j. 2 + j) (range i n) ≡ n * (i + i + n + 3)
unfolding sum_by range
sum_upto i zero = omega arith
sum_upto i (suc n) = omega (arith, sum_upto (suc i) n)

pub half_square : (n : ℕ) → n ≤ 32 → sum_by (λ j. 2 + j) (range 0 n) ≤ 18 * n
half_square n h = let z : n * (n + 3) ≤ n * 35 = mul-le-mul_left n (omega arith) in omega (arith, sum_upto 0 n)

-- x, x times the levels l and x times the fan f, each against x times both
grown : (x f l : ℕ) → 4 ≤ f → 1 ≤ l → (4 * x ≤ x * f * l) × (4 * (x * l) ≤ x * f * l) × (x * f ≤ x * f * l)
grown x f l hf hl =
    let a : 4 * x ≤ x * f = (let z = mul-le-mul_left x hf in omega arith) in
    let b : x * f ≤ x * f * l = (let z = mul-le-mul_left (x * f) hl in omega arith) in
    let c : 4 * (x * l) ≤ x * f * l = (let z = mul-le-mul_left (x * l) hf in omega arith) in
    (omega arith, c, b)

-- inner nodes, leaves and the rest together; f the fan, l the levels, m inner nodes, n leaves, w the views
pub all_most : (w f l m n a b : ℕ) → 4 ≤ f → 1 ≤ l → 1 ≤ m → a ≤ m * (l + 2 * f + 3) + (n + m) * (w * f) → b ≤ n * (l + 18 * f + 3)
    → a + b + n + w * f + 3 * (f + 1) * (l + 1) ≤ (20 + w) * ((n + m) * f * l) + w * f
all_most w f l m n a b hf hl hm ha hb =
    let x = grown m f l hf hl in
    let y = grown n f l hf hl in
    let z : f ≤ f * l = (let u = mul-le-mul_left f hl in omega arith) in
    let v : 4 * l ≤ f * l = mul-le-mul_right l hf in
    let d : f * l ≤ m * f * l = (let u = mul-le-mul_right (f * l) hm in omega arith) in
    let e : w * ((n + m) * f) ≤ w * ((n + m) * f * l) = mul-le-mul_left w (let u = mul-le-mul_left ((n + m) * f) hl in omega arith) in
    omega arith
