-- Lists: `All`, a list that is dropped whole, `zip_with` one element further, tests of numbers in a row, and products of a count and a width. Assumes
-- nothing.
use Rattle.std.specs.Prelude.{◌≡◌, refl, Bool, true, false, ◌&&◌, ◌||◌, length, get_or, take, drop, set, replicate}
use Rattle.std.proofs.Common.{sym, ap, ap₂, ◌∙◌, arith, zero-add, add_assoc, suc-mul, add-mul, mul-le-mul_right, add-one}
use mathlib.Core.List.{List, [], ◌∷◌, ◌++◌, zip_with}
use Prim.Native.Nat.{ℕ, zero, suc, ◌+◌, ◌-◌, ◌*◌, ◌<◌, ◌≤◌}
use Rattle.std.proofs.Math.Seq.{drop-append-add}
use Rattle.model.specs.Lists.{All, sum_by, some, range}

pub and_true : (a b : Bool) → (a && b) ≡ true → (a ≡ true) × (b ≡ true)
and_true true b e = (refl, e)
and_true false b e = (e, cc)

module _ {A : Type 0} (Q : A → Type 0) where
  pub all_append : (xs ys : List A) → All Q xs → All Q ys → All Q (xs ++ ys)
  unfolding All
  all_append [] ys h g = g
  all_append (x ∷ xs) ys h g = (h.0, all_append xs ys h.1 g)

  pub all_take : (n : ℕ) (xs : List A) → All Q xs → All Q (take n xs)
  unfolding All
  all_take zero xs h = tt
  all_take (suc n) [] h = tt
  all_take (suc n) (x ∷ xs) h = (h.0, all_take n xs h.1)

  pub all_drop : (n : ℕ) (xs : List A) → All Q xs → All Q (drop n xs)
  unfolding All
  all_drop zero xs h = h
  all_drop (suc n) [] h = tt
  all_drop (suc n) (x ∷ xs) h = all_drop n xs h.1

  pub all_set : (i : ℕ) (y : A) (xs : List A) → Q y → All Q xs → All Q (set xs i y)
  unfolding All
  all_set i y [] q h = tt
  all_set zero y (x ∷ xs) q h = (q, h.1)
  all_set (suc i) y (x ∷ xs) q h = (h.0, all_set i y xs q h.1)

  pub all_replicate : (n : ℕ) (y : A) → Q y → All Q (replicate n y)
  unfolding All
  all_replicate zero y q = tt
  all_replicate (suc n) y q = (q, all_replicate n y q)

  pub all_at_at : (i : ℕ) (d : A) (xs : List A) → i < length xs → All Q xs → Q (get_or xs i d)
  unfolding All
  all_at_at i d [] l h = absurd (omega arith)
  all_at_at zero d (x ∷ xs) l h = h.0
  all_at_at (suc i) d (x ∷ xs) l h = all_at_at i d xs (omega arith) h.1

module _ {A : Type 0} where
  -- a list with a known front, past the front
  pub drop_past : (n m : ℕ) (a b : List A) → length a ≡ n → drop (n + m) (a ++ b) ≡ drop m b
  drop_past n m a b e = rw (← e, drop-append-add)

pub sum_append : {A : Type 0} (w : A → ℕ) (xs ys : List A) → sum_by w (xs ++ ys) ≡ sum_by w xs + sum_by w ys
unfolding sum_by
sum_append w [] ys = sym (zero-add (sum_by w ys))
sum_append w (x ∷ xs) ys = rw (sum_append w xs ys, add_assoc)

-- a list made of two has their length
pub length_zip : (f : ℕ → ℕ → ℕ) (xs ys : List ℕ) → length xs ≡ length ys → length (zip_with f xs ys) ≡ length xs
unfolding zip_with
length_zip f [] ys e = refl
length_zip f (x ∷ xs) [] e = absurd (omega arith)
length_zip f (x ∷ xs) (y ∷ ys) e = ap suc (length_zip f xs ys (omega arith))

-- tests of the numbers below n: two that agree, and one that holds of none
some_same : (q q' : ℕ → Bool) (i n : ℕ) → ((v : ℕ) → i ≤ v → v < i + n → q v ≡ q' v) → some q (range i n) ≡ some q' (range i n)
unfolding some range
some_same q q' i zero h = refl
some_same q q' i (suc n) h = ap₂ ◌||◌ (h i (omega arith) (omega arith)) (some_same q q' (suc i) n (λ v lo hi. h v (omega arith) (omega arith)))

pub some_views : (n : ℕ) (q q' : ℕ → Bool) → ((v : ℕ) → v < n → q v ≡ q' v) → some q (range 0 n) ≡ some q' (range 0 n)
some_views n q q' h = some_same q q' 0 n (λ v lo hi. h v (omega arith))

none_from : (i n : ℕ) → some (λ v. false) (range i n) ≡ false
unfolding some range
none_from i zero = refl
none_from i (suc n) = none_from (suc i) n

pub none_views : (n : ℕ) (q : ℕ → Bool) → ((v : ℕ) → v < n → q v ≡ false) → some q (range 0 n) ≡ false
none_views n q h = some_views n q (λ v. false) h ∙ none_from 0 n

-- n rows of s words: fewer rows, one row more, the rows between two, and a place in a row
pub rows_le : (i n s : ℕ) → i ≤ n → i * s ≤ n * s
rows_le i n s h = mul-le-mul_right s h

pub one_more : (n s : ℕ) → (n + 1) * s ≡ n * s + s
one_more n s = rw add-one (suc-mul n s)

pub rows_between : (i n s : ℕ) → i ≤ n → i * s + (n - i) * s ≡ n * s
rows_between i n s h =
    let e : i + (n - i) ≡ n = omega arith in
    sym (add-mul i (n - i) s) ∙ ap (λ (k : ℕ). k * s) e

pub in_row : (i n s c : ℕ) → i < n → c < s → i * s + c < n * s
in_row i n s c h g = omega (arith, suc-mul i s, mul-le-mul_right {m = suc i} {n = n} s h)

-- and so a row below n ends within n rows
pub row_end : (i n s : ℕ) → i < n → i * s + s ≤ n * s
row_end i n s h = omega (arith, suc-mul i s, mul-le-mul_right {m = suc i} {n = n} s h)
