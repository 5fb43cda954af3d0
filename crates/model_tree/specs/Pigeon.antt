-- Lists of numbers without repetition: how long they can be.
use Rattle.std.specs.Prelude.{◌≡◌, refl, ◌⊎◌, ◌≢◌, List, [], ◌∷◌, ◌++◌, ℕ, zero, suc, ◌+◌, ◌≤◌, ◌<◌, length}
use Rattle.std.proofs.Common.{sym, ap, ◌∙◌, subst, inl, inr, not-suc-le-zero, zero-add, add-zero, add-suc, suc-add, arith, length-append}
use Rattle.std.proofs.Math.Decide.{ℕ_discrete}
use Rattle.model.specs.Lists.{sum_by, All, range}
use Rattle.model_tree.specs.Lists.{all_map, all_map₂, all_append, all_left_at, all_right, NoDup, sum_by_append, pairs_before, pairs_after}

abbrev pub Absent : ℕ → List ℕ → Type 0
Absent x l = All (λ y. y ≢ x) l

pub record In (x : ℕ) (l : List ℕ) : Type 0 where
  pub before : List ℕ
  pub after : List ℕ
  pub row : l ≡ before ++ x ∷ after

pub in_or : (x : ℕ) (l : List ℕ) → In x l ⊎ Absent x l
unfolding All
in_or x [] = inr tt
in_or x (y ∷ l) = go (ℕ_discrete y x) (in_or x l)
  where
    go : Dec (y ≡ x) → In x l ⊎ Absent x l → In x (y ∷ l) ⊎ Absent x (y ∷ l)
    go (yes e) d = inl (record { before = []; after = l; row = ap {B = List ℕ} (λ z. z ∷ l) e })
    go (no ne) (inl i) = inl (record { before = y ∷ i.before; after = i.after; row = ap {B = List ℕ} (λ z. y ∷ z) i.row })
    go (no ne) (inr a) = inr (ne, a)

pub is_in : (x : ℕ) (l : List ℕ) → (Absent x l → ⊥) → In x l
is_in x l h = elim (in_or x l) [ inl i ↦ i | inr a ↦ absurd (h a) ]

pub sub_length : (l m : List ℕ) → NoDup l → All (λ x. Absent x m → ⊥) l → length l ≤ length m
unfolding All
sub_length [] m nd h = omega arith
sub_length (x ∷ l) m nd h = go (is_in x m h.0) (λ n. sub_length l n nd.1)
  where
    one : (i : In x m) (z : ℕ) → x ≢ z → (Absent z m → ⊥) → Absent z (i.before ++ i.after) → ⊥
    one i z ne k a = k (rw i.row (all_append (λ y. y ≢ z) i.before (x ∷ i.after) (all_left_at (λ y. y ≢ z) i.before i.after a) (ne, all_right (λ y. y ≢ z) i.before i.after a)))

    go : In x m → ((n : List ℕ) → All (λ x. Absent x n → ⊥) l → length l ≤ length n) → length (x ∷ l) ≤ length m
    go i ih =
        let a : length l ≤ length (i.before ++ i.after) = ih (i.before ++ i.after) (all_map₂ (λ y. x ≢ y) (λ y. Absent y m → ⊥) (λ y. Absent y (i.before ++ i.after) → ⊥) (one i) l nd.0 h.1) in
        let b : length (i.before ++ i.after) ≡ length i.before + length i.after = length-append i.before i.after in
        let c : length m ≡ length i.before + suc (length i.after) = ap length i.row ∙ length-append i.before (x ∷ i.after) in
        omega arith

abbrev pub up_to : ℕ → List ℕ
up_to zero = []
up_to (suc n) = n ∷ up_to n

pub length_up_to : (n : ℕ) → length (up_to n) ≡ n
length_up_to zero = refl
length_up_to (suc n) = ap suc (length_up_to n)

up_to_below : (n m : ℕ) → n ≤ m → All (λ k. k < m) (up_to n)
unfolding All
up_to_below zero m h = tt
up_to_below (suc n) m h = (h, up_to_below n m (omega arith))

up_to_nodup : (n : ℕ) → NoDup (up_to n)
up_to_nodup zero = tt
up_to_nodup (suc n) = (all_map (λ k. k < n) (λ k. n ≢ k) (λ k lt e. omega arith) (up_to n) (up_to_below n n (omega arith)), up_to_nodup n)

up_to_in : (n k : ℕ) → k < n → Absent k (up_to n) → ⊥
unfolding All
up_to_in zero k h a = not-suc-le-zero h
up_to_in (suc n) k h a = up_to_in n k (let z : n ≢ k = a.0 in omega arith) a.1

all_of : (Q : ℕ → Type 0) (n : ℕ) → ((k : ℕ) → k < n → Q k) → All Q (up_to n)
all_of Q n f = all_map (λ k. k < n) Q f (up_to n) (up_to_below n n (omega arith))

-- every number below n stands in the list: it is at least n long
pub at_least : (l : List ℕ) (n : ℕ) → ((k : ℕ) → k < n → Absent k l → ⊥) → n ≤ length l
at_least l n h = let a = sub_length (up_to n) l (up_to_nodup n) (all_of (λ k. Absent k l → ⊥) n h) in omega (arith, length_up_to n)

-- no number twice, each below n: it is at most n long
pub at_most : (l : List ℕ) (n : ℕ) → NoDup l → All (λ k. k < n) l → length l ≤ n
at_most l n nd b = let a = sub_length l (up_to n) nd (all_map (λ k. k < n) (λ k. Absent k (up_to n) → ⊥) (λ k lt. up_to_in n k lt) l b) in omega (arith, length_up_to n)

-- if it is n long as well, then every number below n stands in it
pub each_in : (l : List ℕ) (n : ℕ) → NoDup l → All (λ k. k < n) l → length l ≡ n → (k : ℕ) → k < n → In k l
unfolding All
each_in l n nd b e k lt = is_in k l (λ a. let z = at_most (k ∷ l) n (all_map (λ y. y ≢ k) (λ y. k ≢ y) (λ y ne q. ne (sym q)) l a, nd) (lt, b) in omega arith)

-- one number less: still none twice
nodup_less : (X : List ℕ) (n : ℕ) (Y : List ℕ) → NoDup (X ++ n ∷ Y) → NoDup (X ++ Y)
unfolding All
nodup_less [] n Y nd = nd.1
nodup_less (x ∷ X) n Y nd = (all_append (λ y. x ≢ y) X Y (all_left_at (λ y. x ≢ y) X (n ∷ Y) nd.0) (all_right (λ y. x ≢ y) X (n ∷ Y) nd.0).1, nodup_less X n Y nd.1)

pub range_more : (i n : ℕ) → range i (suc n) ≡ range i n ++ (i + n) ∷ []
unfolding range
range_more i zero = rw add-zero
range_more i (suc n) = ap {B = List ℕ} (λ l. i ∷ l) (range_more (suc i) n ∙ rw (suc-add, ← (add-suc i n)))

-- a sum over the numbers below n, in whichever order they stand
pub sum_each : (f : ℕ → ℕ) (n : ℕ) (l : List ℕ) → NoDup l → All (λ k. k < n) l → ((k : ℕ) → k < n → Absent k l → ⊥) → sum_by f l ≡ sum_by f (range 0 n)
unfolding All sum_by range
sum_each f zero [] nd b h = refl
sum_each f zero (x ∷ l) nd b h = absurd (not-suc-le-zero b.0)
sum_each f (suc n) l nd b h = go (is_in n l (h n (omega arith))) (λ m. sum_each f n m)
  where
    go : In n l → ((m : List ℕ) → NoDup m → All (λ k. k < n) m → ((k : ℕ) → k < n → Absent k m → ⊥) → sum_by f m ≡ sum_by f (range 0 n)) → sum_by f l ≡ sum_by f (range 0 (suc n))
    go i ih =
        let X : List ℕ = i.before in
        let Y : List ℕ = i.after in
        let nd' : NoDup (X ++ n ∷ Y) = subst NoDup i.row nd in
        let b' : All (λ k. k < suc n) (X ++ n ∷ Y) = subst (All (λ k. k < suc n)) i.row b in
        let low : All (λ k. k < n) (X ++ Y) =
        all_append (λ k. k < n) X Y
        (all_map₂ (λ k. k < suc n) (λ k. k ≢ n) (λ k. k < n) (λ k lt ne. omega arith) X (all_left_at (λ k. k < suc n) X (n ∷ Y) b') (pairs_before (λ x y. x ≢ y) X n Y nd'))
        (all_map₂ (λ k. k < suc n) (λ k. n ≢ k) (λ k. k < n) (λ k lt ne. omega arith) Y (all_right (λ k. k < suc n) X (n ∷ Y) b').1 (pairs_after (λ x y. x ≢ y) X n Y nd')) in
        let q : sum_by f (X ++ Y) ≡ sum_by f (range 0 n) = ih (X ++ Y) (nodup_less X n Y nd') low
        (λ k lt a. h k (omega arith) (subst (Absent k) (sym i.row) (all_append (λ y. y ≢ k) X (n ∷ Y) (all_left_at (λ y. y ≢ k) X Y a) ((λ e. omega arith), all_right (λ y. y ≢ k) X Y a)))) in
        let a1 : sum_by f l ≡ sum_by f X + (f n + sum_by f Y) = ap (sum_by f) i.row ∙ sum_by_append f X (n ∷ Y) in
        let a2 : sum_by f (X ++ Y) ≡ sum_by f X + sum_by f Y = sum_by_append f X Y in
        let a3 : sum_by f (range 0 (suc n)) ≡ sum_by f (range 0 n) + (f n + 0) = ap (sum_by f) (range_more 0 n ∙ ap (λ (k : ℕ). range 0 n ++ k ∷ []) (zero-add n)) ∙ sum_by_append f (range 0 n) (n ∷ []) in
        omega arith
