-- Sums over the seats, and the words that they stand in. Assumes nothing.
use Rattle.std.proofs.Common.{◌≡◌, ℕ, zero, suc, ◌+◌, ◌-◌, ◌*◌, ◌<◌, ◌≤◌, Bool, true, false, cond, eqb, min, List, [], ◌∷◌, length, get_or, sym, refl, ap, ◌∙◌, ap₂, arith, eqb-true}
use Rattle.std.specs.List.{sum_by, zip}
use Rattle.std.proofs.lemmas.List.Sums.{sum_by-cons, sum_by-le}
use Rattle.std.proofs.lemmas.List.Elements.{All-from_get_or}
use Rattle.std.proofs.lemmas.Slice.Zip.{length-zip, get_or-zip}
use Rattle.model.specs.Lists.{part}
use Rattle.model.specs.Seats.{sum_from, share, charge, unused, others_unused, all_unused}
use Rattle.model.specs.declared.seats.Seats.{Seats}
use Rattle.model_laws.specs.Words.{get_d_part, length_part}
use Rattle.tree_seats.specs.Words.{seats_from}

-- a sum over a list, as a sum over the places of the list
shift : (f : ℕ → ℕ) (j n : ℕ) → sum_from f (suc j) n ≡ sum_from (λ i. f (suc i)) j n
unfolding sum_from
shift f j zero = refl
shift f j (suc n) = ap (λ (x : ℕ). f (suc j) + x) (shift f (suc j) n)

places : {A : Type 0} (f : A → ℕ) (d : A) (xs : List A) → sum_by f xs ≡ sum_from (λ j. f (get_or xs j d)) 0 (length xs)
unfolding sum_from
places f d [] = refl
places f d (x ∷ xs) = sum_by-cons f x xs ∙ ap (λ (a : ℕ). f x + a) (places f d xs ∙ sym (shift (λ j. f (get_or (x ∷ xs) j d)) 0 (length xs)))

-- two sums whose terms are the same
pub same_sum : (f g : ℕ → ℕ) (j n : ℕ) → ((k : ℕ) → k < j + n → f k ≡ g k) → sum_from f j n ≡ sum_from g j n
unfolding sum_from
same_sum f g j zero h = refl
same_sum f g j (suc n) h = ap₂ (λ (a b : ℕ). a + b) (h j (omega arith)) (same_sum f g (suc j) n (λ k l. h k (omega (arith, l))))

-- eight words as a part of some
pub part_sum : (p : ℕ) (w : List ℕ) → sum_from (λ j. get_or w (p + j) 0) 0 8 ≡ sum_from (λ j. get_or (part p 8 w) j 0) 0 8
part_sum p w = same_sum (λ j. get_or w (p + j) 0) (λ j. get_or (part p 8 w) j 0) 0 8 (λ k l. sym (get_d_part p 8 k w l))

pub share_word : (w : List ℕ) (j : ℕ) → j < 8 → share (seats_from w) j ≡ get_or w (1 + j) 0
unfolding seats_from
share_word w j l = get_d_part 1 8 j w l

pub charge_word : (w : List ℕ) (j : ℕ) → j < 8 → charge (seats_from w) j ≡ get_or w (9 + j) 0
unfolding seats_from
charge_word w j l = get_d_part 9 8 j w l

-- eight words, listed
module _ (w : List ℕ) (p : ℕ) (h : p + 8 ≤ length w) where
  pub words_sum : sum_by (λ (x : ℕ). x) (part p 8 w) ≡ sum_from (λ j. get_or w (p + j) 0) 0 8
  words_sum = places (λ x. x) 0 (part p 8 w) ∙ ap (sum_from (λ j. get_or (part p 8 w) j 0) 0) (length_part p 8 w h) ∙ sym (part_sum p w)

  pub words_below : (m : ℕ) → ((k : ℕ) → get_or w k 0 ≤ m) → sum_by (λ (x : ℕ). x) (part p 8 w) ≤ 8 * m
  words_below m le =
      let n = length_part p 8 w h in
      let z = sum_by-le (λ (x : ℕ). x) m (part p 8 w) (All-from_get_or (λ x. x ≤ m) (part p 8 w) 0 (λ i l. rw (get_d_part p 8 i w (omega (arith, n, l))) (le (p + i)))) in
      rw n at z

-- the shares beside the charges
module _ (w : List ℕ) (e : length w ≡ 17) where
  pub eight_pairs : length (zip (part 1 8 w) (part 9 8 w)) ≡ 8
  eight_pairs = length-zip (part 1 8 w) (part 9 8 w) ∙ ap₂ min (length_part 1 8 w (omega (arith, e))) (length_part 9 8 w (omega (arith, e)))

  pub unused_sum : sum_by (λ (x : ℕ × ℕ). x.0 - x.1) (zip (part 1 8 w) (part 9 8 w)) ≡ all_unused (seats_from w)
  unfolding seats_from
  unused_sum =
      let a = length_part 1 8 w (omega (arith, e)) in
      let b = length_part 9 8 w (omega (arith, e)) in
      let pairs = zip (part 1 8 w) (part 9 8 w) in
      let term : ℕ → ℕ = λ j. (get_or pairs j (0, 0)).0 - (get_or pairs j (0, 0)).1 in
      places (λ (x : ℕ × ℕ). x.0 - x.1) (0, 0) pairs ∙ ap (sum_from term 0) eight_pairs
      ∙ same_sum term (unused (seats_from w)) 0 8 (λ k l. ap (λ (x : ℕ × ℕ). x.0 - x.1) (get_or-zip (part 1 8 w) (part 9 8 w) k (0, 0) (omega (arith, a, l)) (omega (arith, b, l))))

-- a seat at or over its share has nothing unused, so that all are the others
own_none : (b : Seats) (i k : ℕ) → share b i ≤ charge b i → (t : Bool) → eqb k i ≡ t → cond t 0 (unused b k) ≡ unused b k
own_none b i k h true e = let same = eqb-true k i e in rw same (omega (arith, h))
own_none b i k h false e = refl

pub others_all : (b : Seats) (i : ℕ) → share b i ≤ charge b i → all_unused b ≡ others_unused b i
others_all b i h = sym (same_sum (λ j. cond (eqb j i) 0 (unused b j)) (unused b) 0 8 (λ k l. own_none b i k h (eqb k i) refl))
