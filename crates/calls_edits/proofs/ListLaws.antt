-- Numbers written to the front of the list area, one after the other, are the list of the difference. Assumes nothing.
use Rattle.model.specs.Numbered.{Numbered}
use Rattle.std.specs.Prelude.{Ok}
use mathlib.Core.Path.{◌≡◌, refl, sym, ap, subst, ◌∙◌}
use mathlib.Core.Logic.{◌≢◌}
use mathlib.Core.Bool.{Bool, true, false, cond, ◌&&◌, not}
use mathlib.Core.List.{List, [], ◌∷◌}
use Prim.Native.Nat.{ℕ, suc, ◌+◌, ◌-◌, ◌<◌, ◌≤◌}
use native.Mathlib.Omega.{arith}
use native.Mathlib.Numerals.{add-one}
use lib.ListN.{length, get_or, set}
use lib.Dec.{eqb}
use borrow.Author.Tests.{eq-eqb, ne_eqb}
use Rattle.model.specs.Lists.{range, put_at}
use Rattle.model_laws.specs.Words.{put_none, set_put, put_next}
use Rattle.calls_edits.specs.Edits.{edits, rests_on, picked, beyond}
use Rattle.calls_edits.specs.Walk.{listed, placed, written_from, written}
use Rattle.calls_edits.specs.Exactly.{length_picked}

-- one edit ----------------------------------------------------------------------------------------------------------------------------------

pub not_one : (one two : List ℕ) (k : ℕ) → get_or one k 0 ≢ 1 → false ≡ listed one two k
unfolding listed
not_one one two k h = rw (ne_eqb (get_or one k 0) 1 h)

pub only_two : (one two : List ℕ) (k : ℕ) → get_or one k 0 ≡ 1 → not (eqb (get_or two k 0) 1) ≡ listed one two k
unfolding listed
only_two one two k h = rw (eq-eqb (get_or one k 0) 1 h)

pub not_placed : (b : Bool) (k count : ℕ) (area : List ℕ) → b ≡ false → ◌≡◌ {A = ℕ × List ℕ} (count, area) (placed b k count area)
unfolding placed
not_placed b k count area e = rw e

pub is_placed : (b : Bool) (k count : ℕ) (area : List ℕ) → b ≡ true → ◌≡◌ {A = ℕ × List ℕ} (count + 1, set area count k) (placed b k count area)
unfolding placed
is_placed b k count area e = rw e

pub placed_count : (b : Bool) (k count now : ℕ) (area after : List ℕ) → ◌≡◌ {A = ℕ × List ℕ} (now, after) (placed b k count area) → now ≤ count + 1
unfolding placed
placed_count true k count now area after e = omega (arith, ap (λ (p : ℕ × List ℕ). p.0) e)
placed_count false k count now area after e = omega (arith, ap (λ (p : ℕ × List ℕ). p.0) e)

-- all edits ---------------------------------------------------------------------------------------------------------------------------------

one_more : (k count : ℕ) (xs area : List ℕ) → count + 1 + length xs ≤ length area → put_at (count + 1) xs (set area count k) ≡ put_at count (k ∷ xs) area
one_more k count xs area h =
    rw (set_put count k area (omega arith)) (put_next count (count + 1) (k ∷ []) xs area (omega arith) (omega arith))

step : (q : ℕ → Bool) (k m count now : ℕ) (area after : List ℕ) → count + 1 + m ≤ length area → ◌≡◌ {A = ℕ × List ℕ} (now, after) (placed (q k) k count area)
    → written_from q (suc k) m now after ≡ written_from q k (suc m) count area
unfolding written_from placed picked range
step q k m count now area after h e = go (q k) e
  where
    xs : List ℕ
    xs = picked q (range (suc k) m)

    go : (b : Bool) → ◌≡◌ {A = ℕ × List ℕ} (now, after) (cond b (count + 1, set area count k) (count, area))
        → ◌≡◌ {A = ℕ × List ℕ} (now + length xs, put_at now xs after) (count + length (cond b (k ∷ xs) xs), put_at count (cond b (k ∷ xs) xs) area)
    go true e =
        let l : length xs ≤ m = length_picked q (suc k) m in
        let s : count + 1 + length xs ≡ count + length (k ∷ xs) = omega arith in
        let n : now ≡ count + 1 = ap (λ (p : ℕ × List ℕ). p.0) e in
        let a : after ≡ set area count k = ap (λ (p : ℕ × List ℕ). p.1) e in
        rw (n, a, s, one_more k count xs area (omega arith))
    go false e =
        let n : now ≡ count = ap (λ (p : ℕ × List ℕ). p.0) e in
        let a : after ≡ area = ap (λ (p : ℕ × List ℕ). p.1) e in
        rw (n, a)

-- a turn of the loop, at edit k
pub write_turn : (q : ℕ → Bool) (n k count now : ℕ) (b : Bool) (area after : List ℕ) (all : ℕ × List ℕ) → k < n → count ≤ k → n ≤ length area
    → b ≡ q k → ◌≡◌ {A = ℕ × List ℕ} (now, after) (placed b k count area) → written_from q k (n - k) count area ≡ all
    → written_from q (k + 1) (n - (k + 1)) now after ≡ all
write_turn q n k count now b area after all h l s eb e inv =
    let t : n - k ≡ suc (n - suc k) = omega arith in
    let e' : ◌≡◌ {A = ℕ × List ℕ} (now, after) (placed (q k) k count area) = subst (λ (x : Bool). ◌≡◌ {A = ℕ × List ℕ} (now, after) (placed x k count area)) eb e in
    rw (add-one k) (step q k (n - suc k) count now area after (omega arith) e' ∙ (ap (λ (x : ℕ). written_from q k x count area) (sym t) ∙ inv))

pub write_all : (q : ℕ → Bool) (n k count : ℕ) (area : List ℕ) (all : ℕ × List ℕ) → n ≤ k → written_from q k (n - k) count area ≡ all → ◌≡◌ {A = ℕ × List ℕ} (count, area) all
unfolding written_from picked range
write_all q n k count area all h inv =
    let s : n - k ≡ 0 = omega arith in
    let z : count + 0 ≡ count = omega arith in
    rw (s, z, put_none count area) at inv

-- what is listed is what one rests on and the other doesn't -----------------------------------------------------------------------------------

picked_same : (p q : ℕ → Bool) → ((k : ℕ) → p k ≡ q k) → (ks : List ℕ) → picked p ks ≡ picked q ks
unfolding picked
picked_same p q h [] = refl
picked_same p q h (k ∷ ks) = rw (h k, picked_same p q h ks)

pub the_difference : (file : List ℕ) (a b r : ℕ) (one two area after : List ℕ) → ((k : ℕ) → eqb (get_or one k 0) 1 ≡ rests_on file a k) → ((k : ℕ) → eqb (get_or two k 0) 1 ≡ rests_on file b k)
    → ◌≡◌ {A = ℕ × List ℕ} (r, after) (written (listed one two) (edits file) area)
    → ◌≡◌ {A = (Numbered ℕ) × List ℕ} (Ok r, after) (Ok (length (beyond file a b)), put_at 0 (beyond file a b) area)
unfolding written_from beyond listed
the_difference file a b r one two area after ha hb e =
    let s : picked (listed one two) (range 0 (edits file)) ≡ picked (λ k. rests_on file a k && not (rests_on file b k)) (range 0 (edits file)) =
    picked_same (listed one two) (λ k. rests_on file a k && not (rests_on file b k)) (λ k. rw (ha k, hb k)) (range 0 (edits file))
    in
    let er : r ≡ 0 + length (picked (listed one two) (range 0 (edits file))) = ap (λ (p : ℕ × List ℕ). p.0) e in
    let ez : r ≡ length (picked (listed one two) (range 0 (edits file))) = omega arith in
    let ea : after ≡ put_at 0 (picked (listed one two) (range 0 (edits file))) area = ap (λ (p : ℕ × List ℕ). p.1) e in
    rw (ez, ea, s)
