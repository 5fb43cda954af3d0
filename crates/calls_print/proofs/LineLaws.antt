-- A line written field by field, and blank lines. Assumes nothing.
use Rattle.std.proofs.Common.{◌≡◌, ℕ, zero, suc, ◌+◌, ◌-◌, ◌*◌, ◌<◌, ◌≤◌, List, [], ◌∷◌, ◌++◌, length, get_or, take, drop, set, replicate, sym, refl, ap, ◌∙◌, append_assoc, add-one, arith, length-append, length-drop, drop_of_length-le, drop-cons}
use lib.ListN.{length-replicate}
use borrow.Rule.Slice.PartMut.{put_mid}
use Rattle.model.specs.Lists.{put_at}
use Rattle.model.specs.Sheet.{column, line, blank_lines}
use Rattle.model_laws.specs.Words.{length_part, lent, lent_back, put_none, set_put, put_on, put_next, put_put, length_put}
use Rattle.model_laws.specs.Sheet.{length_column, length_blank_lines}
use Rattle.calls_print.specs.Columns.{fields}

-- 54 blanks, lent and filled, and the line feed behind them
pub blanked : (at : ℕ) (old new : List ℕ) → at + 55 ≤ length old → length new ≡ length (take (at + 54 - at) (drop at old)) → new ≡ replicate (length (take (at + 54 - at) (drop at old))) 32
    → set (put_mid at (at + 54 - at) old new) (at + 54) 10 ≡ put_at at (replicate 54 32 ++ 10 ∷ []) old
blanked at old new h l e =
    let n : length (take (at + 54 - at) (drop at old)) ≡ 54 = rw lent (length_part at 54 old (omega arith)) in
    rw (lent_back at 54 old new (omega arith) l, e, n)
    (put_on at (at + 54) 10 (replicate 54 32) old (ap (λ (k : ℕ). at + k) (sym (length-replicate {A = ℕ} 54 32))) (omega arith))

-- a write of which the first k bytes are written
pub put_left : (p k : ℕ) (xs ys page new all : List ℕ) → length xs ≡ k → p + k + length ys ≤ length page → new ≡ put_at p xs page → put_at p (xs ++ ys) page ≡ all → put_at (p + k) ys new ≡ all
put_left p k xs ys page new all l h e inv = rw (e, put_next p (p + k) xs ys page (ap (λ (n : ℕ). p + n) (sym l)) h) inv

-- blank lines: one is written, and one less is left
pub one_line : (p left : ℕ) (page new all : List ℕ) → 0 < left → p + 55 * left ≤ length page → new ≡ put_at p (replicate 54 32 ++ 10 ∷ []) page → put_at p (blank_lines left) page ≡ all
    → put_at (p + 55) (blank_lines (left - 1)) new ≡ all
unfolding blank_lines
one_line p zero page new all h l e inv = absurd (omega arith)
one_line p (suc n) page new all h l e inv =
    let z : suc n - 1 ≡ n = omega arith in
    rw z (put_left p 55 (replicate 54 32 ++ 10 ∷ []) (blank_lines n) page new all
    (length-append {A = ℕ} (replicate 54 32) (10 ∷ [])) (omega (arith, length_blank_lines n)) e (rw (append_assoc (replicate 54 32) (10 ∷ []) (blank_lines n)) inv))

pub no_line : (p left : ℕ) (page all : List ℕ) → left ≤ 0 → put_at p (blank_lines left) page ≡ all → page ≡ all
unfolding blank_lines
no_line p zero page all h inv = sym (put_none p page) ∙ inv
no_line p (suc n) page all h inv = absurd (omega arith)

-- fields: a column and its blank are written
length_fields : (ns : List ℕ) → length (fields ns) ≡ 11 * length ns
unfolding fields
length_fields [] = refl
length_fields (n ∷ ns) = omega (arith, length-append (column n) (32 ∷ fields ns), length_column n, length_fields ns)

pub one_field : (p i : ℕ) (ns page new all : List ℕ) → i < length ns → p + 11 * (length ns - i) ≤ length page → new ≡ put_at p (column (get_or ns i 0)) page → put_at p (fields (drop i ns)) page ≡ all
    → put_at (p + 11) (fields (drop (i + 1) ns)) (set new (p + 10) 32) ≡ all
unfolding fields
one_field p i ns page new all h l e inv =
    let n : ℕ = get_or ns i 0 in
    let rest : List ℕ = fields (drop (suc i) ns) in
    let lc : length (column (get_or ns i 0)) ≡ 10 = length_column (get_or ns i 0) in
    let lf : length (fields (drop (suc i) ns)) ≡ 11 * (length ns - suc i) = length_fields (drop (suc i) ns) ∙ ap (λ (k : ℕ). 11 * k) (length-drop (suc i) ns) in
    rw add-one (put_left p 11 (column n ++ 32 ∷ []) rest page (set new (p + 10) 32) all
    (length-append (column n) (32 ∷ []) ∙ ap (λ (k : ℕ). k + 1) lc) (omega arith)
    (rw e (put_on p (p + 10) 32 (column n) page (ap (λ (k : ℕ). p + k) (sym lc)) (omega arith)))
    (rw (append_assoc (column n) (32 ∷ []) rest) (rw (drop-cons ns i 0 h) at inv)))

pub no_field : (p i : ℕ) (ns page all : List ℕ) → length ns ≤ i → put_at p (fields (drop i ns)) page ≡ all → page ≡ all
unfolding fields
no_field p i ns page all h inv = sym (put_none p page) ∙ (rw (drop_of_length-le ns h) at inv)

-- the last blank makes way for the line feed
pub feed : (at : ℕ) (front page new : List ℕ) → length front ≡ 54 → at + 55 ≤ length page → new ≡ put_at at (front ++ 32 ∷ []) page → set new (at + 54) 10 ≡ put_at at (front ++ 10 ∷ []) page
feed at front page new l h e =
    let q : at + 54 ≡ at + length front = ap (λ (k : ℕ). at + k) (sym l) in
    let old : List ℕ = put_at at front page in
    let lo : length (put_at at front page) ≡ length page = length_put at front page (omega arith) in
    rw (e, ← put_next at (at + 54) front (32 ∷ []) page q (omega arith))
    (set_put (at + 54) 10 (put_at (at + 54) (32 ∷ []) old) (omega (arith, length_put (at + 54) (32 ∷ []) old (omega arith)))
    ∙ put_put (at + 54) (32 ∷ []) (10 ∷ []) old refl (omega arith) ∙ put_next at (at + 54) front (10 ∷ []) page q (omega arith))

regroup : (a b c d e f : List ℕ) → a ++ b ++ c ++ d ++ e ++ f ≡ a ++ (b ++ (c ++ (d ++ (e ++ f))))
regroup a b c d e f = simp append_assoc

pub line_is : (at a b c d e : ℕ) (page new : List ℕ) → at + 55 ≤ length page → new ≡ put_at at (fields (a ∷ b ∷ c ∷ d ∷ e ∷ [])) page → set new (at + 54) 10 ≡ put_at at (line a b c d e) page
unfolding fields line
line_is at a b c d e page new h q =
    feed at (column a ++ 32 ∷ column b ++ 32 ∷ column c ++ 32 ∷ column d ++ 32 ∷ column e) page new (simp (length-append, length_column)) h
    (q ∙ ap (λ (t : List ℕ). put_at at t page) (sym (regroup (column a) (32 ∷ column b) (32 ∷ column c) (32 ∷ column d) (32 ∷ column e) (32 ∷ []))))
