-- A number's columns, written from the last to the first, are the number right-justified. Assumes nothing.
use Rattle.std.proofs.Common.{◌≡◌, ℕ, zero, suc, ◌+◌, ◌-◌, ◌/◌, ◌%◌, ◌^◌, ◌<◌, ◌≤◌, Bool, true, false, cond, not, ◌&&◌, eqb, ltb, List, [], ◌∷◌, ◌++◌, length, set, replicate, sym, refl, ap, ◌∙◌, append_assoc, arith, length-append, ltb-false, ltb-true, le-ltb, lt-ltb, eq-eqb, ne_eqb}
use lib.ListN.{replicate-append-replicate}
use Rattle.model.specs.Lists.{put_at}
use Rattle.model.specs.Numeral.{numeral, decimal}
use Rattle.model.specs.Sheet.{column}
use Rattle.model_laws.specs.Words.{put_none, set_put, put_prev}
use Rattle.calls_print.specs.Columns.{glyph}

-- a blank, and a digit
is_blank : (m w : ℕ) → m ≡ 0 → (w ≡ 9 → ⊥) → 32 ≡ glyph m w
unfolding glyph
is_blank m w e h = rw (eq-eqb m 0 e, ne_eqb w 9 h)

is_digit : (m w : ℕ) → (m ≡ 0 → ⊥) → 48 + m % 10 ≡ glyph m w
unfolding glyph
is_digit m w h = rw (ne_eqb m 0 h)

-- the first w columns, where m is left of the number
unfoldable pub glyphs : ℕ → ℕ → List ℕ
glyphs zero m = []
glyphs (suc w) m = glyphs w (m / 10) ++ (glyph m w ∷ [])

length_glyphs : (w m : ℕ) → length (glyphs w m) ≡ w
unfolding glyphs
length_glyphs zero m = refl
length_glyphs (suc w) m = omega (arith, length-append (glyphs w (m / 10)) (glyph m w ∷ []), length_glyphs w (m / 10))

-- nothing left: blanks
blanks : (w : ℕ) → w ≤ 9 → glyphs w 0 ≡ replicate w 32
unfolding glyphs
blanks zero h = refl
blanks (suc w) h =
    let e : w + 1 ≡ suc w = omega arith in
    let none : 0 / 10 ≡ 0 = omega arith in
    rw (none, blanks w (omega arith), ← is_blank 0 w refl (λ q. omega arith)) (replicate-append-replicate w 1 32 ∙ ap (λ (k : ℕ). replicate k 32) e)

-- the digits of m with blanks before them, k bytes in all
abbrev padded : ℕ → ℕ → List ℕ
padded k m = replicate (k - length (numeral k m)) 32 ++ numeral k m

one_digit : (k m : ℕ) → m < 10 → padded (suc k) m ≡ replicate k 32 ++ ((48 + m) ∷ [])
unfolding numeral
one_digit k m h =
    let e : suc k - 1 ≡ k = omega arith in
    rw (lt-ltb m 10 h) (ap (λ (j : ℕ). replicate j 32 ++ ((48 + m) ∷ [])) e)

more_digits : (k m : ℕ) → 10 ≤ m → padded (suc k) m ≡ padded k (m / 10) ++ ((48 + m % 10) ∷ [])
unfolding numeral
more_digits k m h =
    let ds : List ℕ = numeral k (m / 10) in
    let e : suc k - length (numeral k (m / 10) ++ ((48 + m % 10) ∷ [])) ≡ k - length (numeral k (m / 10)) = omega (arith, length-append (numeral k (m / 10)) ((48 + m % 10) ∷ [])) in
    rw (le-ltb m 10 h) (ap (λ (j : ℕ). replicate j 32 ++ (ds ++ ((48 + m % 10) ∷ []))) e ∙ sym (append_assoc (replicate (k - length ds) 32) ds ((48 + m % 10) ∷ [])))

-- all columns but the last
front : (k m : ℕ) → k ≤ 9 → 0 < m → m < 10 ^ k → glyphs k m ≡ padded k m
unfolding glyphs
front zero m h p l = absurd (omega arith)
front (suc k) m h p l = go (ltb m 10) refl (λ (q : 10 ≤ m). front k (m / 10) (omega arith) (omega arith) (omega arith))
  where
    go : (b : Bool) → ltb m 10 ≡ b → (10 ≤ m → glyphs k (m / 10) ≡ padded k (m / 10)) → glyphs k (m / 10) ++ (glyph m k ∷ []) ≡ padded (suc k) m
    go true e f =
        let q : m < 10 = ltb-true m 10 e in
        let z : m / 10 ≡ 0 = omega arith in
        let y : m % 10 ≡ m = omega arith in
        rw (← is_digit m k (λ a. omega arith), z, y, blanks k (omega arith)) (sym (one_digit k m q))
    go false e f =
        let q : 10 ≤ m = ltb-false m 10 e in
        rw (← is_digit m k (λ a. omega arith), f q) (sym (more_digits k m q))

-- the last column is a digit always
last_digit : (n : ℕ) → glyph n 9 ≡ 48 + n % 10
unfolding glyph
last_digit n = go (eqb n 0)
  where
    go : (b : Bool) → cond (b && not (eqb 9 9)) 32 (48 + n % 10) ≡ 48 + n % 10
    go true = refl
    go false = refl

ten_columns : (n : ℕ) → n < 2 ^ 32 → glyphs 9 (n / 10) ++ (glyph n 9 ∷ []) ≡ padded 10 n
ten_columns n h = go (ltb n 10) refl
  where
    go : (b : Bool) → ltb n 10 ≡ b → glyphs 9 (n / 10) ++ (glyph n 9 ∷ []) ≡ padded 10 n
    go true e =
        let q : n < 10 = ltb-true n 10 e in
        let z : n / 10 ≡ 0 = omega arith in
        let y : n % 10 ≡ n = omega arith in
        rw (last_digit n, z, y, blanks 9 (omega arith)) (sym (one_digit 9 n q))
    go false e =
        let q : 10 ≤ n = ltb-false n 10 e in
        rw (last_digit n, front 9 (n / 10) (omega arith) (omega arith) (omega arith)) (sym (more_digits 9 n q))

justified : (n : ℕ) → n < 2 ^ 32 → glyphs 10 n ≡ column n
unfolding glyphs column decimal
justified n h = ten_columns n h

-- one column written: what is left is written over the columns before it
pub turn : (at w m b : ℕ) (page all : List ℕ) → 1 ≤ w → at + w ≤ length page → b ≡ glyph m (w - 1) → put_at at (glyphs w m) page ≡ all → put_at at (glyphs (w - 1) (m / 10)) (set page (at + (w - 1)) b) ≡ all
unfolding glyphs
turn at zero m b page all h l e inv = absurd (omega arith)
turn at (suc w) m b page all h l e inv =
    let z : suc w - 1 ≡ w = omega arith in
    rw (z, e, z, set_put (at + w) (glyph m w) page (omega arith), put_prev at (at + w) (glyphs w (m / 10)) (glyph m w ∷ []) page (ap (λ (k : ℕ). at + k) (sym (length_glyphs w (m / 10)))) (omega arith)) inv

pub all_columns : (at w m n : ℕ) (page old : List ℕ) → w ≤ 0 → n < 2 ^ 32 → put_at at (glyphs w m) page ≡ put_at at (glyphs 10 n) old → page ≡ put_at at (column n) old
unfolding glyphs
all_columns at zero m n page old h l inv = sym (put_none at page) ∙ inv ∙ ap (λ (t : List ℕ). put_at at t old) (justified n l)
all_columns at (suc w) m n page old h l inv = absurd (omega arith)
