-- Text written piece by piece is the pieces written as one. Assumes nothing.
use mathlib.Core.Path.{◌≡◌, refl, sym, ap, ap₂, ◌∙◌, subst}
use mathlib.Core.List.{List, [], ◌∷◌, ◌++◌}
use Prim.Native.Nat.{ℕ, zero, suc, ◌+◌, ◌-◌, ◌/◌, ◌%◌, ◌≤◌, ◌<◌}
use native.Mathlib.Nat.{add-zero, add-suc, suc-add}
use native.Mathlib.Omega.{arith}
use borrow.Author.Tests.{lt-ltb, le-ltb}
use lib.ListN.{length, set, length-append}
use lib.Seq.{sets}
use Rattle.list_records.specs.declared.answer.Answer.{Answer}
use Rattle.model.specs.Numeral.{numeral, decimal}
use Rattle.model_laws.specs.Sheet.{numeral_short, decimal_short}
use Rattle.list_stream.specs.Text.{line, put}

sets_append : (out : List ℕ) (at : ℕ) (xs ys : List ℕ) → sets (sets out at xs) (at + length xs) ys ≡ sets out at (xs ++ ys)
sets_append out at [] ys = ap (λ (k : ℕ). sets out k ys) (add-zero at)
sets_append out at (x ∷ xs) ys = ap (λ (k : ℕ). sets (sets (set out at x) (suc at) xs) k ys) (add-suc at (length xs) ∙ sym (suc-add at (length xs))) ∙ sets_append (set out at x) (suc at) xs ys

-- what was written, by its parts
pub behind : (out o : List ℕ) (at r : ℕ) (text : List ℕ) → (r, o) ≡ put out at text → r ≡ at + length text
unfolding put
behind out o at r text e = ap (λ (p : ℕ × List ℕ). p.0) e

pub after : (out o : List ℕ) (at r : ℕ) (text : List ℕ) → (r, o) ≡ put out at text → o ≡ sets out at text
unfolding put
after out o at r text e = ap (λ (p : ℕ × List ℕ). p.1) e

-- more text behind
pub put_more : (out o : List ℕ) (at r : ℕ) (xs ys : List ℕ) → (r, o) ≡ put out at xs → put o r ys ≡ put out at (xs ++ ys)
unfolding put
put_more out o at r xs ys e =
    rw (behind out o at r xs e, after out o at r xs e)
    (ap₂ (λ (a : ℕ) (b : List ℕ). (a, b)) (omega (arith, length-append xs ys)) (sets_append out at xs ys))

pub put_nil : (out : List ℕ) (at : ℕ) → put out at [] ≡ (at, out)
unfolding put
put_nil out at = ap (λ (k : ℕ). (k, out)) (add-zero at)

-- one byte
pub put_one : (out : List ℕ) (at v : ℕ) → (at + 1, set out at v) ≡ put out at (v ∷ [])
unfolding put
put_one out at v = refl

-- the numeral's three cases
pub none_left : (out : List ℕ) (at n most : ℕ) → most ≡ 0 → (at, out) ≡ put out at (numeral most n)
unfolding numeral
none_left out at n most e = rw e (sym (put_nil out at))

pub last_digit : (out : List ℕ) (at n most : ℕ) → (most ≡ 0 → ⊥) → n < 10 → (at + 1, set out at (48 + n)) ≡ put out at (numeral most n)
unfolding numeral
last_digit out at n zero k h = absurd (k refl)
last_digit out at n (suc most) k h = rw (lt-ltb n 10 h) (put_one out at (48 + n))

pub one_more : (out o : List ℕ) (at r n most : ℕ) → (most ≡ 0 → ⊥) → 10 ≤ n → (r, o) ≡ put out at (numeral (most - 1) (n / 10)) → (r + 1, set o r (48 + n % 10)) ≡ put out at (numeral most n)
unfolding numeral
one_more out o at r n zero k h e = absurd (k refl)
one_more out o at r n (suc most) k h e =
    let less : suc most - 1 ≡ most = omega arith in
    rw (le-ltb n 10 h) (put_one o r (48 + n % 10) ∙ put_more out o at r (numeral most (n / 10)) ((48 + n % 10) ∷ []) (subst (λ (j : ℕ). (r, o) ≡ put out at (numeral j (n / 10))) less e))

-- the place behind all digits but the last is in the buffer
pub last_in : (out o : List ℕ) (at r n most : ℕ) → (most ≡ 0 → ⊥) → at + most ≤ length out → (r, o) ≡ put out at (numeral (most - 1) n) → r < length out
last_in out o at r n most k h e = omega (arith, behind out o at r (numeral (most - 1) n) e, numeral_short (most - 1) n, k, h)

-- a number and one byte behind it
pub field_of : (out o : List ℕ) (at r n b : ℕ) → (r, o) ≡ put out at (decimal n) → (r + 1, set o r b) ≡ put out at (decimal n ++ (b ∷ []))
field_of out o at r n b e = put_one o r b ∙ put_more out o at r (decimal n) (b ∷ []) e

pub field_short : (out o : List ℕ) (at r n b : ℕ) → (r, o) ≡ put out at (decimal n ++ (b ∷ [])) → r ≤ at + 11
field_short out o at r n b e = omega (arith, behind out o at r (decimal n ++ (b ∷ [])) e, length-append (decimal n) (b ∷ []), decimal_short n)

-- four fields
pub line_of : (a : Answer) (out o p q s : List ℕ) (at i j k r : ℕ) → (i, o) ≡ put out at (decimal a.number ++ (32 ∷ [])) → (j, p) ≡ put o i (decimal a.x ++ (32 ∷ []))
    → (k, q) ≡ put p j (decimal a.y ++ (32 ∷ []))
    → (r, s) ≡ put q k (decimal a.z ++ (10 ∷ [])) → (r, s) ≡ put out at (line a)
unfolding line
line_of a out o p q s at i j k r e f g h = h ∙ put_more p q j k _ _ g ∙ put_more o p i j _ _ f ∙ put_more out o at i _ _ e

pub line_short : (a : Answer) → length (line a) ≤ 44
unfolding line
line_short a =
    let w = decimal a.number ++ (32 ∷ []) in
    let x = decimal a.x ++ (32 ∷ []) in
    let y = decimal a.y ++ (32 ∷ []) in
    let z = decimal a.z ++ (10 ∷ []) in
    omega (
      arith,
      length-append w (x ++ (y ++ z)),
      length-append x (y ++ z),
      length-append y z,
      length-append (decimal a.number) (32 ∷ []),
      length-append (decimal a.x) (32 ∷ []),
      length-append (decimal a.y) (32 ∷ []),
      length-append (decimal a.z) (10 ∷ []),
      decimal_short a.number,
      decimal_short a.x,
      decimal_short a.y,
      decimal_short a.z,
    )
