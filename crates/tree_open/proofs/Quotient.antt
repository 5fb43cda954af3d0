-- A product with 2^21 / h and a little more, divided by 2^21, is the quotient by h. Assumes nothing.
use native.Mathlib.Omega.{arith}
use native.Mathlib.Nat.{div-le_self, div-mul-le_self, lt-div-mul-add, div-eq_of_lt-le, div-add-mod', mod-lt, mul-le-mul_left, mul-le-mul_right, mul_assoc, mul_comm, add-mul, mul-add}
use mathlib.Core.Path.{◌≡◌, refl, sym, ◌∙◌, ap}
use mathlib.Core.Bool.{Bool, true, false}
use lib.Dec.{ltb}
use borrow.Author.Tests.{ltb-true, ltb-false}
use Rattle.model.specs.State.{nodes_for}
use Prim.Native.Nat.{ℕ, ◌+◌, ◌*◌, ◌/◌, ◌%◌, ◌≤◌, ◌<◌, max}

-- the two parts of the product
parts : (q r h m n : ℕ) → q * h + r ≡ n → n * m ≡ q * (m * h) + r * m
parts q r h m n e = ap (λ (x : ℕ). x * m) (sym e) ∙ add-mul (q * h) r m ∙ ap (λ (x : ℕ). x + r * m) (mul_assoc q h m ∙ ap (λ (x : ℕ). q * x) (mul_comm h m))

below : (q r h m n : ℕ) → q * h + r ≡ n → 2097152 < m * h → q * 2097152 ≤ n * m
below q r h m n e lo = omega (arith, parts q r h m n e, mul-le-mul_left {m = 2097152} {n = m * h} q (omega (arith, lo)))

above : (q r h m n : ℕ) → q * h + r ≡ n → r < h → h ≤ 16 → n ≤ 65536 → 2097152 < m * h → m * h ≤ 2097152 + h → n * m < (q + 1) * 2097152
above q r h m n e small few most lo hi =
    omega
    (arith, parts q r h m n e, mul-le-mul_left {m = m * h} {n = 2097152 + h} q hi, mul-add q 2097152 h, mul-le-mul_right {m = r + 1} {n = h} m (omega (arith, small)), add-mul r 1 m, mul_comm h m, mul-le-mul_left {m = h} {n = 16} m few)

pub quotient : (n h m : ℕ) → 2 ≤ h → h ≤ 16 → n ≤ 65536 → 2097152 < m * h → m * h ≤ 2097152 + h → n * m / 2097152 ≡ n / h
quotient n h m some few most lo hi =
    div-eq_of_lt-le {k = n / h} 2097152 {m = n * m}
    (below (n / h) (n % h) h m n (div-add-mod' n h) lo)
    (above (n / h) (n % h) h m n (div-add-mod' n h) (mod-lt n {m = h} (omega (arith, some))) few most lo hi)

pub reciprocals : (h : ℕ) → 2 ≤ h → (2097152 < (2097152 / h + 1) * h) × ((2097152 / h + 1) * h ≤ 2097152 + h) × (2097152 / h + 1 ≤ 1048577)
reciprocals h some = (
  (omega (arith, add-mul (2097152 / h) 1 h, lt-div-mul-add {a = 2097152} {b = h} (omega (arith, some)))),
  (omega (arith, add-mul (2097152 / h) 1 h, div-mul-le_self 2097152 h)),
  (omega (arith, div-mul-le_self 2097152 h, mul-le-mul_left {m = 2} {n = h} (2097152 / h) some)),
)

pub small : (x : ℕ) → x ≤ 1048577 → x < 18446744073709551616
small x le = omega (arith, le)

-- what `nodes_for` answers, by the product
module _ (fan limit r : ℕ) (least : 4 ≤ fan) (most : fan ≤ 32) (few : limit ≤ 65536) (of : (2097152 < r * (fan / 2)) × (r * (fan / 2) ≤ 2097152 + fan / 2) × (r ≤ 1048577)) where
  by_product : limit * r / 2097152 ≡ limit / (fan / 2)
  by_product = quotient limit (fan / 2) r (omega (arith, least)) (omega (arith, most)) few of.0 of.1

  within : limit / (fan / 2) ≤ 65536
  within = omega (arith, div-le_self limit (fan / 2), few)

  pub nodes_most : (n : ℕ) → n ≡ max (limit * r / 2097152) 1 → (n ≡ nodes_for fan limit) × (n ≤ 65536)
  nodes_most n e = go (ltb (limit / (fan / 2)) 1) refl
    where
      go : (b : Bool) → ltb (limit / (fan / 2)) 1 ≡ b → (n ≡ nodes_for fan limit) × (n ≤ 65536)
      go true t = (rw t (omega (arith, e, by_product, ltb-true _ _ t)), omega (arith, e, by_product, within))
      go false t = (rw t (omega (arith, e, by_product, ltb-false _ _ t)), omega (arith, e, by_product, within))
