-- What `all` answers over the numbers below n is the definition's test of each. Assumes nothing.
use mathlib.Core.Path.{◌≡◌, refl, ap, ◌∙◌}
use mathlib.Core.Bool.{Bool, ◌&&◌}
use Prim.Native.Nat.{ℕ, zero, suc, ◌+◌}
use native.Mathlib.Omega.{arith}
use Rattle.std.specs.List.{list_all, range_with_len}
use Rattle.model.specs.Audit.{every}

pub every_all : (q : ℕ → Bool) (i n : ℕ) → list_all q (range_with_len i n) ≡ every q i n
unfolding every
every_all q i zero = refl
every_all q i (suc n) =
    let next : i + 1 ≡ suc i = omega arith in
    ap (λ (b : Bool). q i && b) (ap (λ (k : ℕ). list_all q (range_with_len k n)) next ∙ every_all q (suc i) n)
