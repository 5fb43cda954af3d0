-- A test of the n numbers from a on: what `all` and a loop answer, and tests that agree. Assumes nothing.
use mathlib.Core.Path.{◌≡◌, refl, ap, ◌∙◌}
use mathlib.Core.Bool.{Bool, true, false, ◌&&◌}
use Prim.Native.Nat.{ℕ, zero, suc, ◌+◌, ◌-◌, ◌<◌, ◌≤◌}
use native.Mathlib.Omega.{arith}
use denote.Param.Members.{Mut}
use Rattle.std.specs.Fn.{Called}
use Rattle.std.specs.Iterator.{ChecksAll}
use Rattle.std.specs.List.{list_all, range_with_len}
use Rattle.std.specs.declared.ops.Range.{Range}
use Rattle.std.proofs.iter.Yields.{nat_range_steps}
use Rattle.std.proofs.lemmas.Iterator.{YieldsList-from_range}
use Rattle.std.proofs.lemmas.Iterator.Search.{all_from_yields_List}
use Rattle.model.specs.Audit.{every}

-- `all` over the range from a up to b, whose closure answers q
module _ (q : ℕ → Bool) where
  list_every : (a n : ℕ) → list_all q (range_with_len a n) ≡ every q a n
  unfolding every
  list_every a zero = refl
  list_every a (suc n) =
      let next : a + 1 ≡ suc a = omega arith in
      ap (λ (b : Bool). q a && b) (ap (λ (k : ℕ). list_all q (range_with_len k n)) next ∙ list_every (suc a) n)

  pub every_from_all : {F : Type 0} {g : Mut F (ℕ × Unit {0}) Bool} {s u : Range ℕ} {f : F} {r : Bool} (a b n : ℕ) → s ≡ record { start = a; end = b } → b - a ≡ n
      → ChecksAll nat_range_steps g s f r u → ((x : ℕ) (t : Bool) (f' : F) → Called g f (x, tt) t f' → (f' ≡ f) × (t ≡ q x)) → r ≡ every q a n
  every_from_all {u = u} {f = f} {r = r} a b n e m ran says = all_from_yields_List q u f r ran (YieldsList-from_range a b n e m) says ∙ list_every a n

-- one by one, from i up to n
module _ (q : ℕ → Bool) where
  pub every_end : (i n : ℕ) → n ≤ i → every q i (n - i) ≡ true
  unfolding every
  every_end i n h = let none : n - i ≡ 0 = omega arith in rw none

  step : (i n : ℕ) → i < n → every q i (n - i) ≡ (q i && every q (i + 1) (n - (i + 1)))
  unfolding every
  step i n h =
      let more : n - i ≡ suc (n - (i + 1)) = omega arith in
      let next : i + 1 ≡ suc i = omega arith in
      rw (more, next)

  pub every_stop : (i n : ℕ) → i < n → q i ≡ false → every q i (n - i) ≡ false
  every_stop i n h e = step i n h ∙ rw e

  pub every_on : (i n : ℕ) → i < n → q i ≡ true → every q i (n - i) ≡ every q (i + 1) (n - (i + 1))
  every_on i n h e = step i n h ∙ rw e

pub every_same : (q r : ℕ → Bool) → ((i : ℕ) → q i ≡ r i) → (i n : ℕ) → every q i n ≡ every r i n
unfolding every
every_same q r e i zero = refl
every_same q r e i (suc n) = rw (e i, every_same q r e (suc i) n)
