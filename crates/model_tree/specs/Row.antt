-- The plain row at a place: what `before`, `from` and `found` give where an entry is known to stand.
use Rattle.std.specs.Prelude.{◌≡◌, ◌≢◌, ℕ, ◌+◌, ◌-◌, ◌<◌}
use Rattle.std.proofs.Math.Path.{refl}
use Rattle.std.proofs.Common.{ap}
use mathlib.Core.List.{List, [], ◌∷◌, ◌++◌}
use native.Mathlib.Omega.{arith}
use borrow.Author.Tests.{eq-eqb, ne_eqb, lt-ltb, le-ltb, le-leb}
use Rattle.model.specs.Lists.{sum_by, All}
use Rattle.model.specs.declared.shape.Kind.{Kind}
use Rattle.model.specs.Kind.{prepare}
use Rattle.model.specs.Row.{Entry, before, from, found, length_in, total}

abbrev pub RowWithout : ℕ → List Entry → Type 0
RowWithout i l = All (λ x. x.id ≢ i) l

module _ (i : ℕ) where
  pub before_at : (l : List Entry) (e : Entry) (m : List Entry) → RowWithout i l → e.id ≡ i → before i (l ++ e ∷ m) ≡ l
  unfolding before All
  before_at [] e m w q = rw (eq-eqb e.id i q)
  before_at (x ∷ l) e m w q = rw (ne_eqb x.id i w.0) (ap {B = List Entry} (λ k. x ∷ k) (before_at l e m w.1 q))

  pub from_at : (l : List Entry) (e : Entry) (m : List Entry) → RowWithout i l → e.id ≡ i → from i (l ++ e ∷ m) ≡ e ∷ m
  unfolding from All
  from_at [] e m w q = rw (eq-eqb e.id i q)
  from_at (x ∷ l) e m w q = rw (ne_eqb x.id i w.0) (from_at l e m w.1 q)

  -- where no entry has that id
  pub before_end : (l : List Entry) → RowWithout i l → before i l ≡ l
  unfolding before All
  before_end [] w = refl
  before_end (x ∷ l) w = rw (ne_eqb x.id i w.0) (ap {B = List Entry} (λ k. x ∷ k) (before_end l w.1))

  pub from_end : (l : List Entry) → RowWithout i l → from i l ≡ []
  unfolding from All
  from_end [] w = refl
  from_end (x ∷ l) w = rw (ne_eqb x.id i w.0) (from_end l w.1)

module _ (K : Kind) (v index : ℕ) where
  -- the entry that holds the index
  pub found_at : (s f p : ℕ) (l : List Entry) (e : Entry) (m : List Entry) (offset : ℕ) → s + total v l + offset ≡ index → offset < length_in v e
      → found K v index s f p (l ++ e ∷ m) ≡ e.id ∷ offset ∷ (f + total K.effect l) ∷ (p + total prepare l) ∷ []
  unfolding found sum_by
  found_at s f p [] e m offset q lt =
      let a : index - s ≡ offset = omega arith in
      let b : f ≡ f + 0 = omega arith in
      let c : p ≡ p + 0 = omega arith in
      rw (le-leb s index (omega arith), lt-ltb index (s + length_in v e) (omega arith), a, ← b, ← c)
  found_at s f p (x ∷ l) e m offset q lt =
      let a : f + length_in K.effect x + sum_by (length_in K.effect) l ≡ f + (length_in K.effect x + sum_by (length_in K.effect) l) = omega arith in
      let b : p + length_in prepare x + sum_by (length_in prepare) l ≡ p + (length_in prepare x + sum_by (length_in prepare) l) = omega arith in
      rw (le-leb s index (omega arith), le-ltb index (s + length_in v x) (omega arith), ← a, ← b) (found_at (s + length_in v x) (f + length_in K.effect x) (p + length_in prepare x) l e m offset (omega arith) lt)
