-- One step of each walk down: by the first slots, by the last slots in use, to the leaf after a place, to a position. Assumes nothing.
use Rattle.model.specs.Numbered.{broken}
use Rattle.std.specs.Prelude.{◌≡◌, Bool, true, false, ◌&&◌, List, [], get_or, ltb, leb, Ok, Err, Some, None}
use Rattle.std.proofs.Math.Path.{refl}
use Prim.Native.Nat.{ℕ, zero, suc, ◌+◌, ◌-◌, ◌<◌, ◌≤◌}
use native.Mathlib.Omega.{arith}
use borrow.Author.Tests.{lt-ltb, le-ltb, lt-leb, le-leb, ltb-true, leb-true}
use Rattle.model.specs.Node.{child, used, find_from}
use Rattle.model.specs.State.{node_at}
use Rattle.model.specs.Climb.{leaf_no, first_down, last_down, next_up}
use Rattle.model.specs.Locate.{descend}
use Rattle.model.specs.declared.shape.Shape.{Shape}
use Rattle.model.specs.Locate.{Descent}
use Rattle.model_laws.specs.Lists.{and_true}

-- whether node k is in the area and says no more slots than it has
abbrev pub sized : Shape → ℕ → List ℕ → Bool
sized g k xs = ltb k g.nodes && leb (node_at g k xs).len g.fan

module _ (g : Shape) (k : ℕ) (xs : List ℕ) where
  pub sized_in : sized g k xs ≡ true → (k < g.nodes) × ((node_at g k xs).len ≤ g.fan)
  sized_in e =
      let p = and_true (ltb k g.nodes) (leb (node_at g k xs).len g.fan) e in
      (ltb-true k g.nodes p.0, leb-true (node_at g k xs).len g.fan p.1)

  pub sized_out : g.nodes ≤ k → sized g k xs ≡ false
  sized_out h = rw (le-ltb k g.nodes h)

  pub sized_full : k < g.nodes → g.fan < (node_at g k xs).len → sized g k xs ≡ false
  sized_full h f = rw (lt-ltb k g.nodes h, lt-leb (node_at g k xs).len g.fan f)

  pub sized_yes : k < g.nodes → (node_at g k xs).len ≤ g.fan → sized g k xs ≡ true
  sized_yes h f = rw (lt-ltb k g.nodes h, le-leb (node_at g k xs).len g.fan f)

-- by the first slots
module _ (g : Shape) (k : ℕ) (xs : List ℕ) where
  pub first_end : (n : ℕ) → n ≤ 0 → k < g.nodes → first_down g n k xs ≡ Ok (Some (leaf_no k))
  unfolding first_down
  first_end zero h e = rw (lt-ltb k g.nodes e)
  first_end (suc n) h e = absurd (omega arith)

  pub first_broken : (n : ℕ) → g.nodes ≤ k → first_down g n k xs ≡ Err broken
  unfolding first_down
  first_broken zero e = rw (le-ltb k g.nodes e)
  first_broken (suc n) e = rw (le-ltb k g.nodes e)

  pub first_on : (n : ℕ) → 0 < n → k < g.nodes → first_down g n k xs ≡ first_down g (n - 1) (child (get_or (node_at g k xs).slots 0 [])) xs
  unfolding first_down
  first_on zero h e = absurd (omega arith)
  first_on (suc n) h e =
      let one : suc n - 1 ≡ n = omega arith in
      rw (lt-ltb k g.nodes e, one)

-- by the last slots in use
module _ (g : Shape) (k : ℕ) (xs : List ℕ) where
  pub last_end : (n : ℕ) → n ≤ 0 → k < g.nodes → last_down g n k xs ≡ Ok (Some (leaf_no k))
  unfolding last_down
  last_end zero h e = rw (lt-ltb k g.nodes e)
  last_end (suc n) h e = absurd (omega arith)

  pub last_out : (n : ℕ) → n ≤ 0 → g.nodes ≤ k → last_down g n k xs ≡ Err broken
  unfolding last_down
  last_out zero h e = rw (le-ltb k g.nodes e)
  last_out (suc n) h e = absurd (omega arith)

  between : (a b c : Bool) → (a && c) ≡ false → (a && b && c) ≡ false
  between true true c e = e
  between true false c e = refl
  between false b c e = refl

  pub last_broken : (n : ℕ) → 0 < n → sized g k xs ≡ false → last_down g n k xs ≡ Err broken
  unfolding last_down
  last_broken zero h e = absurd (omega arith)
  last_broken (suc n) h e = rw (between (ltb k g.nodes) (ltb 0 (node_at g k xs).len) (leb (node_at g k xs).len g.fan) e)

  pub last_none : (n : ℕ) → 0 < n → sized g k xs ≡ true → (node_at g k xs).len ≡ 0 → last_down g n k xs ≡ Err broken
  unfolding last_down
  last_none zero h e z = absurd (omega arith)
  last_none (suc n) h e z =
      let p = sized_in g k xs e in
      rw (lt-ltb k g.nodes p.0, le-ltb 0 (node_at g k xs).len (omega arith))

  pub last_on : (n : ℕ) → 0 < n → sized g k xs ≡ true → 0 < (node_at g k xs).len
      → last_down g n k xs ≡ last_down g (n - 1) (child (get_or (node_at g k xs).slots ((node_at g k xs).len - 1) [])) xs
  unfolding last_down
  last_on zero h e z = absurd (omega arith)
  last_on (suc n) h e z =
      let p = sized_in g k xs e in
      let one : suc n - 1 ≡ n = omega arith in
      rw (lt-ltb k g.nodes p.0, lt-ltb 0 (node_at g k xs).len z, le-leb (node_at g k xs).len g.fan p.1, one)

-- to the leaf after a place
module _ (g : Shape) (d k i : ℕ) (xs : List ℕ) where
  pub next_end : (n : ℕ) → n ≤ 0 → next_up g n d k i xs ≡ Ok None
  unfolding next_up
  next_end zero h = refl
  next_end (suc n) h = absurd (omega arith)

  outer : (a b c e : Bool) → (a && e) ≡ false → (a && b && c && e) ≡ false
  outer true true true e p = p
  outer true true false e p = refl
  outer true false c e p = refl
  outer false b c e p = refl

  pub next_broken : (n : ℕ) → 0 < n → sized g k xs ≡ false → next_up g n d k i xs ≡ Err broken
  unfolding next_up
  next_broken zero h e = absurd (omega arith)
  next_broken (suc n) h e = rw (outer (ltb k g.nodes) (ltb i g.fan) (ltb i (node_at g k xs).len) (leb (node_at g k xs).len g.fan) e)

  inner : (a b e : Bool) → (a && b && false && e) ≡ false
  inner true true e = refl
  inner true false e = refl
  inner false b e = refl

  pub next_past : (n : ℕ) → 0 < n → (node_at g k xs).len ≤ i → next_up g n d k i xs ≡ Err broken
  unfolding next_up
  next_past zero h l = absurd (omega arith)
  next_past (suc n) h l = rw (le-ltb i (node_at g k xs).len l, inner (ltb k g.nodes) (ltb i g.fan) (leb (node_at g k xs).len g.fan))

  pub next_down : (n : ℕ) → 0 < n → sized g k xs ≡ true → i + 1 < (node_at g k xs).len
      → next_up g n d k i xs ≡ first_down g d (child (get_or (node_at g k xs).slots (i + 1) [])) xs
  unfolding next_up
  next_down zero h e l = absurd (omega arith)
  next_down (suc n) h e l =
      let p = sized_in g k xs e in
      rw (lt-ltb k g.nodes p.0, lt-ltb i g.fan (omega arith), lt-ltb i (node_at g k xs).len (omega arith), le-leb (node_at g k xs).len g.fan p.1, lt-ltb (i + 1) (node_at g k xs).len l)

  pub next_on : (n : ℕ) → 0 < n → sized g k xs ≡ true → i < (node_at g k xs).len → (node_at g k xs).len ≤ i + 1
      → next_up g n d k i xs ≡ next_up g (n - 1) (d + 1) (node_at g k xs).parent (node_at g k xs).at xs
  unfolding next_up
  next_on zero h e l m = absurd (omega arith)
  next_on (suc n) h e l m =
      let p = sized_in g k xs e in
      let one : suc n - 1 ≡ n = omega arith in
      rw (lt-ltb k g.nodes p.0, lt-ltb i g.fan (omega arith), lt-ltb i (node_at g k xs).len l, le-leb (node_at g k xs).len g.fan p.1, le-ltb (i + 1) (node_at g k xs).len m, one)

-- to a position
module _ (v e : ℕ) (g : Shape) (miss : Descent) (k rest a b : ℕ) (xs : List ℕ) where
  pub descend_end : (n : ℕ) → n ≤ 0 → descend v e g miss n k rest a b xs ≡ Ok (Some (leaf_no k, rest, a, b))
  unfolding descend
  descend_end zero h = refl
  descend_end (suc n) h = absurd (omega arith)

  pub descend_broken : (n : ℕ) → 0 < n → sized g k xs ≡ false → descend v e g miss n k rest a b xs ≡ Err broken
  unfolding descend
  descend_broken zero h q = absurd (omega arith)
  descend_broken (suc n) h q = rw q

  pub descend_miss : (n : ℕ) → 0 < n → sized g k xs ≡ true → find_from v e 0 rest a b (used (node_at g k xs)) ≡ None → descend v e g miss n k rest a b xs ≡ miss
  unfolding descend
  descend_miss zero h q f = absurd (omega arith)
  descend_miss (suc n) h q f = rw (q, f)

  pub descend_on : (n j o t u : ℕ) → 0 < n → sized g k xs ≡ true → find_from v e 0 rest a b (used (node_at g k xs)) ≡ Some (j, o, t, u)
      → descend v e g miss n k rest a b xs ≡ descend v e g (Err broken) (n - 1) (child (get_or (node_at g k xs).slots j [])) o t u xs
  unfolding descend
  descend_on zero j o t u h q f = absurd (omega arith)
  descend_on (suc n) j o t u h q f =
      let one : suc n - 1 ≡ n = omega arith in
      rw (q, f, one)
