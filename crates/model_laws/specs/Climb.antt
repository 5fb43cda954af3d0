-- One step of each walk up from a place in an inner node. A walk ends at no levels left, is broken outside the area, and else goes on at the node's parent.
-- Assumes nothing.
use Rattle.model.specs.Numbered.{broken}
use Rattle.std.specs.Prelude.{◌≡◌, true, false, List, [], ◌∷◌, length, take, set, ltb, Ok, Err}
use Rattle.std.proofs.Math.Path.{refl}
use Prim.Native.Nat.{ℕ, zero, suc, ◌+◌, ◌-◌, ◌<◌, ◌≤◌}
use native.Mathlib.Omega.{arith}
use Rattle.std.proofs.Common.{length-set, get_or-set_same, lt-ltb, le-ltb, ltb-true}
use Rattle.model.specs.Lists.{part}
use Rattle.model.specs.Node.{start}
use Rattle.model.specs.State.{node_at}
use Rattle.model.specs.Climb.{inside, rank_up, raised, climb_up, steps_up}
use Rattle.model.specs.declared.shape.Shape.{Shape}
use Rattle.model_laws.specs.Lists.{and_true}
use Rattle.model_laws.specs.Words.{part_none, part_front, part_after, set_put}

-- a place is inside, or its node is outside the area, or it is outside its node
module _ (g : Shape) (k i : ℕ) where
  pub place_in : k < g.nodes → i < g.fan → inside g k i ≡ true
  place_in h f = rw (lt-ltb k g.nodes h, lt-ltb i g.fan f)

  pub node_out : g.nodes ≤ k → inside g k i ≡ false
  node_out h = rw (le-ltb k g.nodes h)

  pub place_out : k < g.nodes → g.fan ≤ i → inside g k i ≡ false
  place_out h f = rw (lt-ltb k g.nodes h, le-ltb i g.fan f)

  pub in_both : inside g k i ≡ true → (k < g.nodes) × (i < g.fan)
  in_both e =
      let p = and_true (ltb k g.nodes) (ltb i g.fan) e in
      (ltb-true k g.nodes p.0, ltb-true i g.fan p.1)

-- the rank
module _ (g : Shape) (v k i s : ℕ) (xs : List ℕ) where
  pub rank_end : (n : ℕ) → n ≤ 0 → rank_up g v n k i s xs ≡ Ok s
  unfolding rank_up
  rank_end zero h = refl
  rank_end (suc n) h = absurd (omega arith)

  pub rank_broken : (n : ℕ) → 0 < n → inside g k i ≡ false → rank_up g v n k i s xs ≡ Err broken
  unfolding rank_up
  rank_broken zero h e = absurd (omega arith)
  rank_broken (suc n) h e = rw e

  pub rank_on : (n : ℕ) → 0 < n → inside g k i ≡ true
      → rank_up g v n k i s xs ≡ rank_up g v (n - 1) (node_at g k xs).parent (node_at g k xs).at (s + start v i (node_at g k xs)) xs
  unfolding rank_up
  rank_on zero h e = absurd (omega arith)
  rank_on (suc n) h e =
      let one : suc n - 1 ≡ n = omega arith in
      rw (e, one)

-- the same with lengths added on the way
module _ (g : Shape) (v : ℕ) (delta : List ℕ) (k i s : ℕ) (xs : List ℕ) where
  pub climb_end : (n : ℕ) → n ≤ 0 → climb_up g v delta n k i s xs ≡ (Ok s, xs)
  unfolding climb_up
  climb_end zero h = refl
  climb_end (suc n) h = absurd (omega arith)

  pub climb_broken : (n : ℕ) → 0 < n → inside g k i ≡ false → climb_up g v delta n k i s xs ≡ (Err broken, xs)
  unfolding climb_up
  climb_broken zero h e = absurd (omega arith)
  climb_broken (suc n) h e = rw e

  pub climb_on : (n : ℕ) → 0 < n → inside g k i ≡ true
      → climb_up g v delta n k i s xs ≡ climb_up g v delta (n - 1) (node_at g k xs).parent (node_at g k xs).at (s + start v i (node_at g k xs)) (raised g delta k i xs)
  unfolding climb_up
  climb_on zero h e = absurd (omega arith)
  climb_on (suc n) h e =
      let one : suc n - 1 ≡ n = omega arith in
      rw (e, one)

-- the places on the way
module _ (g : Shape) (k i : ℕ) (steps xs : List ℕ) where
  pub steps_end : (n : ℕ) → n ≤ 0 → steps_up g n k i steps xs ≡ steps
  unfolding steps_up
  steps_end zero h = refl
  steps_end (suc n) h = absurd (omega arith)

  pub steps_broken : (n : ℕ) → 0 < n → inside g k i ≡ false → steps_up g n k i steps xs ≡ []
  unfolding steps_up
  steps_broken zero h e = absurd (omega arith)
  steps_broken (suc n) h e = rw e

  pub steps_on : (n : ℕ) → 0 < n → inside g k i ≡ true → steps_up g n k i steps xs ≡ steps_up g (n - 1) (node_at g k xs).parent (node_at g k xs).at (i ∷ steps) xs
  unfolding steps_up
  steps_on zero h e = absurd (omega arith)
  steps_on (suc n) h e =
      let one : suc n - 1 ≡ n = omega arith in
      rw (e, one)

-- one place more, written just before those that stand from word n to word left
pub step_more : (n left a : ℕ) (l : List ℕ) → 0 < n → n ≤ left → left ≤ length l → part (n - 1) (left - (n - 1)) (set l (n - 1) a) ≡ a ∷ part n (left - n) l
step_more n left a l h hl hw =
    let e : left - (n - 1) ≡ left - n + 1 = omega arith in
    let f : n - 1 + 1 ≡ n = omega arith in
    let i : n - 1 < length l = omega arith in
    rw (e, part_front (n - 1) (left - n) (set l (n - 1) a) (rw length-set i), f, get_or-set_same l (n - 1) a 0 i, set_put (n - 1) a l i, part_after n (left - n) (n - 1) (a ∷ []) l (omega arith) (omega arith))

-- none written yet, and all written
pub no_steps : (left : ℕ) (l : List ℕ) → part left (left - left) l ≡ []
no_steps left l =
    let e : left - left ≡ 0 = omega arith in
    rw (e, part_none)

pub all_steps : (n left : ℕ) (l : List ℕ) → n ≤ 0 → take left l ≡ part n (left - n) l
unfolding part
all_steps zero left l h =
    let e : left - 0 ≡ left = omega arith in
    rw e
all_steps (suc n) left l h = absurd (omega arith)
