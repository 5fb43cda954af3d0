-- Following links: up from a leaf to the root, and down an edge (document 01, "Rank, order"). Each walk takes as many steps as the head has
-- levels; a link outside the area or a place outside the node is Broken, number 9, before it is used. Assumes nothing.
use Rattle.model.specs.declared.way.Broken.{Broken}
use Rattle.model.specs.Numbered.{broken}
use Rattle.std.specs.Prelude.{Bool, cond, ◌&&◌, List, [], ◌∷◌, ℕ, zero, suc, ◌+◌, ◌-◌, get_or, ltb, leb, Ok, Err, Some, None, Option, Result}
use Rattle.model.specs.Node.{child, start, plus, lengths_at, with_lengths}
use Rattle.model.specs.State.{node_at, put_node}
use Rattle.model.specs.declared.shape.Shape.{Shape}
use Rattle.model.specs.declared.number.LeafNo.{LeafNo}

-- whether node k is in the area and i is a place in it
abbrev pub inside : Shape → ℕ → ℕ → Bool
inside g k i = ltb k g.nodes && ltb i g.fan

abbrev pub leaf_no : ℕ → LeafNo
leaf_no k = record { 0 = k }

module _ (g : Shape) where
  -- s and the lengths in view v before place i of inner node k, and so on up n levels
  unfoldable pub rank_up : ℕ → ℕ → ℕ → ℕ → ℕ → List ℕ → Result ℕ Broken
  rank_up v zero k i s xs = Ok s
  rank_up v (suc n) k i s xs =
      let m = node_at g k xs in
      cond (inside g k i) (rank_up v n m.parent m.at (s + start v i m) xs) (Err broken)

  -- delta added to the lengths at place i of inner node k
  abbrev pub raised : List ℕ → ℕ → ℕ → List ℕ → List ℕ
  raised delta k i xs = let m = node_at g k xs in put_node g k (with_lengths i (plus (lengths_at i m.slots) delta) m) xs

  -- the same sum, with delta added to the lengths on the way
  unfoldable pub climb_up : ℕ → List ℕ → ℕ → ℕ → ℕ → ℕ → List ℕ → (Result ℕ Broken) × List ℕ
  climb_up v delta zero k i s xs = (Ok s, xs)
  climb_up v delta (suc n) k i s xs =
      let m = node_at g k xs in
      cond (inside g k i) (climb_up v delta n m.parent m.at (s + start v i m) (raised delta k i xs)) (Err broken, xs)

  -- the places on the way up n levels, the highest first, before those in steps; none where the way is broken
  unfoldable pub steps_up : ℕ → ℕ → ℕ → List ℕ → List ℕ → List ℕ
  steps_up zero k i steps xs = steps
  steps_up (suc n) k i steps xs =
      let m = node_at g k xs in
      cond (inside g k i) (steps_up n m.parent m.at (i ∷ steps) xs) []

  -- down n levels by the first slots, or by the last slots in use
  unfoldable pub first_down : ℕ → ℕ → List ℕ → Result (Option LeafNo) Broken
  first_down zero k xs = cond (ltb k g.nodes) (Ok (Some (leaf_no k))) (Err broken)
  first_down (suc n) k xs = cond (ltb k g.nodes) (first_down n (child (get_or (node_at g k xs).slots 0 [])) xs) (Err broken)

  unfoldable pub last_down : ℕ → ℕ → List ℕ → Result (Option LeafNo) Broken
  last_down zero k xs = cond (ltb k g.nodes) (Ok (Some (leaf_no k))) (Err broken)
  last_down (suc n) k xs =
      let m = node_at g k xs in
      cond (ltb k g.nodes && ltb 0 m.len && leb m.len g.fan) (last_down n (child (get_or m.slots (m.len - 1) [])) xs) (Err broken)

  -- the leaf after place i of inner node k, which stands d levels above the lowest inner nodes and has n levels from itself on to the root:
  -- up to the first node with a later child, then down by first slots
  unfoldable pub next_up : ℕ → ℕ → ℕ → ℕ → List ℕ → Result (Option LeafNo) Broken
  next_up zero d k i xs = Ok None
  next_up (suc n) d k i xs =
      let m = node_at g k xs in
      cond (inside g k i && ltb i m.len && leb m.len g.fan)
      (cond (ltb (i + 1) m.len) (first_down d (child (get_or m.slots (i + 1) [])) xs) (next_up n (d + 1) m.parent m.at xs))
      (Err broken)
