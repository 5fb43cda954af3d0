-- The changes of a tree at a slot of a leaf: other lengths, one entry more, one entry divided (document 01, "Insert and split").
-- e is the effect view; a list of lengths has one for each view of the stride. Assumes nothing.
use Rattle.model.specs.declared.head.Finger.{Finger}
use Rattle.model.specs.declared.way.Broken.{Broken}
use Rattle.std.specs.Prelude.{Bool, cond, ◌&&◌, List, [], ◌∷◌, ℕ, ◌+◌, ◌-◌, set, ltb, leb, eqb, Ok, Err, Option, Result}
use Rattle.model.specs.Node.{Node, child, used, start, half, with_lengths, inserted, child_split, lower_half, upper_half, wrap}
use Rattle.model.specs.State.{State, state, head_of, next_stamp, node_at, put_node}
use Rattle.model.specs.Climb.{climb_up}
use Rattle.model.specs.Locate.{changing}
use Rattle.model.specs.Grow.{areas, Top, top, add_child}
use Rattle.model.specs.declared.shape.Shape.{Shape}
use Rattle.model.specs.declared.head.Head.{Head}

-- a change on its way: 0 or 9, the state so far, the slot at which it happens
pub record Change : Type 0 where
  pub number : ℕ
  pub state : State
  pub leaf : ℕ
  pub slot : ℕ

abbrev pub change : ℕ → State → ℕ → ℕ → Change
change n s k i = record { number = n; state = s; leaf = k; slot = i }

-- the head with another finger, with one entry more, and after a leaf split
abbrev pub with_finger : Option Finger → Head → Head
with_finger f h = head_of h.fan h.limit h.root.0 h.levels h.leaves h.inners h.entries h.stamp f

abbrev pub with_entry : Option Finger → Head → Head
with_entry f h = head_of h.fan h.limit h.root.0 h.levels h.leaves h.inners (h.entries + 1) (next_stamp h.stamp) f

abbrev pub with_leaf : Top → Head → Head
with_leaf t h = head_of h.fan h.limit t.root t.levels (h.leaves + 1) t.inners h.entries h.stamp h.finger

-- the entries in the slots of leaf k learn that they live there
unfoldable pub rehome : ℕ → ℕ → List (List ℕ) → List ℕ → ℕ × List ℕ
rehome entries k [] hs = (0, hs)
rehome entries k (x ∷ xs) hs = cond (ltb (child x) entries) (rehome entries k xs (set hs (child x) k)) (9, hs)

module _ (g : Shape) where
  -- the halves are in the leaf area and homes know them: the new leaf gets its slot above
  unfoldable pub link_leaf : State → ℕ → ℕ → ℕ → List ℕ → ℕ × List ℕ → Change
  link_leaf s k i parent ls hs =
      let h = s.head in
      let r = add_child g (h.levels - 1) (top h.inners h.root.0 h.levels) 1 parent k h.leaves (areas ls s.inners) in
      let t = state (with_leaf r.top h) r.areas.leaves r.areas.inners hs.1 in
      cond (eqb hs.0 0)
      (cond (ltb i (half g.fan)) (change r.number t k i) (change r.number t h.leaves (i - half g.fan)))
      (change 9 (state h ls s.inners hs.1) k i)

  -- `split_leaf`: the slots from half on go to the next unused leaf
  unfoldable pub split_leaf : State → ℕ → ℕ → Change
  split_leaf s k i =
      let n = node_at g k s.leaves in
      let new = s.head.leaves in
      let upper = upper_half g.stride g.fan n in
      cond (ltb new g.nodes)
      (link_leaf s k i n.parent (put_node g new upper (put_node g k (lower_half g.stride g.fan n) s.leaves))
      (rehome s.head.entries new (used upper) s.homes))
      (change 9 s k i)

  -- `make_room`: a full leaf is split before the new entry is placed; the leaf is one in use
  unfoldable pub make_room : State → ℕ → ℕ → Change
  make_room s k i =
      let len = (node_at g k s.leaves).len in
      cond (ltb k s.head.leaves && leb i len && leb len g.fan) (cond (ltb len g.fan) (change 0 s k i) (split_leaf s k i)) (change 9 s k i)

  -- leaf k is written anew with one entry more, which gets the next id; its home and the finger learn it. w is 1 where slot i itself must be in use
  unfoldable pub enter : (Node → Node) → ℕ → State → ℕ → ℕ → Change
  enter f w s k i =
      let h = s.head in
      let m = node_at g k s.leaves in
      cond (ltb k g.nodes && leb (i + w) m.len && ltb m.len g.fan)
      (change 0 (state (with_entry (changing k i h.finger) h) (put_node g k (f m) s.leaves) s.inners (set s.homes h.entries k)) k i)
      (change 9 s k i)

  abbrev pub entering : (ℕ → Node → Node) → ℕ → Change → Change
  entering f w r = cond (eqb r.number 0) (enter (f r.slot) w r.state r.leaf r.slot) r

  -- `place`: the entry with these lengths comes before slot i of leaf k
  unfoldable pub place : State → ℕ → ℕ → List ℕ → Change
  place s k i ls = entering (λ j. inserted j (s.head.entries ∷ ls)) 0 (make_room s k i)

  -- `split_entry`: ls leave the entry in slot i of leaf k for a new one, just before it if so flagged, else just after
  unfoldable pub divide : Bool → State → ℕ → ℕ → List ℕ → Change
  divide flag s k i ls = entering (λ j. child_split flag j (s.head.entries ∷ ls)) 1 (make_room s k i)

  -- other lengths for slot i of leaf k
  unfoldable pub replace : State → ℕ → ℕ → List ℕ → Change
  replace s k i ls =
      change 0 (state (with_finger (changing k i s.head.finger) s.head) (put_node g k (with_lengths i ls (node_at g k s.leaves)) s.leaves) s.inners s.homes) k i

  -- `climb`: delta goes into the slots above the slot at which a change happened, whose effect position is summed up on the way
  abbrev pub summed : Change → (Result ℕ Broken) × List ℕ → Change × ℕ
  summed r (Ok n, xs) = (change 0 (state r.state.head r.state.leaves xs r.state.homes) r.leaf r.slot, wrap n)
  summed r (Err _, xs) = (change 9 (state r.state.head r.state.leaves xs r.state.homes) r.leaf r.slot, 0)

  unfoldable pub climb : ℕ → List ℕ → Change → Change × ℕ
  climb e delta r =
      let s = r.state in
      let m = node_at g r.leaf s.leaves in
      cond (eqb r.number 0) (summed r (climb_up g e delta s.head.levels m.parent m.at (start e r.slot m) s.inners)) (r, 0)
