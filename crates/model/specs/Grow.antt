-- A new child for an inner node, with every split that it needs above (document 01, "Insert and split"). Level 1 is that of the inner nodes
-- whose children are leaves; 9 comes where a link or a place leads outside, and what was written by then stays. Assumes nothing.
use Rattle.std.specs.Prelude.{false, cond, ◌&&◌, List, [], ◌∷◌, ℕ, zero, suc, ◌+◌, ◌-◌, get_or, ltb, leb, eqb}
use Rattle.model.specs.Node.{Node, none, child, slot_for, child_split, half, lower_half, upper_half, new_node, adopted}
use Rattle.model.specs.State.{node_at, put_node}
use Rattle.model.specs.declared.shape.Shape.{Shape}

-- the two areas of nodes, and with a number
pub record Areas : Type 0 where
  pub leaves : List ℕ
  pub inners : List ℕ

abbrev pub areas : List ℕ → List ℕ → Areas
areas ls xs = record { leaves = ls; inners = xs }

pub record Linked : Type 0 where
  pub number : ℕ
  pub areas : Areas

abbrev pub linked : ℕ → Areas → Linked
linked n a = record { number = n; areas = a }

-- the inner nodes in use, the root, the levels
pub record Top : Type 0 where
  pub inners : ℕ
  pub root : ℕ
  pub levels : ℕ

abbrev pub top : ℕ → ℕ → ℕ → Top
top i r l = record { inners = i; root = r; levels = l }

pub record Grown : Type 0 where
  pub number : ℕ
  pub top : Top
  pub areas : Areas

abbrev pub grown : ℕ → Top → Areas → Grown
grown n t a = record { number = n; top = t; areas = a }

-- the area that holds the children of a level's inner nodes, and both areas with node k of it written anew
abbrev pub area_of : ℕ → Areas → List ℕ
area_of level a = cond (eqb level 1) a.leaves a.inners

abbrev pub put_in : Shape → ℕ → ℕ → Node → Areas → Areas
put_in g level k n a = cond (eqb level 1) (areas (put_node g k n a.leaves) a.inners) (areas a.leaves (put_node g k n a.inners))

-- what becomes of the two halves k and m of an inner node one level up
abbrev pub Above : Type 0
Above = Top → ℕ → ℕ → Areas → Grown

module _ (g : Shape) where
  abbrev pub node_in : ℕ → ℕ → Areas → Node
  node_in level k a = node_at g k (area_of level a)

  -- `adopt`: node k of the level's area is child i of inner node p
  unfoldable pub adopt : ℕ → ℕ → ℕ → ℕ → Areas → Areas
  adopt level k p i a = put_in g level k (adopted p i (node_in level k a)) a

  -- the n children of inner node p from place i on learn where they stand
  unfoldable pub adopt_all : ℕ → ℕ → ℕ → ℕ → Areas → Linked
  adopt_all level p zero i a = linked 0 a
  adopt_all level p (suc n) i a =
      let k = child (get_or (node_at g p a.inners).slots i []) in
      cond (ltb k g.nodes) (adopt_all level p n (i + 1) (adopt level k p i a)) (linked 9 a)

  -- node new gets its slot behind place i of inner node p, which has room
  unfoldable pub link : ℕ → ℕ → ℕ → ℕ → Areas → Linked
  link level p i new a =
      let m = node_at g p a.inners in
      let x = slot_for g.stride new (node_in level new a) in
      adopt_all level p (m.len - i) (i + 1) (areas a.leaves (put_node g p (child_split false i x m) a.inners))

  -- the upper half of inner node k goes to node m, and its children learn it
  unfoldable pub divide : ℕ → ℕ → ℕ → Areas → Linked
  divide level k m a =
      let n = node_at g k a.inners in
      adopt_all level m (g.fan - half g.fan) 0
      (areas a.leaves (put_node g m (upper_half g.stride g.fan n) (put_node g k (lower_half g.stride g.fan n) a.inners)))

  -- a new root above the inner nodes k and m
  unfoldable pub grow_root : Top → ℕ → ℕ → Areas → Grown
  grow_root t k m a =
      let x = slot_for g.stride k (node_at g k a.inners) in
      let y = slot_for g.stride m (node_at g m a.inners) in
      let r = adopt_all 2 t.inners 2 0 (areas a.leaves (put_node g t.inners (new_node g.stride g.fan none (x ∷ y ∷ [])) a.inners)) in
      cond (ltb t.inners g.nodes) (grown r.number (top (t.inners + 1) t.inners (t.levels + 1)) r.areas) (grown 9 t a)

  -- `split_node`: the upper half of a full inner node takes the next unused number before its parent does
  unfoldable pub split_node : Above → Top → ℕ → ℕ → Areas → Grown
  split_node above t level k a =
      let d = divide level k t.inners a in
      let u = top (t.inners + 1) t.root t.levels in
      cond (eqb d.number 0) (above u k t.inners d.areas) (grown 9 u d.areas)

  -- node new behind place i of node k, or of its upper half m where that place moved there
  unfoldable pub link_half : ℕ → ℕ → ℕ → ℕ → ℕ → Grown → Grown
  link_half level k m i new r =
      let h = half g.fan in
      let l = cond (ltb i h) (link level k i new r.areas) (link level m (i - h) new r.areas) in
      cond (eqb r.number 0) (grown l.number r.top l.areas) r

  -- `add_child`: node new comes just behind the node after in inner node p
  unfoldable pub add_to : Above → Top → ℕ → ℕ → ℕ → ℕ → Areas → Grown
  add_to above t level p after new a =
      let i = (node_in level after a).at in
      let len = (node_at g p a.inners).len in
      let l = link level p i new a in
      cond (ltb p t.inners && ltb after g.nodes && ltb new g.nodes && ltb i len && leb len g.fan)
      (cond (ltb len g.fan) (grown l.number t l.areas)
      (cond (ltb t.inners g.nodes) (link_half level p t.inners i new (split_node above t level p a)) (grown 9 t a)))
      (grown 9 t a)

  -- with no level left a new root; else the upper half is a new child one level up
  unfoldable pub above_of : ℕ → Above
  above_of zero t k m a = grow_root t k m a
  above_of (suc n) t k m a = add_to (above_of n) t 2 (node_at g k a.inners).parent k m a

  -- n levels stand above the node that gets the child
  abbrev pub add_child : ℕ → Top → ℕ → ℕ → ℕ → ℕ → Areas → Grown
  add_child n t level p after new a = add_to (above_of n) t level p after new a
