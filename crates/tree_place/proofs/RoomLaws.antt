-- A leaf divided between itself and the next unused leaf: what both are then, and what the whole split answers. Assumes nothing.
use Rattle.std.proofs.Common.{◌≡◌, ℕ, ◌+◌, ◌-◌, ◌*◌, ◌/◌, ◌<◌, ◌≤◌, Bool, true, false, cond, ltb, List, length, sym, refl, ap, ◌∙◌, arith, le-ltb, lt-ltb, eq-eqb, ne_eqb, le-leb}
use Rattle.model.specs.Node.{Node, used, lower_half, upper_half}
use Rattle.model.specs.State.{State, state, node_at, put_node}
use Rattle.model.specs.Grow.{areas, top, Grown, add_to, above_of}
use Rattle.model.specs.Place.{change, with_leaf, rehome, link_leaf, split_leaf, make_room}
use Rattle.model.specs.declared.shape.Shape.{Shape}
use Rattle.model.specs.declared.head.Head.{Head}
use Rattle.tree_place.specs.Room.{room_at, halved}
use Rattle.model_laws.specs.Lists.{row_end}
use Rattle.model_laws.specs.Nodes.{Formed}
use Rattle.model_laws.specs.Formed.{formed_lower, formed_upper}
use Rattle.model_laws.specs.Areas.{formed_at, length_put_node, node_same, node_other}
use Rattle.model_laws.specs.Put.{nodes_swap}

-- leaf k and leaf j after the split, of the area ls as it was and now
pub record Halves (g : Shape) (k j : ℕ) (ls now : List ℕ) : Type 0 where
  pub area : now ≡ put_node g j (upper_half g.stride g.fan (node_at g k ls)) (put_node g k (lower_half g.stride g.fan (node_at g k ls)) ls)
  pub long : length now ≡ length ls
  pub lower : node_at g k now ≡ lower_half g.stride g.fan (node_at g k ls)
  pub upper : node_at g j now ≡ upper_half g.stride g.fan (node_at g k ls)

pub halves : (g : Shape) (k j : ℕ) (ls now : List ℕ) → g.size ≡ 3 + g.fan * g.stride → 0 < g.stride → k < j → j * g.size + g.size ≤ length ls
    → now ≡ put_node g k (lower_half g.stride g.fan (node_at g k ls)) (put_node g j (upper_half g.stride g.fan (node_at g k ls)) ls) → Halves g k j ls now
halves g k j ls now e hs hk hj en =
    let n : Node = node_at g k ls in
    let hk' : k * g.size + g.size ≤ length ls = omega (arith, row_end k j g.size hk) in
    let f : Formed g.stride g.fan (node_at g k ls) = formed_at g k ls e hk' in
    let fl : Formed g.stride g.fan (lower_half g.stride g.fan n) = formed_lower g.stride g.fan n f hs in
    let fu : Formed g.stride g.fan (upper_half g.stride g.fan n) = formed_upper g.stride g.fan n f hs in
    let up : List ℕ = put_node g j (upper_half g.stride g.fan n) ls in
    let lu : length (put_node g j (upper_half g.stride g.fan n) ls) ≡ length ls = length_put_node g j ls e hj (upper_half g.stride g.fan n) fu in
    let hu : k * g.size + g.size ≤ length (put_node g j (upper_half g.stride g.fan n) ls) = omega arith in
    record {
      area = en ∙ nodes_swap g k j (lower_half g.stride g.fan n) (upper_half g.stride g.fan n) ls e fl fu hk hj;
      long = ap length en ∙ length_put_node g k up e hu (lower_half g.stride g.fan n) fl ∙ lu;
      lower = ap (node_at g k) en ∙ node_same g k up e hu (lower_half g.stride g.fan n) fl;
      upper = ap (node_at g j) en ∙ node_other g k up e hu (lower_half g.stride g.fan n) fl j (λ z. omega arith) ∙ node_same g j ls e hj (upper_half g.stride g.fan n) fu;
    }

-- the new leaf has no more slots than a node
few_upper : (s fan : ℕ) (n : Node) → (upper_half s fan n).len ≤ fan
unfolding upper_half
few_upper s fan n = omega arith

pub few : {g : Shape} {k j : ℕ} {ls now : List ℕ} → Halves g k j ls now → (node_at g j now).len ≤ g.fan
few {g} {k} {j} {ls} {now} z = rw z.upper (few_upper g.stride g.fan (node_at g k ls))

-- a slot in one half or the other, as a change and as a room
by_half : (b : Bool) (n : ℕ) (s : State) (u k i l j : ℕ)
    → cond b (change n s k i) (change n s l j) ≡ change n s (cond b (room_at u k i) (room_at u l j)).leaf.0 (cond b (room_at u k i) (room_at u l j)).slot
by_half true n s u k i l j = refl
by_half false n s u k i l j = refl

-- the new leaf's slot above: not where a home led outside; else in the half where slot i stands now
module _ (g : Shape) (k i parent : ℕ) (h : Head) (ls xs hs now : List ℕ) (homes : ℕ × List ℕ) where
  link_lost : (homes.0 ≡ 0 → ⊥) → link_leaf g (state h ls xs hs) k i parent now homes ≡ change 9 (state h now xs homes.1) k i
  unfolding link_leaf
  link_lost d = rw (ne_eqb _ _ d)

  link_done : (r : Grown) → homes.0 ≡ 0 → r ≡ add_to g (above_of g (h.levels - 1)) (top h.inners h.root.0 h.levels) 1 parent k h.leaves (areas now xs)
      → link_leaf g (state h ls xs hs) k i parent now homes
      ≡ change r.number (state (with_leaf r.top h) r.areas.leaves r.areas.inners homes.1) (halved g.fan h.leaves k i).leaf.0 (halved g.fan h.leaves k i).slot
  unfolding link_leaf
  link_done r d er = rw (eq-eqb _ _ d, er) (by_half (ltb i (g.fan / 2)) _ _ (h.leaves + 1) k i h.leaves (i - g.fan / 2))

module _ (g : Shape) (k i : ℕ) (h : Head) (ls xs hs : List ℕ) where
  pub split_none : g.nodes ≤ h.leaves → change 9 (state h ls xs hs) k i ≡ split_leaf g (state h ls xs hs) k i
  unfolding split_leaf
  split_none q = rw (le-ltb _ _ q)

  module _ (now homes : List ℕ) (n : ℕ) (z : Halves g k h.leaves ls now) (q : h.leaves < g.nodes)
      (eh : (n, homes) ≡ rehome h.entries h.leaves (used (node_at g h.leaves now)) hs) where
    begun : split_leaf g (state h ls xs hs) k i ≡ link_leaf g (state h ls xs hs) k i (node_at g k now).parent now (n, homes)
    unfolding split_leaf lower_half
    begun = rw (lt-ltb _ _ q, eh, z.upper, ← z.area, z.lower)

    pub split_lost : (n ≡ 0 → ⊥) → change 9 (state h now xs homes) k i ≡ split_leaf g (state h ls xs hs) k i
    split_lost d = sym (begun ∙ link_lost g k i (node_at g k now).parent h ls xs hs now (n, homes) d)

    -- r is what add_child answers
    pub split_done : (r : Grown) → n ≡ 0 → r ≡ add_to g (above_of g (h.levels - 1)) (top h.inners h.root.0 h.levels) 1 (node_at g k now).parent k h.leaves (areas now xs)
        → change r.number (state (with_leaf r.top h) r.areas.leaves r.areas.inners homes) (halved g.fan h.leaves k i).leaf.0 (halved g.fan h.leaves k i).slot
        ≡ split_leaf g (state h ls xs hs) k i
    split_done r d er = sym (begun ∙ link_done g k i (node_at g k now).parent h ls xs hs now (n, homes) r d er)

-- a leaf that has room, and one that is split for it
module _ (g : Shape) (k i : ℕ) (h : Head) (ls xs hs : List ℕ) (a : k < h.leaves) (b : i ≤ (node_at g k ls).len) where
  pub room_there : (node_at g k ls).len < g.fan → make_room g (state h ls xs hs) k i ≡ change 0 (state h ls xs hs) k i
  unfolding make_room
  room_there e =
      let d : (node_at g k ls).len ≤ g.fan = omega arith in
      rw (lt-ltb _ _ a, le-leb _ _ b, le-leb _ _ d, lt-ltb _ _ e)

  pub room_made : (node_at g k ls).len ≡ g.fan → make_room g (state h ls xs hs) k i ≡ split_leaf g (state h ls xs hs) k i
  unfolding make_room
  room_made e =
      let d : (node_at g k ls).len ≤ g.fan = omega (arith, e) in
      let o : g.fan ≤ (node_at g k ls).len = omega (arith, e) in
      rw (lt-ltb _ _ a, le-leb _ _ b, le-leb _ _ d, le-ltb _ _ o)
