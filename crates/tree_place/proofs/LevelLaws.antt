-- One entry more leaves one level more at most, and stands in a slot that its leaf has. Assumes nothing.
use Rattle.std.proofs.Common.{◌≡◌, ℕ, zero, suc, ◌+◌, ◌-◌, ◌<◌, ◌≤◌, ◌&&◌, eqb, ltb, leb, List, refl, arith}
use borrow.Author.Tests.{eqb-false}
use Rattle.model.specs.Node.{Node, half}
use Rattle.model.specs.State.{State, node_at}
use Rattle.model.specs.Grow.{Areas, areas, Top, top, Grown, Above, node_in, divide, grow_root, split_node, link_half, add_to, above_of}
use Rattle.model.specs.Place.{Change, link_leaf, split_leaf, make_room, enter, entering}
use Rattle.model.specs.declared.shape.Shape.{Shape}
use Rattle.model_laws.specs.Lens.{by_test}
use Rattle.tree_place.specs.Room.{settled_in}
use Rattle.tree_place.proofs.EntryLaws.{roomy}

-- no level more
same : (n : ℕ) → n ≤ n + 1
same n = omega arith

module _ (g : Shape) where
  -- what is done above a divided node grows one root at most
  abbrev Low : Above → Type 0
  Low above = (t : Top) (k m : ℕ) (a : Areas) → (above t k m a).top.levels ≤ t.levels + 1

  root_low : Low (grow_root g)
  unfolding grow_root
  root_low t k m a = by_test (λ (r : Grown). r.top.levels ≤ t.levels + 1) (ltb t.inners g.nodes) _ _ (λ _. omega arith) (λ _. same t.levels)

  split_low : (above : Above) → Low above → (t : Top) (level k : ℕ) (a : Areas) → (split_node g above t level k a).top.levels ≤ t.levels + 1
  unfolding split_node
  split_low above ok t level k a =
      by_test (λ (r : Grown). r.top.levels ≤ t.levels + 1) (eqb (divide g level k t.inners a).number 0) _ _
      (λ _. ok (top (t.inners + 1) t.root t.levels) k t.inners _)
      (λ _. same t.levels)

  half_same : (level k m i new : ℕ) (r : Grown) → (link_half g level k m i new r).top.levels ≡ r.top.levels
  unfolding link_half
  half_same level k m i new r = by_test (λ (x : Grown). x.top.levels ≡ r.top.levels) (eqb r.number 0) _ _ (λ _. refl) (λ _. refl)

  add_low : (above : Above) → Low above → (t : Top) (level p after new : ℕ) (a : Areas) → (add_to g above t level p after new a).top.levels ≤ t.levels + 1
  unfolding add_to
  add_low above ok t level p after new a =
      let i = (node_in g level after a).at in
      let len = (node_at g p a.inners).len in
      let P : Grown → Type 0 = λ r. r.top.levels ≤ t.levels + 1 in
      by_test P (ltb p t.inners && ltb after g.nodes && ltb new g.nodes && ltb i len && leb len g.fan) _ _
      (λ _. by_test P (ltb len g.fan) _ _
      (λ _. same t.levels)
      (λ _. by_test P (ltb t.inners g.nodes) _ _
      (λ _. rw (half_same level p t.inners i new (split_node g above t level p a)) (split_low above ok t level p a))
      (λ _. same t.levels)))
      (λ _. same t.levels)

  above_low : (n : ℕ) → Low (above_of g n)
  unfolding above_of
  above_low zero t k m a = root_low t k m a
  above_low (suc n) t k m a = add_low (above_of g n) (above_low n) t 2 (node_at g k a.inners).parent k m a

  link_low : (s : State) (k i parent : ℕ) (ls : List ℕ) (hs : ℕ × List ℕ) → (link_leaf g s k i parent ls hs).state.head.levels ≤ s.head.levels + 1
  unfolding link_leaf
  link_low s k i parent ls hs =
      let h = s.head in
      let P : Change → Type 0 = λ r. r.state.head.levels ≤ h.levels + 1 in
      let l = add_low (above_of g (h.levels - 1)) (above_low (h.levels - 1)) (top h.inners h.root.0 h.levels) 1 parent k h.leaves (areas ls s.inners) in
      by_test P (eqb hs.0 0) _ _ (λ _. by_test P (ltb i (half g.fan)) _ _ (λ _. l) (λ _. l)) (λ _. same h.levels)

  leaf_low : (s : State) (k i : ℕ) → (split_leaf g s k i).state.head.levels ≤ s.head.levels + 1
  unfolding split_leaf
  leaf_low s k i =
      by_test (λ (r : Change). r.state.head.levels ≤ s.head.levels + 1) (ltb s.head.leaves g.nodes) _ _
      (λ _. link_low s k i _ _ _)
      (λ _. same s.head.levels)

  room_low : (s : State) (k i : ℕ) → (make_room g s k i).state.head.levels ≤ s.head.levels + 1
  unfolding make_room
  room_low s k i =
      let len = (node_at g k s.leaves).len in
      let P : Change → Type 0 = λ r. r.state.head.levels ≤ s.head.levels + 1 in
      by_test P (ltb k s.head.leaves && leb i len && leb len g.fan) _ _
      (λ _. by_test P (ltb len g.fan) _ _ (λ _. same s.head.levels) (λ _. leaf_low s k i))
      (λ _. same s.head.levels)

  enter_same : (f : Node → Node) (w : ℕ) (s : State) (k i : ℕ) → (enter g f w s k i).state.head.levels ≡ s.head.levels
  unfolding enter
  enter_same f w s k i =
      let m = node_at g k s.leaves in
      by_test (λ (r : Change). r.state.head.levels ≡ s.head.levels) (ltb k g.nodes && leb (i + w) m.len && ltb m.len g.fan) _ _ (λ _. refl) (λ _. refl)

  entering_same : (f : ℕ → Node → Node) (w : ℕ) (r : Change) → (entering g f w r).state.head.levels ≡ r.state.head.levels
  entering_same f w r =
      by_test (λ (x : Change). x.state.head.levels ≡ r.state.head.levels) (eqb r.number 0) _ _
      (λ _. enter_same (f r.slot) w r.state r.leaf r.slot)
      (λ _. refl)

  enter_in : (f : Node → Node) (w : ℕ) (s : State) (k i : ℕ) → (enter g f w s k i).number ≡ 0 → ((enter g f w s k i).leaf < g.nodes) × ((enter g f w s k i).slot < g.fan)
  unfolding enter
  enter_in f w s k i =
      let m = node_at g k s.leaves in
      by_test (λ (r : Change). r.number ≡ 0 → (r.leaf < g.nodes) × (r.slot < g.fan)) (ltb k g.nodes && leb (i + w) m.len && ltb m.len g.fan) _ _
      (λ e _. let z = roomy g k i w s.leaves e in (z.leaf, omega (arith, z.slot, z.room)))
      (λ _ d. absurd (omega arith))

  entering_in : (f : ℕ → Node → Node) (w : ℕ) (r : Change) → (entering g f w r).number ≡ 0 → ((entering g f w r).leaf < g.nodes) × ((entering g f w r).slot < g.fan)
  entering_in f w r =
      by_test (λ (x : Change). x.number ≡ 0 → (x.leaf < g.nodes) × (x.slot < g.fan)) (eqb r.number 0) _ _
      (λ _ d. enter_in (f r.slot) w r.state r.leaf r.slot d)
      (λ e d. absurd (eqb-false _ _ e d))

  -- c is what an entry more leaves, as its call settles it
  module _ (f : ℕ → Node → Node) (w : ℕ) (s : State) (k i : ℕ) (c : Change) (e : c ≡ settled_in s.head (entering g f w (make_room g s k i))) where
    pub entered_levels : c.state.head.levels ≤ s.head.levels + 1
    entered_levels =
        rw e (by_test (λ (r : Change). r.state.head.levels ≤ s.head.levels + 1) (eqb (entering g f w (make_room g s k i)).number 0) _ _
        (λ _. omega (arith, entering_same f w (make_room g s k i), room_low s k i))
        (λ _. same s.head.levels))

    pub entered_in : c.number ≡ 0 → (c.leaf < g.nodes) × (c.slot < g.fan)
    entered_in =
        rw e (by_test (λ (r : Change). r.number ≡ 0 → (r.leaf < g.nodes) × (r.slot < g.fan)) (eqb (entering g f w (make_room g s k i)).number 0) _ _
        (λ _. entering_in f w (make_room g s k i))
        (λ b d. absurd (eqb-false _ _ b d)))
