-- A leaf's split ends with 0 or 9. Assumes nothing.
use Rattle.std.proofs.Common.{◌≡◌, ℕ, zero, suc, ◌+◌, ◌-◌, ◌&&◌, eqb, ltb, leb, List, refl}
use Rattle.model.specs.Node.{half}
use Rattle.model.specs.State.{State, node_at}
use Rattle.model.specs.Grow.{Areas, areas, Linked, Top, top, Grown, Above, node_in, link, divide, grow_root, split_node, link_half, add_to, above_of}
use Rattle.model.specs.Place.{Change, link_leaf, split_leaf}
use Rattle.model.specs.declared.shape.Shape.{Shape}
use Rattle.model_laws.specs.Lens.{by_test}
use Rattle.model_laws.specs.Grow.{all_number}

abbrev Ends : ℕ → Type 0
Ends n = (n ≡ 0 → ⊥) → n ≡ 9

nine : Ends 9
nine h = refl

module _ (g : Shape) where
  -- what is done above a divided node ends so
  abbrev Ending : Above → Type 0
  Ending above = (t : Top) (k m : ℕ) (a : Areas) → Ends (above t k m a).number

  link_ends : (level p i new : ℕ) (a : Areas) → Ends (link g level p i new a).number
  unfolding link
  link_ends level p i new a = all_number g level p _ (i + 1) _

  root_ends : Ending (grow_root g)
  unfolding grow_root
  root_ends t k m a = by_test (λ (r : Grown). Ends r.number) (ltb t.inners g.nodes) _ _ (λ _. all_number g 2 t.inners 2 0 _) (λ _. nine)

  split_ends : (above : Above) → Ending above → (t : Top) (level k : ℕ) (a : Areas) → Ends (split_node g above t level k a).number
  unfolding split_node
  split_ends above ok t level k a =
      by_test (λ (r : Grown). Ends r.number) (eqb (divide g level k t.inners a).number 0) _ _
      (λ _. ok (top (t.inners + 1) t.root t.levels) k t.inners _)
      (λ _. nine)

  half_ends : (level k m i new : ℕ) (r : Grown) → Ends r.number → Ends (link_half g level k m i new r).number
  unfolding link_half
  half_ends level k m i new r e =
      by_test (λ (x : Grown). Ends x.number) (eqb r.number 0) _ _
      (λ _. by_test (λ (x : Linked). Ends x.number) (ltb i (half g.fan)) _ _
      (λ _. link_ends level k i new r.areas)
      (λ _. link_ends level m (i - half g.fan) new r.areas))
      (λ _. e)

  add_ends : (above : Above) → Ending above → (t : Top) (level p after new : ℕ) (a : Areas) → Ends (add_to g above t level p after new a).number
  unfolding add_to
  add_ends above ok t level p after new a =
      let i = (node_in g level after a).at in
      let len = (node_at g p a.inners).len in
      let P : Grown → Type 0 = λ r. Ends r.number in
      by_test P (ltb p t.inners && ltb after g.nodes && ltb new g.nodes && ltb i len && leb len g.fan) _ _
      (λ _. by_test P (ltb len g.fan) _ _
      (λ _. link_ends level p i new a)
      (λ _. by_test P (ltb t.inners g.nodes) _ _
      (λ _. half_ends level p t.inners i new (split_node g above t level p a) (split_ends above ok t level p a))
      (λ _. nine)))
      (λ _. nine)

  above_ends : (n : ℕ) → Ending (above_of g n)
  unfolding above_of
  above_ends zero t k m a = root_ends t k m a
  above_ends (suc n) t k m a = add_ends (above_of g n) (above_ends n) t 2 (node_at g k a.inners).parent k m a

  linked_ends : (s : State) (k i parent : ℕ) (ls : List ℕ) (hs : ℕ × List ℕ) → Ends (link_leaf g s k i parent ls hs).number
  unfolding link_leaf
  linked_ends s k i parent ls hs =
      let h = s.head in
      let P : Change → Type 0 = λ r. Ends r.number in
      let e = add_ends (above_of g (h.levels - 1)) (above_ends (h.levels - 1)) (top h.inners h.root.0 h.levels) 1 parent k h.leaves (areas ls s.inners) in
      by_test P (eqb hs.0 0) _ _ (λ _. by_test P (ltb i (half g.fan)) _ _ (λ _. e) (λ _. e)) (λ _. nine)

  pub leaf_ends : (s : State) (k i : ℕ) → ((split_leaf g s k i).number ≡ 0 → ⊥) → (split_leaf g s k i).number ≡ 9
  unfolding split_leaf
  leaf_ends s k i = by_test (λ (r : Change). Ends r.number) (ltb s.head.leaves g.nodes) _ _ (λ _. linked_ends s k i _ _ _) (λ _. nine)
