-- One step of `standing` and of `add_to`, by where a new child goes. Assumes nothing.
use Rattle.std.specs.Prelude.{Some, None}
use mathlib.Core.Path.{◌≡◌, refl, ap}
use mathlib.Core.Bool.{Bool, true, false, cond}
use mathlib.Core.List.{List}
use Prim.Native.Nat.{ℕ, ◌-◌, ◌*◌, ◌/◌, ◌<◌, ◌≤◌}
use native.Mathlib.Omega.{arith}
use lib.ListN.{length, get_or}
use lib.Dec.{ltb}
use borrow.Author.Tests.{lt-ltb, le-ltb, le-leb, lt-leb, ltb-true, leb-true}
use Rattle.model.specs.Lists.{part}
use Rattle.model.specs.Node.{node_of}
use Rattle.model.specs.State.{node_at}
use Rattle.model.specs.Grow.{Areas, areas, area_of, node_in, Linked, Top, Grown, grown, Above, link, link_half, split_node, add_to, above_of}
use Rattle.model.specs.declared.shape.Shape.{Shape}
use Rattle.model_laws.specs.Lens.{both, Roomy, PartedLens, split_room}
use Rattle.tree_links.specs.Fits.{AreasHold, NodeRoom}
use Rattle.tree_links.specs.Standing.{tests, standing}

module _ (g : Shape) (c level p after new : ℕ) (a : Areas) where
  pub no_node : c ≤ p → None ≡ standing g c level p after new a
  unfolding standing
  no_node h = simp (le-ltb _ _ h)

  pub no_after : p < c → g.nodes ≤ after → None ≡ standing g c level p after new a
  unfolding standing
  no_after h₁ h₂ = simp (lt-ltb _ _ h₁, le-ltb _ _ h₂)

  pub no_new : p < c → after < g.nodes → g.nodes ≤ new → None ≡ standing g c level p after new a
  unfolding standing
  no_new h₁ h₂ h₃ = simp (lt-ltb _ _ h₁, lt-ltb _ _ h₂, le-ltb _ _ h₃)

  -- the place of after, and the slots in use, as they are read
  module _ (i len : ℕ) (ei : i ≡ get_or (part (after * g.size) g.size (area_of level a)) 2 0) (el : len ≡ get_or (part (p * g.size) g.size a.inners) 0 0) (h₁ : p < c)
      (h₂ : after < g.nodes) (h₃ : new < g.nodes) where
    pub no_place : len ≤ i → None ≡ standing g c level p after new a
    unfolding standing node_of
    no_place h₄ = simp (lt-ltb _ _ h₁, lt-ltb _ _ h₂, lt-ltb _ _ h₃, le-ltb _ _ (rw (ei, el) at h₄))

    pub too_long : i < len → g.fan < len → None ≡ standing g c level p after new a
    unfolding standing node_of
    too_long h₄ h₅ = simp (lt-ltb _ _ h₁, lt-ltb _ _ h₂, lt-ltb _ _ h₃, lt-ltb _ _ (rw (ei, el) at h₄), lt-leb _ _ (rw el at h₅))

    pub stands_at : i < len → len ≤ g.fan → Some i ≡ standing g c level p after new a
    unfolding standing node_of
    stands_at h₄ h₅ = simp (lt-ltb _ _ h₁, lt-ltb _ _ h₂, lt-ltb _ _ h₃, lt-ltb _ _ (rw (ei, el) at h₄), le-leb _ _ (rw el at h₅)) (ap Some ei)

  -- what a place says of the nodes
  pub record GoodPlace (i : ℕ) : Type 0 where
    pub node : p < c
    pub fresh : new < g.nodes
    pub place : i < (node_at g p a.inners).len
    pub full : (node_at g p a.inners).len ≤ g.fan

  pub good_place : (i : ℕ) → Some i ≡ standing g c level p after new a → GoodPlace i
  unfolding standing
  good_place i e = go (tests g c level p after new a) refl e
    where
      go : (b : Bool) → tests g c level p after new a ≡ b
          → Some i ≡ cond b (Some (node_in g level after a).at) None → GoodPlace i
      go true q s =
          let j : i ≡ (node_in g level after a).at = cc in
          let e₁ = both _ _ q in
          let e₂ = both _ _ e₁.0 in
          let e₃ = both _ _ e₂.0 in
          let e₄ = both _ _ e₃.0 in
          record { node = ltb-true _ _ e₄.0; fresh = ltb-true _ _ e₃.1; place = rw j (ltb-true _ _ e₂.1); full = leb-true _ _ e₁.1 }
      go false q s =
          let z : ◌≡◌ {A = ℕ} 0 1 = cc in
          absurd (omega arith)

-- a node with one slot more, all else as it was
abbrev pub topped_by : Top → Linked → Grown
topped_by t l = grown l.number t l.areas

-- `add_to` goes by that place
module _ (g : Shape) (above : Above) (t : Top) (level p after new : ℕ) (a : Areas) where
  pub add_missing : None ≡ standing g t.inners level p after new a → grown 9 t a ≡ add_to g above t level p after new a
  unfolding standing add_to
  add_missing e = go (tests g t.inners level p after new a) _ e
    where
      go : (b : Bool) (x : Grown) → None ≡ cond b (Some (node_in g level after a).at) None → grown 9 t a ≡ cond b x (grown 9 t a)
      go true x s =
          let z : ◌≡◌ {A = ℕ} 0 1 = cc in
          absurd (omega arith)
      go false x s = refl

  module _ (i len : ℕ) (s : Some i ≡ standing g t.inners level p after new a) (el : len ≡ get_or (part (p * g.size) g.size a.inners) 0 0) where
    placed : add_to g above t level p after new a ≡ cond (ltb len g.fan) (topped_by t (link g level p i new a))
        (cond (ltb t.inners g.nodes) (link_half g level p t.inners i new (split_node g above t level p a)) (grown 9 t a))
    unfolding standing add_to node_of
    placed = rw el (go (tests g t.inners level p after new a) s)
      where
        F : ℕ → Grown
        F j = cond (ltb (node_at g p a.inners).len g.fan) (topped_by t (link g level p j new a))
            (cond (ltb t.inners g.nodes) (link_half g level p t.inners j new (split_node g above t level p a)) (grown 9 t a))

        go : (b : Bool) → Some i ≡ cond b (Some (node_in g level after a).at) None → cond b (F (node_in g level after a).at) (grown 9 t a) ≡ F i
        go true q = let j : (node_in g level after a).at ≡ i = cc in ap F j
        go false q =
            let z : ◌≡◌ {A = ℕ} 0 1 = cc in
            absurd (omega arith)

    pub add_room : len < g.fan → topped_by t (link g level p i new a) ≡ add_to g above t level p after new a
    add_room h = rw (placed, lt-ltb _ _ h)

    pub add_none : g.fan ≤ len → g.nodes ≤ t.inners → grown 9 t a ≡ add_to g above t level p after new a
    add_none h l = rw (placed, le-ltb _ _ h, le-ltb _ _ l)

    pub add_split : g.fan ≤ len → t.inners < g.nodes → link_half g level p t.inners i new (split_node g above t level p a) ≡ add_to g above t level p after new a
    add_split h l = rw (placed, le-ltb _ _ h, lt-ltb _ _ l)

-- the halves of a node that was divided have room when all above is done
pub halves : (g : Shape) (n : ℕ) (t : Top) (level k i : ℕ) (ls xs : List ℕ) (r : Grown) → AreasHold g (length ls) (length xs) → k < t.inners → t.inners < g.nodes → i < g.fan
    → r ≡ split_node g (above_of g n) t level k (areas ls xs)
    → (i < g.fan / 2 → NodeRoom g k i r.areas.inners) × (g.fan / 2 ≤ i → NodeRoom g t.inners (i - g.fan / 2) r.areas.inners)
halves g n t level k i ls xs r f hk hm hi e =
    rw e (
      (λ l. record { place = omega (arith, l, o.low_least); space = omega (arith, o.low_most, f.shaped.slots) }),
      (λ l. record { place = omega (arith, l, hi, o.high_least); space = omega (arith, o.high_most, f.shaped.slots) }),
    )
  where
    roomy : Roomy g (areas ls xs)
    roomy = record { words = f.shaped.words; columns = omega (arith, f.shaped.columns); slots = f.shaped.slots; leaves = f.leaves; inners = f.inners }

    o : PartedLens g k t.inners (areas ls xs) (split_node g (above_of g n) t level k (areas ls xs)).areas
    o = split_room g n t level k (areas ls xs) roomy hk hm
