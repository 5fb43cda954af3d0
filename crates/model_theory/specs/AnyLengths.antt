-- A change on any words: its number is 0 or 9, and every area is as long as it was. Assumes nothing.
use Rattle.model.specs.declared.way.Broken.{Broken}
use Rattle.std.specs.Prelude.{◌≡◌, ◌≢◌, Bool, cond, ◌&&◌, eqb, get_or, set, Ok, Err, Result}
use Rattle.std.proofs.Math.Path.{refl}
use Rattle.std.proofs.Common.{◌∙◌, arith, length-drop}
use Rattle.std.proofs.Math.Bool.{true, false}
use mathlib.Core.List.{List, [], ◌∷◌, zip_with}
use Prim.Native.Nat.{ℕ, zero, suc, ◌+◌, ◌-◌, ◌≤◌, ◌<◌}
use Rattle.std.proofs.Math.Dec.{ltb, leb}
use Rattle.std.proofs.Math.ListN.{length, length-set}
use borrow.Author.Tests.{ltb-true, ltb-false, leb-true}
use Rattle.model.specs.Lists.{All}
use Rattle.model.specs.Node.{Node, none, child, used, start, half, plus, lengths_at, with_lengths, slot_for, inserted, child_split, lower_half, upper_half, new_node, adopted, wrap}
use Rattle.model.specs.State.{State, node_at, put_node}
use Rattle.model.specs.Climb.{climb_up, raised, inside}
use Rattle.model.specs.Grow.{Areas, areas, Linked, Top, top, Grown, grown, Above, node_in, adopt, adopt_all, link, divide, grow_root, split_node, link_half, add_to, above_of}
use Rattle.model.specs.Place as place
use Rattle.model.specs.Place.{Change}
use Rattle.model.specs.declared.shape.Shape.{Shape}
use Rattle.model_laws.specs.Lists.{length_zip, all_at_at}
use Rattle.model_laws.specs.Slots.{Long}
use Rattle.model_laws.specs.Nodes.{Formed}
use Rattle.model_laws.specs.Formed.{formed_lengths, formed_inserted, formed_adopted, formed_lower, formed_upper, formed_split, formed_new}
use Rattle.model_laws.specs.AreaRead.{node_end}
use Rattle.model_laws.specs.Areas.{formed_at, length_put_node}
use Rattle.model_laws.specs.Lens.{by_test, both, length_slot, Roomy, len_of, PartedLens, split_room}

-- the number of a change
abbrev pub Ends : ℕ → Type 0
Ends n = n ≢ 0 → n ≡ 9

zero_ends : Ends 0
zero_ends z = absurd (z refl)

nine_ends : Ends 9
nine_ends z = refl

-- b has the lengths of a
pub record Spans (a : Areas) (n : ℕ) (b : Areas) : Type 0 where
  pub ends : Ends n
  pub leaves : length b.leaves ≡ length a.leaves
  pub inners : length b.inners ≡ length a.inners

self : (a : Areas) (n : ℕ) → Ends n → Spans a n a
self a n e = record { ends = e; leaves = refl; inners = refl }

further : (a : Areas) (n : ℕ) (b : Areas) (m : ℕ) (c : Areas) → Spans a n b → Spans b m c → Spans a m c
further a n b m c p q = record { ends = q.ends; leaves = q.leaves ∙ p.leaves; inners = q.inners ∙ p.inners }

module _ (g : Shape) where
  roomy_on : (a : Areas) (n : ℕ) (b : Areas) → Roomy g a → Spans a n b → Roomy g b
  roomy_on a n b r p = record { words = r.words; columns = r.columns; slots = r.slots; leaves = rw p.leaves r.leaves; inners = rw p.inners r.inners }

  module _ (a : Areas) (k : ℕ) (n : Node) (r : Roomy g a) (h : k < g.nodes) (f : Formed g.stride g.fan n) where
    pub put_leaf : Spans a 0 (areas (put_node g k n a.leaves) a.inners)
    put_leaf = record { ends = zero_ends; leaves = length_put_node g k a.leaves r.words (node_end g k (length a.leaves) h r.leaves) n f; inners = refl }

    pub put_inner : Spans a 0 (areas a.leaves (put_node g k n a.inners))
    put_inner = record { ends = zero_ends; leaves = refl; inners = length_put_node g k a.inners r.words (node_end g k (length a.inners) h r.inners) n f }

  leaf_formed : (a : Areas) (k : ℕ) → Roomy g a → k < g.nodes → Formed g.stride g.fan (node_at g k a.leaves)
  leaf_formed a k r h = formed_at g k a.leaves r.words (node_end g k (length a.leaves) h r.leaves)

  inner_formed : (a : Areas) (k : ℕ) → Roomy g a → k < g.nodes → Formed g.stride g.fan (node_at g k a.inners)
  inner_formed a k r h = formed_at g k a.inners r.words (node_end g k (length a.inners) h r.inners)

  adopt_spans : (level k p i : ℕ) (a : Areas) → Roomy g a → k < g.nodes → Spans a 0 (adopt g level k p i a)
  unfolding adopt
  adopt_spans level k p i a r h = go (eqb level 1)
    where
      go : (b : Bool) → Spans a 0 (cond b (areas (put_node g k (adopted p i (node_at g k (cond b a.leaves a.inners))) a.leaves) a.inners)
          (areas a.leaves (put_node g k (adopted p i (node_at g k (cond b a.leaves a.inners))) a.inners)))
      go true = put_leaf a k (adopted p i (node_at g k a.leaves)) r h (formed_adopted g.stride g.fan (node_at g k a.leaves) (leaf_formed a k r h) p i)
      go false = put_inner a k (adopted p i (node_at g k a.inners)) r h (formed_adopted g.stride g.fan (node_at g k a.inners) (inner_formed a k r h) p i)

  all_spans : (level p n i : ℕ) (a : Areas) → Roomy g a → Spans a (adopt_all g level p n i a).number (adopt_all g level p n i a).areas
  unfolding adopt_all
  all_spans level p zero i a r = self a 0 zero_ends
  all_spans level p (suc n) i a r =
      by_test (λ (x : Linked). Spans a x.number x.areas) (ltb (child (get_or (node_at g p a.inners).slots i [])) g.nodes) _ _
      (λ e. let k = child (get_or (node_at g p a.inners).slots i []) in
      let b = adopt g level k p i a in
      let o = adopt_spans level k p i a r (ltb-true _ _ e) in
      further a 0 b _ _ o (all_spans level p n (i + 1) b (roomy_on a 0 b r o)))
      (λ _. self a 9 nine_ends)

  link_spans : (level p i new : ℕ) (a : Areas) → Roomy g a → p < g.nodes → i < len_of g p a → len_of g p a < g.fan → Spans a (link g level p i new a).number (link g level p i new a).areas
  unfolding link
  link_spans level p i new a r hp hi hl =
      let x = slot_for g.stride new (node_in g level new a) in
      let m = child_split false i x (node_at g p a.inners) in
      let b = areas a.leaves (put_node g p m a.inners) in
      let f = formed_split g.stride g.fan (node_at g p a.inners) (inner_formed a p r hp) false i x (length_slot g.stride new (node_in g level new a) r.columns) r.columns hi hl in
      let o = put_inner a p m r hp f in
      further a 0 b _ _ o (all_spans level p (len_of g p a - i) (i + 1) b (roomy_on a 0 b r o))

  divide_spans : (level k m : ℕ) (a : Areas) → Roomy g a → k < m → m < g.nodes → Spans a (divide g level k m a).number (divide g level k m a).areas
  unfolding divide
  divide_spans level k m a r h hm =
      let n = node_at g k a.inners in
      let fn = inner_formed a k r (omega arith) in
      let lo = lower_half g.stride g.fan n in
      let up = upper_half g.stride g.fan n in
      let b = areas a.leaves (put_node g k lo a.inners) in
      let c = areas a.leaves (put_node g m up b.inners) in
      let o = put_inner a k lo r (omega arith) (formed_lower g.stride g.fan n fn r.columns) in
      let rb = roomy_on a 0 b r o in
      let q = put_inner b m up rb hm (formed_upper g.stride g.fan n fn r.columns) in
      further a 0 c _ _ (further a 0 b 0 c o q) (all_spans level m (g.fan - half g.fan) 0 c (roomy_on b 0 c rb q))

  root_spans : (t : Top) (k m : ℕ) (a : Areas) → Roomy g a → Spans a (grow_root g t k m a).number (grow_root g t k m a).areas
  unfolding grow_root All
  root_spans t k m a r =
      by_test (λ (x : Grown). Spans a x.number x.areas) (ltb t.inners g.nodes) _ _ (λ e. grows (ltb-true _ _ e)) (λ _. self a 9 nine_ends)
    where
      x : List ℕ
      x = slot_for g.stride k (node_at g k a.inners)

      y : List ℕ
      y = slot_for g.stride m (node_at g m a.inners)

      n : Node
      n = new_node g.stride g.fan none (x ∷ y ∷ [])

      f : Formed g.stride g.fan n
      f = formed_new g.stride g.fan none (x ∷ y ∷ []) r.columns (length_slot g.stride k (node_at g k a.inners) r.columns, (length_slot g.stride m (node_at g m a.inners) r.columns, tt)) (omega (arith, r.slots))

      b : Areas
      b = areas a.leaves (put_node g t.inners n a.inners)

      grows : t.inners < g.nodes → Spans a (adopt_all g 2 t.inners 2 0 b).number (adopt_all g 2 t.inners 2 0 b).areas
      grows h = let o = put_inner a t.inners n r h f in further a 0 b _ _ o (all_spans 2 t.inners 2 0 b (roomy_on a 0 b r o))

  -- what is done above a divided node
  abbrev Spanning : Above → Type 0
  Spanning above = (t : Top) (k m : ℕ) (a : Areas) → Roomy g a → t.inners ≤ g.nodes → Spans a (above t k m a).number (above t k m a).areas

  split_spans : (above : Above) → Spanning above → (t : Top) (level k : ℕ) (a : Areas) → Roomy g a → k < t.inners → t.inners < g.nodes
      → Spans a (split_node g above t level k a).number (split_node g above t level k a).areas
  unfolding split_node
  split_spans above ok t level k a r h l =
      let d = (divide g level k t.inners a).areas in
      let o = divide_spans level k t.inners a r h l in
      by_test (λ (x : Grown). Spans a x.number x.areas) (eqb (divide g level k t.inners a).number 0) _ _
      (λ _. further a _ d _ _ o (ok (top (t.inners + 1) t.root t.levels) k t.inners d (roomy_on a _ d r o) (omega arith)))
      (λ _. record { ends = nine_ends; leaves = o.leaves; inners = o.inners })

  half_spans : (level k m i new : ℕ) (a : Areas) (x : Grown) → k < m → m < g.nodes → i < g.fan → Spans a x.number x.areas
      → PartedLens g k m a x.areas
      → Spans a (link_half g level k m i new x).number (link_half g level k m i new x).areas
  unfolding link_half
  half_spans level k m i new a x h l hi s o =
      by_test (λ (z : Grown). Spans a z.number z.areas) (eqb x.number 0) _ _
      (λ _. by_test (λ (z : Linked). Spans a z.number z.areas) (ltb i (half g.fan)) _ _
      (λ e. further a _ x.areas _ _ s (link_spans level k i new x.areas o.roomy (omega arith) (omega (arith, ltb-true i (half g.fan) e, o.low_least)) (omega (arith, o.low_most, o.roomy.slots))))
      (λ e. further a _ x.areas _ _ s (link_spans level m (i - half g.fan) new x.areas o.roomy l (omega (arith, ltb-false i (half g.fan) e, o.high_least)) (omega (arith, o.high_most, o.roomy.slots)))))
      (λ _. s)

  add_spans : (n : ℕ) → Spanning (above_of g n) → (t : Top) (level p after new : ℕ) (a : Areas) → Roomy g a → t.inners ≤ g.nodes
      → Spans a (add_to g (above_of g n) t level p after new a).number (add_to g (above_of g n) t level p after new a).areas
  unfolding add_to
  add_spans n ok t level p after new a r h =
      by_test P (ltb p t.inners && ltb after g.nodes && ltb new g.nodes && ltb i len && leb len g.fan) _ _
      (λ e. let e₁ = both _ _ e in
      let e₂ = both _ _ e₁.0 in
      let e₃ = both _ _ (both _ _ e₂.0).0 in
      tested (ltb-true _ _ e₃.0) (ltb-true _ _ e₂.1) (leb-true _ _ e₁.1))
      (λ _. self a 9 nine_ends)
    where
      P : Grown → Type 0
      P x = Spans a x.number x.areas

      i : ℕ
      i = (node_in g level after a).at

      len : ℕ
      len = len_of g p a

      tested : p < t.inners → i < len → len ≤ g.fan → P (cond (ltb len g.fan) (grown (link g level p i new a).number t (link g level p i new a).areas)
          (cond (ltb t.inners g.nodes) (link_half g level p t.inners i new (split_node g (above_of g n) t level p a)) (grown 9 t a)))
      tested hp hi hl =
          by_test P (ltb len g.fan) _ _
          (λ e. link_spans level p i new a r (omega arith) hi (ltb-true _ _ e))
          (λ e. by_test P (ltb t.inners g.nodes) _ _
          (λ l. half_spans level p t.inners i new a (split_node g (above_of g n) t level p a) hp (ltb-true _ _ l) (omega arith)
          (split_spans (above_of g n) ok t level p a r hp (ltb-true _ _ l)) (split_room g n t level p a r hp (ltb-true _ _ l)))
          (λ _. self a 9 nine_ends))

  above_spans : (n : ℕ) → Spanning (above_of g n)
  unfolding above_of
  above_spans zero t k m a r h = root_spans t k m a r
  above_spans (suc n) t k m a r h = add_spans n (above_spans n) t 2 (node_at g k a.inners).parent k m a r h

-- a change of the tree s has the number n and leaves t
pub record KeepsLengths (s : State) (n : ℕ) (t : State) : Type 0 where
  pub ends : Ends n
  pub leaves : length t.leaves ≡ length s.leaves
  pub inners : length t.inners ≡ length s.inners
  pub homes : length t.homes ≡ length s.homes

-- both areas hold all nodes, among them those in use
pub record RoomyInUse (g : Shape) (s : State) : Type 0 where
  pub roomy : Roomy g (areas s.leaves s.inners)
  pub leaf_count : s.head.leaves ≤ g.nodes
  pub inner_count : s.head.inners ≤ g.nodes

unmoved : (s : State) (n : ℕ) → Ends n → KeepsLengths s n s
unmoved s n e = record { ends = e; leaves = refl; inners = refl; homes = refl }

rehome_spans : (entries k : ℕ) (xs : List (List ℕ)) (hs : List ℕ) → Ends (place.rehome entries k xs hs).0 × (length (place.rehome entries k xs hs).1 ≡ length hs)
unfolding place.rehome
rehome_spans entries k [] hs = (zero_ends, refl)
rehome_spans entries k (x ∷ xs) hs =
    by_test (λ (p : ℕ × List ℕ). Ends p.0 × (length p.1 ≡ length hs)) (ltb (child x) entries) _ _
    (λ _. let o = rehome_spans entries k xs (set hs (child x) k) in (o.0, o.1 ∙ length-set hs (child x) k))
    (λ _. (nine_ends, refl))

module _ (g : Shape) where
  room_of : (s : State) (n : ℕ) (t : State) → RoomyInUse g s → KeepsLengths s n t → Roomy g (areas t.leaves t.inners)
  room_of s n t h o = roomy_on g (areas s.leaves s.inners) n (areas t.leaves t.inners) h.roomy (record { ends = o.ends; leaves = o.leaves; inners = o.inners })

  link_left : (s : State) (k i parent : ℕ) (ls : List ℕ) (hs : ℕ × List ℕ) → RoomyInUse g s → length ls ≡ length s.leaves
      → length hs.1 ≡ length s.homes
      → KeepsLengths s (place.link_leaf g s k i parent ls hs).number (place.link_leaf g s k i parent ls hs).state
  unfolding place.link_leaf
  link_left s k i parent ls hs h el eh =
      by_test (λ (x : Change). KeepsLengths s x.number x.state) (eqb hs.0 0) _ _
      (λ _. by_test (λ (x : Change). KeepsLengths s x.number x.state) (ltb i (half g.fan)) _ _
      (λ _. record { ends = o.ends; leaves = o.leaves ∙ el; inners = o.inners; homes = eh })
      (λ _. record { ends = o.ends; leaves = o.leaves ∙ el; inners = o.inners; homes = eh }))
      (λ _. record { ends = nine_ends; leaves = el; inners = refl; homes = eh })
    where
      a : Areas
      a = areas ls s.inners

      r : Roomy g a
      r = roomy_on g (areas s.leaves s.inners) 0 a h.roomy (record { ends = zero_ends; leaves = el; inners = refl })

      t : Top
      t = top s.head.inners s.head.root.0 s.head.levels

      n : ℕ
      n = s.head.levels - 1

      o : Spans a (add_to g (above_of g n) t 1 parent k s.head.leaves a).number (add_to g (above_of g n) t 1 parent k s.head.leaves a).areas
      o = add_spans g n (above_spans g n) t 1 parent k s.head.leaves a r h.inner_count

  split_left : (s : State) (k i : ℕ) → RoomyInUse g s → k < s.head.leaves → KeepsLengths s (place.split_leaf g s k i).number (place.split_leaf g s k i).state
  unfolding place.split_leaf
  split_left s k i h hk =
      by_test (λ (x : Change). KeepsLengths s x.number x.state) (ltb s.head.leaves g.nodes) _ _
      (λ e. link_left s k i n.parent _ _ h (halved (ltb-true _ _ e)) (rehome_spans s.head.entries s.head.leaves (used up) s.homes).1)
      (λ _. unmoved s 9 nine_ends)
    where
      a : Areas
      a = areas s.leaves s.inners

      n : Node
      n = node_at g k s.leaves

      lo : Node
      lo = lower_half g.stride g.fan n

      up : Node
      up = upper_half g.stride g.fan n

      halved : s.head.leaves < g.nodes → length (put_node g s.head.leaves up (put_node g k lo s.leaves)) ≡ length s.leaves
      halved l =
          let fn = leaf_formed g a k h.roomy (omega arith) in
          let b = areas (put_node g k lo s.leaves) s.inners in
          let p = put_leaf g a k lo h.roomy (omega arith) (formed_lower g.stride g.fan n fn h.roomy.columns) in
          let q = put_leaf g b s.head.leaves up (roomy_on g a 0 b h.roomy p) l (formed_upper g.stride g.fan n fn h.roomy.columns) in
          q.leaves ∙ p.leaves

  room_left : (s : State) (k i : ℕ) → RoomyInUse g s → KeepsLengths s (place.make_room g s k i).number (place.make_room g s k i).state
  unfolding place.make_room
  room_left s k i h =
      by_test (λ (x : Change). KeepsLengths s x.number x.state) (ltb k s.head.leaves && leb i (node_at g k s.leaves).len && leb (node_at g k s.leaves).len g.fan) _ _
      (λ e. by_test (λ (x : Change). KeepsLengths s x.number x.state) (ltb (node_at g k s.leaves).len g.fan) _ _
      (λ _. unmoved s 0 zero_ends)
      (λ _. split_left s k i h (ltb-true _ _ (both _ _ (both _ _ e).0).0)))
      (λ _. unmoved s 9 nine_ends)

  -- a leaf written anew stays well formed
  abbrev Forming : (Node → Node) → ℕ → ℕ → Type 0
  Forming f w i = (m : Node) → Formed g.stride g.fan m → i + w ≤ m.len → m.len < g.fan → Formed g.stride g.fan (f m)

  enter_left : (f : Node → Node) (w : ℕ) (s : State) (k i : ℕ) → Roomy g (areas s.leaves s.inners) → Forming f w i → KeepsLengths s (place.enter g f w s k i).number (place.enter g f w s k i).state
  unfolding place.enter
  enter_left f w s k i r ok =
      by_test (λ (x : Change). KeepsLengths s x.number x.state) (ltb k g.nodes && leb (i + w) (node_at g k s.leaves).len && ltb (node_at g k s.leaves).len g.fan) _ _
      (λ e. let e₁ = both _ _ e in
      let e₂ = both _ _ e₁.0 in
      let hk = ltb-true _ _ e₂.0 in
      let a = areas s.leaves s.inners in
      let p = put_leaf g a k (f (node_at g k s.leaves)) r hk (ok (node_at g k s.leaves) (leaf_formed g a k r hk) (leb-true _ _ e₂.1) (ltb-true _ _ e₁.1)) in
      record { ends = zero_ends; leaves = p.leaves; inners = refl; homes = length-set s.homes s.head.entries k })
      (λ _. unmoved s 9 nine_ends)

  entering_left : (s : State) (f : ℕ → Node → Node) (w : ℕ) (r : Change) → RoomyInUse g s → ((j : ℕ) → Forming (f j) w j)
      → KeepsLengths s r.number r.state
      → KeepsLengths s (place.entering g f w r).number (place.entering g f w r).state
  entering_left s f w r h ok o =
      by_test (λ (x : Change). KeepsLengths s x.number x.state) (eqb r.number 0) _ _
      (λ _. let q = enter_left (f r.slot) w r.state r.leaf r.slot (room_of s r.number r.state h o) (ok r.slot) in
      record { ends = q.ends; leaves = q.leaves ∙ o.leaves; inners = q.inners ∙ o.inners; homes = q.homes ∙ o.homes })
      (λ _. o)

  pub place_left : (s : State) (k i : ℕ) (ls : List ℕ) → RoomyInUse g s → length ls + 1 ≡ g.stride → KeepsLengths s (place.place g s k i ls).number (place.place g s k i ls).state
  unfolding place.place
  place_left s k i ls h e =
      entering_left s (λ j. inserted j (s.head.entries ∷ ls)) 0 (place.make_room g s k i) h
      (λ j m f a b. formed_inserted g.stride g.fan m f j (s.head.entries ∷ ls) (omega arith) (omega arith) b) (room_left s k i h)

  pub divide_left : (flag : Bool) (s : State) (k i : ℕ) (ls : List ℕ) → RoomyInUse g s → length ls + 1 ≡ g.stride → KeepsLengths s (place.divide g flag s k i ls).number (place.divide g flag s k i ls).state
  unfolding place.divide
  divide_left flag s k i ls h e =
      entering_left s (λ j. child_split flag j (s.head.entries ∷ ls)) 1 (place.make_room g s k i) h
      (λ j m f a b. formed_split g.stride g.fan m f flag j (s.head.entries ∷ ls) (omega arith) h.roomy.columns (omega arith) b) (room_left s k i h)

  pub replace_left : (s : State) (k i : ℕ) (ls : List ℕ) → RoomyInUse g s → length ls + 1 ≡ g.stride → k < g.nodes → KeepsLengths s (place.replace g s k i ls).number (place.replace g s k i ls).state
  unfolding place.replace
  replace_left s k i ls h e hk =
      let a = areas s.leaves s.inners in
      let n = node_at g k s.leaves in
      let p = put_leaf g a k (with_lengths i ls n) h.roomy hk (formed_lengths g.stride g.fan n (leaf_formed g a k h.roomy hk) i ls e) in
      record { ends = zero_ends; leaves = p.leaves; inners = refl; homes = refl }

  -- the lengths of a slot, and those with delta added
  slot_long : (n : Node) (i : ℕ) → Formed g.stride g.fan n → i < g.fan → length (lengths_at i n.slots) ≡ g.stride - 1
  slot_long n i f h =
      let c = f.count in
      let r : length (get_or n.slots i []) ≡ g.stride = all_at_at (Long g.stride) i [] n.slots (omega arith) f.wide in
      rw (length-drop, r)

  pub leaf_slot : (s : State) (k i : ℕ) → RoomyInUse g s → k < g.nodes → i < g.fan → length (lengths_at i (node_at g k s.leaves).slots) ≡ g.stride - 1
  leaf_slot s k i h hk hi = slot_long (node_at g k s.leaves) i (leaf_formed g (areas s.leaves s.inners) k h.roomy hk) hi

  raised_spans : (delta : List ℕ) (k i : ℕ) (ls xs : List ℕ) → Roomy g (areas ls xs) → length delta + 1 ≡ g.stride → k < g.nodes → i < g.fan → length (raised g delta k i xs) ≡ length xs
  unfolding plus
  raised_spans delta k i ls xs r e hk hi =
      let a = areas ls xs in
      let n = node_at g k xs in
      let f = inner_formed g a k r hk in
      let l = slot_long n i f hi in
      let z = length_zip (λ x y. wrap (x + y)) (lengths_at i n.slots) delta (omega arith) in
      (put_inner g a k (with_lengths i (zip_with (λ x y. wrap (x + y)) (lengths_at i n.slots) delta) n) r hk
      (formed_lengths g.stride g.fan n f i (zip_with (λ x y. wrap (x + y)) (lengths_at i n.slots) delta) (omega arith))).inners

  up_spans : (v : ℕ) (delta : List ℕ) → length delta + 1 ≡ g.stride → (n k i s : ℕ) (ls xs : List ℕ) → Roomy g (areas ls xs) → length (climb_up g v delta n k i s xs).1 ≡ length xs
  unfolding climb_up
  up_spans v delta e zero k i s ls xs r = refl
  up_spans v delta e (suc n) k i s ls xs r =
      by_test (λ (p : Result ℕ Broken × List ℕ). length p.1 ≡ length xs) (inside g k i) _ _
      (λ q. let b = both _ _ q in
      let l = raised_spans delta k i ls xs r e (ltb-true _ _ b.0) (ltb-true _ _ b.1) in
      up_spans v delta e n (node_at g k xs).parent (node_at g k xs).at (s + start v i (node_at g k xs)) ls (raised g delta k i xs)
      (roomy_on g (areas ls xs) 0 (areas ls (raised g delta k i xs)) r (record { ends = zero_ends; leaves = refl; inners = l })) ∙ l)
      (λ _. refl)

  summed_left : (s : State) (r : Change) (p : Result ℕ Broken × List ℕ) → KeepsLengths s r.number r.state → length p.1 ≡ length r.state.inners → KeepsLengths s (place.summed g r p).0.number (place.summed g r p).0.state
  summed_left s r (Ok n, xs) o e = record { ends = zero_ends; leaves = o.leaves; inners = e ∙ o.inners; homes = o.homes }
  summed_left s r (Err _, xs) o e = record { ends = nine_ends; leaves = o.leaves; inners = e ∙ o.inners; homes = o.homes }

  pub climb_left : (s : State) (v : ℕ) (delta : List ℕ) (r : Change) → RoomyInUse g s → length delta + 1 ≡ g.stride → KeepsLengths s r.number r.state
      → KeepsLengths s (place.climb g v delta r).0.number (place.climb g v delta r).0.state
  unfolding place.climb
  climb_left s v delta r h e o =
      by_test (λ (p : Change × ℕ). KeepsLengths s p.0.number p.0.state) (eqb r.number 0) _ _
      (λ _. let m = node_at g r.leaf r.state.leaves in
      summed_left s r (climb_up g v delta r.state.head.levels m.parent m.at (start v r.slot m) r.state.inners) o
      (up_spans v delta e r.state.head.levels m.parent m.at (start v r.slot m) r.state.leaves r.state.inners (room_of s r.number r.state h o)))
      (λ _. o)
