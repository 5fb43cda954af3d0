-- Two sound trees that agree on what repair trusts are the same in every node in use and every home: repair has no choice. Assumes nothing.
use Rattle.model.specs.declared.head.Finger.{Finger}
use Rattle.std.specs.Prelude.{◌≡◌, refl, Bool, true, false, ℕ, zero, suc, ◌+◌, ◌-◌, ◌<◌, ◌≤◌, length, get_or, take, ltb, Option}
use Rattle.std.proofs.Common.{sym, ap, ap₂, subst, ◌∙◌, arith, add-one, ext_get_or, get_or-take, eq-eqb, ne_eqb, ltb-true, ltb-false}
use mathlib.Core.List.{List, [], ◌∷◌, map, flat_map}
use Rattle.std.proofs.Math.ListN.{get_or-map}
use Rattle.model.specs.Lists.{range}
use Rattle.model.specs.Node.{Node, node, child, length_in, total, used, empty_slot}
use Rattle.model.specs.State.{State, state}
use Rattle.model.specs.Place.{with_finger}
use Rattle.model.specs.Sound.{CoherentAt, Child, shape_in, leaf_in, inner_in, level, inners_reached, leaves_reached, slots_in, below}
use Rattle.model.specs.declared.head.Head.{Head}
use Rattle.model_laws.specs.Lists.{all_at_at}
use Rattle.model_laws.specs.Slots.{Long}
use Rattle.model_laws.specs.Nodes.{Formed}
use Rattle.model_laws.specs.Areas.{formed_at}
use Rattle.model_laws.specs.AreaRead.{node_end}
use Rattle.model.specs.Mend.{no_finger}
use Rattle.model.specs.Repair.{Agrees, Same}
use Rattle.model_theory.specs.RepairLists.{In, all_in, in_all, in_flat, in_range, Of, flat_in, in_range_below, flat_same, ChildPlace, child_in_law, in_children, only, in_map, Image, map_in, times_in}

-- facts of one sound tree --------------------------------------------------------------------------------------------------------------------

module _ (s : ℕ) (t : State) (e : ℕ) (w : CoherentAt s t e) where
  -- a node of a level of inner nodes is in use
  pub level_below : (d p : ℕ) → d < t.head.levels → In p (level s t d) → p < t.head.inners
  level_below d p h i = all_in (λ k. k < t.head.inners) (in_flat (level s t) (in_range 0 t.head.levels d (omega arith) (omega arith)) i) w.inners_once.below

  leaf_below : (k : ℕ) → In k (level s t t.head.levels) → k < t.head.leaves
  leaf_below k i = all_in (λ k. k < t.head.leaves) i w.leaves_once.below

  -- every inner node in use stands in a level
  pub inner_level : (k : ℕ) → k < t.head.inners → Of (level s t) (range 0 t.head.levels) k
  inner_level k h = flat_in (level s t) (range 0 t.head.levels) (times_in k (inners_reached s t) (omega (arith, w.inners_once.once k h)))

  pub leaf_level : (k : ℕ) → k < t.head.leaves → In k (level s t t.head.levels)
  leaf_level k h = times_in k (leaves_reached s t) (omega (arith, w.leaves_once.once k h))

  -- the root alone stands in the level of the root
  root_level : (k : ℕ) → In k (level s t 0) → In k (t.head.root.0 ∷ [])
  unfolding level
  root_level k i = i

  -- every entry stands in a slot of a leaf in use
  pub record Stored (id : ℕ) : Type 0 where
    pub k : ℕ
    pub used_leaf : k < t.head.leaves
    pub at : ChildPlace id (leaf_in s t k).len (leaf_in s t k).slots

  pub stored : (id : ℕ) → id < t.head.entries → Stored id
  stored id g = go (map_in child (slots_in s t (leaves_reached s t)) (times_in id (map child (slots_in s t (leaves_reached s t))) (omega (arith, w.ids.once id g))))
    where
      leaf : (x : List ℕ) → child x ≡ id → Of (λ k. used (leaf_in s t k)) (leaves_reached s t) x → Stored id
      leaf x q r =
          let k : ℕ = r.part in
          record {
            k = k;
            used_leaf = leaf_below k r.outer;
            at = child_in_law id (leaf_in s t k).len (leaf_in s t k).slots (subst (λ (c : ℕ). In c (map child (used (leaf_in s t k)))) q (in_map child r.inner));
          }

      go : Image child (slots_in s t (leaves_reached s t)) id → Stored id
      go r = leaf r.of r.is (flat_in (λ k. used (leaf_in s t k)) (leaves_reached s t) r.inside)

  -- a node of the level below stands in a slot of the level above
  pub record Slotted (d c : ℕ) : Type 0 where
    pub p : ℕ
    pub row : In p (level s t d)
    pub at : ChildPlace c (inner_in s t p).len (inner_in s t p).slots

  pub slotted : (d c : ℕ) → In c (level s t (suc d)) → Slotted d c
  unfolding level
  slotted d c i = go (flat_in (λ p. map child (used (inner_in s t p))) (level s t d) i)
    where
      go : Of (λ p. map child (used (inner_in s t p))) (level s t d) c → Slotted d c
      go r = record { p = r.part; row = r.outer; at = child_in_law c (inner_in s t r.part).len (inner_in s t r.part).slots r.inner }

  pub child_of : (d p i : ℕ) → d < t.head.levels → In p (level s t d) → i < (inner_in s t p).len → Child s t d p i (get_or (inner_in s t p).slots i [])
  child_of d p i h r g = all_in (λ p. (i : ℕ) → i < (inner_in s t p).len → Child s t d p i (get_or (inner_in s t p).slots i [])) r (w.children d h) i g

  -- a child of a level stands in the next
  pub child_level : (d p i : ℕ) → In p (level s t d) → i < (inner_in s t p).len → i < length (inner_in s t p).slots → In (child (get_or (inner_in s t p).slots i [])) (level s t (suc d))
  unfolding level
  child_level d p i r g l = in_flat (λ p. map child (used (inner_in s t p))) r (in_children (inner_in s t p).len i (inner_in s t p).slots g l)

-- slots and nodes ----------------------------------------------------------------------------------------------------------------------------

-- two slots of s words with the same child and the same lengths
pub slot_same : (s : ℕ) (x y : List ℕ) → length x ≡ s → length y ≡ s → child x ≡ child y → ((v : ℕ) → suc v < s → length_in v x ≡ length_in v y) → x ≡ y
slot_same s x y lx ly c f = ext_get_or 0 x y (lx ∙ sym ly) word
  where
    word : (i : ℕ) → i < length x → get_or x i 0 ≡ get_or y i 0
    word zero h = c
    word (suc v) h = ap (λ (i : ℕ). get_or x i 0) (sym (add-one v)) ∙ (f v (omega arith) ∙ ap (λ (i : ℕ). get_or y i 0) (add-one v))

-- the slots in use, slot by slot
pub used_same : (n : ℕ) (xs ys : List (List ℕ)) → length xs ≡ length ys → ((i : ℕ) → i < n → i < length xs → get_or xs i [] ≡ get_or ys i []) → take n xs ≡ take n ys
used_same zero xs ys l f = refl
used_same (suc n) [] [] l f = refl
used_same (suc n) [] (y ∷ ys) l f = absurd (omega arith)
used_same (suc n) (x ∷ xs) [] l f = absurd (omega arith)
used_same (suc n) (x ∷ xs) (y ∷ ys) l f = ap₂ ◌∷◌ (f 0 (omega arith) (omega arith)) (used_same n xs ys (omega arith) (λ i h g. f (suc i) (omega arith) (omega arith)))

-- all slots: those in use, and the unused ones, which are empty
pub slots_same : (s fan n : ℕ) (xs ys : List (List ℕ)) → length xs ≡ fan → length ys ≡ fan → take n xs ≡ take n ys
    → ((i : ℕ) → n ≤ i → i < fan → get_or xs i [] ≡ empty_slot s) → ((i : ℕ) → n ≤ i → i < fan → get_or ys i [] ≡ empty_slot s) → xs ≡ ys
slots_same s fan n xs ys lx ly u fx fy = ext_get_or [] xs ys (lx ∙ sym ly) (λ i h. go i h (ltb i n) refl)
  where
    go : (i : ℕ) → i < length xs → (b : Bool) → ltb i n ≡ b → get_or xs i [] ≡ get_or ys i []
    go i h true e =
        let l : i < n = ltb-true i n e in
        sym (get_or-take n xs i [] l) ∙ (ap (λ (z : List (List ℕ)). get_or z i []) u ∙ get_or-take n ys i [] l)
    go i h false e =
        let l : n ≤ i = ltb-false i n e in
        fx i l (omega arith) ∙ sym (fy i l (omega arith))

pub node_same : (m n : Node) → m.len ≡ n.len → m.parent ≡ n.parent → m.at ≡ n.at → m.slots ≡ n.slots → m ≡ n
node_same m n a b c d =
    let e : node m.len m.parent m.at m.slots ≡ node n.len n.parent n.at n.slots = rw (a, b, c, d) in
    e

-- levels whose nodes have the same children
pub level_as : (s : ℕ) (a b : State) → b.head.root.0 ≡ a.head.root.0 → (n : ℕ) → ((d p : ℕ) → d < n → In p (level s a d) → map child (used (inner_in s b p)) ≡ map child (used (inner_in s a p)))
    → (d : ℕ) → d ≤ n → level s b d ≡ level s a d
unfolding level
level_as s a b r n same zero g = ap (λ (k : ℕ). k ∷ []) r
level_as s a b r n same (suc d) g =
    ap (flat_map (λ p. map child (used (inner_in s b p)))) (level_as s a b r n same d (omega arith))
    ∙ flat_same (λ p. map child (used (inner_in s b p))) (λ p. map child (used (inner_in s a p))) (level s a d)
    (in_all (λ p. map child (used (inner_in s b p)) ≡ map child (used (inner_in s a p))) (level s a d) (λ p i. same d p (omega arith) i))

-- two trees -----------------------------------------------------------------------------------------------------------------------------------

module _ (s e : ℕ) (h : Head) (fa fb : Option Finger) (la xa ha lb xb hb : List ℕ) where
  abbrev A : State
  A = state (with_finger fa h) la xa ha

  abbrev B : State
  B = state (with_finger fb h) lb xb hb

  module _ (wa : CoherentAt s A e) (wb : CoherentAt s B e)
      (ll : (k : ℕ) → k < h.leaves → (leaf_in s B k).len ≡ (leaf_in s A k).len) (lu : (k : ℕ) → k < h.leaves → used (leaf_in s B k) ≡ used (leaf_in s A k))
      (il : (k : ℕ) → k < h.inners → (inner_in s B k).len ≡ (inner_in s A k).len) (ic : (k : ℕ) → k < h.inners → map child (used (inner_in s B k)) ≡ map child (used (inner_in s A k)))
    where
      -- the levels are the same
      pub levels_same : (d : ℕ) → d ≤ h.levels → level s B d ≡ level s A d
      levels_same d g = level_as s A B refl h.levels (λ d p l i. ic p (level_below s A e wa d p l i)) d g

      -- nodes in use are well formed
      leaf_formed_a : (k : ℕ) → k < h.leaves → Formed s h.fan (leaf_in s A k)
      leaf_formed_a k g = formed_at (shape_in s A) k la refl (node_end (shape_in s A) k (length la) (omega (arith, wa.leaf_count)) wa.leaf_area)

      leaf_formed_b : (k : ℕ) → k < h.leaves → Formed s h.fan (leaf_in s B k)
      leaf_formed_b k g = formed_at (shape_in s A) k lb refl (node_end (shape_in s A) k (length lb) (omega (arith, wa.leaf_count)) wb.leaf_area)

      inner_formed_a : (k : ℕ) → k < h.inners → Formed s h.fan (inner_in s A k)
      inner_formed_a k g = formed_at (shape_in s A) k xa refl (node_end (shape_in s A) k (length xa) (omega (arith, wa.inner_count)) wa.inner_area)

      inner_formed_b : (k : ℕ) → k < h.inners → Formed s h.fan (inner_in s B k)
      inner_formed_b k g = formed_at (shape_in s A) k xb refl (node_end (shape_in s A) k (length xb) (omega (arith, wa.inner_count)) wb.inner_area)

      -- the child in slot i of inner node p
      child_same : (p i : ℕ) → p < h.inners → i < (inner_in s A p).len → child (get_or (inner_in s B p).slots i []) ≡ child (get_or (inner_in s A p).slots i [])
      child_same p i g l =
          let m : i < (inner_in s B p).len = omega (arith, il p g) in
          sym (ap child (get_or-take (inner_in s B p).len (inner_in s B p).slots i [] m))
          ∙ (sym (get_or-map child (used (inner_in s B p)) i []) ∙ (ap (λ (z : List ℕ). get_or z i 0) (ic p g) ∙ (get_or-map child (used (inner_in s A p)) i [] ∙ ap child (get_or-take (inner_in s A p).len (inner_in s A p).slots i [] l))))

      -- a node below the root has the same parent and place in both: the slot that holds it says so
      up_same : (d c : ℕ) → d < h.levels → In c (level s A (suc d)) → ((below s B d c).parent ≡ (below s A d c).parent) × ((below s B d c).at ≡ (below s A d c).at)
      up_same d c g i = go (slotted s A e wa d c i)
        where
          go : Slotted s A e wa d c → ((below s B d c).parent ≡ (below s A d c).parent) × ((below s B d c).at ≡ (below s A d c).at)
          go r =
              let p : ℕ = r.p in
              let j : ℕ = r.at.i in
              let in_use_law : p < h.inners = level_below s A e wa d p g r.row in
              let ka : Child s A d p j (get_or (inner_in s A p).slots j []) = child_of s A e wa d p j g r.row r.at.below in
              let row-b : In p (level s B d) = subst (λ (l : List ℕ). In p l) (sym (levels_same d (omega arith))) r.row in
              let kb : Child s B d p j (get_or (inner_in s B p).slots j []) = child_of s B e wb d p j g row-b (omega (arith, il p in_use_law, r.at.below)) in
              let ca : child (get_or (inner_in s A p).slots j []) ≡ c = r.at.is in
              let cb : child (get_or (inner_in s B p).slots j []) ≡ c = child_same p j in_use_law r.at.below ∙ ca in
              let pa : (below s A d c).parent ≡ p = subst (λ (x : ℕ). (below s A d x).parent ≡ p) ca ka.parent in
              let pb : (below s B d c).parent ≡ p = subst (λ (x : ℕ). (below s B d x).parent ≡ p) cb kb.parent in
              let qa : (below s A d c).at ≡ j = subst (λ (x : ℕ). (below s A d x).at ≡ j) ca ka.at in
              let qb : (below s B d c).at ≡ j = subst (λ (x : ℕ). (below s B d x).at ≡ j) cb kb.at in
              (pb ∙ sym pa, qb ∙ sym qa)

      -- the slots in use of an inner node, if those of its children are the same
      sums_step : (d p : ℕ) → d < h.levels → In p (level s A d) → ((c : ℕ) → In c (level s A (suc d)) → used (below s B d c) ≡ used (below s A d c)) → used (inner_in s B p) ≡ used (inner_in s A p)
      sums_step d p g r low =
          ap (λ (m : ℕ). take m (inner_in s B p).slots) (il p in_use_law)
          ∙ used_same (inner_in s A p).len (inner_in s B p).slots (inner_in s A p).slots (fb'.count ∙ sym fa'.count) slot
        where
          in_use_law : p < h.inners
          in_use_law = level_below s A e wa d p g r

          fa' : Formed s h.fan (inner_in s A p)
          fa' = inner_formed_a p in_use_law

          fb' : Formed s h.fan (inner_in s B p)
          fb' = inner_formed_b p in_use_law

          slot : (i : ℕ) → i < (inner_in s A p).len → i < length (inner_in s B p).slots → get_or (inner_in s B p).slots i [] ≡ get_or (inner_in s A p).slots i []
          slot i l k =
              let x : List ℕ = get_or (inner_in s A p).slots i [] in
              let y : List ℕ = get_or (inner_in s B p).slots i [] in
              let row-b : In p (level s B d) = subst (λ (l : List ℕ). In p l) (sym (levels_same d (omega arith))) r in
              let ka : Child s A d p i x = child_of s A e wa d p i g r l in
              let kb : Child s B d p i y = child_of s B e wb d p i g row-b (omega (arith, il p in_use_law)) in
              let m : i < length (inner_in s A p).slots = omega (arith, fa'.count, fb'.count) in
              let cs : child y ≡ child x = child_same p i in_use_law l in
              let u : used (below s B d (child y)) ≡ used (below s A d (child x)) = ap (λ (c : ℕ). used (below s B d c)) cs ∙ low (child x) (child_level s A e wa d p i r l m) in
              slot_same s y x (all_at_at (Long s) i [] (inner_in s B p).slots k fb'.wide) (all_at_at (Long s) i [] (inner_in s A p).slots m fa'.wide) cs
              (λ v q. kb.sums v q ∙ (ap (total v) u ∙ sym (ka.sums v q)))

      -- of every level of inner nodes, from the lowest up
      sums_same : (n d : ℕ) → d + suc n ≡ h.levels → (p : ℕ) → In p (level s A d) → used (inner_in s B p) ≡ used (inner_in s A p)
      sums_same zero d g p r =
          sums_step d p (omega arith) r
          (λ c i. rw (eq-eqb (suc d) h.levels (omega arith)) (lu c (leaf_below s A e wa c (subst (λ (m : ℕ). In c (level s A m)) (omega arith) i))))
      sums_same (suc n) d g p r =
          sums_step d p (omega arith) r
          (λ c i. rw (ne_eqb (suc d) h.levels (λ q. omega arith)) (sums_same n (suc d) (omega arith) c i))

      -- every node in use is the same
      pub inner_same : (k : ℕ) → k < h.inners → inner_in s B k ≡ inner_in s A k
      inner_same k g = go (inner_level s A e wa k g)
        where
          lens : (inner_in s B k).len ≡ (inner_in s A k).len
          lens = il k g

          root_up : k ≡ h.root.0 → ((inner_in s B k).parent ≡ (inner_in s A k).parent) × ((inner_in s B k).at ≡ (inner_in s A k).at)
          root_up q = rw q (wb.root_parent ∙ sym wa.root_parent, wb.root_at ∙ sym wa.root_at)

          up : (d : ℕ) → d < h.levels → In k (level s A d) → ((inner_in s B k).parent ≡ (inner_in s A k).parent) × ((inner_in s B k).at ≡ (inner_in s A k).at)
          up zero l i = root_up (only k h.root.0 (root_level s A e wa k i))
          up (suc d) l i = rw (ne_eqb (suc d) h.levels (λ q. omega arith)) at (up_same d k (omega arith) i)

          go : Of (level s A) (range 0 h.levels) k → inner_in s B k ≡ inner_in s A k
          go r =
              let d : ℕ = r.part in
              let l : d < h.levels = omega (arith, (in_range_below 0 h.levels r.outer).1) in
              let u : used (inner_in s B k) ≡ used (inner_in s A k) = sums_same (h.levels - suc d) d (omega arith) k r.inner in
              node_same (inner_in s B k) (inner_in s A k) lens (up d l r.inner).0 (up d l r.inner).1
              (slots_same s h.fan (inner_in s A k).len (inner_in s B k).slots (inner_in s A k).slots (inner_formed_b k g).count (inner_formed_a k g).count
              (ap (λ (m : ℕ). take m (inner_in s B k).slots) (sym lens) ∙ u) (λ i q m. (wb.inner_filled k g).unused i (omega (arith, lens)) m) (wa.inner_filled k g).unused)

      pub leaf_same : (k : ℕ) → k < h.leaves → leaf_in s B k ≡ leaf_in s A k
      leaf_same k g =
          node_same (leaf_in s B k) (leaf_in s A k) lens up.0 up.1
          (slots_same s h.fan (leaf_in s A k).len (leaf_in s B k).slots (leaf_in s A k).slots (leaf_formed_b k g).count (leaf_formed_a k g).count
          (ap (λ (m : ℕ). take m (leaf_in s B k).slots) (sym lens) ∙ lu k g) (λ i q m. (wb.leaf_filled k g).unused i (omega (arith, lens)) m) (wa.leaf_filled k g).unused)
        where
          lens : (leaf_in s B k).len ≡ (leaf_in s A k).len
          lens = ll k g

          d : ℕ
          d = h.levels - 1

          last : suc d ≡ h.levels
          last = omega (arith, wa.levels_least)

          up : ((leaf_in s B k).parent ≡ (leaf_in s A k).parent) × ((leaf_in s B k).at ≡ (leaf_in s A k).at)
          up = rw (eq-eqb (suc d) h.levels last) at (up_same d k (omega (arith, wa.levels_least)) (subst (λ (m : ℕ). In k (level s A m)) (sym last) (leaf_level s A e wa k g)))

      -- and every home
      pub home_same : (id : ℕ) → id < h.entries → get_or hb id 0 ≡ get_or ha id 0
      home_same id g = go (stored s A e wa id g)
        where
          go : Stored s A e wa id → get_or hb id 0 ≡ get_or ha id 0
          go r =
              let k : ℕ = r.k in
              let i : ℕ = r.at.i in
              let l : leaf_in s B k ≡ leaf_in s A k = leaf_same k r.used_leaf in
              let i-b : i < (leaf_in s B k).len = omega (arith, ll k r.used_leaf, r.at.below) in
              let c-b : child (get_or (leaf_in s B k).slots i []) ≡ id = ap (λ (n : Node). child (get_or n.slots i [])) l ∙ r.at.is in
              let a : get_or ha id 0 ≡ k = subst (λ (c : ℕ). get_or ha c 0 ≡ k) r.at.is (wa.homes k i r.used_leaf r.at.below) in
              let b : get_or hb id 0 ≡ k = subst (λ (c : ℕ). get_or hb c 0 ≡ k) c-b (wb.homes k i r.used_leaf i-b) in
              b ∙ sym a

-- the theorem ---------------------------------------------------------------------------------------------------------------------------------

-- sound, and in agreement with what is trusted of a, under the head x
pub record Beside (s e : ℕ) (a b : State) (x : Head) : Type 0 where
  pub sound : CoherentAt s (state (with_finger b.head.finger x) b.leaves b.inners b.homes) e
  pub ll : (k : ℕ) → k < a.head.leaves → (leaf_in s (state (with_finger b.head.finger x) b.leaves b.inners b.homes) k).len ≡ (leaf_in s a k).len
  pub lu : (k : ℕ) → k < a.head.leaves → used (leaf_in s (state (with_finger b.head.finger x) b.leaves b.inners b.homes) k) ≡ used (leaf_in s a k)
  pub il : (k : ℕ) → k < a.head.inners → (inner_in s (state (with_finger b.head.finger x) b.leaves b.inners b.homes) k).len ≡ (inner_in s a k).len
  pub ic : (k : ℕ) → k < a.head.inners → map child (used (inner_in s (state (with_finger b.head.finger x) b.leaves b.inners b.homes) k)) ≡ map child (used (inner_in s a k))

pub beside : (s e : ℕ) (a b : State) → CoherentAt s b e → Agrees s a b → Beside s e a b (no_finger a.head)
beside s e a b wb g = subst (Beside s e a b) g.head (record { sound = wb; ll = g.leaf_len; lu = g.leaf_slots_law; il = g.inner_len; ic = g.inner_children })

pub same : (s e : ℕ) (a b : State) → CoherentAt s a e → CoherentAt s b e → Agrees s a b → Same s a b
same s e a b wa wb g = back
  where
    r : Beside s e a b (no_finger a.head)
    r = beside s e a b wb g

    fa : Option Finger
    fa = a.head.finger

    fb : Option Finger
    fb = b.head.finger

    heads : (Q : Head → Type 0) → Q (no_finger a.head) → Q (no_finger b.head)
    heads Q x = subst Q (sym g.head) x

    back : Same s a b
    back = record {
      leaves = λ k l. heads (λ x. leaf_in s (state (with_finger fb x) b.leaves b.inners b.homes) k ≡ leaf_in s a k)
          (leaf_same s e (no_finger a.head) fa fb a.leaves a.inners a.homes b.leaves b.inners b.homes wa r.sound r.ll r.lu r.il r.ic k l);
      inners = λ k l. heads (λ x. inner_in s (state (with_finger fb x) b.leaves b.inners b.homes) k ≡ inner_in s a k)
          (inner_same s e (no_finger a.head) fa fb a.leaves a.inners a.homes b.leaves b.inners b.homes wa r.sound r.ll r.lu r.il r.ic k l);
      homes = λ id l. home_same s e (no_finger a.head) fa fb a.leaves a.inners a.homes b.leaves b.inners b.homes wa r.sound r.ll r.lu r.il r.ic id l;
    }
