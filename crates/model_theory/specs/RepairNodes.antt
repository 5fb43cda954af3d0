-- The nodes and homes that repair leaves, each as a function of the trusted words before it; a tree that fits becomes sound by them.
-- s is the words of a slot. Assumes nothing.
use Rattle.std.specs.Prelude.{◌≡◌, refl, Bool, true, false, cond, ℕ, zero, suc, ◌+◌, ◌-◌, ◌<◌, ◌≤◌, length, get_or, eqb, None}
use Rattle.std.proofs.Common.{sym, ap, ap₂, subst, ◌∙◌, arith, add-one, get_or-take, length-take-le, eqb-true}
use mathlib.Core.List.{List, [], ◌∷◌, map, flat_map}
use Rattle.std.proofs.lemmas.List.{length-map}
use Rattle.std.proofs.lemmas.Bool.{eqb-false}
use Rattle.model.specs.Lists.{sum_by, times, range}
use Rattle.model.specs.Node.{none, child, length_in, total, used, empty_slot}
use Rattle.model.specs.State.{State, state}
use Rattle.model.specs.Sound.{Child, shape_in, leaf_in, inner_in, level, inners_reached, below}
use Rattle.model.specs.declared.head.Head.{Head}
use Rattle.model_laws.specs.Nodes.{Formed}
use Rattle.model_laws.specs.Areas.{formed_at}
use Rattle.model_laws.specs.AreaRead.{node_end}
use Rattle.model.specs.Mend.{no_finger, holder, kids, leaf_link, uppers, inner_link, depth_at, deep, slot_over, slots_over}
use Rattle.model.specs.Repair.{Agrees}
use Rattle.model_theory.specs.LiftCount.{times_append}
use Rattle.model_theory.specs.RepairLists.{In, here, all_in, in_all, in_flat, in_range, get_d_in, flat_flat, flat_next, range_at, length_range, map_at}
use Rattle.model_theory.specs.RepairHolder.{in_times, holder_is, holder_none, depth_is}
use Rattle.model_theory.specs.RepairTrusted.{TrustedCoherent, Settled, LongAreas, fit_below, levels_as, Repaired, repaired}

-- r has the nodes and homes of the mended t
pub record Mended (s : ℕ) (t r : State) : Type 0 where
  pub leaf_len : (k : ℕ) → k < t.head.leaves → (leaf_in s r k).len ≡ (leaf_in s t k).len
  pub leaf_slots_law : (k : ℕ) → k < t.head.leaves → used (leaf_in s r k) ≡ used (leaf_in s t k)
  pub leaf_parent : (k : ℕ) → k < t.head.leaves → (leaf_in s r k).parent ≡ (leaf_link s t k).0
  pub leaf_at_law : (k : ℕ) → k < t.head.leaves → (leaf_in s r k).at ≡ (leaf_link s t k).1
  pub leaf_unused : (k i : ℕ) → k < t.head.leaves → (leaf_in s r k).len ≤ i → i < t.head.fan → get_or (leaf_in s r k).slots i [] ≡ empty_slot s
  pub inner_len : (k : ℕ) → k < t.head.inners → (inner_in s r k).len ≡ (inner_in s t k).len
  pub inner_slots : (k : ℕ) → k < t.head.inners → used (inner_in s r k) ≡ slots_over s t k
  pub inner_parent : (k : ℕ) → k < t.head.inners → (inner_in s r k).parent ≡ (inner_link s t k).0
  pub inner_at : (k : ℕ) → k < t.head.inners → (inner_in s r k).at ≡ (inner_link s t k).1
  pub inner_unused : (k i : ℕ) → k < t.head.inners → (inner_in s r k).len ≤ i → i < t.head.fan → get_or (inner_in s r k).slots i [] ≡ empty_slot s
  pub homes : (k i : ℕ) → k < t.head.leaves → i < (leaf_in s t k).len → get_or r.homes (child (get_or (leaf_in s t k).slots i [])) 0 ≡ k

-- lists of slots ------------------------------------------------------------------------------------------------------------------------------

map_back : (f : ℕ → List ℕ) (l : List ℕ) → ((c : ℕ) → child (f c) ≡ c) → map child (map f l) ≡ l
map_back f [] h = refl
map_back f (c ∷ l) h = ap₂ ◌∷◌ (h c) (map_back f l h)

sum_over : (f : ℕ → List ℕ) (g : ℕ → ℕ) (v : ℕ) (l : List ℕ) → ((c : ℕ) → length_in v (f c) ≡ g c) → total v (map f l) ≡ sum_by g l
unfolding sum_by
sum_over f g v [] h = refl
sum_over f g v (c ∷ l) h = let r : total v (map f l) ≡ sum_by g l = sum_over f g v l h in omega (arith, r, h c)

slots_at : (f : ℕ → List ℕ) (l : List ℕ) (k : ℕ) → k < length l → get_or (map f l) k [] ≡ f (get_or l k 0)
slots_at f [] k h = absurd (omega arith)
slots_at f (x ∷ l) zero h = refl
slots_at f (x ∷ l) (suc k) h = slots_at f l k (omega arith)

-- the length in view v of a slot with a sum for each view
sum_at_law : (s v c : ℕ) (f : ℕ → ℕ) → suc v < s → length_in v (c ∷ map f (range 0 (s - 1))) ≡ f v
sum_at_law s v c f h =
    ap (λ (i : ℕ). get_or (c ∷ map f (range 0 (s - 1))) i 0) (add-one v)
    ∙ (map_at f (range 0 (s - 1)) v (omega (arith, length_range 0 (s - 1))) ∙ ap f (range_at 0 (s - 1) v (omega arith) ∙ omega arith))

-- levels: one step of each definition
pub next_level : (s : ℕ) (t : State) (d c : ℕ) → times c (flat_map (kids s t) (level s t d)) ≡ times c (level s t (suc d))
unfolding level
next_level s t d c = refl

pub next_levels : (s : ℕ) (t : State) (l : List ℕ) → flat_map (λ d. flat_map (kids s t) (level s t d)) l ≡ flat_map (λ d. level s t (suc d)) l
unfolding level
next_levels s t l = refl

pub split_first : (s : ℕ) (t : State) (c n : ℕ) → times c (flat_map (level s t) (range 0 (suc n))) ≡ times c (t.head.root.0 ∷ []) + times c (flat_map (level s t) (range 1 n))
unfolding level flat_map range
split_first s t c n = times_append c (t.head.root.0 ∷ []) (flat_map (level s t) (range 1 n))

pub root_first : (s : ℕ) (t : State) → In t.head.root.0 (level s t 0)
unfolding level
root_first s t = here

pub deep_leaf : (s : ℕ) (t : State) (v c : ℕ) → deep s t 0 v c ≡ total v (used (leaf_in s t c))
unfolding deep
deep_leaf s t v c = refl

pub deep_inner : (s : ℕ) (t : State) (n v c : ℕ) → deep s t (suc n) v c ≡ sum_by (deep s t n v) (kids s t c)
unfolding deep
deep_inner s t n v c = refl

-- the theorem ----------------------------------------------------------------------------------------------------------------------------------

module _ (s e : ℕ) (t : State) (f : TrustedCoherent s t) (areas : LongAreas s t) (lr xr hr : List ℕ) where
  abbrev R : State
  R = state (no_finger t.head) lr xr hr

  module _ (long : LongAreas s R) (m : Mended s t R) where
    abbrev h : Head
    h = t.head

    inner_children : (k : ℕ) → k < h.inners → map child (used (inner_in s R k)) ≡ kids s t k
    inner_children k l = ap (map child) (m.inner_slots k l) ∙ map_back (slot_over s t (h.levels - suc (depth_at s t k))) (kids s t k) (λ c. refl)

    pub agrees : Agrees s t R
    agrees = record { head = refl; leaf_len = m.leaf_len; leaf_slots_law = m.leaf_slots_law; inner_len = m.inner_len; inner_children = inner_children }

    levels_here : (d : ℕ) → d ≤ h.levels → level s R d ≡ level s t d
    levels_here d l = levels_as s (no_finger h) h.finger None t.leaves t.inners t.homes lr xr hr f m.leaf_len m.leaf_slots_law m.inner_len inner_children d l

    -- as many children as slots in use
    formed : (k : ℕ) → k < h.inners → Formed s h.fan (inner_in s t k)
    formed k g = formed_at (shape_in s t) k t.inners refl (node_end (shape_in s t) k (length t.inners) (omega (arith, f.inner_count)) areas.inner_area)

    kids_length : (p : ℕ) → p < h.inners → length (kids s t p) ≡ (inner_in s t p).len
    kids_length p g = length-map (used (inner_in s t p)) child ∙ length-take-le (inner_in s t p).len (inner_in s t p).slots (omega (arith, (formed p g).count, (f.inner_lens p g).1))

    -- the inner nodes: the root, and the children of those above the lowest level
    reached_parts : (c : ℕ) → times c (inners_reached s t) ≡ times c (h.root.0 ∷ []) + times c (flat_map (kids s t) (uppers s t))
    reached_parts c =
        ap (λ (n : ℕ). times c (flat_map (level s t) (range 0 n))) last
        ∙ (first ∙ ap (λ (l : List ℕ). times c (h.root.0 ∷ []) + times c l) (sym below_root))
      where
        last : h.levels ≡ suc (h.levels - 1)
        last = omega (arith, f.levels_least)

        first : times c (flat_map (level s t) (range 0 (suc (h.levels - 1)))) ≡ times c (h.root.0 ∷ []) + times c (flat_map (level s t) (range 1 (h.levels - 1)))
        first = split_first s t c (h.levels - 1)

        below_root : flat_map (kids s t) (uppers s t) ≡ flat_map (level s t) (range 1 (h.levels - 1))
        below_root = flat_flat (kids s t) (level s t) (range 0 (h.levels - 1)) ∙ (next_levels s t (range 0 (h.levels - 1)) ∙ flat_next (level s t) 0 (h.levels - 1))

    in_use_law : (d p : ℕ) → d < h.levels → In p (level s t d) → p < h.inners
    in_use_law d p l r = fit_below s t f d p l r

    depth_of_law : (d p : ℕ) → d < h.levels → In p (level s t d) → depth_at s t p ≡ d
    depth_of_law d p l r = depth_is (level s t) h.levels 0 d p (omega arith) (omega arith) r (f.inners_once.once p (in_use_law d p l r))

    -- the child in slot i of a node of level d
    child_next : (d p i : ℕ) → In p (level s t d) → i < length (kids s t p) → In (get_or (kids s t p) i 0) (level s t (suc d))
    unfolding level
    child_next d p i r g = in_flat (kids s t) r (get_d_in (kids s t p) i g)

    leaf_link_law : (d p i : ℕ) → suc d ≡ h.levels → In p (level s t d) → i < length (kids s t p) → leaf_link s t (get_or (kids s t p) i 0) ≡ (p, i)
    leaf_link_law d p i l r g =
        let c : ℕ = get_or (kids s t p) i 0 in
        let q : d ≡ h.levels - 1 = omega arith in
        let n : In c (level s t h.levels) = subst (λ (x : ℕ). In c (level s t x)) l (child_next d p i r g) in
        let u : c < h.leaves = all_in (λ k. k < h.leaves) n f.leaves_once.below in
        let o : times c (flat_map (kids s t) (level s t d)) ≡ 1 = next_level s t d c ∙ (ap (λ (x : ℕ). times c (level s t x)) l ∙ f.leaves_once.once c u) in
        subst (λ (x : ℕ). holder (kids s t) (level s t x) c ≡ (p, i)) q (holder_is (kids s t) (level s t d) c p i r o g refl)

    inner_link_law : (d p i : ℕ) → suc d < h.levels → In p (level s t d) → i < length (kids s t p) → inner_link s t (get_or (kids s t p) i 0) ≡ (p, i)
    inner_link_law d p i l r g =
        let c : ℕ = get_or (kids s t p) i 0 in
        let u : c < h.inners = in_use_law (suc d) c l (child_next d p i r g) in
        let w : In p (uppers s t) = in_flat (level s t) (in_range 0 (h.levels - 1) d (omega arith) (omega arith)) r in
        let n : 0 < times c (flat_map (kids s t) (uppers s t)) = in_times c (in_flat (kids s t) w (get_d_in (kids s t p) i g)) in
        holder_is (kids s t) (uppers s t) c p i w (omega (arith, n, reached_parts c, f.inners_once.once c u)) g refl

    root_in : h.root.0 < h.inners
    root_in = in_use_law 0 h.root.0 (omega (arith, f.levels_least)) (root_first s t)

    root_link : inner_link s t h.root.0 ≡ (none, 0)
    root_link = holder_none (kids s t) (uppers s t) h.root.0 (omega (arith, reached_parts h.root.0, f.inners_once.once h.root.0 root_in, in_times h.root.0 {l = h.root.0 ∷ []} here))

    -- the totals of a node in R
    under : (d c v : ℕ) → d < h.levels → suc v < s → In c (level s t (suc d)) → total v (used (below s R d c)) ≡ deep s t (h.levels - suc d) v c
    under d c v l g r = go (eqb (suc d) h.levels) refl
      where
        go : (b : Bool) → eqb (suc d) h.levels ≡ b → total v (used (cond b (leaf_in s R c) (inner_in s R c))) ≡ deep s t (h.levels - suc d) v c
        go true q =
            let y : suc d ≡ h.levels = eqb-true (suc d) h.levels q in
            let z : h.levels - suc d ≡ 0 = omega arith in
            let u : c < h.leaves = all_in (λ k. k < h.leaves) (subst (λ (x : ℕ). In c (level s t x)) y r) f.leaves_once.below in
            ap (total v) (m.leaf_slots_law c u) ∙ (sym (deep_leaf s t v c) ∙ ap (λ (n : ℕ). deep s t n v c) (sym z))
        go false q =
            let y : suc d ≡ h.levels → ⊥ = eqb-false (suc d) h.levels q in
            let k : suc d < h.levels = omega arith in
            let n : ℕ = h.levels - suc (suc d) in
            let z : h.levels - suc d ≡ suc n = omega arith in
            let u : c < h.inners = in_use_law (suc d) c k r in
            let x : depth_at s t c ≡ suc d = depth_of_law (suc d) c k r in
            ap (total v) (m.inner_slots c u)
            ∙ (ap (λ (j : ℕ). total v (map (slot_over s t (h.levels - suc j)) (kids s t c))) x
            ∙ (sum_over (slot_over s t n) (deep s t n v) v (kids s t c) (λ b. sum_at_law s v b (λ v. deep s t n v b) g)
            ∙ (sym (deep_inner s t n v c) ∙ ap (λ (j : ℕ). deep s t j v c) (sym z))))

    child_right : (d p i : ℕ) → d < h.levels → In p (level s t d) → i < (inner_in s R p).len → Child s R d p i (get_or (inner_in s R p).slots i [])
    child_right d p i l r g =
        let u : p < h.inners = in_use_law d p l r in
        let j : i < length (kids s t p) = omega (arith, kids_length p u, m.inner_len p u) in
        let c : ℕ = get_or (kids s t p) i 0 in
        let n : ℕ = h.levels - suc d in
        let x : get_or (inner_in s R p).slots i [] ≡ slot_over s t n c =
        sym (get_or-take (inner_in s R p).len (inner_in s R p).slots i [] g)
        ∙ (ap (λ (z : List (List ℕ)). get_or z i []) (m.inner_slots p u)
        ∙ (slots_at (slot_over s t (h.levels - suc (depth_at s t p))) (kids s t p) i j ∙ ap (λ (y : ℕ). slot_over s t (h.levels - suc y) c) (depth_of_law d p l r)))
        in
        subst (Child s R d p i) (sym x) (record {
          parent = (links d p i l r j (eqb (suc d) h.levels) refl).0;
          at = (links d p i l r j (eqb (suc d) h.levels) refl).1;
          sums = λ v q. sum_at_law s v c (λ v. deep s t n v c) q ∙ sym (under d c v l q (child_next d p i r j));
        })
      where
        links : (d p i : ℕ) → d < h.levels → In p (level s t d) → i < length (kids s t p) → (b : Bool) → eqb (suc d) h.levels ≡ b
            → ((cond b (leaf_in s R (get_or (kids s t p) i 0)) (inner_in s R (get_or (kids s t p) i 0))).parent ≡ p) × ((cond b (leaf_in s R (get_or (kids s t p) i 0)) (inner_in s R (get_or (kids s t p) i 0))).at ≡ i)
        links d p i l r j true q =
            let c : ℕ = get_or (kids s t p) i 0 in
            let y : suc d ≡ h.levels = eqb-true (suc d) h.levels q in
            let u : c < h.leaves = all_in (λ k. k < h.leaves) (subst (λ (x : ℕ). In c (level s t x)) y (child_next d p i r j)) f.leaves_once.below in
            let k : leaf_link s t c ≡ (p, i) = leaf_link_law d p i y r j in
            (m.leaf_parent c u ∙ ap (λ (w : ℕ × ℕ). w.0) k, m.leaf_at_law c u ∙ ap (λ (w : ℕ × ℕ). w.1) k)
        links d p i l r j false q =
            let c : ℕ = get_or (kids s t p) i 0 in
            let y : suc d ≡ h.levels → ⊥ = eqb-false (suc d) h.levels q in
            let g : suc d < h.levels = omega arith in
            let u : c < h.inners = in_use_law (suc d) c g (child_next d p i r j) in
            let k : inner_link s t c ≡ (p, i) = inner_link_law d p i g r j in
            (m.inner_parent c u ∙ ap (λ (w : ℕ × ℕ). w.0) k, m.inner_at c u ∙ ap (λ (w : ℕ × ℕ). w.1) k)

    settled : Settled s R
    settled = record {
      leaf_unused = m.leaf_unused;
      inner_unused = m.inner_unused;
      root_parent = m.inner_parent h.root.0 root_in ∙ ap (λ (w : ℕ × ℕ). w.0) root_link;
      root_at = m.inner_at h.root.0 root_in ∙ ap (λ (w : ℕ × ℕ). w.1) root_link;
      children = λ d l. in_all (λ p. (i : ℕ) → i < (inner_in s R p).len → Child s R d p i (get_or (inner_in s R p).slots i [])) (level s R d)
          (λ p r i g. child_right d p i l (subst (λ (z : List ℕ). In p z) (levels_here d (omega arith)) r) g);
      homes = λ k i l g. subst (λ (c : ℕ). get_or hr c 0 ≡ k) (sym (entry_same k i l g)) (m.homes k i l (omega (arith, m.leaf_len k l)));
      finger = refl;
    }
      where
        entry_same : (k i : ℕ) → k < h.leaves → i < (leaf_in s R k).len → child (get_or (leaf_in s R k).slots i []) ≡ child (get_or (leaf_in s t k).slots i [])
        entry_same k i l g =
            ap child (sym (get_or-take (leaf_in s R k).len (leaf_in s R k).slots i [] g)
            ∙ (ap (λ (z : List (List ℕ)). get_or z i []) (m.leaf_slots_law k l) ∙ get_or-take (leaf_in s t k).len (leaf_in s t k).slots i [] (omega (arith, m.leaf_len k l))))

    -- a tree that fits becomes sound, agrees with what is trusted of it, and is the only such tree but for words out of use
    pub mended : Repaired s e t R
    mended = repaired s e t R f agrees settled long
