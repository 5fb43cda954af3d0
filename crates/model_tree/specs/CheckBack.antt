-- The other way: a sound tree passes every check.
use Rattle.std.specs.Prelude.{◌≡◌, refl, ◌⊎◌, ◌≢◌, List, [], ◌∷◌, ◌++◌, map, length, take, drop, get_or}
use Rattle.std.proofs.Common.{sym, ap, ap₂, ◌∙◌, inl, inr, not-suc-le-zero, arith, length-append, length-take-le}
use Rattle.std.proofs.Math.Path.{subst}
use Prim.Native.Nat.{ℕ, zero, suc, ◌+◌, ◌≤◌, ◌<◌}
use Rattle.std.proofs.Math.Decide.{ℕ_discrete}
use Rattle.std.proofs.lemmas.List.{length-map}
use Rattle.std.proofs.Math.Seq.{split_at, get_or-append_seam}
use Rattle.model.specs.Lists.{All}
use Rattle.model_tree.specs.Lists.{length_cat, cat, cat_append, all_right, Pairs, pairs_before, uncat}
use Rattle.model_tree.specs.Levels.{no_slot, Slot, Area, told, said, length_marks, Links, total, none, Parent, find_parent}
use Rattle.model_tree.specs.Apart.{ranks}
use Rattle.model_tree.specs.Sound.{lvl, stack, kids_of, map_cat, Local}
use Rattle.model_tree.specs.Reach.{Kids, cat_inj}
use Rattle.model_tree.specs.Pigeon.{sum_each, In, in_or, is_in}
use Rattle.model_tree.specs.Tree.{above, Tree, leaf_slots, order, row, Body}
use Rattle.model_tree.specs.Follows.{reals, levels_most}
use Rattle.model_tree.specs.Split.{nodup_slots, pairs_left, pairs_right}
use Rattle.model_tree.specs.Cursor.{index_of, index_at}
use Rattle.model_tree.specs.Change.{order_nodup}
use Rattle.model_tree.specs.Place.{total_is}
use Rattle.model_tree.specs.Check.{depth, TreeChecks, level_at}

pub all_in_at : (Q : ℕ → Type 0) (k : ℕ) (l : List ℕ) → In k l → All Q l → Q k
unfolding All
all_in_at Q k l i h = (all_right Q i.before (k ∷ i.after) (subst (λ (m : List ℕ). All Q m) i.row h)).0

pub root_own : (t : ℕ → ℕ → ℕ) (up : Area) (root : ℕ) (C : List ℕ) (st : List (List ℕ)) → Links t up up root C st → (up.parent root ≡ none) × (up.place root ≡ 0)
root_own t up root C [] l = (l.1, l.2)
root_own t up root C (P ∷ st) l = root_own (total up) up root P st l.1

-- the links of each level of inner nodes
pub down_links : (t : ℕ → ℕ → ℕ) (low up : Area) (root n d : ℕ) → Links t low up root (lvl up root n) (stack up root n) → d < n → Links (total up) up up root (lvl up root d) (stack up root d)
down_links t low up root zero d l lt = absurd (not-suc-le-zero lt)
down_links t low up root (suc n) d l lt = go (ℕ_discrete d n) (λ h. down_links (total up) up up root n d l.1 h)
  where
    go : Dec (d ≡ n) → (d < n → Links (total up) up up root (lvl up root d) (stack up root d)) → Links (total up) up up root (lvl up root d) (stack up root d)
    go (yes e) ih = subst (λ (m : ℕ). Links (total up) up up root (lvl up root m) (stack up root m)) (sym e) l.1
    go (no ne) ih = ih (omega arith)

pub local_of : (t : ℕ → ℕ → ℕ) (low up : Area) (root d : ℕ) → Links t low up root (lvl up root (suc d)) (stack up root (suc d)) → All (Local t low up) (lvl up root d)
local_of t low up root d l =
    cat_inj (λ p. map (said t low) (kids_of up p)) (told up) (lvl up root d)
    (λ p. length-map (kids_of up p) (said t low) ∙ length-map (up.slots p) (λ s. s.child) ∙ sym (length_marks p 0 (up.slots p)))
    (sym (map_cat (said t low) (kids_of up) (lvl up root d)) ∙ l.0)

-- the level of a node in use
pub find_level : (up : Area) (root n k : ℕ) → (All (All (λ m. m ≢ k)) (stack up root n) → ⊥) → (d : ℕ) × (d < n) × In k (lvl up root d)
unfolding All
find_level up root zero k h = absurd (h tt)
find_level up root (suc n) k h = go (in_or k (lvl up root n)) (λ x. find_level up root n k x)
  where
    go : In k (lvl up root n) ⊎ All (λ m. m ≢ k) (lvl up root n) → ((All (All (λ m. m ≢ k)) (stack up root n) → ⊥) → (d : ℕ) × (d < n) × In k (lvl up root d)) → (d : ℕ) × (d < suc n) × In k (lvl up root d)
    go (inl i) ih = (n, omega arith, i)
    go (inr a) ih = let r = ih (λ x. h (a, x)) in (r.0, (let z = r.1 in omega arith), r.2)

-- a child of a level: its parent stands in the level above and holds it
pub record HeldAbove (low up : Area) (k : ℕ) (P : List ℕ) : Type 0 where
  pub here : In (low.parent k) P
  pub place : low.place k < length (up.slots (low.parent k))
  pub child : (get_or (up.slots (low.parent k)) (low.place k) no_slot).child ≡ k

pub held_of : (t : ℕ → ℕ → ℕ) (low up : Area) (C P : List ℕ) (k : ℕ) → map (said t low) C ≡ cat (told up) P → In k C → HeldAbove low up k P
held_of t low up C P k e i = go (find_parent t low up i.before k i.after P (subst (λ (D : List ℕ). map (said t low) D ≡ cat (told up) P) i.row e))
  where
    go : Parent t low up i.before k i.after P → HeldAbove low up k P
    go r =
        let ll : length (up.slots (low.parent k)) ≡ length r.S₁ + suc (length r.S₂) = ap length r.slots ∙ length-append r.S₁ (r.s ∷ r.S₂) in
        let pl = r.place in
        record {
          here = record { before = r.P₁; after = r.P₂; row = r.row };
          place = omega arith;
          child = ap (λ (x : Slot). x.child) (ap₂ (λ (n : ℕ) (l : List Slot). get_or l n no_slot) r.place r.slots ∙ get_or-append_seam r.S₁ r.s r.S₂ no_slot) ∙ r.child;
        }

module _ (s : Tree) (b : Body s) where
  up : Area
  up = s.body.inner

  pub level_links : (d : ℕ) → d < s.body.levels → Links (total s.body.inner) s.body.inner s.body.inner s.body.root (lvl s.body.inner s.body.root d) (stack s.body.inner s.body.root d)
  level_links d lt = down_links (total s.body.leaf) s.body.leaf s.body.inner s.body.root s.body.levels d b.links lt

  pub level_in_law : (d : ℕ) → d < s.body.levels → All (λ k. k < s.body.next) (lvl s.body.inner s.body.root d)
  level_in_law d lt = level_at s.body.inner s.body.root (All (λ k. k < s.body.next)) s.body.levels d lt b.inner_in_law

  pub stack_in : (d : ℕ) → d ≤ s.body.levels → All (All (λ k. k < s.body.next)) (stack s.body.inner s.body.root d)
  unfolding All
  stack_in zero le = tt
  stack_in (suc d) le = (level_in_law d le, stack_in d (omega arith))

  stack_length : (n : ℕ) → length (stack s.body.inner s.body.root n) ≡ n
  stack_length zero = refl
  stack_length (suc n) = ap suc (stack_length n)

  level_depth : (d : ℕ) → d < s.body.levels → All (λ k. depth s k ≡ suc d) (lvl s.body.inner s.body.root d)
  unfolding All
  level_depth d lt =
      let lm = levels_most s b in
      let rs = reals s.body.next b.few ((lvl s.body.inner s.body.root d) ∷ stack s.body.inner s.body.root d) (stack_in (suc d) lt) in
      let q = stack_length d in
      subst (λ (n : ℕ). All (λ k. depth s k ≡ suc n) (lvl s.body.inner s.body.root d)) q
      (ranks (total s.body.inner) s.body.inner s.body.root (lvl s.body.inner s.body.root d) (stack s.body.inner s.body.root d) 16 (level_links d lt) rs.0 rs.1 (omega arith)).0

  record Where (k : ℕ) : Type 0 where
    d : ℕ
    lt : d < s.body.levels
    here : In k (lvl s.body.inner s.body.root d)
    deep : depth s k ≡ suc d

  locate : (k : ℕ) → k < s.body.next → Where k
  locate k lk =
      let r = find_level s.body.inner s.body.root s.body.levels k (b.inner_all k lk) in
      record { d = r.0; lt = r.1; here = r.2; deep = all_in_at (λ m. depth s m ≡ suc r.0) k (lvl s.body.inner s.body.root r.0) r.2 (level_depth r.0 r.1) }

  upper : (k : ℕ) → k < s.body.next → depth s k < s.body.levels → Kids (total s.body.inner) s.body.inner s.body.next s.body.inner k
  upper k lk h = go (locate k lk)
    where
      go : Where k → Kids (total s.body.inner) s.body.inner s.body.next s.body.inner k
      go w =
          let dp = w.deep in
          let lt : suc w.d < s.body.levels = omega arith in (
            all_in_at (Local (total s.body.inner) s.body.inner s.body.inner) k (lvl s.body.inner s.body.root w.d) w.here (local_of (total s.body.inner) s.body.inner s.body.inner s.body.root w.d (level_links (suc w.d) lt)),
            all_in_at (λ p. All (λ c. c < s.body.next) (kids_of s.body.inner p)) k (lvl s.body.inner s.body.root w.d) w.here (uncat (λ c. c < s.body.next) (kids_of s.body.inner) (lvl s.body.inner s.body.root w.d) (level_in_law (suc w.d) lt)),
          )

  lowest : (k : ℕ) → k < s.body.next → depth s k ≡ s.body.levels → Kids (total s.body.leaf) s.body.leaf s.leaves s.body.inner k
  lowest k lk h = go (locate k lk)
    where
      go : Where k → Kids (total s.body.leaf) s.body.leaf s.leaves s.body.inner k
      go w =
          let e : s.body.levels ≡ suc w.d = sym h ∙ w.deep in
          let l : Links (total s.body.leaf) s.body.leaf s.body.inner s.body.root (lvl s.body.inner s.body.root (suc w.d)) (stack s.body.inner s.body.root (suc w.d))
          = subst (λ (n : ℕ). Links (total s.body.leaf) s.body.leaf s.body.inner s.body.root (lvl s.body.inner s.body.root n) (stack s.body.inner s.body.root n)) e b.links in
          let li : All (λ c. c < s.leaves) (lvl s.body.inner s.body.root (suc w.d)) = subst (λ (n : ℕ). All (λ c. c < s.leaves) (lvl s.body.inner s.body.root n)) e b.leaf_in_law in (
            all_in_at (Local (total s.body.leaf) s.body.leaf s.body.inner) k (lvl s.body.inner s.body.root w.d) w.here (local_of (total s.body.leaf) s.body.leaf s.body.inner s.body.root w.d l),
            all_in_at (λ p. All (λ c. c < s.leaves) (kids_of s.body.inner p)) k (lvl s.body.inner s.body.root w.d) w.here (uncat (λ c. c < s.leaves) (kids_of s.body.inner) (lvl s.body.inner s.body.root w.d) li),
          )

  record Own (k : ℕ) : Type 0 where
    parent : s.body.inner.parent k < s.body.next
    held : (s.body.inner.place k < length (s.body.inner.slots (s.body.inner.parent k))) × ((get_or (s.body.inner.slots (s.body.inner.parent k)) (s.body.inner.place k) no_slot).child ≡ k)

  own : (k : ℕ) → k < s.body.next → k ≢ s.body.root → Own k
  unfolding All
  own k lk ne = go (locate k lk)
    where
      at : (d : ℕ) → d < s.body.levels → In k (lvl s.body.inner s.body.root d) → Own k
      at zero lt i = absurd (all_in_at (λ m. m ≢ k) k (s.body.root ∷ []) i ((λ e. ne (sym e)), tt) refl)
      at (suc d) lt i =
          let l = level_links (suc d) lt in
          let h = held_of (total s.body.inner) s.body.inner s.body.inner (lvl s.body.inner s.body.root (suc d)) (lvl s.body.inner s.body.root d) k l.0 i in
          record { parent = all_in_at (λ m. m < s.body.next) (s.body.inner.parent k) (lvl s.body.inner s.body.root d) h.here (level_in_law d (omega arith)); held = (h.place, h.child) }

      go : Where k → Own k
      go w = at w.d w.lt w.here

  record LeafOwn (k : ℕ) : Type 0 where
    parent : s.body.leaf.parent k < s.body.next
    deep : depth s (s.body.leaf.parent k) ≡ s.body.levels
    held : (s.body.leaf.place k < length (s.body.inner.slots (s.body.leaf.parent k))) × ((get_or (s.body.inner.slots (s.body.leaf.parent k)) (s.body.leaf.place k) no_slot).child ≡ k)

  leaf_own : (k : ℕ) → k < s.leaves → LeafOwn k
  leaf_own k lk = go s.body.levels refl
    where
      go : (n : ℕ) → s.body.levels ≡ n → LeafOwn k
      go zero e = absurd (let z = b.some in omega arith)
      go (suc d) e =
          let l : Links (total s.body.leaf) s.body.leaf s.body.inner s.body.root (lvl s.body.inner s.body.root (suc d)) (stack s.body.inner s.body.root (suc d))
          = subst (λ (n : ℕ). Links (total s.body.leaf) s.body.leaf s.body.inner s.body.root (lvl s.body.inner s.body.root n) (stack s.body.inner s.body.root n)) e b.links in
          let i : In k (lvl s.body.inner s.body.root (suc d)) = subst (λ (n : ℕ). In k (lvl s.body.inner s.body.root n)) e (is_in k (order s) (b.leaf_all k lk)) in
          let h = held_of (total s.body.leaf) s.body.leaf s.body.inner (lvl s.body.inner s.body.root (suc d)) (lvl s.body.inner s.body.root d) k l.0 i in
          let lt : d < s.body.levels = omega arith in
          record {
            parent = all_in_at (λ m. m < s.body.next) (s.body.leaf.parent k) (lvl s.body.inner s.body.root d) h.here (level_in_law d lt);
            deep = all_in_at (λ m. depth s m ≡ suc d) (s.body.leaf.parent k) (lvl s.body.inner s.body.root d) h.here (level_depth d lt) ∙ sym e;
            held = (h.place, h.child);
          }

  firsts : (k : ℕ) → k < s.leaves → (j : ℕ) → j < length (leaf_slots s k) → index_of (get_or (leaf_slots s k) j no_slot).child (leaf_slots s k) ≡ j
  firsts k lk j lt = go (is_in k (order s) (b.leaf_all k lk))
    where
      l : List Slot
      l = leaf_slots s k

      go : In k (order s) → index_of (get_or (leaf_slots s k) j no_slot).child (leaf_slots s k) ≡ j
      go i =
          let l : List Slot = leaf_slots s k in
          let e : Slot = get_or l j no_slot in
          let q : row s ≡ cat s.body.leaf.slots i.before ++ (l ++ cat s.body.leaf.slots i.after) = ap (cat s.body.leaf.slots) i.row ∙ cat_append s.body.leaf.slots i.before (k ∷ i.after) in
          let all : Pairs (λ (x y : Slot). x.child ≢ y.child) (cat s.body.leaf.slots i.before ++ (l ++ cat s.body.leaf.slots i.after)) = subst (Pairs (λ (x y : Slot). x.child ≢ y.child)) q (nodup_slots (row s) b.once) in
          let mine : Pairs (λ (x y : Slot). x.child ≢ y.child) l = pairs_left (λ x y. x.child ≢ y.child) l (cat s.body.leaf.slots i.after) (pairs_right (λ x y. x.child ≢ y.child) (cat s.body.leaf.slots i.before) (l ++ cat s.body.leaf.slots i.after) all) in
          let sp : l ≡ take j l ++ e ∷ drop (suc j) l = split_at l j no_slot lt in
          let w = pairs_before (λ (x y : Slot). x.child ≢ y.child) (take j l) e (drop (suc j) l) (subst (Pairs (λ (x y : Slot). x.child ≢ y.child)) sp mine) in
          ap (index_of e.child) sp ∙ index_at e.child (take j l) e (drop (suc j) l) w refl ∙ length-take-le j l (omega arith)

  pub body_checks : TreeChecks s
  body_checks =
      let ro = root_own (total s.body.inner) s.body.inner s.body.root (lvl s.body.inner s.body.root 0) (stack s.body.inner s.body.root 0) (level_links 0 b.some) in
      record {
        fan_low = b.fan_low;
        fan_high = b.fan_high;
        limit_low = b.limit_low;
        limit_high = b.limit_high;
        some = b.some;
        shallow = levels_most s b;
        room = b.room;
        few = b.few;
        root_parent = ro.0;
        root_place = ro.1;
        fit = b.fit;
        two = b.two;
        upper = upper;
        lowest = lowest;
        deep = λ k lk. (let w = locate k lk in let x = w.deep in let y = w.lt in omega arith);
        parent = λ k lk ne. (own k lk ne).parent;
        held = λ k lk ne. (own k lk ne).held;
        leaf_parent = λ k lk. (leaf_own k lk).parent;
        leaf_deep = λ k lk. (leaf_own k lk).deep;
        leaf_held = λ k lk. (leaf_own k lk).held;
        leaf_most = b.leaf_most;
        leaf_least = b.leaf_least;
        leaf_one = b.leaf_one;
        homed = b.homed;
        below = b.below;
        firsts = firsts;
        count = sym (length_cat s.body.leaf.slots (order s) ∙ sum_each (λ k. length (leaf_slots s k)) s.leaves (order s) (order_nodup s (order s) (above s) b) b.leaf_in_law b.leaf_all) ∙ b.count;
        totals = λ v. subst (λ (n : ℕ). n < 4294967296) (sym (total_is s b v)) (b.totals v);
      }
