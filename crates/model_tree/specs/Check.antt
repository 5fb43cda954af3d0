-- Checks of every node, leaf and id by its number: what an audit can do. They give soundness.
use Rattle.std.specs.Prelude.{◌≡◌, refl, ◌≢◌, List, [], ◌∷◌, map, ℕ, zero, suc, ◌≤◌, ◌<◌, length, get_or}
use Rattle.std.proofs.Common.{sym, ap, ◌∙◌, subst, not-suc-le-zero, arith, eq-eqb, ne_eqb}
use Rattle.std.proofs.Math.Nat.{suc_inj}
use Rattle.std.proofs.Math.Decide.{ℕ_discrete}
use Rattle.model.specs.Lists.{sum_by, All, range}
use Rattle.model_tree.specs.Lists.{length_cat, cat, sum_by_cat, all_map, all_map₂, all_cat, pairs_append, NoDup, uncat}
use Rattle.model_tree.specs.Levels.{no_slot, len, Slot, Area, Links, total, none}
use Rattle.model_tree.specs.Apart.{dep, dep_step, links_nodup}
use Rattle.model_tree.specs.Fit.{Fit, size}
use Rattle.model_tree.specs.Sound.{lvl, stack, kids_of, map_cat}
use Rattle.model_tree.specs.Reach.{Kids, Checked, Reached, depths, checked_links, reach, held_in}
use Rattle.model_tree.specs.Pigeon.{sum_each, Absent}
use Rattle.model_tree.specs.Tree.{Tree, half, leaf_slots, order, above, row, id_of, Body}
use Rattle.model_tree.specs.Edit.{all_mapped}
use Rattle.model_tree.specs.Cursor.{index_of}
use Rattle.model_tree.specs.Place.{tree_total, root_sum}

-- how many inner nodes stand from the root down to k, k counted; 17 or more where the climb doesn't end
abbrev pub depth : Tree → ℕ → ℕ
depth s k = dep s.body.inner 17 k

pub record TreeChecks (s : Tree) : Type 0 where
  pub fan_low : 4 ≤ s.fan
  pub fan_high : s.fan ≤ 32
  pub limit_low : 1 ≤ s.limit
  pub limit_high : s.limit ≤ 65536
  pub some : 1 ≤ s.body.levels
  pub shallow : s.body.levels ≤ 15
  pub room : s.entries ≤ s.limit
  pub few : s.body.next ≤ none
  pub root_parent : s.body.inner.parent s.body.root ≡ none
  pub root_place : s.body.inner.place s.body.root ≡ 0
  pub fit : Fit 1 s.fan (half s.fan) s.body
  pub two : 2 ≤ s.body.levels → 2 ≤ size s.body s.body.root
  pub upper : (k : ℕ) → k < s.body.next → depth s k < s.body.levels → Kids (total s.body.inner) s.body.inner s.body.next s.body.inner k
  pub lowest : (k : ℕ) → k < s.body.next → depth s k ≡ s.body.levels → Kids (total s.body.leaf) s.body.leaf s.leaves s.body.inner k
  pub deep : (k : ℕ) → k < s.body.next → depth s k ≤ s.body.levels
  pub parent : (k : ℕ) → k < s.body.next → k ≢ s.body.root → s.body.inner.parent k < s.body.next
  pub held : (k : ℕ) → k < s.body.next → k ≢ s.body.root
      → (s.body.inner.place k < length (s.body.inner.slots (s.body.inner.parent k))) × ((get_or (s.body.inner.slots (s.body.inner.parent k)) (s.body.inner.place k) no_slot).child ≡ k)
  pub leaf_parent : (k : ℕ) → k < s.leaves → s.body.leaf.parent k < s.body.next
  pub leaf_deep : (k : ℕ) → k < s.leaves → depth s (s.body.leaf.parent k) ≡ s.body.levels
  pub leaf_held : (k : ℕ) → k < s.leaves
      → (s.body.leaf.place k < length (s.body.inner.slots (s.body.leaf.parent k))) × ((get_or (s.body.inner.slots (s.body.leaf.parent k)) (s.body.leaf.place k) no_slot).child ≡ k)
  pub leaf_most : (k : ℕ) → k < s.leaves → length (leaf_slots s k) ≤ s.fan
  pub leaf_least : (k : ℕ) → k < s.leaves → 2 ≤ s.leaves → half s.fan ≤ length (leaf_slots s k)
  pub leaf_one : (k : ℕ) → k < s.leaves → 1 ≤ length (leaf_slots s k)
  pub homed : (k : ℕ) → k < s.leaves → All (λ e. s.homes e.child ≡ k) (leaf_slots s k)
  pub below : (k : ℕ) → k < s.leaves → All (λ e. e.child < s.entries) (leaf_slots s k)
  pub firsts : (k : ℕ) → k < s.leaves → (j : ℕ) → j < length (leaf_slots s k) → index_of (get_or (leaf_slots s k) j no_slot).child (leaf_slots s k) ≡ j
  pub count : sum_by (λ k. length (leaf_slots s k)) (range 0 s.leaves) ≡ s.entries
  pub totals : (v : ℕ) → tree_total s v < 4294967296

get_d_any : (l : List Slot) (i : ℕ) (d d' : Slot) → i < length l → get_or l i d ≡ get_or l i d'
get_d_any [] i d d' h = absurd (not-suc-le-zero h)
get_d_any (x ∷ l) zero d d' h = refl
get_d_any (x ∷ l) (suc i) d d' h = get_d_any l i d d' (omega arith)

-- no id twice in a leaf
not_first : (id : ℕ) (e : Slot) (l : List Slot) (j : ℕ) → index_of id (e ∷ l) ≡ suc j → (e.child ≢ id) × (index_of id l ≡ j)
not_first id e l j q = go (ℕ_discrete e.child id)
  where
    go : Dec (e.child ≡ id) → (e.child ≢ id) × (index_of id l ≡ j)
    go (yes z) = absurd (let w : index_of id (e ∷ l) ≡ 0 = rw (eq-eqb e.child id z, index_of) in omega arith)
    go (no ne) = (ne, suc_inj (sym (rw (ne_eqb e.child id ne, index_of)) ∙ q))

all_at_law : (Q : Slot → Type 0) (l : List Slot) → ((j : ℕ) → j < length l → Q (get_or l j no_slot)) → All Q l
unfolding All
all_at_law Q [] f = tt
all_at_law Q (x ∷ l) f = (f 0 (omega arith), all_at_law Q l (λ j lt. f (suc j) (omega arith)))

leaf_once : (l : List Slot) → ((j : ℕ) → j < length l → index_of (get_or l j no_slot).child l ≡ j) → NoDup (map id_of l)
leaf_once [] f = tt
leaf_once (e ∷ l) f = (
  all_mapped (λ x. e.child ≢ x) id_of l (all_at_law (λ x. e.child ≢ x.child) l (λ j lt. (not_first (get_or l j no_slot).child e l j (f (suc j) (omega arith))).0)),
  leaf_once l (λ j lt. (not_first (get_or l j no_slot).child e l j (f (suc j) (omega arith))).1),
)

-- nor in two leaves
nodup_cat : (h : ℕ → ℕ) (ids : ℕ → List ℕ) (C : List ℕ) → NoDup C → All (λ k. NoDup (ids k)) C → All (λ k. All (λ x. h x ≡ k) (ids k)) C → NoDup (cat ids C)
unfolding All
nodup_cat h ids [] nd a b = tt
nodup_cat h ids (k ∷ C) nd a b =
    pairs_append (λ x y. x ≢ y) (ids k) (cat ids C) a.0 (nodup_cat h ids C nd.1 a.1 b.1)
    (all_map (λ x. h x ≡ k) (λ x. All (λ y. x ≢ y) (cat ids C)) (λ x q. all_map (λ y. h y ≢ k) (λ y. x ≢ y) (λ y ne e. ne (ap h (sym e) ∙ q)) (cat ids C) others) (ids k) b.0)
  where
    others : All (λ y. h y ≢ k) (cat ids C)
    others = all_cat (λ y. h y ≢ k) ids C (all_map₂ (λ c. k ≢ c) (λ c. All (λ x. h x ≡ c) (ids c)) (λ c. All (λ y. h y ≢ k) (ids c))
        (λ c ne q. all_map (λ x. h x ≡ c) (λ y. h y ≢ k) (λ y e z. ne (sym z ∙ e)) (ids c) q) C nd.0 b.1)

-- an id that isn't there
index_none : (id : ℕ) (l : List Slot) → Absent id (map id_of l) → index_of id l ≡ length l
unfolding All
index_none id [] h = refl
index_none id (e ∷ l) h = rw (ne_eqb e.child id h.0, index_of) (ap suc (index_none id l h.1))

-- a level of the stack
pub level_at : (up : Area) (root : ℕ) (Q : List ℕ → Type 0) (n d : ℕ) → d < n → All Q (stack up root n) → Q (lvl up root d)
unfolding All
level_at up root Q zero d lt h = absurd (not-suc-le-zero lt)
level_at up root Q (suc n) d lt h = go (ℕ_discrete d n) (λ l. level_at up root Q n d l h.1)
  where
    go : Dec (d ≡ n) → (d < n → Q (lvl up root d)) → Q (lvl up root d)
    go (yes e) ih = subst (λ (m : ℕ). Q (lvl up root m)) (sym e) h.0
    go (no ne) ih = ih (omega arith)

links_at : (leaf up : Area) (root nodes leaves levels K : ℕ) → Checked leaf up root nodes leaves levels K → Links (total leaf) leaf up root (lvl up root levels) (stack up root levels)
links_at leaf up root nodes leaves zero K c = absurd (let z = c.some in omega arith)
links_at leaf up root nodes leaves (suc levels) K c = checked_links leaf up root nodes leaves levels K c

inner_at : (leaf up : Area) (root nodes leaves levels K : ℕ) → Checked leaf up root nodes leaves levels K → (d : ℕ) → d ≤ levels → All (All (λ k. k < nodes)) (stack up root d)
unfolding All
inner_at leaf up root nodes leaves levels K c zero h = tt
inner_at leaf up root nodes leaves levels K c (suc d) h =
    (all_map (λ k. (k < nodes) × (dep up (suc K) k ≡ suc d)) (λ k. k < nodes) (λ k x. x.0) (lvl up root d) (depths leaf up root nodes leaves levels K c d h), inner_at leaf up root nodes leaves levels K c d (omega arith))

leaf_at_law : (leaf up : Area) (root nodes leaves levels K : ℕ) → Checked leaf up root nodes leaves levels K → All (λ k. k < leaves) (lvl up root levels)
leaf_at_law leaf up root nodes leaves zero K c = absurd (let z = c.some in omega arith)
leaf_at_law leaf up root nodes leaves (suc d) K c =
    all_cat (λ k. k < leaves) (kids_of up) (lvl up root d) (all_map (λ k. (k < nodes) × (dep up (suc K) k ≡ suc d)) (λ p. All (λ k. k < leaves) (kids_of up p)) (λ p x. (c.lowest p x.0 x.1).1) (lvl up root d)
    (depths leaf up root nodes leaves (suc d) K c d (omega arith)))

module _ (s : Tree) (c : TreeChecks s) where
  checked : Checked s.body.leaf s.body.inner s.body.root s.body.next s.leaves s.body.levels 16
  checked = record { few = c.few; deep = (let z = c.shallow in omega arith); some = c.some; root_in = c.fit.root_in; root_parent = c.root_parent; root_place = c.root_place; upper = c.upper; lowest = c.lowest }

  reached : Reached s.body.leaf s.body.inner s.body.root s.body.next s.leaves s.body.levels 16
  reached = record {
    deep_in = c.deep;
    parent_in = c.parent;
    held = λ k lt ne. let h = c.held k lt ne in (
      h.0,
      λ i q e. let z : i < length (s.body.inner.slots (s.body.inner.parent k)) = (let y = h.0 in omega arith) in
          ap (λ (x : Slot). x.child) (get_d_any (s.body.inner.slots (s.body.inner.parent k)) i e no_slot z) ∙ ap (λ (n : ℕ). (get_or (s.body.inner.slots (s.body.inner.parent k)) n no_slot).child) q ∙ h.1,
    );
  }

  some_links : Links (total s.body.leaf) s.body.leaf s.body.inner s.body.root (order s) (above s)
  some_links = links_at s.body.leaf s.body.inner s.body.root s.body.next s.leaves s.body.levels 16 checked

  inner_in_law : (k d : ℕ) → k < s.body.next → depth s k ≡ suc d → All (λ m. m ≢ k) (lvl s.body.inner s.body.root d) → ⊥
  inner_in_law k d lt e a = reach s.body.leaf s.body.inner s.body.root s.body.next s.leaves s.body.levels 16 checked reached d k lt e a

  inner_all : (k : ℕ) → k < s.body.next → All (All (λ m. m ≢ k)) (above s) → ⊥
  inner_all k lt a =
      let st : depth s k ≡ suc (dep s.body.inner 16 (s.body.inner.parent k)) = dep_step s.body.inner 16 k (λ z. let y = c.few in omega arith) in
      let dl = c.deep k lt in
      inner_in_law k (dep s.body.inner 16 (s.body.inner.parent k)) lt st (level_at s.body.inner s.body.root (All (λ m. m ≢ k)) s.body.levels (dep s.body.inner 16 (s.body.inner.parent k)) (omega arith) a)

  leaf_all : (k : ℕ) → k < s.leaves → All (λ m. m ≢ k) (order s) → ⊥
  leaf_all k lt a = go s.body.levels refl
    where
      p : ℕ
      p = s.body.leaf.parent k

      h : (s.body.leaf.place k < length (s.body.inner.slots (s.body.leaf.parent k))) × ((get_or (s.body.inner.slots (s.body.leaf.parent k)) (s.body.leaf.place k) no_slot).child ≡ k)
      h = c.leaf_held k lt

      go : (n : ℕ) → s.body.levels ≡ n → ⊥
      go zero e = let z = c.some in omega arith
      go (suc n) e = inner_in_law p n (c.leaf_parent k lt) (c.leaf_deep k lt ∙ e)
          (all_map (λ q. All (λ m. m ≢ k) (kids_of s.body.inner q)) (λ q. q ≢ p)
          (λ q x z. held_in k (s.body.leaf.place k) (s.body.inner.slots p) h.0
          (λ d. ap (λ (y : Slot). y.child) (get_d_any (s.body.inner.slots p) (s.body.leaf.place k) d no_slot h.0) ∙ h.1)
          (subst (λ (y : ℕ). All (λ m. m ≢ k) (kids_of s.body.inner y)) z x))
          (lvl s.body.inner s.body.root n)
          (uncat (λ m. m ≢ k) (kids_of s.body.inner) (lvl s.body.inner s.body.root n) (subst (λ (d : ℕ). All (λ m. m ≢ k) (lvl s.body.inner s.body.root d)) e a)))

  pub checks_body : Body s
  checks_body =
      let li : All (λ k. k < s.leaves) (order s) = leaf_at_law s.body.leaf s.body.inner s.body.root s.body.next s.leaves s.body.levels 16 checked in
      let nd : NoDup (order s) = links_nodup (total s.body.leaf) s.body.leaf s.body.inner s.body.root (order s) (above s) some_links in
      let idr : map id_of (row s) ≡ cat (λ k. map id_of (leaf_slots s k)) (order s) = map_cat id_of s.body.leaf.slots (order s) in
      let on : NoDup (map id_of (row s)) = subst NoDup (sym idr) (nodup_cat s.homes (λ k. map id_of (leaf_slots s k)) (order s) nd
      (all_map (λ k. k < s.leaves) (λ k. NoDup (map id_of (leaf_slots s k))) (λ k lt. leaf_once (leaf_slots s k) (c.firsts k lt)) (order s) li)
      (all_map (λ k. k < s.leaves) (λ k. All (λ x. s.homes x ≡ k) (map id_of (leaf_slots s k))) (λ k lt. all_mapped (λ x. s.homes x ≡ k) id_of (leaf_slots s k) (c.homed k lt)) (order s) li)) in
      record {
        fan_low = c.fan_low;
        fan_high = c.fan_high;
        limit_low = c.limit_low;
        limit_high = c.limit_high;
        some = c.some;
        room = c.room;
        few = c.few;
        deep = stack_length s.body.levels;
        links = some_links;
        leaf_in_law = li;
        leaf_all = leaf_all;
        inner_in_law = inner_at s.body.leaf s.body.inner s.body.root s.body.next s.leaves s.body.levels 16 checked s.body.levels (omega arith);
        inner_all = inner_all;
        leaf_most = c.leaf_most;
        leaf_least = c.leaf_least;
        leaf_one = c.leaf_one;
        fit = c.fit;
        two = c.two;
        homed = c.homed;
        below = c.below;
        once = on;
        count = length_cat s.body.leaf.slots (order s) ∙ sum_each (λ k. length (leaf_slots s k)) s.leaves (order s) nd li leaf_all ∙ c.count;
        totals = λ v. subst (λ (n : ℕ). n < 4294967296) (tot v (above s) some_links (stack_length s.body.levels)) (c.totals v);
      }
    where
      stack_length : (n : ℕ) → length (stack s.body.inner s.body.root n) ≡ n
      stack_length zero = refl
      stack_length (suc n) = ap suc (stack_length n)

      tot : (v : ℕ) (st : List (List ℕ)) → Links (total s.body.leaf) s.body.leaf s.body.inner s.body.root (order s) st → length st ≡ s.body.levels → tree_total s v ≡ sum_by (len v) (row s)
      tot v [] l e = absurd (let z = c.some in omega arith)
      tot v (P ∷ st) l e = root_sum v (total s.body.leaf) s.body.leaf s.body.inner s.body.root (order s) P st l ∙ sym (sum_by_cat (len v) s.body.leaf.slots (order s))
