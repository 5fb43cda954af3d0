-- A change of one leaf's slots, with its sums carried up, keeps the tree sound.
use Rattle.model.specs.declared.head.Finger.{Finger}
use Rattle.std.specs.Prelude.{◌≡◌, refl, ◌≢◌, List, ◌∷◌, ◌++◌, map, ℕ, zero, suc, ◌≤◌, ◌<◌, length, get_or, set, Option}
use Rattle.std.proofs.Common.{sym, ap, ap₂, ◌∙◌, subst, arith, length-set}
use Rattle.std.proofs.Math.Decide.{ℕ_discrete}
use Rattle.model.specs.Lists.{sum_by, All}
use Rattle.model_tree.specs.Lists.{cat, cat_append, all_map, all_map₂, pairs_before, pairs_after, NoDup, cat_cong}
use Rattle.model_tree.specs.Levels.{no_slot, len, Slot, Area, Links, total}
use Rattle.model_tree.specs.Apart.{links_nodup}
use Rattle.model_tree.specs.Update.{upd, upd_same, upd_other, set_slots}
use Rattle.model_tree.specs.Insert.{Trunk}
use Rattle.model_tree.specs.Fit.{Fit}
use Rattle.model_tree.specs.Carry.{carry, change}
use Rattle.model_tree.specs.Tree.{Tree, half, leaf_slots, id_of, BodyAt}

pub carry_size : (f : ℕ → ℕ → ℕ) (d : ℕ) (up : Area) (p i k : ℕ) → length ((carry f d up p i).slots k) ≡ length (up.slots k)
carry_size f zero up p i k = refl
carry_size f (suc d) up p i k =
    carry_size f d (set_slots up p (set (up.slots p) i (change f (get_or (up.slots p) i no_slot)))) (up.parent p) (up.place p) k ∙ one (ℕ_discrete k p)
  where
    one : Dec (k ≡ p) → length (upd up.slots p (set (up.slots p) i (change f (get_or (up.slots p) i no_slot))) k) ≡ length (up.slots k)
    one (yes e) = subst (λ (x : ℕ). length (upd up.slots p (set (up.slots p) i (change f (get_or (up.slots p) i no_slot))) x) ≡ length (up.slots x)) (sym e)
        (ap length (upd_same up.slots p (set (up.slots p) i (change f (get_or (up.slots p) i no_slot)))) ∙ simp length-set)
    one (no ne) = ap length (upd_other up.slots p (set (up.slots p) i (change f (get_or (up.slots p) i no_slot))) k ne)

abbrev pub with_leaf : Tree → ℕ → List Slot → Area → (ℕ → ℕ) → ℕ → Option Finger → Tree
with_leaf s k ss up homes entries f = record {
  body = record { leaf = set_slots s.body.leaf k ss; inner = up; root = s.body.root; next = s.body.next; levels = s.body.levels };
  homes = homes;
  leaves = s.leaves;
  entries = entries;
  fan = s.fan;
  limit = s.limit;
  finger = f;
}

-- the row with the slots of one leaf replaced
pub row_change : (leaf : Area) (A : List ℕ) (k : ℕ) (B : List ℕ) (ss : List Slot) → NoDup (A ++ k ∷ B)
    → cat (set_slots leaf k ss).slots (A ++ k ∷ B) ≡ cat leaf.slots A ++ (ss ++ cat leaf.slots B)
row_change leaf A k B ss nd =
    let so : (x : ℕ) → x ≢ k → upd leaf.slots k ss x ≡ leaf.slots x = λ x ne. upd_other leaf.slots k ss x ne in
    cat_append (set_slots leaf k ss).slots A (k ∷ B)
    ∙ ap₂ ◌++◌ (cat_cong (set_slots leaf k ss).slots leaf.slots A (all_map (λ x. x ≢ k) (λ x. upd leaf.slots k ss x ≡ leaf.slots x) so A (pairs_before (λ x y. x ≢ y) A k B nd)))
    (ap₂ ◌++◌ (upd_same leaf.slots k ss)
    (cat_cong (set_slots leaf k ss).slots leaf.slots B (all_map (λ x. k ≢ x) (λ x. upd leaf.slots k ss x ≡ leaf.slots x) (λ x ne. so x (λ e. ne (sym e))) B (pairs_after (λ x y. x ≢ y) A k B nd))))

-- the row with leaf k's slots replaced by ss
abbrev pub row_with : Tree → List ℕ → List Slot → List ℕ → List Slot
row_with s A ss B = cat s.body.leaf.slots A ++ (ss ++ cat s.body.leaf.slots B)

pub record LeafChange (s : Tree) (A : List ℕ) (k : ℕ) (B : List ℕ) (st : List (List ℕ)) (ss : List Slot) (up : Area) (homes : ℕ → ℕ) (entries : ℕ) : Type 0 where
  pub links : Links (total (set_slots s.body.leaf k ss)) (set_slots s.body.leaf k ss) up s.body.root (A ++ k ∷ B) st
  pub sizes : (p : ℕ) → length (up.slots p) ≡ length (s.body.inner.slots p)
  pub most : length ss ≤ s.fan
  pub least : length (leaf_slots s k) ≤ length ss
  pub home : All (λ e. homes e.child ≡ k) ss
  pub kept : (x : ℕ) → x < s.entries → homes x ≡ s.homes x
  pub more : s.entries ≤ entries
  pub room : entries ≤ s.limit
  pub below : All (λ e. e.child < entries) ss
  pub once : NoDup (map id_of (row_with s A ss B))
  pub count : length (row_with s A ss B) ≡ entries
  pub totals : (v : ℕ) → sum_by (len v) (row_with s A ss B) < 4294967296

pub order_nodup : (s : Tree) (C : List ℕ) (st : List (List ℕ)) → BodyAt s C st → NoDup C
order_nodup s C st b = links_nodup (total s.body.leaf) s.body.leaf s.body.inner s.body.root C st b.links

fit_same : (m fan half : ℕ) (a b : Trunk) → b.next ≡ a.next → b.root ≡ a.root → ((p : ℕ) → length (b.inner.slots p) ≡ length (a.inner.slots p)) → Fit m fan half a → Fit m fan half b
fit_same m fan half a b n r h f = record {
  most = λ k lt. rw (h k) (f.most k (rw n at lt));
  least = λ k lt ne. rw (h k) (f.least k (rw n at lt) (λ e. ne (e ∙ sym r)));
  two = rw (r, h a.root) f.two;
  root_in = rw (r, n) f.root_in;
}

pub change_body : (s : Tree) (A : List ℕ) (k : ℕ) (B : List ℕ) (st : List (List ℕ)) (ss : List Slot) (up : Area) (homes : ℕ → ℕ) (entries : ℕ) (f : Option Finger)
    → BodyAt s (A ++ k ∷ B) st → LeafChange s A k B st ss up homes entries → BodyAt (with_leaf s k ss up homes entries f) (A ++ k ∷ B) st
change_body s A k B st ss up homes entries f b c =
    let leaf : Area = s.body.leaf in
    let s' : Tree = with_leaf s k ss up homes entries f in
    let rowEq : cat s'.body.leaf.slots (A ++ k ∷ B) ≡ row_with s A ss B = row_change leaf A k B ss (order_nodup s (A ++ k ∷ B) st b) in
    let sc : leaf_slots s' k ≡ ss = upd_same leaf.slots k ss in
    let so : (x : ℕ) → x ≢ k → leaf_slots s' x ≡ leaf_slots s x = λ x ne. upd_other leaf.slots k ss x ne in
    let by : (Q : ℕ → List Slot → Type 0) → Q k ss → ((x : ℕ) → x ≢ k → Q x (leaf_slots s x)) → (x : ℕ) → Q x (leaf_slots s' x)
    = λ Q own other x. pick Q own other x (ℕ_discrete x k) in
    record {
      fan_low = b.fan_low;
      fan_high = b.fan_high;
      limit_low = b.limit_low;
      limit_high = b.limit_high;
      some = b.some;
      room = c.room;
      few = b.few;
      deep = b.deep;
      links = c.links;
      leaf_in_law = b.leaf_in_law;
      leaf_all = b.leaf_all;
      inner_in_law = b.inner_in_law;
      inner_all = b.inner_all;
      leaf_most = λ x lt. by (λ x l. x < s.leaves → length l ≤ s.fan) (λ lt. c.most) (λ x ne lt. b.leaf_most x lt) x lt;
      leaf_least = λ x lt h. by (λ x l. x < s.leaves → half s.fan ≤ length l) (λ lt. let z = b.leaf_least k lt h in omega (arith, c.least)) (λ x ne lt. b.leaf_least x lt h) x lt;
      leaf_one = λ x lt. by (λ x l. x < s.leaves → 1 ≤ length l) (λ lt. let z = b.leaf_one k lt in omega (arith, c.least)) (λ x ne lt. b.leaf_one x lt) x lt;
      fit = fit_same 1 s.fan (half s.fan) s.body s'.body refl refl c.sizes b.fit;
      two = λ h. rw (c.sizes s.body.root) (b.two h);
      homed = λ x lt. by (λ x l. x < s.leaves → All (λ e. homes e.child ≡ x) l) (λ lt. c.home)
          (λ x ne lt. all_map₂ (λ e. e.child < s.entries) (λ e. s.homes e.child ≡ x) (λ e. homes e.child ≡ x) (λ e lt q. c.kept e.child lt ∙ q) (leaf_slots s x) (b.below x lt) (b.homed x lt)) x lt;
      below = λ x lt. by (λ x l. x < s.leaves → All (λ e. e.child < entries) l) (λ lt. c.below)
          (λ x ne lt. all_map (λ e. e.child < s.entries) (λ e. e.child < entries) (λ e q. omega (arith, c.more)) (leaf_slots s x) (b.below x lt)) x lt;
      once = rw rowEq c.once;
      count = ap length rowEq ∙ c.count;
      totals = λ v. rw rowEq (c.totals v);
    }
  where
    pick : (Q : ℕ → List Slot → Type 0) → Q k ss → ((x : ℕ) → x ≢ k → Q x (leaf_slots s x)) → (x : ℕ) → Dec (x ≡ k) → Q x (upd s.body.leaf.slots k ss x)
    pick Q own other x (yes e) = subst (λ (z : ℕ). Q z (upd s.body.leaf.slots k ss z)) (sym e) (subst (Q k) (sym (upd_same s.body.leaf.slots k ss)) own)
    pick Q own other x (no ne) = subst (Q x) (sym (upd_other s.body.leaf.slots k ss x ne)) (other x ne)
