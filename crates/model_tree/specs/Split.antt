-- A full leaf divided between itself and the next unused leaf: the tree stays sound, the row stays.
use Rattle.std.specs.Prelude.{◌≡◌, refl, ◌≢◌}
use Rattle.std.proofs.Common.{sym, ◌∙◌, subst, ne_eqb, length-drop, take-append-drop}
use Rattle.std.proofs.Math.Path.{ap}
use mathlib.Core.List.{List, [], ◌∷◌, ◌++◌, map}
use Prim.Native.Nat.{ℕ, suc, ◌+◌, ◌-◌, ◌≤◌, ◌<◌}
use Rattle.std.proofs.Math.Decide.{ℕ_discrete, dec_lt}
use native.Mathlib.Omega.{arith}
use Rattle.std.proofs.Math.ListN.{length, length-take, take, drop}
use Rattle.model.specs.Lists.{All}
use Rattle.model_tree.specs.Lists.{cat, map_append, Pairs, all_map, all_map₂, all_append, all_left_at, all_right, all_of_map, NoDup, single_split}
use Rattle.model_tree.specs.Levels.{Slot, Area, Links, total, none, find_parent}
use Rattle.model_tree.specs.Update.{upd, upd_same, upd_other}
use Rattle.model_tree.specs.Insert.{slot_of}
use Rattle.model_tree.specs.AddChild.{add_child, ins_all}
use Rattle.model_tree.specs.Fit.{Fit, size, fit_add}
use Rattle.model_tree.specs.Sound.{LeafSplit, split_leaf_law, split_leaf, cut_leaf, cut_trunk}
use Rattle.model_tree.specs.Tree.{Tree, half, leaf_slots, id_of, BodyAt, to_body}
use Rattle.model_tree.specs.Follows.{split_room}
use Rattle.model_tree.specs.Edit.{leaf_here, old_row}

abbrev pub rehome : (ℕ → ℕ) → ℕ → List Slot → ℕ → ℕ
rehome h n [] = h
rehome h n (e ∷ U) = rehome (upd h e.child n) n U

pub rehome_out : (h : ℕ → ℕ) (n : ℕ) (U : List Slot) (x : ℕ) → All (λ e. x ≢ e.child) U → rehome h n U x ≡ h x
unfolding All
rehome_out h n [] x a = refl
rehome_out h n (e ∷ U) x a = rehome_out (upd h e.child n) n U x a.1 ∙ upd_other h e.child n x a.0

rehome_val : (h : ℕ → ℕ) (n : ℕ) (U : List Slot) (x : ℕ) → h x ≡ n → rehome h n U x ≡ n
rehome_val h n [] x q = q
rehome_val h n (e ∷ U) x q = rehome_val (upd h e.child n) n U x (one (ℕ_discrete x e.child))
  where
    one : Dec (x ≡ e.child) → upd h e.child n x ≡ n
    one (yes z) = ap (λ (y : ℕ). upd h e.child n y) z ∙ upd_same h e.child n
    one (no ne) = upd_other h e.child n x ne ∙ q

pub rehome_in : (h : ℕ → ℕ) (n : ℕ) (U : List Slot) → All (λ e. rehome h n U e.child ≡ n) U
unfolding All
rehome_in h n [] = tt
rehome_in h n (e ∷ U) = (rehome_val (upd h e.child n) n U e.child (upd_same h e.child n), rehome_in (upd h e.child n) n U)

pub pairs_left : {A : Type 0} (R : A → A → Type 0) (s t : List A) → Pairs R (s ++ t) → Pairs R s
pairs_left R [] t h = tt
pairs_left R (x ∷ s) t h = (all_left_at (R x) s t h.0, pairs_left R s t h.1)

pub pairs_right : {A : Type 0} (R : A → A → Type 0) (s t : List A) → Pairs R (s ++ t) → Pairs R t
pairs_right R [] t h = h
pairs_right R (x ∷ s) t h = pairs_right R s t h.1

pub pairs_cross : {A : Type 0} (R : A → A → Type 0) (s t : List A) → Pairs R (s ++ t) → All (λ x. All (R x) t) s
unfolding All
pairs_cross R [] t h = tt
pairs_cross R (x ∷ s) t h = (all_right (R x) s t h.0, pairs_cross R s t h.1)

pub nodup_slots : (l : List Slot) → NoDup (map id_of l) → Pairs (λ (x y : Slot). x.child ≢ y.child) l
nodup_slots [] h = tt
nodup_slots (e ∷ l) h = (all_of_map (λ y. e.child ≢ y) id_of l h.0, nodup_slots l h.1)

abbrev pub split_with : ℕ → Tree → ℕ → Tree
split_with d s k = record {
  body = split_leaf s.fan (half s.fan) d s.body k s.leaves (take (half s.fan) (leaf_slots s k)) (drop (half s.fan) (leaf_slots s k));
  homes = rehome s.homes s.leaves (drop (half s.fan) (leaf_slots s k));
  leaves = suc s.leaves;
  entries = s.entries;
  fan = s.fan;
  limit = s.limit;
  finger = s.finger;
}

abbrev pub split_full : Tree → ℕ → Tree
split_full s k = split_with s.body.levels s k

pub record SplitAt (s s' : Tree) (A : List ℕ) (k : ℕ) (B : List ℕ) : Type 0 where
  pub st' : List (List ℕ)
  pub body : BodyAt s' (A ++ k ∷ s.leaves ∷ B) st'
  pub same : cat s'.body.leaf.slots (A ++ k ∷ s.leaves ∷ B) ≡ cat s.body.leaf.slots (A ++ k ∷ B)
  pub lower : leaf_slots s' k ≡ take (half s.fan) (leaf_slots s k)
  pub upper : leaf_slots s' s.leaves ≡ drop (half s.fan) (leaf_slots s k)
  pub others : (x : ℕ) → x ≢ k → x ≢ s.leaves → leaf_slots s' x ≡ leaf_slots s x

module _ (s : Tree) (A : List ℕ) (k : ℕ) (B : List ℕ) (st : List (List ℕ)) (b : BodyAt s (A ++ k ∷ B) st) (full : length (leaf_slots s k) ≡ s.fan) where
  split_links : LeafSplit s.body (split_leaf s.fan (half s.fan) (length st) s.body k s.leaves (take (half s.fan) (leaf_slots s k)) (drop (half s.fan) (leaf_slots s k))) A k s.leaves B st
      (take (half s.fan) (leaf_slots s k)) (drop (half s.fan) (leaf_slots s k))
  split_links =
      split_leaf_law s.fan (half s.fan) s.body A k s.leaves B st (take (half s.fan) (leaf_slots s k)) (drop (half s.fan) (leaf_slots s k)) b.links b.leaf_in_law b.inner_in_law
      (let z : s.body.next + s.body.levels < none = split_room s (to_body s (A ++ k ∷ B) st b) in omega (arith, b.deep))
      (sym (take-append-drop (half s.fan) (leaf_slots s k)))

  apart_lo : All (λ c. All (λ e. c.child ≢ e.child) (drop (half s.fan) (leaf_slots s k))) (take (half s.fan) (leaf_slots s k))
  apart_lo =
      let all : NoDup (map id_of (cat s.body.leaf.slots A) ++ (map id_of (leaf_slots s k) ++ map id_of (cat s.body.leaf.slots B)))
      = subst NoDup (ap (map id_of) (old_row s A k B st b) ∙ map_append id_of (cat s.body.leaf.slots A) (leaf_slots s k ++ cat s.body.leaf.slots B) ∙ ap (λ (l : List ℕ). map id_of (cat s.body.leaf.slots A) ++ l) (map_append id_of (leaf_slots s k) (cat s.body.leaf.slots B))) b.once in
      let own : NoDup (map id_of (leaf_slots s k)) = pairs_left (λ x y. x ≢ y) (map id_of (leaf_slots s k)) (map id_of (cat s.body.leaf.slots B)) (pairs_right (λ x y. x ≢ y) (map id_of (cat s.body.leaf.slots A)) (map id_of (leaf_slots s k) ++ map id_of (cat s.body.leaf.slots B)) all) in
      pairs_cross (λ x y. x.child ≢ y.child) (take (half s.fan) (leaf_slots s k)) (drop (half s.fan) (leaf_slots s k))
      (subst (λ (l : List Slot). Pairs (λ x y. x.child ≢ y.child) l) (sym (take-append-drop (half s.fan) (leaf_slots s k))) (nodup_slots (leaf_slots s k) own))

  split_fit : (m : ℕ) → m ≤ 2 → m ≤ size s.body s.body.root → Fit m s.fan (half s.fan) (split_with (length st) s k).body
  split_fit m m2 big =
      let lo : List Slot = take (half s.fan) (leaf_slots s k) in
      let hi : List Slot = drop (half s.fan) (leaf_slots s k) in
      let leaf₁ : Area = cut_leaf s.body.leaf k s.leaves lo hi in
      fit_add m s.fan (half s.fan) 0 (cut_trunk s.body k s.leaves lo hi) (total s.body.leaf) (total leaf₁) A k B (slot_of s.leaves (total leaf₁ s.leaves)) st m2
      (omega (arith, b.fan_low)) (omega arith) split_links.into refl
      (let z : s.body.next + s.body.levels < none = split_room s (to_body s (A ++ k ∷ B) st b) in omega (arith, b.deep))
      (record { most = b.fit.most; least = b.fit.least; two = big; root_in = b.fit.root_in })
      (λ e. absurd (let z : length st ≡ 0 = ap length e in omega (arith, b.deep, b.some)))

  -- a root of one child is at one level, isn't full and gets no root above it
  same_levels : size s.body s.body.root ≤ 1 → (split_with (length st) s k).body.levels ≤ 1
  same_levels h = go st b.links b.deep (lone (dec_lt 1 s.body.levels))
    where
      lo : List Slot
      lo = take (half s.fan) (leaf_slots s k)

      hi : List Slot
      hi = drop (half s.fan) (leaf_slots s k)

      lone : Dec (1 < s.body.levels) → s.body.levels ≤ 1
      lone (no n) = omega arith
      lone (yes y) = absurd (let z = b.two y in omega arith)

      go : (S : List (List ℕ)) → Links (total s.body.leaf) s.body.leaf s.body.inner s.body.root (A ++ k ∷ B) S → length S ≡ s.body.levels → s.body.levels ≤ 1 → (split_with (length S) s k).body.levels ≤ 1
      go [] l e le = absurd (omega (arith, b.some))
      go (P ∷ Q ∷ S) l e le = absurd (omega arith)
      go (P ∷ []) l e le = rw (ne_eqb (length (s.body.inner.slots (upd s.body.leaf.parent s.leaves (s.body.leaf.parent k) k))) s.fan ne, add_child) le
        where
          at_root : s.body.leaf.parent k ≡ s.body.root
          at_root = let r = find_parent (total s.body.leaf) s.body.leaf s.body.inner A k B P l.0 in
              (single_split r.P₁ (s.body.leaf.parent k) r.P₂ s.body.root (sym r.row ∙ l.1.0)).1

          ne : length (s.body.inner.slots (upd s.body.leaf.parent s.leaves (s.body.leaf.parent k) k)) ≢ s.fan
          ne q =
              let e : upd s.body.leaf.parent s.leaves (s.body.leaf.parent k) k ≡ s.body.root = upd_other s.body.leaf.parent s.leaves (s.body.leaf.parent k) k (λ y. let x : k < s.leaves = leaf_here s A k B st b in omega arith) ∙ at_root in
              let z : length (s.body.inner.slots (upd s.body.leaf.parent s.leaves (s.body.leaf.parent k) k)) ≡ length (s.body.inner.slots s.body.root) = ap (λ (x : ℕ). length (s.body.inner.slots x)) e in omega (arith, b.fan_low)

  split_two : 2 ≤ (split_with (length st) s k).body.levels → 2 ≤ size (split_with (length st) s k).body (split_with (length st) s k).body.root
  split_two h = go (dec_lt 1 (size s.body s.body.root))
    where
      go : Dec (1 < size s.body s.body.root) → 2 ≤ size (split_with (length st) s k).body (split_with (length st) s k).body.root
      go (yes y) = (split_fit 2 (omega arith) y).two
      go (no n) = absurd (let z = same_levels (omega arith) in omega arith)

  by_leaf : (Q : ℕ → List Slot → Type 0) → Q s.leaves (drop (half s.fan) (leaf_slots s k)) → Q k (take (half s.fan) (leaf_slots s k)) → ((x : ℕ) → x ≢ k → x < s.leaves → Q x (leaf_slots s x))
      → (x : ℕ) → x < suc s.leaves → Q x (leaf_slots (split_with (length st) s k) x)
  by_leaf Q up lo other x lt = subst (Q x) (sym (split_links.leafs x)) (pick (ℕ_discrete x s.leaves) (ℕ_discrete x k))
    where
      L : List Slot
      L = take (half s.fan) (leaf_slots s k)

      U : List Slot
      U = drop (half s.fan) (leaf_slots s k)

      kn : k ≢ s.leaves
      kn q = let z : k < s.leaves = leaf_here s A k B st b in omega arith

      pick : Dec (x ≡ s.leaves) → Dec (x ≡ k) → Q x (upd (upd s.body.leaf.slots k L) s.leaves U x)
      pick (yes e) d = subst (λ (z : ℕ). Q z (upd (upd s.body.leaf.slots k L) s.leaves U z)) (sym e) (subst (Q s.leaves) (sym (upd_same (upd s.body.leaf.slots k L) s.leaves U)) up)
      pick (no ne) (yes e) = subst (λ (z : ℕ). Q z (upd (upd s.body.leaf.slots k L) s.leaves U z)) (sym e)
          (subst (Q k) (sym (upd_other (upd s.body.leaf.slots k L) s.leaves U k kn ∙ upd_same s.body.leaf.slots k L)) lo)
      pick (no ne) (no nk) = subst (Q x) (sym (upd_other (upd s.body.leaf.slots k L) s.leaves U x ne ∙ upd_other s.body.leaf.slots k L x nk)) (other x nk (omega arith))

  pub split_with_law : SplitAt s (split_with (length st) s k) A k B
  unfolding All
  split_with_law =
      let L : List Slot = take (half s.fan) (leaf_slots s k) in
      let U : List Slot = drop (half s.fan) (leaf_slots s k) in
      let lk : k < s.leaves = leaf_here s A k B st b in
      let n : ℕ = s.leaves in
      let ls = split_links in
      let s' : Tree = split_with (length st) s k in
      let eL : length L ≡ half s.fan = rw length-take (omega arith) in
      let eU : length U ≡ s.fan - half s.fan = rw (length-drop, full) in
      let hk : All (λ e. s.homes e.child ≡ k) (L ++ U) = rw (take-append-drop (half s.fan) (leaf_slots s k)) (b.homed k lk) in
      let bk : All (λ e. e.child < s.entries) (L ++ U) = rw (take-append-drop (half s.fan) (leaf_slots s k)) (b.below k lk) in
      let hU : All (λ e. s.homes e.child ≡ k) U = all_right (λ e. s.homes e.child ≡ k) L U hk in
      let kn : k ≢ n = λ q. omega arith in
      record {
        st' = ls.st';
        body = record {
          fan_low = b.fan_low;
          fan_high = b.fan_high;
          limit_low = b.limit_low;
          limit_high = b.limit_high;
          some = omega (arith, b.some, ls.higher);
          room = b.room;
          few = ls.cap;
          deep = omega (arith, ls.deep, b.deep);
          links = ls.links;
          leaf_in_law = ins_all (λ x. x < suc n) A k n B (all_map (λ x. x < n) (λ x. x < suc n) (λ x lt. omega arith) (A ++ k ∷ B) b.leaf_in_law) (omega arith);
          leaf_all = λ x lt a.
              let r = all_right (λ m. m ≢ x) A (k ∷ n ∷ B) a in
              let nx : n ≢ x = r.1.0 in
              b.leaf_all x (omega arith) (all_append (λ m. m ≢ x) A (k ∷ B) (all_left_at (λ m. m ≢ x) A (k ∷ n ∷ B) a) (r.0, r.1.1));
          inner_in_law = ls.below;
          inner_all = λ x lt a. let z = ls.back x lt a in b.inner_all x z.0 z.1;
          leaf_most = by_leaf (λ x l. length l ≤ s.fan) (omega arith) (omega arith) (λ x ne lt. b.leaf_most x lt);
          leaf_least = λ x lt h. by_leaf (λ x l. half s.fan ≤ length l) (omega arith) (omega arith) (λ x ne lt. b.leaf_least x lt (omega arith)) x lt;
          leaf_one = by_leaf (λ x l. 1 ≤ length l) (omega (arith, b.fan_low)) (omega (arith, b.fan_low)) (λ x ne lt. b.leaf_one x lt);
          fit = split_fit 1 (omega arith) b.fit.two;
          two = split_two;
          homed = by_leaf (λ x l. All (λ e. s'.homes e.child ≡ x) l)
              (rehome_in s.homes n U)
              (all_map₂ (λ c. All (λ e. c.child ≢ e.child) U) (λ e. s.homes e.child ≡ k) (λ e. rehome s.homes n U e.child ≡ k)
              (λ c a q. rehome_out s.homes n U c.child a ∙ q) L apart_lo (all_left_at (λ e. s.homes e.child ≡ k) L U hk))
              (λ x ne lt. all_map (λ e. s.homes e.child ≡ x) (λ e. rehome s.homes n U e.child ≡ x)
              (λ c q. rehome_out s.homes n U c.child (all_map (λ e. s.homes e.child ≡ k) (λ e. c.child ≢ e.child) (λ e z y. ne (sym q ∙ ap s.homes y ∙ z)) U hU) ∙ q) (leaf_slots s x) (b.homed x lt));
          below = by_leaf (λ x l. All (λ e. e.child < s.entries) l) (all_right (λ e. e.child < s.entries) L U bk) (all_left_at (λ e. e.child < s.entries) L U bk) (λ x ne lt. b.below x lt);
          once = rw ls.row b.once;
          count = ap length ls.row ∙ b.count;
          totals = λ v. rw ls.row (b.totals v);
        };
        same = ls.row;
        lower = ls.leafs k ∙ upd_other (upd s.body.leaf.slots k L) n U k kn ∙ upd_same s.body.leaf.slots k L;
        upper = ls.leafs n ∙ upd_same (upd s.body.leaf.slots k L) n U;
        others = λ x ne nn. ls.leafs x ∙ upd_other (upd s.body.leaf.slots k L) n U x nn ∙ upd_other s.body.leaf.slots k L x ne;
      }

  pub split_full_law : SplitAt s (split_full s k) A k B
  split_full_law = subst (λ (d : ℕ). SplitAt s (split_with d s k) A k B) b.deep split_with_law
