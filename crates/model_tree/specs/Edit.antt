-- Set, put and divide in one leaf: the tree stays sound and the row changes as asked.
use Rattle.std.specs.Prelude.{◌≡◌, ◌⊎◌, ◌≢◌, Bool, true, false}
use Rattle.std.proofs.Math.Path.{refl, sym, ap, subst, fun_ext}
use Rattle.std.proofs.Common.{◌∙◌, inl, inr}
use mathlib.Core.List.{List, [], ◌∷◌, ◌++◌, map, append_assoc, append-nil}
use Prim.Native.Nat.{ℕ, suc, ◌+◌, ◌-◌, ◌%◌, ◌≤◌, ◌<◌}
use Rattle.std.proofs.Math.Decide.{ℕ_discrete}
use native.Mathlib.Omega.{arith}
use Rattle.std.proofs.Math.ListN.{length, length-append, length-map}
use Rattle.model.specs.Lists.{sum_by, All}
use Rattle.model_tree.specs.Lists.{cat, cat_append, map_append, sum_by_append, all_map, all_map₂, all_every, all_append, all_left_at, all_right, all_cat, NoDup}
use Rattle.model_tree.specs.Levels.{len, Slot, Area, Links, total, said}
use Rattle.model_tree.specs.Apart.{Real}
use Rattle.model_tree.specs.Update.{upd, upd_same, upd_other, set_slots, SameNode, said_same, total_same, links_frame}
use Rattle.model_tree.specs.Insert.{slot_of, lessen}
use Rattle.model_tree.specs.Carry.{carry}
use Rattle.model_tree.specs.Floor.{wrap}
use Rattle.model_tree.specs.Sound.{Changed, change_leaf}
use Rattle.model_tree.specs.Tree.{Tree, leaf_slots, id_of, BodyAt}
use Rattle.model_tree.specs.Follows.{reals}
use Rattle.model_tree.specs.Change.{carry_size, row_with, LeafChange}

pub all_mapped : {A B : Type 0} (Q : B → Type 0) (f : A → B) (l : List A) → All (λ x. Q (f x)) l → All Q (map f l)
unfolding All
all_mapped Q f [] h = tt
all_mapped Q f (x ∷ l) h = (h.0, all_mapped Q f l h.1)

pub nodup_put : (X : List ℕ) (n : ℕ) (Y : List ℕ) → NoDup (X ++ Y) → All (λ x. x ≢ n) (X ++ Y) → NoDup (X ++ n ∷ Y)
unfolding All
nodup_put [] n Y nd h = (all_map (λ x. x ≢ n) (λ x. n ≢ x) (λ x ne e. ne (sym e)) Y h, nd)
nodup_put (x ∷ X) n Y nd h =
    (all_append (λ y. x ≢ y) X (n ∷ Y) (all_left_at (λ y. x ≢ y) X Y nd.0) (h.0, all_right (λ y. x ≢ y) X Y nd.0), nodup_put X n Y nd.1 h.1)

-- split_entry in a leaf with room
abbrev pub divided : Bool → Slot → (ℕ → ℕ) → ℕ → List Slot → List Slot
divided true e u id S = slot_of id u ∷ lessen e u ∷ S
divided false e u id S = lessen e u ∷ slot_of id u ∷ S

module _ (s : Tree) (A : List ℕ) (k : ℕ) (B : List ℕ) (st : List (List ℕ)) (b : BodyAt s (A ++ k ∷ B) st) where
  pub leaf_here : k < s.leaves
  unfolding All
  leaf_here = (all_right (λ k. k < s.leaves) A (k ∷ B) b.leaf_in_law).0

  pub old_row : cat s.body.leaf.slots (A ++ k ∷ B) ≡ row_with s A (leaf_slots s k) B
  old_row = cat_append s.body.leaf.slots A (k ∷ B)

  pub row_below : All (λ e. e.child < s.entries) (cat s.body.leaf.slots (A ++ k ∷ B))
  row_below = all_cat (λ e. e.child < s.entries) s.body.leaf.slots (A ++ k ∷ B)
      (all_map (λ x. x < s.leaves) (λ x. All (λ e. e.child < s.entries) (leaf_slots s x)) (λ x lt. b.below x lt) (A ++ k ∷ B) b.leaf_in_law)

  pub reals_here : All Real st
  reals_here = reals s.body.next b.few st b.inner_in_law

  pub ids_with : (ss : List Slot) (I₁ I₂ : List ℕ) → map id_of ss ≡ I₁ ++ I₂
      → map id_of (row_with s A ss B) ≡ (map id_of (cat s.body.leaf.slots A) ++ I₁) ++ (I₂ ++ map id_of (cat s.body.leaf.slots B))
  ids_with ss I₁ I₂ e =
      map_append id_of (cat s.body.leaf.slots A) (ss ++ cat s.body.leaf.slots B)
      ∙ ap (λ (l : List ℕ). map id_of (cat s.body.leaf.slots A) ++ l) (map_append id_of ss (cat s.body.leaf.slots B) ∙ ap (λ (l : List ℕ). l ++ map id_of (cat s.body.leaf.slots B)) e)
      ∙ simp append_assoc

  -- one id more
  pub plus_once : (ss : List Slot) (I₁ I₂ : List ℕ) → map id_of (leaf_slots s k) ≡ I₁ ++ I₂ → map id_of ss ≡ I₁ ++ s.entries ∷ I₂ → NoDup (map id_of (row_with s A ss B))
  plus_once ss I₁ I₂ e e' =
      let X : List ℕ = map id_of (cat s.body.leaf.slots A) ++ I₁ in
      let Y : List ℕ = I₂ ++ map id_of (cat s.body.leaf.slots B) in
      let o : map id_of (cat s.body.leaf.slots (A ++ k ∷ B)) ≡ X ++ Y = ap (map id_of) old_row ∙ ids_with (leaf_slots s k) I₁ I₂ e in
      let n : map id_of (row_with s A ss B) ≡ X ++ s.entries ∷ Y = ids_with ss I₁ (s.entries ∷ I₂) e' in
      subst NoDup (sym n) (nodup_put X s.entries Y (subst NoDup o b.once)
      (subst (λ (l : List ℕ). All (λ x. x ≢ s.entries) l) o
      (all_mapped (λ x. x ≢ s.entries) id_of (cat s.body.leaf.slots (A ++ k ∷ B))
      (all_map (λ e. e.child < s.entries) (λ e. e.child ≢ s.entries) (λ e lt q. omega arith) (cat s.body.leaf.slots (A ++ k ∷ B)) row_below))))

  -- set: the entry e of the leaf gets the lengths u
  pub set_change : (S₁ : List Slot) (e : Slot) (S₂ : List Slot) (u : ℕ → ℕ) → leaf_slots s k ≡ S₁ ++ e ∷ S₂
      → ((v : ℕ) → sum_by (len v) (row_with s A (S₁ ++ slot_of e.child u ∷ S₂) B) < 4294967296)
      → LeafChange s A k B st (S₁ ++ slot_of e.child u ∷ S₂) (carry (λ v x. (x + (u v + (4294967296 - e.lens v)) % 4294967296) % 4294967296) (length st) s.body.inner (s.body.leaf.parent k) (s.body.leaf.place k)) s.homes s.entries
  unfolding All sum_by
  set_change S₁ e S₂ u sl tot =
      let ss : List Slot = S₁ ++ slot_of e.child u ∷ S₂ in
      let f : ℕ → ℕ → ℕ = λ v x. (x + (u v + (4294967296 - e.lens v)) % 4294967296) % 4294967296 in
      let N : ℕ → ℕ = λ v. sum_by (len v) (row_with s A ss B) in
      let cl : Changed s.body.leaf s.body.inner (set_slots s.body.leaf k ss) (carry f (length st) s.body.inner (s.body.leaf.parent k) (s.body.leaf.place k)) s.body.root A k B st ss
      = change_leaf f s.body.leaf s.body.inner s.body.root A k B st ss N b.links reals_here (λ v. omega arith)
      (λ v y h.
      let n1 : sum_by (len v) ss ≡ sum_by (len v) S₁ + (u v + sum_by (len v) S₂) = sum_by_append (len v) S₁ (slot_of e.child u ∷ S₂) in
      let o1 : total s.body.leaf k v ≡ sum_by (len v) S₁ + (e.lens v + sum_by (len v) S₂) = ap (sum_by (len v)) sl ∙ sum_by_append (len v) S₁ (e ∷ S₂) in
      let n2 : sum_by (len v) (row_with s A ss B) ≡ sum_by (len v) (cat s.body.leaf.slots A) + (sum_by (len v) ss + sum_by (len v) (cat s.body.leaf.slots B))
      = sum_by_append (len v) (cat s.body.leaf.slots A) (ss ++ cat s.body.leaf.slots B) ∙ ap (λ (n : ℕ). sum_by (len v) (cat s.body.leaf.slots A) + n) (sum_by_append (len v) ss (cat s.body.leaf.slots B)) in
      let o2 : sum_by (len v) (cat s.body.leaf.slots (A ++ k ∷ B)) ≡ sum_by (len v) (cat s.body.leaf.slots A) + (total s.body.leaf k v + sum_by (len v) (cat s.body.leaf.slots B))
      = ap (sum_by (len v)) old_row ∙ sum_by_append (len v) (cat s.body.leaf.slots A) (leaf_slots s k ++ cat s.body.leaf.slots B) ∙ ap (λ (n : ℕ). sum_by (len v) (cat s.body.leaf.slots A) + n) (sum_by_append (len v) (leaf_slots s k) (cat s.body.leaf.slots B)) in
      let bo : sum_by (len v) (cat s.body.leaf.slots (A ++ k ∷ B)) < 4294967296 = b.totals v in
      let bn : sum_by (len v) (row_with s A ss B) < 4294967296 = tot v in
      let z : ℕ = sum_by (len v) S₁ + sum_by (len v) S₂ + y in
      let a1 : total s.body.leaf k v + y ≡ e.lens v + z = omega arith in
      let a2 : sum_by (len v) ss + y ≡ u v + z = omega arith in
      ap (λ (x : ℕ). f v x) a1 ∙ wrap (e.lens v) (u v) z (omega arith) (omega arith) (omega arith) ∙ sym a2) in
      let lk : k < s.leaves = leaf_here in
      let hm : All (λ x. s.homes x.child ≡ k) (S₁ ++ e ∷ S₂) = rw sl at (b.homed k lk) in
      let bl : All (λ x. x.child < s.entries) (S₁ ++ e ∷ S₂) = rw sl at (b.below k lk) in
      let lo : length (leaf_slots s k) ≡ length S₁ + suc (length S₂) = ap length sl ∙ length-append S₁ (e ∷ S₂) in
      let ln : length ss ≡ length S₁ + suc (length S₂) = length-append S₁ (slot_of e.child u ∷ S₂) in
      let ids : map id_of ss ≡ map id_of (leaf_slots s k) = map_append id_of S₁ (slot_of e.child u ∷ S₂) ∙ sym (map_append id_of S₁ (e ∷ S₂)) ∙ ap (map id_of) (sym sl) in
      let idr : map id_of (row_with s A ss B) ≡ map id_of (cat s.body.leaf.slots (A ++ k ∷ B))
      = ids_with ss (map id_of (leaf_slots s k)) [] (ids ∙ sym (append-nil (map id_of (leaf_slots s k)))) ∙ sym (ids_with (leaf_slots s k) (map id_of (leaf_slots s k)) [] (sym (append-nil (map id_of (leaf_slots s k))))) ∙ ap (map id_of) (sym old_row) in
      record {
        links = cl.links;
        sizes = λ p. carry_size f (length st) s.body.inner (s.body.leaf.parent k) (s.body.leaf.place k) p;
        most = omega (arith, b.leaf_most k lk);
        least = omega arith;
        home = all_append (λ x. s.homes x.child ≡ k) S₁ (slot_of e.child u ∷ S₂) (all_left_at (λ x. s.homes x.child ≡ k) S₁ (e ∷ S₂) hm) (all_right (λ x. s.homes x.child ≡ k) S₁ (e ∷ S₂) hm);
        kept = λ x lt. refl;
        more = omega arith;
        room = b.room;
        below = all_append (λ x. x.child < s.entries) S₁ (slot_of e.child u ∷ S₂) (all_left_at (λ x. x.child < s.entries) S₁ (e ∷ S₂) bl) (all_right (λ x. x.child < s.entries) S₁ (e ∷ S₂) bl);
        once = subst NoDup (sym idr) b.once;
        count = sym (length-map (row_with s A ss B) id_of) ∙ ap length idr ∙ length-map (cat s.body.leaf.slots (A ++ k ∷ B)) id_of ∙ b.count;
        totals = tot;
      }

  -- an entry more in leaf k, under the next id
  abbrev pub KnownSlot : Slot → Type 0
  KnownSlot x = (x.child ≡ s.entries) ⊎ ((x.child < s.entries) × (s.homes x.child ≡ k))

  pub known : (l : List Slot) → All (λ x. s.homes x.child ≡ k) l → All (λ x. x.child < s.entries) l → All KnownSlot l
  known l h g = all_map₂ (λ x. s.homes x.child ≡ k) (λ x. x.child < s.entries) KnownSlot (λ x a c. inr (c, a)) l h g

  pub plus_change : (ss : List Slot) (up : Area) (I₁ I₂ : List ℕ)
      → Links (total (set_slots s.body.leaf k ss)) (set_slots s.body.leaf k ss) up s.body.root (A ++ k ∷ B) st
      → ((p : ℕ) → length (up.slots p) ≡ length (s.body.inner.slots p))
      → map id_of (leaf_slots s k) ≡ I₁ ++ I₂ → map id_of ss ≡ I₁ ++ s.entries ∷ I₂ → All KnownSlot ss
      → length (leaf_slots s k) < s.fan → s.entries < s.limit
      → ((v : ℕ) → sum_by (len v) (row_with s A ss B) < 4294967296)
      → LeafChange s A k B st ss up (upd s.homes s.entries k) (suc s.entries)
  plus_change ss up I₁ I₂ lk sz io ie kn room few tot =
      let homes : ℕ → ℕ = upd s.homes s.entries k in
      let ls : length ss ≡ suc (length (leaf_slots s k))
      = (let x : length (map id_of ss) ≡ length I₁ + suc (length I₂) = ap length ie ∙ length-append I₁ (s.entries ∷ I₂) in
      let y : length (map id_of (leaf_slots s k)) ≡ length I₁ + length I₂ = ap length io ∙ length-append I₁ I₂ in
      omega (arith, length-map ss id_of, length-map (leaf_slots s k) id_of)) in
      let kept : (x : ℕ) → x < s.entries → homes x ≡ s.homes x = λ x lt. upd_other s.homes s.entries k x (λ q. omega arith) in
      let oldc : length (row_with s A (leaf_slots s k) B) ≡ s.entries = ap length (sym old_row) ∙ b.count in
      record {
        links = lk;
        sizes = sz;
        most = omega arith;
        least = omega arith;
        home = all_map KnownSlot (λ x. homes x.child ≡ k) (λ x d. elim d [ inl q ↦ (ap (λ (n : ℕ). homes n) q ∙ upd_same s.homes s.entries k) | inr q ↦ kept x.child q.0 ∙ q.1 ]) ss kn;
        kept = kept;
        more = omega arith;
        room = few;
        below = all_map KnownSlot (λ x. x.child < suc s.entries) (λ x d. elim d [ inl q ↦ omega arith | inr q ↦ omega (arith, q.0) ]) ss kn;
        once = plus_once ss I₁ I₂ io ie;
        count = (let x : length (row_with s A ss B) ≡ length (cat s.body.leaf.slots A) + (length ss + length (cat s.body.leaf.slots B)) = simp length-append in
            let y : length (row_with s A (leaf_slots s k) B) ≡ length (cat s.body.leaf.slots A) + (length (leaf_slots s k) + length (cat s.body.leaf.slots B)) = simp length-append in
            omega arith);
        totals = tot;
      }

  -- insert in a leaf with room, between S₁ and S₂
  pub put_change : (S₁ S₂ : List Slot) (u : ℕ → ℕ) → leaf_slots s k ≡ S₁ ++ S₂
      → length (leaf_slots s k) < s.fan → s.entries < s.limit
      → ((v : ℕ) → sum_by (len v) (row_with s A (S₁ ++ slot_of s.entries u ∷ S₂) B) < 4294967296)
      → LeafChange s A k B st (S₁ ++ slot_of s.entries u ∷ S₂) (carry (λ v x. (x + u v) % 4294967296) (length st) s.body.inner (s.body.leaf.parent k) (s.body.leaf.place k)) (upd s.homes s.entries k) (suc s.entries)
  unfolding All sum_by
  put_change S₁ S₂ u sl room few tot =
      let n : Slot = slot_of s.entries u in
      let ss : List Slot = S₁ ++ n ∷ S₂ in
      let f : ℕ → ℕ → ℕ = λ v x. (x + u v) % 4294967296 in
      let N : ℕ → ℕ = λ v. sum_by (len v) (row_with s A ss B) in
      let cl : Changed s.body.leaf s.body.inner (set_slots s.body.leaf k ss) (carry f (length st) s.body.inner (s.body.leaf.parent k) (s.body.leaf.place k)) s.body.root A k B st ss
      = change_leaf f s.body.leaf s.body.inner s.body.root A k B st ss N b.links reals_here (λ v. omega arith)
      (λ v y h.
      let n1 : sum_by (len v) ss ≡ sum_by (len v) S₁ + (u v + sum_by (len v) S₂) = sum_by_append (len v) S₁ (n ∷ S₂) in
      let o1 : total s.body.leaf k v ≡ sum_by (len v) S₁ + sum_by (len v) S₂ = ap (sum_by (len v)) sl ∙ sum_by_append (len v) S₁ S₂ in
      let bn : sum_by (len v) (row_with s A ss B) < 4294967296 = tot v in
      let a : total s.body.leaf k v + y + u v ≡ sum_by (len v) ss + y = omega arith in
      let lt : total s.body.leaf k v + y + u v < 4294967296 = omega arith in
      small (total s.body.leaf k v + y + u v) lt ∙ a) in
      let lk : k < s.leaves = leaf_here in
      let kn : All KnownSlot (S₁ ++ S₂) = subst (λ (l : List Slot). All KnownSlot l) sl (known (leaf_slots s k) (b.homed k lk) (b.below k lk)) in
      plus_change ss (carry f (length st) s.body.inner (s.body.leaf.parent k) (s.body.leaf.place k)) (map id_of S₁) (map id_of S₂) cl.links
      (λ p. carry_size f (length st) s.body.inner (s.body.leaf.parent k) (s.body.leaf.place k) p)
      (ap (map id_of) sl ∙ map_append id_of S₁ S₂) (map_append id_of S₁ (n ∷ S₂))
      (all_append KnownSlot S₁ (n ∷ S₂) (all_left_at KnownSlot S₁ S₂ kn) (inl refl, all_right KnownSlot S₁ S₂ kn)) room few tot
    where
      small : (x : ℕ) → x < 4294967296 → x % 4294967296 ≡ x
      small x lt = omega arith

  -- slots of equal sums in place of the leaf's: the links stay
  pub even_links : (ss : List Slot) → ((v : ℕ) → sum_by (len v) ss ≡ sum_by (len v) (leaf_slots s k))
      → Links (total (set_slots s.body.leaf k ss)) (set_slots s.body.leaf k ss) s.body.inner s.body.root (A ++ k ∷ B) st
  even_links ss e =
      let leaf : Area = s.body.leaf in
      let leaf' : Area = set_slots leaf k ss in
      let tk : (x : ℕ) → Dec (x ≡ k) → total leaf' x ≡ total leaf x
      = λ x d. elim d [
        | yes q ↦ fun_ext (λ v. subst (λ (z : ℕ). sum_by (len v) (upd leaf.slots k ss z) ≡ sum_by (len v) (leaf.slots z)) (sym q) (ap (sum_by (len v)) (upd_same leaf.slots k ss) ∙ e v))
        | no ne ↦ total_same leaf leaf' x (upd_other leaf.slots k ss x ne)
      ] in
      links_frame (total leaf) (total leaf') leaf leaf' s.body.inner s.body.inner s.body.root (A ++ k ∷ B) st b.links
      (all_every (λ x. said (total leaf') leaf' x ≡ said (total leaf) leaf x) (λ x. said_same (total leaf) (total leaf') leaf leaf' x (refl, refl) (tk x (ℕ_discrete x k))) (A ++ k ∷ B))
      (all_every (All (SameNode s.body.inner s.body.inner)) (λ Q. all_every (SameNode s.body.inner s.body.inner) (λ x. (refl, (refl, refl))) Q) st)

  pub divide_change : (before : Bool) (S₁ : List Slot) (e : Slot) (S₂ : List Slot) (u : ℕ → ℕ) → leaf_slots s k ≡ S₁ ++ e ∷ S₂ → ((v : ℕ) → u v ≤ e.lens v)
      → length (leaf_slots s k) < s.fan → s.entries < s.limit
      → LeafChange s A k B st (S₁ ++ divided before e u s.entries S₂) s.body.inner (upd s.homes s.entries k) (suc s.entries)
  unfolding All sum_by
  divide_change before S₁ e S₂ u sl le room few = go before
    where
      lk : k < s.leaves
      lk = leaf_here

      kn : All KnownSlot (S₁ ++ e ∷ S₂)
      kn = subst (λ (l : List Slot). All KnownSlot l) sl (known (leaf_slots s k) (b.homed k lk) (b.below k lk))

      even : (d : Bool) (v : ℕ) → sum_by (len v) (S₁ ++ divided d e u s.entries S₂) ≡ sum_by (len v) (leaf_slots s k)
      even true v =
          sum_by_append (len v) S₁ (slot_of s.entries u ∷ lessen e u ∷ S₂) ∙ (let z = le v in omega arith) ∙ sym (sum_by_append (len v) S₁ (e ∷ S₂)) ∙ ap (sum_by (len v)) (sym sl)
      even false v =
          sum_by_append (len v) S₁ (lessen e u ∷ slot_of s.entries u ∷ S₂) ∙ (let z = le v in omega arith) ∙ sym (sum_by_append (len v) S₁ (e ∷ S₂)) ∙ ap (sum_by (len v)) (sym sl)

      tots : (d : Bool) (v : ℕ) → sum_by (len v) (row_with s A (S₁ ++ divided d e u s.entries S₂) B) < 4294967296
      tots d v =
          let x : sum_by (len v) (row_with s A (S₁ ++ divided d e u s.entries S₂) B) ≡ sum_by (len v) (cat s.body.leaf.slots (A ++ k ∷ B))
          = sum_by_append (len v) (cat s.body.leaf.slots A) ((S₁ ++ divided d e u s.entries S₂) ++ cat s.body.leaf.slots B)
          ∙ ap (λ (n : ℕ). sum_by (len v) (cat s.body.leaf.slots A) + n) (sum_by_append (len v) (S₁ ++ divided d e u s.entries S₂) (cat s.body.leaf.slots B)
          ∙ ap (λ (n : ℕ). n + sum_by (len v) (cat s.body.leaf.slots B)) (even d v) ∙ sym (sum_by_append (len v) (leaf_slots s k) (cat s.body.leaf.slots B)))
          ∙ sym (sum_by_append (len v) (cat s.body.leaf.slots A) (leaf_slots s k ++ cat s.body.leaf.slots B)) ∙ ap (sum_by (len v)) (sym old_row) in
          rw x (b.totals v)

      go : (d : Bool) → LeafChange s A k B st (S₁ ++ divided d e u s.entries S₂) s.body.inner (upd s.homes s.entries k) (suc s.entries)
      go true = plus_change (S₁ ++ divided true e u s.entries S₂) s.body.inner (map id_of S₁) (e.child ∷ map id_of S₂) (even_links (S₁ ++ divided true e u s.entries S₂) (even true)) (λ p. refl)
          (ap (map id_of) sl ∙ map_append id_of S₁ (e ∷ S₂)) (map_append id_of S₁ (slot_of s.entries u ∷ lessen e u ∷ S₂))
          (all_append KnownSlot S₁ (slot_of s.entries u ∷ lessen e u ∷ S₂) (all_left_at KnownSlot S₁ (e ∷ S₂) kn) (inl refl, all_right KnownSlot S₁ (e ∷ S₂) kn)) room few (tots true)
      go false = plus_change (S₁ ++ divided false e u s.entries S₂) s.body.inner (map id_of S₁ ++ e.child ∷ []) (map id_of S₂) (even_links (S₁ ++ divided false e u s.entries S₂) (even false)) (λ p. refl)
          (ap (map id_of) sl ∙ map_append id_of S₁ (e ∷ S₂) ∙ sym (append_assoc (map id_of S₁) (e.child ∷ []) (map id_of S₂)))
          (map_append id_of S₁ (lessen e u ∷ slot_of s.entries u ∷ S₂) ∙ sym (append_assoc (map id_of S₁) (e.child ∷ []) (s.entries ∷ map id_of S₂)))
          (all_append KnownSlot S₁ (lessen e u ∷ slot_of s.entries u ∷ S₂) (all_left_at KnownSlot S₁ (e ∷ S₂) kn) ((all_right KnownSlot S₁ (e ∷ S₂) kn).0, (inl refl, (all_right KnownSlot S₁ (e ∷ S₂) kn).1))) room few (tots false)
