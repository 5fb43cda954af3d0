-- The calls that change the tree, at a leaf and a slot: each keeps it sound and changes the row as asked.
use Rattle.std.specs.Prelude.{◌≡◌, refl, ◌≢◌, Bool, true, false, T, ltb, get_or, set}
use Rattle.std.proofs.Common.{sym, ◌∙◌, ltb→lt, nltb→le, length-append, take-append-drop, take-take, take-add, drop-cons, length-take-le}
use Rattle.std.proofs.Math.Path.{ap, ap₂, subst}
use mathlib.Core.List.{List, [], ◌∷◌, ◌++◌, append_assoc, append-nil, head-eq_of_cons-eq, tail-eq_of_cons-eq}
use Prim.Native.Nat.{ℕ, suc, ◌+◌, ◌-◌, ◌%◌, ◌≤◌, ◌<◌}
use native.Mathlib.Omega.{arith}
use Rattle.std.proofs.Math.ListN.{length, length-drop, take, drop}
use Rattle.std.proofs.lemmas.List.{take-append-le, set_split}
use Rattle.std.proofs.Math.Seq.{drop-drop, split_at}
use Rattle.model.specs.Lists.{sum_by, All}
use Rattle.model.specs.Locate.{changing}
use Rattle.model_tree.specs.Lists.{cat, cat_append, cat_cong, sum_by_append, all_map, all_map₂, all_left_at, all_right, pairs_before, pairs_after, NoDup}
use Rattle.model_tree.specs.Levels.{no_slot, len, Slot, Area}
use Rattle.model_tree.specs.Rank.{rank}
use Rattle.model_tree.specs.Update.{upd, upd_same, upd_other}
use Rattle.model_tree.specs.Insert.{slot_of, lessen}
use Rattle.model_tree.specs.Carry.{carry}
use Rattle.model_tree.specs.Tree.{Tree, half, leaf_slots, row, BodyAt, Right, Sound, to_body, same_row}
use Rattle.model_tree.specs.Change.{with_leaf, row_with, LeafChange, change_body, order_nodup, row_change}
use Rattle.model_tree.specs.Edit.{leaf_here, set_change, put_change, divide_change, divided}
use Rattle.model_tree.specs.Split.{split_full, SplitAt, split_full_law}
use Rattle.model_tree.specs.Finger.{changing_new, right_change, climb_at}

abbrev pub slot_at : Tree → ℕ → ℕ → Slot
slot_at s k j = get_or (leaf_slots s k) j no_slot

abbrev pub carried : (ℕ → ℕ → ℕ) → Tree → ℕ → Area
carried f s k = carry f s.body.levels s.body.inner (s.body.leaf.parent k) (s.body.leaf.place k)

abbrev pub set_in : Tree → ℕ → ℕ → (ℕ → ℕ) → Tree
set_in s k j u = with_leaf s k (set (leaf_slots s k) j (slot_of (slot_at s k j).child u))
    (carried (λ v x. (x + (u v + (4294967296 - (slot_at s k j).lens v)) % 4294967296) % 4294967296) s k) s.homes s.entries (changing k j s.finger)

abbrev pub put_in : Tree → ℕ → ℕ → (ℕ → ℕ) → Tree
put_in s k j u = with_leaf s k (take j (leaf_slots s k) ++ slot_of s.entries u ∷ drop j (leaf_slots s k))
    (carried (λ v x. (x + u v) % 4294967296) s k) (upd s.homes s.entries k) (suc s.entries) (changing k j s.finger)

abbrev pub divide_in : Bool → Tree → ℕ → ℕ → (ℕ → ℕ) → Tree
divide_in before s k j u = with_leaf s k (take j (leaf_slots s k) ++ divided before (slot_at s k j) u s.entries (drop (suc j) (leaf_slots s k)))
    s.body.inner (upd s.homes s.entries k) (suc s.entries) (changing k j s.finger)

-- the sum before a place
abbrev pub rank_at : Tree → ℕ → ℕ → ℕ → ℕ
rank_at s v k j = rank v s.body.leaf s.body.inner s.body.levels k j

pub rank_here : (s : Tree) (A : List ℕ) (k : ℕ) (B : List ℕ) (st : List (List ℕ)) → BodyAt s (A ++ k ∷ B) st → (v j : ℕ) → rank_at s v k j ≡ sum_by (len v) (cat s.body.leaf.slots A ++ take j (leaf_slots s k))
rank_here s A k B st b v j =
    let a : sum_by (len v) (cat s.body.leaf.slots A ++ take j (leaf_slots s k)) ≡ sum_by (len v) (cat s.body.leaf.slots A) + sum_by (len v) (take j (leaf_slots s k)) = sum_by_append (len v) (cat s.body.leaf.slots A) (take j (leaf_slots s k)) in
    let c = climb_at s A k B st b v in
    omega arith

-- a place in a tree
pub record Spot : Type 0 where
  pub tree : Tree
  pub leaf : ℕ
  pub slot : ℕ

abbrev pub spot : Tree → ℕ → ℕ → Spot
spot s k j = record { tree = s; leaf = k; slot = j }

-- `make_room`: a full leaf is split first
abbrev pub make_room : Tree → ℕ → ℕ → Spot
make_room s k j = elim (ltb (length (leaf_slots s k)) s.fan) [
  | true ↦ spot s k j
  | false ↦ elim (ltb j (half s.fan)) [ true ↦ spot (split_full s k) k j | false ↦ spot (split_full s k) s.leaves (j - half s.fan) ]
]

-- the place p, in a tree that has s's row, stands between R₁ and R₂; a change there leaves the finger right
pub record Between (ε : ℕ) (s : Tree) (p : Spot) (R₁ R₂ : List Slot) : Type 0 where
  pub A : List ℕ
  pub B : List ℕ
  pub st : List (List ℕ)
  pub body : BodyAt p.tree (A ++ p.leaf ∷ B) st
  pub fits : p.slot ≤ length (leaf_slots p.tree p.leaf)
  pub front : cat p.tree.body.leaf.slots A ++ take p.slot (leaf_slots p.tree p.leaf) ≡ R₁
  pub rest : drop p.slot (leaf_slots p.tree p.leaf) ++ cat p.tree.body.leaf.slots B ≡ R₂
  pub entries : p.tree.entries ≡ s.entries
  pub limit : p.tree.limit ≡ s.limit
  pub fan : p.tree.fan ≡ s.fan
  pub finger : (s' : Tree) → BodyAt s' (A ++ p.leaf ∷ B) st → cat s'.body.leaf.slots A ≡ cat p.tree.body.leaf.slots A
      → ((i : ℕ) → i ≤ p.slot → take i (leaf_slots s' p.leaf) ≡ take i (leaf_slots p.tree p.leaf)) → p.slot < length (leaf_slots s' p.leaf)
      → Right ε s' (changing p.leaf p.slot p.tree.finger)

-- the place as it stands
pub here : (ε : ℕ) (s : Tree) (A : List ℕ) (k : ℕ) (B : List ℕ) (st : List (List ℕ)) (j : ℕ) → BodyAt s (A ++ k ∷ B) st → Right ε s s.finger → j ≤ length (leaf_slots s k)
    → Between ε s (spot s k j) (cat s.body.leaf.slots A ++ take j (leaf_slots s k)) (drop j (leaf_slots s k) ++ cat s.body.leaf.slots B)
here ε s A k B st j b r le = record {
  A = A;
  B = B;
  st = st;
  body = b;
  fits = le;
  front = refl;
  rest = refl;
  entries = refl;
  limit = refl;
  fan = refl;
  finger = λ s' b' e kp lt. right_change ε s s' A k B st B st j b b' e kp lt s.finger r;
}

-- a change at the place
pub record Done (ε : ℕ) (p : Spot) (R₁ : List Slot) (s' : Tree) (new : List Slot) : Type 0 where
  pub sound : Sound ε s'
  pub is : row s' ≡ new
  pub rank : (v : ℕ) → rank_at s' v p.leaf p.slot ≡ sum_by (len v) R₁

pub finish : (ε : ℕ) (s : Tree) (p : Spot) (R₁ R₂ : List Slot) (r : Between ε s p R₁ R₂) (ss : List Slot) (up : Area) (homes : ℕ → ℕ) (entries : ℕ)
    → LeafChange p.tree r.A p.leaf r.B r.st ss up homes entries
    → ((i : ℕ) → i ≤ p.slot → take i ss ≡ take i (leaf_slots p.tree p.leaf)) → p.slot < length ss
    → Done ε p R₁ (with_leaf p.tree p.leaf ss up homes entries (changing p.leaf p.slot p.tree.finger)) (row_with p.tree r.A ss r.B)
finish ε s p R₁ R₂ r ss up homes entries c kp lt =
    let t : Tree = p.tree in
    let s' : Tree = with_leaf t p.leaf ss up homes entries (changing p.leaf p.slot t.finger) in
    let nd : NoDup (r.A ++ p.leaf ∷ r.B) = order_nodup t (r.A ++ p.leaf ∷ r.B) r.st r.body in
    let b' : BodyAt s' (r.A ++ p.leaf ∷ r.B) r.st = change_body t r.A p.leaf r.B r.st ss up homes entries (changing p.leaf p.slot t.finger) r.body c in
    let sc : leaf_slots s' p.leaf ≡ ss = upd_same t.body.leaf.slots p.leaf ss in
    let fr : cat s'.body.leaf.slots r.A ≡ cat t.body.leaf.slots r.A
    = cat_cong s'.body.leaf.slots t.body.leaf.slots r.A (all_map (λ x. x ≢ p.leaf) (λ x. leaf_slots s' x ≡ leaf_slots t x) (λ x ne. upd_other t.body.leaf.slots p.leaf ss x ne) r.A (pairs_before (λ x y. x ≢ y) r.A p.leaf r.B nd)) in
    record {
      sound = record { body = to_body s' (r.A ++ p.leaf ∷ r.B) r.st b'; finger = r.finger s' b' fr (λ i le. rw sc (kp i le)) (rw sc lt) };
      is = same_row s' (r.A ++ p.leaf ∷ r.B) r.st b' ∙ row_change t.body.leaf r.A p.leaf r.B ss nd;
      rank = λ v. rank_here s' r.A p.leaf r.B r.st b' v p.slot ∙ ap (sum_by (len v)) (ap₂ ◌++◌ fr (ap (take p.slot) sc ∙ kp p.slot (omega arith)) ∙ r.front);
    }

-- the same front
front_kept : (l : List Slot) (j : ℕ) (X : List Slot) → j ≤ length l → (i : ℕ) → i ≤ j → take i (take j l ++ X) ≡ take i l
front_kept l j X le i h = take-append-le i (take j l) X (let z : length (take j l) ≡ j = length-take-le j l le in omega arith) ∙ take-take i j l h

past_front : (l : List Slot) (j : ℕ) (x : Slot) (X : List Slot) → j ≤ length l → j < length (take j l ++ x ∷ X)
past_front l j x X le = let z : length (take j l) ≡ j = length-take-le j l le in let y : length (take j l ++ x ∷ X) ≡ length (take j l) + suc (length X) = length-append (take j l) (x ∷ X) in omega arith

regroup : (X T D Y : List Slot) → X ++ ((T ++ D) ++ Y) ≡ (X ++ T) ++ (D ++ Y)
regroup X T D Y = simp append_assoc

-- insert at a place with room
pub put_done : (ε : ℕ) (s : Tree) (p : Spot) (R₁ R₂ : List Slot) (r : Between ε s p R₁ R₂) (u : ℕ → ℕ)
    → length (leaf_slots p.tree p.leaf) < p.tree.fan → s.entries < s.limit → ((v : ℕ) → sum_by (len v) (R₁ ++ slot_of s.entries u ∷ R₂) < 4294967296)
    → Done ε p R₁ (put_in p.tree p.leaf p.slot u) (R₁ ++ slot_of s.entries u ∷ R₂)
put_done ε s p R₁ R₂ r u space few tot =
    let t : Tree = p.tree in
    let l : List Slot = leaf_slots t p.leaf in
    let n : Slot = slot_of t.entries u in
    let ss : List Slot = take p.slot l ++ n ∷ drop p.slot l in
    let rw1 : row_with t r.A ss r.B ≡ R₁ ++ slot_of s.entries u ∷ R₂
    = regroup (cat t.body.leaf.slots r.A) (take p.slot l) (n ∷ drop p.slot l) (cat t.body.leaf.slots r.B)
    ∙ ap₂ (λ (X Y : List Slot). X ++ n ∷ Y) r.front r.rest ∙ ap (λ (i : ℕ). R₁ ++ slot_of i u ∷ R₂) r.entries in
    let c = put_change t r.A p.leaf r.B r.st r.body (take p.slot l) (drop p.slot l) u (sym (take-append-drop p.slot l)) space
    (let z = r.entries in let y = r.limit in omega arith) (λ v. rw rw1 (tot v)) in
    let c' : LeafChange t r.A p.leaf r.B r.st ss (carried (λ v x. (x + u v) % 4294967296) t p.leaf) (upd t.homes t.entries p.leaf) (suc t.entries)
    = subst (λ (d : ℕ). LeafChange t r.A p.leaf r.B r.st ss (carry (λ v x. (x + u v) % 4294967296) d t.body.inner (t.body.leaf.parent p.leaf) (t.body.leaf.place p.leaf)) (upd t.homes t.entries p.leaf) (suc t.entries)) r.body.deep c in
    let d = finish ε s p R₁ R₂ r ss (carried (λ v x. (x + u v) % 4294967296) t p.leaf) (upd t.homes t.entries p.leaf) (suc t.entries) c'
    (λ i le. front_kept l p.slot (n ∷ drop p.slot l) r.fits i le) (past_front l p.slot n (drop p.slot l) r.fits) in
    record { sound = d.sound; is = d.is ∙ rw1; rank = d.rank }

own : (p : Spot) (B : List ℕ) (e : Slot) (R₃ : List Slot) → p.slot < length (leaf_slots p.tree p.leaf)
    → drop p.slot (leaf_slots p.tree p.leaf) ++ cat p.tree.body.leaf.slots B ≡ e ∷ R₃
    → (slot_at p.tree p.leaf p.slot ≡ e) × (drop (suc p.slot) (leaf_slots p.tree p.leaf) ++ cat p.tree.body.leaf.slots B ≡ R₃)
own p B e R₃ lt q =
    let z : slot_at p.tree p.leaf p.slot ∷ (drop (suc p.slot) (leaf_slots p.tree p.leaf) ++ cat p.tree.body.leaf.slots B) ≡ e ∷ R₃
    = ap (λ (l : List Slot). l ++ cat p.tree.body.leaf.slots B) (sym (drop-cons (leaf_slots p.tree p.leaf) p.slot no_slot lt)) ∙ q in
    (head-eq_of_cons-eq z, tail-eq_of_cons-eq z)

-- set the lengths of the entry at a place
pub set_done : (ε : ℕ) (s : Tree) (p : Spot) (R₁ : List Slot) (e : Slot) (R₃ : List Slot) (r : Between ε s p R₁ (e ∷ R₃)) (u : ℕ → ℕ)
    → p.slot < length (leaf_slots p.tree p.leaf) → ((v : ℕ) → sum_by (len v) (R₁ ++ slot_of e.child u ∷ R₃) < 4294967296)
    → Done ε p R₁ (set_in p.tree p.leaf p.slot u) (R₁ ++ slot_of e.child u ∷ R₃)
set_done ε s p R₁ e R₃ r u lt tot =
    let t : Tree = p.tree in
    let l : List Slot = leaf_slots t p.leaf in
    let e₀ : Slot = slot_at t p.leaf p.slot in
    let n : Slot = slot_of e₀.child u in
    let ss : List Slot = take p.slot l ++ n ∷ drop (suc p.slot) l in
    let o = own p r.B e R₃ lt r.rest in
    let f : ℕ → ℕ → ℕ = λ v x. (x + (u v + (4294967296 - e₀.lens v)) % 4294967296) % 4294967296 in
    let rw1 : row_with t r.A ss r.B ≡ R₁ ++ slot_of e.child u ∷ R₃
    = regroup (cat t.body.leaf.slots r.A) (take p.slot l) (n ∷ drop (suc p.slot) l) (cat t.body.leaf.slots r.B)
    ∙ ap₂ (λ (X Y : List Slot). X ++ n ∷ Y) r.front o.1 ∙ ap (λ (x : Slot). R₁ ++ slot_of x.child u ∷ R₃) o.0 in
    let c = set_change t r.A p.leaf r.B r.st r.body (take p.slot l) e₀ (drop (suc p.slot) l) u (split_at l p.slot no_slot lt) (λ v. rw rw1 (tot v)) in
    let c' : LeafChange t r.A p.leaf r.B r.st ss (carried f t p.leaf) t.homes t.entries
    = subst (λ (d : ℕ). LeafChange t r.A p.leaf r.B r.st ss (carry f d t.body.inner (t.body.leaf.parent p.leaf) (t.body.leaf.place p.leaf)) t.homes t.entries) r.body.deep c in
    let d = finish ε s p R₁ (e ∷ R₃) r ss (carried f t p.leaf) t.homes t.entries c'
    (λ i le. front_kept l p.slot (n ∷ drop (suc p.slot) l) r.fits i le) (past_front l p.slot n (drop (suc p.slot) l) r.fits) in
    let d' : Done ε p R₁ (set_in t p.leaf p.slot u) (row_with t r.A ss r.B)
    = subst (λ (x : List Slot). Done ε p R₁ (with_leaf t p.leaf x (carried f t p.leaf) t.homes t.entries (changing p.leaf p.slot t.finger)) (row_with t r.A ss r.B)) (sym (set_split l p.slot n lt)) d in
    record { sound = d'.sound; is = d'.is ∙ rw1; rank = d'.rank }

divided_append : (before : Bool) (e : Slot) (u : ℕ → ℕ) (id : ℕ) (S Y : List Slot) → divided before e u id S ++ Y ≡ divided before e u id (S ++ Y)
divided_append true e u id S Y = refl
divided_append false e u id S Y = refl

past_divided : (before : Bool) (l : List Slot) (j : ℕ) (e : Slot) (u : ℕ → ℕ) (id : ℕ) (X : List Slot) → j ≤ length l → j < length (take j l ++ divided before e u id X)
past_divided true l j e u id X le = past_front l j (slot_of id u) (lessen e u ∷ X) le
past_divided false l j e u id X le = past_front l j (lessen e u) (slot_of id u ∷ X) le

-- split the entry at a place with room
pub divide_done : (ε : ℕ) (before : Bool) (s : Tree) (p : Spot) (R₁ : List Slot) (e : Slot) (R₃ : List Slot) (r : Between ε s p R₁ (e ∷ R₃)) (u : ℕ → ℕ)
    → p.slot < length (leaf_slots p.tree p.leaf) → length (leaf_slots p.tree p.leaf) < p.tree.fan → s.entries < s.limit → ((v : ℕ) → u v ≤ e.lens v)
    → Done ε p R₁ (divide_in before p.tree p.leaf p.slot u) (R₁ ++ divided before e u s.entries R₃)
divide_done ε before s p R₁ e R₃ r u lt space few le =
    let t : Tree = p.tree in
    let l : List Slot = leaf_slots t p.leaf in
    let e₀ : Slot = slot_at t p.leaf p.slot in
    let S₂ : List Slot = drop (suc p.slot) l in
    let ss : List Slot = take p.slot l ++ divided before e₀ u t.entries S₂ in
    let o = own p r.B e R₃ lt r.rest in
    let rw1 : row_with t r.A ss r.B ≡ R₁ ++ divided before e u s.entries R₃
    = regroup (cat t.body.leaf.slots r.A) (take p.slot l) (divided before e₀ u t.entries S₂) (cat t.body.leaf.slots r.B)
    ∙ ap₂ ◌++◌ r.front (divided_append before e₀ u t.entries S₂ (cat t.body.leaf.slots r.B) ∙ ap (divided before e₀ u t.entries) o.1 ∙ ap₂ (λ (x : Slot) (i : ℕ). divided before x u i R₃) o.0 r.entries) in
    let c = divide_change t r.A p.leaf r.B r.st r.body before (take p.slot l) e₀ S₂ u (split_at l p.slot no_slot lt)
    (λ v. subst (λ (x : Slot). u v ≤ x.lens v) (sym o.0) (le v)) space (let z = r.entries in let y = r.limit in omega arith) in
    let d = finish ε s p R₁ (e ∷ R₃) r ss t.body.inner (upd t.homes t.entries p.leaf) (suc t.entries) c
    (λ i h. front_kept l p.slot (divided before e₀ u t.entries S₂) r.fits i h) (past_divided before l p.slot e₀ u t.entries S₂ r.fits) in
    record { sound = d.sound; is = d.is ∙ rw1; rank = d.rank }

-- room is made
pub record RoomMade (ε : ℕ) (s : Tree) (k j : ℕ) (p : Spot) (R₁ R₂ : List Slot) : Type 0 where
  pub room : Between ε s p R₁ R₂
  pub space : length (leaf_slots p.tree p.leaf) < p.tree.fan
  pub inside : j < length (leaf_slots s k) → p.slot < length (leaf_slots p.tree p.leaf)

module _ (ε : ℕ) (s : Tree) (A : List ℕ) (k : ℕ) (B : List ℕ) (st : List (List ℕ)) (j : ℕ) (b : BodyAt s (A ++ k ∷ B) st) (rt : Right ε s s.finger) (le : j ≤ length (leaf_slots s k)) where
  lower_made : length (leaf_slots s k) ≡ s.fan → j < half s.fan → SplitAt s (split_full s k) A k B
      → RoomMade ε s k j (spot (split_full s k) k j) (cat s.body.leaf.slots A ++ take j (leaf_slots s k)) (drop j (leaf_slots s k) ++ cat s.body.leaf.slots B)
  lower_made full lt q =
      let l : List Slot = leaf_slots s k in
      let hf : ℕ = half s.fan in
      let s₁ : Tree = split_full s k in
      let n : ℕ = s.leaves in
      let ll : length (take hf l) ≡ hf = length-take-le hf l (omega arith) in
      let lo : length (leaf_slots s₁ k) ≡ hf = ap length q.lower ∙ ll in
      let nd : NoDup (A ++ k ∷ B) = order_nodup s (A ++ k ∷ B) st b in
      let fa : cat s₁.body.leaf.slots A ≡ cat s.body.leaf.slots A
      = cat_cong s₁.body.leaf.slots s.body.leaf.slots A (all_map₂ (λ x. x ≢ k) (λ x. x < n) (λ x. leaf_slots s₁ x ≡ leaf_slots s x) (λ x ne lt. q.others x ne (λ e. omega arith)) A
      (pairs_before (λ x y. x ≢ y) A k B nd) (all_left_at (λ x. x < n) A (k ∷ B) b.leaf_in_law)) in
      let tk : (i : ℕ) → i ≤ hf → take i (leaf_slots s₁ k) ≡ take i l = λ i h. ap (take i) q.lower ∙ take-take i hf l h in
      let whole : cat s₁.body.leaf.slots A ++ (leaf_slots s₁ k ++ cat s₁.body.leaf.slots (n ∷ B)) ≡ cat s.body.leaf.slots A ++ (l ++ cat s.body.leaf.slots B)
      = sym (cat_append s₁.body.leaf.slots A (k ∷ n ∷ B)) ∙ q.same ∙ cat_append s.body.leaf.slots A (k ∷ B) in
      let fr : cat s₁.body.leaf.slots A ++ take j (leaf_slots s₁ k) ≡ cat s.body.leaf.slots A ++ take j l = ap₂ ◌++◌ fa (tk j (omega arith)) in
      record {
        room = record {
          A = A;
          B = n ∷ B;
          st = q.st';
          body = q.body;
          fits = omega arith;
          front = fr;
          rest = cancel (cat s₁.body.leaf.slots A ++ take j (leaf_slots s₁ k)) (drop j (leaf_slots s₁ k) ++ cat s₁.body.leaf.slots (n ∷ B)) (drop j l ++ cat s.body.leaf.slots B)
              (sym (regroup (cat s₁.body.leaf.slots A) (take j (leaf_slots s₁ k)) (drop j (leaf_slots s₁ k)) (cat s₁.body.leaf.slots (n ∷ B)))
              ∙ ap (λ (x : List Slot). cat s₁.body.leaf.slots A ++ (x ++ cat s₁.body.leaf.slots (n ∷ B))) (take-append-drop j (leaf_slots s₁ k))
              ∙ whole
              ∙ ap (λ (x : List Slot). cat s.body.leaf.slots A ++ (x ++ cat s.body.leaf.slots B)) (sym (take-append-drop j l))
              ∙ regroup (cat s.body.leaf.slots A) (take j l) (drop j l) (cat s.body.leaf.slots B)
              ∙ ap (λ (x : List Slot). x ++ (drop j l ++ cat s.body.leaf.slots B)) (sym fr));
          entries = refl;
          limit = refl;
          fan = refl;
          finger = λ s' b' e kp lt'. right_change ε s s' A k B st (n ∷ B) q.st' j b b' (e ∙ fa) (λ i h. kp i h ∙ tk i (omega arith)) lt' s.finger rt;
        };
        space = omega (arith, b.fan_low);
        inside = λ h. omega arith;
      }
    where
      cancel : (X Y Z : List Slot) → X ++ Y ≡ X ++ Z → Y ≡ Z
      cancel [] Y Z e = e
      cancel (x ∷ X) Y Z e = cancel X Y Z (tail-eq_of_cons-eq e)

  upper_made : length (leaf_slots s k) ≡ s.fan → half s.fan ≤ j → SplitAt s (split_full s k) A k B
      → RoomMade ε s k j (spot (split_full s k) s.leaves (j - half s.fan)) (cat s.body.leaf.slots A ++ take j (leaf_slots s k)) (drop j (leaf_slots s k) ++ cat s.body.leaf.slots B)
  unfolding All
  upper_made full ge q =
      let l : List Slot = leaf_slots s k in
      let hf : ℕ = half s.fan in
      let i : ℕ = j - hf in
      let s₁ : Tree = split_full s k in
      let n : ℕ = s.leaves in
      let L : List Slot = take hf l in
      let U : List Slot = drop hf l in
      let ji : j ≡ hf + i = omega arith in
      let lu : length (leaf_slots s₁ n) ≡ s.fan - hf = ap length q.upper ∙ length-drop hf l ∙ ap (λ (x : ℕ). x - hf) full in
      let nd : NoDup (A ++ k ∷ B) = order_nodup s (A ++ k ∷ B) st b in
      let fa : cat s₁.body.leaf.slots A ≡ cat s.body.leaf.slots A
      = cat_cong s₁.body.leaf.slots s.body.leaf.slots A (all_map₂ (λ x. x ≢ k) (λ x. x < n) (λ x. leaf_slots s₁ x ≡ leaf_slots s x) (λ x ne lt. q.others x ne (λ e. omega arith)) A
      (pairs_before (λ x y. x ≢ y) A k B nd) (all_left_at (λ x. x < n) A (k ∷ B) b.leaf_in_law)) in
      let fb : cat s₁.body.leaf.slots B ≡ cat s.body.leaf.slots B
      = cat_cong s₁.body.leaf.slots s.body.leaf.slots B (all_map₂ (λ x. k ≢ x) (λ x. x < n) (λ x. leaf_slots s₁ x ≡ leaf_slots s x) (λ x ne lt. q.others x (λ e. ne (sym e)) (λ e. omega arith)) B
      (pairs_after (λ x y. x ≢ y) A k B nd) (all_right (λ x. x < n) A (k ∷ B) b.leaf_in_law).1) in
      let fr : cat s₁.body.leaf.slots (A ++ k ∷ []) ++ take i (leaf_slots s₁ n) ≡ cat s.body.leaf.slots A ++ take j l
      = ap₂ ◌++◌ (cat_append s₁.body.leaf.slots A (k ∷ []) ∙ ap₂ ◌++◌ fa (append-nil (leaf_slots s₁ k) ∙ q.lower)) (ap (take i) q.upper)
      ∙ append_assoc (cat s.body.leaf.slots A) L (take i U)
      ∙ ap (λ (x : List Slot). cat s.body.leaf.slots A ++ x) (sym (take-add hf i l) ∙ ap (λ (x : ℕ). take x l) (sym ji)) in
      let re : drop i (leaf_slots s₁ n) ++ cat s₁.body.leaf.slots B ≡ drop j l ++ cat s.body.leaf.slots B
      = ap₂ ◌++◌ (ap (drop i) q.upper ∙ drop-drop i hf l ∙ ap (λ (x : ℕ). drop x l) (sym ji)) fb in
      record {
        room = record {
          A = A ++ k ∷ [];
          B = B;
          st = q.st';
          body = subst (λ (C : List ℕ). BodyAt s₁ C q.st') (sym (append_assoc A (k ∷ []) (n ∷ B))) q.body;
          fits = omega arith;
          front = fr;
          rest = re;
          entries = refl;
          limit = refl;
          fan = refl;
          finger = λ s' b' e kp lt'. subst (Right ε s') (sym (changing_new ε s i s.finger rt)) tt;
        };
        space = omega (arith, b.fan_low);
        inside = λ h. omega arith;
      }

  pub make_room_law : RoomMade ε s k j (make_room s k j) (cat s.body.leaf.slots A ++ take j (leaf_slots s k)) (drop j (leaf_slots s k) ++ cat s.body.leaf.slots B)
  make_room_law = go (ltb (length (leaf_slots s k)) s.fan) refl (ltb j (half s.fan)) refl
    where
      go : (x : Bool) → ltb (length (leaf_slots s k)) s.fan ≡ x → (y : Bool) → ltb j (half s.fan) ≡ y
          → RoomMade ε s k j (make_room s k j) (cat s.body.leaf.slots A ++ take j (leaf_slots s k)) (drop j (leaf_slots s k) ++ cat s.body.leaf.slots B)
      go true e y e' = rw (e, make_room) (record { room = here ε s A k B st j b rt le; space = ltb→lt (length (leaf_slots s k)) s.fan (rw e tt); inside = λ h. h })
      go false e true e' =
          let full : length (leaf_slots s k) ≡ s.fan = let z = b.leaf_most k (leaf_here s A k B st b) in let y = nltb→le (length (leaf_slots s k)) s.fan (rw e tt) in omega arith in
          rw (e, e', make_room) (lower_made full (ltb→lt j (half s.fan) (rw e' tt)) (split_full_law s A k B st b full))
      go false e false e' =
          let full : length (leaf_slots s k) ≡ s.fan = let z = b.leaf_most k (leaf_here s A k B st b) in let y = nltb→le (length (leaf_slots s k)) s.fan (rw e tt) in omega arith in
          rw (e, e', make_room) (upper_made full (nltb→le j (half s.fan) (rw e' tt)) (split_full_law s A k B st b full))
