-- The place of an id, and of the end, in a sound tree, beside the row.
use Rattle.std.specs.Prelude.{◌≡◌, refl, Bool, true, false, List, [], ◌∷◌, ◌++◌, ℕ, suc, ◌+◌, ◌≤◌, ◌<◌, ltb, length, take, drop, get_or}
use Rattle.std.proofs.Common.{sym, ap, ap₂, ◌∙◌, subst, append-nil, arith, ltb→lt, nltb→le, length-append}
use Rattle.std.proofs.Math.Decide.{ℕ_discrete}
use Rattle.std.proofs.Math.Seq.{take-append_seam, drop-append_seam, get_or-append_seam, take-length, drop-length}
use Rattle.model.specs.Lists.{sum_by, All}
use Rattle.model_tree.specs.Lists.{cat, cat_append, sum_by_cat, sum_by_map, all_map, all_right}
use Rattle.model_tree.specs.Levels.{no_slot, len, Slot, Area, Links, total, sum_marks, wt_of}
use Rattle.model_tree.specs.Next.{NodeOrEnd, node, end, next_of, head_of, next_is}
use Rattle.model_tree.specs.Tree.{Tree, leaf_slots, order, above, row, BodyAt, Body, Sound}
use Rattle.model_tree.specs.Cursor.{Without, index_of, EntrySlot, entry_of, last_at, first_at, last_of, first_of_law}
use Rattle.model_tree.specs.Calls.{slot_at, spot, make_room, Between, RoomMade, here, make_room_law, rank_at, rank_here}

-- the child of the first of some slots
abbrev pub first_child : List Slot → ℕ
first_child l = (get_or l 0 no_slot).child

abbrev pub leaf_of : Tree → ℕ → ℕ
leaf_of s id = s.homes id

abbrev pub slot_no : Tree → ℕ → ℕ
slot_no s id = index_of id (leaf_slots s (s.homes id))

pub record Cur (ε : ℕ) (s : Tree) (id k j : ℕ) : Type 0 where
  pub A : List ℕ
  pub B : List ℕ
  pub F₁ : List Slot
  pub e : Slot
  pub F₂ : List Slot
  pub leaves : order s ≡ A ++ k ∷ B
  pub body : BodyAt s (A ++ k ∷ B) (above s)
  pub slots : leaf_slots s k ≡ F₁ ++ e ∷ F₂
  pub index : j ≡ length F₁
  pub own : e.child ≡ id
  pub row : row s ≡ (cat s.body.leaf.slots A ++ F₁) ++ e ∷ (F₂ ++ cat s.body.leaf.slots B)
  pub apart : Without id (cat s.body.leaf.slots A ++ F₁)
  pub inside : j < length (leaf_slots s k)
  pub at : slot_at s k j ≡ e
  pub rank : (v : ℕ) → rank_at s v k j ≡ sum_by (len v) (cat s.body.leaf.slots A ++ F₁)
  pub room : Between ε s (spot s k j) (cat s.body.leaf.slots A ++ F₁) (e ∷ (F₂ ++ cat s.body.leaf.slots B))
  pub made : RoomMade ε s k j (make_room s k j) (cat s.body.leaf.slots A ++ F₁) (e ∷ (F₂ ++ cat s.body.leaf.slots B))

-- the slots before the entry
abbrev pub front : {ε : ℕ} {s : Tree} {id k j : ℕ} → Cur ε s id k j → List Slot
front {s = s} c = cat s.body.leaf.slots c.A ++ c.F₁

-- the slots behind it
abbrev pub behind : {ε : ℕ} {s : Tree} {id k j : ℕ} → Cur ε s id k j → List Slot
behind {s = s} c = c.F₂ ++ cat s.body.leaf.slots c.B

pub cur : (ε : ℕ) (s : Tree) → Sound ε s → (id : ℕ) → id < s.entries → Cur ε s id (leaf_of s id) (slot_no s id)
cur ε s so id lt = go (entry_of s so.body id lt)
  where
    go : EntrySlot s id → Cur ε s id (leaf_of s id) (slot_no s id)
    go n =
        let k : ℕ = s.homes id in
        let l : List Slot = leaf_slots s k in
        let j : ℕ = index_of id l in
        let b : BodyAt s (n.A ++ k ∷ n.B) (above s) = subst (λ (C : List ℕ). BodyAt s C (above s)) n.leaves so.body in
        let ll : length l ≡ length n.F₁ + suc (length n.F₂) = ap length n.slots ∙ length-append n.F₁ (n.e ∷ n.F₂) in
        let ji : j ≡ length n.F₁ = n.index in
        let lt : j < length l = omega arith in
        let tk : take j l ≡ n.F₁ = ap₂ (λ (i : ℕ) (m : List Slot). take i m) ji n.slots ∙ take-append_seam n.F₁ (n.e ∷ n.F₂) in
        let dp : drop j l ≡ n.e ∷ n.F₂ = ap₂ (λ (i : ℕ) (m : List Slot). drop i m) ji n.slots ∙ drop-append_seam n.F₁ (n.e ∷ n.F₂) in
        let front : cat s.body.leaf.slots n.A ++ take j l ≡ cat s.body.leaf.slots n.A ++ n.F₁ = ap (λ (m : List Slot). cat s.body.leaf.slots n.A ++ m) tk in
        let rest : drop j l ++ cat s.body.leaf.slots n.B ≡ n.e ∷ (n.F₂ ++ cat s.body.leaf.slots n.B) = ap (λ (m : List Slot). m ++ cat s.body.leaf.slots n.B) dp in
        record {
          A = n.A;
          B = n.B;
          F₁ = n.F₁;
          e = n.e;
          F₂ = n.F₂;
          leaves = n.leaves;
          body = b;
          slots = n.slots;
          index = ji;
          own = n.own;
          row = n.row;
          apart = n.apart;
          inside = lt;
          at = ap₂ (λ (i : ℕ) (m : List Slot). get_or m i no_slot) ji n.slots ∙ get_or-append_seam n.F₁ n.e n.F₂ no_slot;
          rank = λ v. rank_here s n.A k n.B (above s) b v j ∙ ap (sum_by (len v)) front;
          room = subst (λ (X : List Slot). Between ε s (spot s k j) X (n.e ∷ (n.F₂ ++ cat s.body.leaf.slots n.B))) front
              (subst (λ (Y : List Slot). Between ε s (spot s k j) (cat s.body.leaf.slots n.A ++ take j l) Y) rest (here ε s n.A k n.B (above s) j b so.finger (omega arith)));
          made = subst (λ (X : List Slot). RoomMade ε s k j (make_room s k j) X (n.e ∷ (n.F₂ ++ cat s.body.leaf.slots n.B))) front
              (subst (λ (Y : List Slot). RoomMade ε s k j (make_room s k j) (cat s.body.leaf.slots n.A ++ take j l) Y) rest (make_room_law ε s n.A k n.B (above s) j b so.finger (omega arith)));
        }

-- every inner node has a child
pub full : (s : Tree) → Body s → All (All (λ p. 1 ≤ length (s.body.inner.slots p))) (above s)
full s b = all_map (All (λ p. p < s.body.next)) (All (λ p. 1 ≤ length (s.body.inner.slots p))) (λ Q x. all_map (λ p. p < s.body.next) (λ p. 1 ≤ length (s.body.inner.slots p)) one Q x) (above s) b.inner_in_law
  where
    one : (p : ℕ) → p < s.body.next → 1 ≤ length (s.body.inner.slots p)
    one p lt = go (ℕ_discrete p s.body.root)
      where
        go : Dec (p ≡ s.body.root) → 1 ≤ length (s.body.inner.slots p)
        go (yes e) = rw e b.fit.two
        go (no ne) = let z = b.fit.least p lt ne in let y = b.fan_low in omega arith

abbrev pub last_leaf : Tree → ℕ
last_leaf s = last_at s.body.inner s.body.root s.body.levels

-- the end
pub end_made : (ε : ℕ) (s : Tree) → Sound ε s → RoomMade ε s (last_leaf s) (length (leaf_slots s (last_leaf s))) (make_room s (last_leaf s) (length (leaf_slots s (last_leaf s)))) (row s) []
end_made ε s so = go (last_of s.body.inner s.body.root s.body.levels (full s so.body))
  where
    go : (X : List ℕ) × (order s ≡ X ++ last_leaf s ∷ []) → RoomMade ε s (last_leaf s) (length (leaf_slots s (last_leaf s))) (make_room s (last_leaf s) (length (leaf_slots s (last_leaf s)))) (row s) []
    go r =
        let k : ℕ = last_leaf s in
        let l : List Slot = leaf_slots s k in
        let b : BodyAt s (r.0 ++ k ∷ []) (above s) = subst (λ (C : List ℕ). BodyAt s C (above s)) r.1 so.body in
        let front : cat s.body.leaf.slots r.0 ++ take (length l) l ≡ row s
        = ap (λ (m : List Slot). cat s.body.leaf.slots r.0 ++ m) (take-length l ∙ sym (append-nil l)) ∙ sym (cat_append s.body.leaf.slots r.0 (k ∷ [])) ∙ ap (cat s.body.leaf.slots) (sym r.1) in
        let rest : drop (length l) l ++ cat s.body.leaf.slots [] ≡ [] = append-nil (drop (length l) l) ∙ drop-length l in
        subst (λ (X : List Slot). RoomMade ε s k (length l) (make_room s k (length l)) X []) front
        (subst (λ (Y : List Slot). RoomMade ε s k (length l) (make_room s k (length l)) (cat s.body.leaf.slots r.0 ++ take (length l) l) Y) rest (make_room_law ε s r.0 k [] (above s) (length l) b so.finger (omega arith)))

-- the total of a view stands in the root
pub root_sum : (v : ℕ) (t : ℕ → ℕ → ℕ) (low up : Area) (root : ℕ) (C P : List ℕ) (st : List (List ℕ)) → Links t low up root C (P ∷ st) → total up root v ≡ sum_by (λ c. t c v) C
unfolding sum_by
root_sum v t low up root C P [] l =
    let a : sum_by (λ c. t c v) C ≡ sum_by (λ p. total up p v) P = simp (sum_by_map, sum_by_cat, sum_marks) at (ap (sum_by (wt_of v)) l.0) in
    let z : sum_by (λ p. total up p v) P ≡ total up root v + 0 = ap (sum_by (λ p. total up p v)) l.1.0 in
    omega arith
root_sum v t low up root C P (Q ∷ st) l =
    root_sum v (total up) up up root P Q st l.1 ∙ sym (simp (sum_by_map, sum_by_cat, sum_marks) at (ap (sum_by (wt_of v)) l.0))

abbrev pub tree_total : Tree → ℕ → ℕ
tree_total s v = total s.body.inner s.body.root v

pub total_is : (s : Tree) → Body s → (v : ℕ) → tree_total s v ≡ sum_by (len v) (row s)
total_is s b v = go (above s) b.links b.deep ∙ sym (sum_by_cat (len v) s.body.leaf.slots (order s))
  where
    go : (st : List (List ℕ)) → Links (total s.body.leaf) s.body.leaf s.body.inner s.body.root (order s) st → length st ≡ s.body.levels → tree_total s v ≡ sum_by (λ c. total s.body.leaf c v) (order s)
    go [] l e = absurd (let z = b.some in omega arith)
    go (P ∷ st) l e = root_sum v (total s.body.leaf) s.body.leaf s.body.inner s.body.root (order s) P st l

-- the entry after
abbrev pub leaf_first : Tree → NodeOrEnd → ℕ
leaf_first s (node c) = (slot_at s c 0).child
leaf_first s end = 4294967295

abbrev pub next_in : Tree → ℕ → ℕ → ℕ
next_in s k j = elim (ltb (suc j) (length (leaf_slots s k))) [ true ↦ (slot_at s k (suc j)).child | false ↦ leaf_first s (next_of s.body.leaf s.body.inner s.body.levels k) ]

head_first : (s : Tree) → (B : List ℕ) → All (λ k. 1 ≤ length (leaf_slots s k)) B → leaf_first s (head_of B) ≡ first_child (cat s.body.leaf.slots B)
unfolding All
head_first s [] h = refl
head_first s (c ∷ B) h = go (leaf_slots s c) refl h.0
  where
    go : (l : List Slot) → leaf_slots s c ≡ l → 1 ≤ length (leaf_slots s c) → (slot_at s c 0).child ≡ first_child (leaf_slots s c ++ cat s.body.leaf.slots B)
    go [] e h = absurd (let z : length (leaf_slots s c) ≡ 0 = ap length e in omega arith)
    go (x ∷ l) e h = rw e

get_d_next : (F₁ : List Slot) (e x : Slot) (F : List Slot) → get_or (F₁ ++ e ∷ x ∷ F) (suc (length F₁)) no_slot ≡ x
get_d_next [] e x F = refl
get_d_next (y ∷ F₁) e x F = get_d_next F₁ e x F

pub next_in_law : (ε : ℕ) (s : Tree) → Body s → (id k j : ℕ) (c : Cur ε s id k j) → next_in s k j ≡ first_child (c.F₂ ++ cat s.body.leaf.slots c.B)
unfolding All
next_in_law ε s b id k j c = go c.F₂ refl (ltb (suc j) (length (leaf_slots s k))) refl
  where
    nx : next_of s.body.leaf s.body.inner s.body.levels k ≡ head_of c.B
    nx = ap (λ (d : ℕ). next_of s.body.leaf s.body.inner d k) (sym b.deep) ∙ next_is (total s.body.leaf) s.body.leaf s.body.inner s.body.root c.A k c.B (above s) c.body.links (full s b)

    ones : All (λ k. 1 ≤ length (leaf_slots s k)) c.B
    ones = all_map (λ k. k < s.leaves) (λ k. 1 ≤ length (leaf_slots s k)) (λ k lt. b.leaf_one k lt) c.B (all_right (λ k. k < s.leaves) c.A (k ∷ c.B) c.body.leaf_in_law).1

    ll : (F : List Slot) → c.F₂ ≡ F → length (leaf_slots s k) ≡ length c.F₁ + suc (length F)
    ll F e = ap length c.slots ∙ length-append c.F₁ (c.e ∷ c.F₂) ∙ ap (λ (m : List Slot). length c.F₁ + suc (length m)) e

    go : (F : List Slot) → c.F₂ ≡ F → (t : Bool) → ltb (suc j) (length (leaf_slots s k)) ≡ t → next_in s k j ≡ first_child (c.F₂ ++ cat s.body.leaf.slots c.B)
    go [] e true q = absurd (let z = ltb→lt (suc j) (length (leaf_slots s k)) (rw q tt) in let y = ll [] e in let w = c.index in omega arith)
    go [] e false q = rw (q, next_in) (ap (leaf_first s) nx ∙ head_first s c.B ones ∙ ap (λ (m : List Slot). first_child (m ++ cat s.body.leaf.slots c.B)) (sym e))
    go (x ∷ F) e true q = rw (q, next_in) (ap (λ (y : Slot). y.child) (ap₂ (λ (i : ℕ) (m : List Slot). get_or m (suc i) no_slot) c.index (c.slots ∙ ap (λ (m : List Slot). c.F₁ ++ c.e ∷ m) e) ∙ get_d_next c.F₁ c.e x F)
        ∙ ap (λ (m : List Slot). first_child (m ++ cat s.body.leaf.slots c.B)) (sym e))
    go (x ∷ F) e false q = absurd (let z = nltb→le (suc j) (length (leaf_slots s k)) (rw q tt) in let y = ll (x ∷ F) e in let w = c.index in omega arith)

-- the first entry
abbrev pub first_in : Tree → ℕ
first_in s = (slot_at s (first_at s.body.inner s.body.root s.body.levels) 0).child

pub first_in_law : (s : Tree) → Body s → first_in s ≡ first_child (row s)
first_in_law s b = go (first_of_law s.body.inner s.body.root s.body.levels (full s b))
  where
    go : (X : List ℕ) × (order s ≡ first_at s.body.inner s.body.root s.body.levels ∷ X) → first_in s ≡ first_child (row s)
    go r =
        let ones = subst (λ (C : List ℕ). All (λ k. 1 ≤ length (leaf_slots s k)) C) r.1 (all_map (λ k. k < s.leaves) (λ k. 1 ≤ length (leaf_slots s k)) (λ k lt. b.leaf_one k lt) (order s) b.leaf_in_law) in
        head_first s (first_at s.body.inner s.body.root s.body.levels ∷ r.0) ones ∙ ap (λ (C : List ℕ). first_child (cat s.body.leaf.slots C)) (sym r.1)
