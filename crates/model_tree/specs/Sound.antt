-- The levels are determined by the inner area and the root; the row under a leaf split and under a change of one leaf.
use Rattle.std.specs.Prelude.{◌≡◌, refl, ◌≢◌, List, [], ◌∷◌, ◌++◌, map, ℕ, zero, suc, ◌+◌, ◌≤◌, ◌<◌, length}
use Rattle.std.proofs.Common.{sym, ap, ap₂, ◌∙◌, append_assoc, arith}
use Rattle.model.specs.Lists.{sum_by, All}
use Rattle.model_tree.specs.Lists.{cat, cat_append, map_append, sum_by_append, sum_by_cat, all_map, all_map₂, all_every, all_left_at, all_right, pairs_before, pairs_after, NoDup, cat_cong}
use Rattle.model_tree.specs.Levels.{len, Slot, Area, Mark, marks, told, said, Links, total, none}
use Rattle.model_tree.specs.Apart.{links_nodup, Real}
use Rattle.model_tree.specs.Update.{adopt, adopt_other, upd, upd_same, upd_other, set_slots, SameNode, said_same, total_same, links_frame}
use Rattle.model_tree.specs.Insert.{Trunk, Into, Out, slot_of}
use Rattle.model_tree.specs.AddChild.{add_child, add_links}
use Rattle.model_tree.specs.Carry.{carry, carry_links}

abbrev pub kids_of : Area → ℕ → List ℕ
kids_of up p = map (λ s. s.child) (up.slots p)

abbrev pub lvl : Area → ℕ → ℕ → List ℕ
lvl up root zero = root ∷ []
lvl up root (suc d) = cat (kids_of up) (lvl up root d)

abbrev pub stack : Area → ℕ → ℕ → List (List ℕ)
stack up root zero = []
stack up root (suc d) = lvl up root d ∷ stack up root d

map_num : (t : ℕ → ℕ → ℕ) (low : Area) (C : List ℕ) → map (λ (m : Mark). m.num) (map (said t low) C) ≡ C
map_num t low [] = refl
map_num t low (c ∷ C) = ap₂ ◌∷◌ refl (map_num t low C)

num_marks : (p i : ℕ) (ss : List Slot) → map (λ (m : Mark). m.num) (marks p i ss) ≡ map (λ s. s.child) ss
num_marks p i [] = refl
num_marks p i (s ∷ ss) = ap₂ ◌∷◌ refl (num_marks p (suc i) ss)

num_told : (up : Area) (P : List ℕ) → map (λ (m : Mark). m.num) (cat (told up) P) ≡ cat (kids_of up) P
num_told up [] = refl
num_told up (p ∷ P) = map_append (λ (m : Mark). m.num) (told up p) (cat (told up) P) ∙ ap₂ ◌++◌ (num_marks p 0 (up.slots p)) (num_told up P)

pub level_is : (t : ℕ → ℕ → ℕ) (low up : Area) (root : ℕ) (C : List ℕ) (st : List (List ℕ)) → Links t low up root C st → (C ≡ lvl up root (length st)) × (st ≡ stack up root (length st))
level_is t low up root C [] l = (l.0, refl)
level_is t low up root C (P ∷ st) l =
    let ih = level_is (total up) up up root P st l.1 in
    (sym (map_num t low C) ∙ ap (map (λ (m : Mark). m.num)) l.0 ∙ num_told up P ∙ ap (cat (kids_of up)) ih.0, ap₂ ◌∷◌ ih.0 ih.1)

-- links hold where every node of every level says of its children what they say of themselves
pub map_cat : {A B D : Type 0} (g : B → D) (f : A → List B) (P : List A) → map g (cat f P) ≡ cat (λ p. map g (f p)) P
map_cat g f [] = refl
map_cat g f (p ∷ P) = rw (map_append, map_cat g f P)

abbrev pub Local : (ℕ → ℕ → ℕ) → Area → Area → ℕ → Type 0
Local t low up p = map (said t low) (kids_of up p) ≡ told up p

abbrev pub Locals : (ℕ → ℕ → ℕ) → Area → Area → ℕ → ℕ → Type 0
Locals t low up root zero = (low.parent root ≡ none) × (low.place root ≡ 0)
Locals t low up root (suc d) = All (Local t low up) (lvl up root d) × Locals (total up) up up root d

pub links_of : (t : ℕ → ℕ → ℕ) (low up : Area) (root d : ℕ) → Locals t low up root d → Links t low up root (lvl up root d) (stack up root d)
links_of t low up root zero l = (refl, l.0, l.1)
links_of t low up root (suc d) l =
    (map_cat (said t low) (kids_of up) (lvl up root d) ∙ cat_cong (λ p. map (said t low) (kids_of up p)) (told up) (lvl up root d) l.0, links_of (total up) up up root d l.1)

slots_cong : (a b : Area) (C : List ℕ) → All (λ x. b.slots x ≡ a.slots x) C → cat b.slots C ≡ cat a.slots C
slots_cong a b C h = cat_cong b.slots a.slots C h

abbrev pub cut_leaf : Area → ℕ → ℕ → List Slot → List Slot → Area
cut_leaf leaf a n L U = set_slots (adopt (set_slots leaf a L) n (leaf.parent a) 0) n U

abbrev pub cut_trunk : Trunk → ℕ → ℕ → List Slot → List Slot → Trunk
cut_trunk s a n L U = record { leaf = cut_leaf s.leaf a n L U; inner = s.inner; root = s.root; next = s.next; levels = s.levels }

pub record LeafSplit (s s' : Trunk) (A : List ℕ) (a n : ℕ) (B : List ℕ) (st : List (List ℕ)) (L U : List Slot) : Type 0 where
  pub st' : List (List ℕ)
  pub links : Links (total s'.leaf) s'.leaf s'.inner s'.root (A ++ a ∷ n ∷ B) st'
  pub row : cat s'.leaf.slots (A ++ a ∷ n ∷ B) ≡ cat s.leaf.slots (A ++ a ∷ B)
  pub below : All (All (λ m. m < s'.next)) st'
  pub back : (k : ℕ) → k < s'.next → All (All (λ m. m ≢ k)) st' → (k < s.next) × All (All (λ m. m ≢ k)) st
  pub deep : length st' + s.levels ≡ length st + s'.levels
  pub higher : s.levels ≤ s'.levels
  pub cap : s'.next ≤ none
  pub leafs : (k : ℕ) → s'.leaf.slots k ≡ upd (upd s.leaf.slots a L) n U k
  pub into : Into 0 (cut_trunk s a n L U) (total s.leaf) (total (cut_leaf s.leaf a n L U)) A a B (slot_of n (total (cut_leaf s.leaf a n L U) n)) st

abbrev pub split_leaf : (fan half d : ℕ) → Trunk → ℕ → ℕ → List Slot → List Slot → Trunk
split_leaf fan half d s a n L U =
    add_child fan half d 0 (record { leaf = cut_leaf s.leaf a n L U; inner = s.inner; root = s.root; next = s.next; levels = s.levels }) a (slot_of n (total (cut_leaf s.leaf a n L U) n))

pub split_leaf_law : (fan half : ℕ) (s : Trunk) (A : List ℕ) (a n : ℕ) (B : List ℕ) (st : List (List ℕ)) (L U : List Slot)
    → Links (total s.leaf) s.leaf s.inner s.root (A ++ a ∷ B) st → All (λ m. m < n) (A ++ a ∷ B) → All (All (λ m. m < s.next)) st → s.next + length st < none
    → s.leaf.slots a ≡ L ++ U → LeafSplit s (split_leaf fan half (length st) s a n L U) A a n B st L U
unfolding All
split_leaf_law fan half s A a n B st L U l ln b room sl = go (add_links fan half 0 s₁ (total s.leaf) (total leaf₁) A a B (slot_of n (total leaf₁ n)) st into refl room)
  where
    leaf₁ : Area
    leaf₁ = cut_leaf s.leaf a n L U

    s₁ : Trunk
    s₁ = record { leaf = cut_leaf s.leaf a n L U; inner = s.inner; root = s.root; next = s.next; levels = s.levels }

    an : a ≢ n
    an = λ e. let z : a < n = (all_right (λ m. m < n) A (a ∷ B) ln).0 in omega arith

    nd : NoDup (A ++ a ∷ B)
    nd = links_nodup (total s.leaf) s.leaf s.inner s.root (A ++ a ∷ B) st l

    same : (x : ℕ) → x ≢ a → x < n → (cut_leaf s.leaf a n L U).slots x ≡ s.leaf.slots x
    same x na lt = upd_other (upd s.leaf.slots a L) n U x (λ e. omega arith) ∙ upd_other s.leaf.slots a L x na

    lo : (cut_leaf s.leaf a n L U).slots a ≡ L
    lo = upd_other (upd s.leaf.slots a L) n U a an ∙ upd_same s.leaf.slots a L

    hi : (cut_leaf s.leaf a n L U).slots n ≡ U
    hi = upd_same (upd s.leaf.slots a L) n U

    u_a : All (λ x. (cut_leaf s.leaf a n L U).slots x ≡ s.leaf.slots x) A
    u_a = all_map₂ (λ x. x ≢ a) (λ x. x < n) (λ x. (cut_leaf s.leaf a n L U).slots x ≡ s.leaf.slots x) same A (pairs_before (λ x y. x ≢ y) A a B nd) (all_left_at (λ m. m < n) A (a ∷ B) ln)

    u_b : All (λ x. (cut_leaf s.leaf a n L U).slots x ≡ s.leaf.slots x) B
    u_b = all_map₂ (λ x. a ≢ x) (λ x. x < n) (λ x. (cut_leaf s.leaf a n L U).slots x ≡ s.leaf.slots x) (λ x ne lt. same x (λ e. ne (sym e)) lt) B (pairs_after (λ x y. x ≢ y) A a B nd) (all_right (λ m. m < n) A (a ∷ B) ln).1

    into : Into 0 s₁ (total s.leaf) (total (cut_leaf s.leaf a n L U)) A a B (slot_of n (total (cut_leaf s.leaf a n L U) n)) st
    into = record {
      links = links_frame (total s.leaf) (total s.leaf) s.leaf (cut_leaf s.leaf a n L U) s.inner s.inner s.root (A ++ a ∷ B) st l
          (all_map (λ x. x < n) (λ x. said (total s.leaf) (cut_leaf s.leaf a n L U) x ≡ said (total s.leaf) s.leaf x)
          (λ x lt. said_same (total s.leaf) (total s.leaf) s.leaf (cut_leaf s.leaf a n L U) x (adopt_other s.leaf n (s.leaf.parent a) 0 x (λ e. omega arith)) refl) (A ++ a ∷ B) ln)
          (all_every (All (SameNode s.inner s.inner)) (λ Q. all_every (SameNode s.inner s.inner) (λ x. (refl, (refl, refl))) Q) st);
      fresh = all_map (λ m. m < n) (λ x. x ≢ n) (λ m k e. omega arith) (A ++ a ∷ B) ln;
      below = b;
      num = tt;
      ta = all_map (λ x. (cut_leaf s.leaf a n L U).slots x ≡ s.leaf.slots x) (λ x. total (cut_leaf s.leaf a n L U) x ≡ total s.leaf x) (total_same s.leaf (cut_leaf s.leaf a n L U)) A u_a;
      tb = all_map (λ x. (cut_leaf s.leaf a n L U).slots x ≡ s.leaf.slots x) (λ x. total (cut_leaf s.leaf a n L U) x ≡ total s.leaf x) (total_same s.leaf (cut_leaf s.leaf a n L U)) B u_b;
      snl = refl;
      sum = λ v. rw (lo, hi, sl, sum_by_append);
    }

    go : Out 0 s₁ (split_leaf fan half (length st) s a n L U) (total (cut_leaf s.leaf a n L U)) A a B n st → LeafSplit s (split_leaf fan half (length st) s a n L U) A a n B st L U
    go o =
        let s' : Trunk = split_leaf fan half (length st) s a n L U in
        record {
          st' = o.st';
          links = links_frame (total leaf₁) (total s'.leaf) s'.leaf s'.leaf s'.inner s'.inner s'.root (A ++ a ∷ n ∷ B) o.st' o.links
              (all_every (λ x. said (total s'.leaf) s'.leaf x ≡ said (total leaf₁) s'.leaf x) (λ x. said_same (total leaf₁) (total s'.leaf) s'.leaf s'.leaf x (refl, refl) (total_same leaf₁ s'.leaf x (o.leafs x))) (A ++ a ∷ n ∷ B))
              (all_every (All (SameNode s'.inner s'.inner)) (λ Q. all_every (SameNode s'.inner s'.inner) (λ x. (refl, (refl, refl))) Q) o.st');
          row = slots_cong leaf₁ s'.leaf (A ++ a ∷ n ∷ B) (all_every (λ x. s'.leaf.slots x ≡ leaf₁.slots x) o.leafs (A ++ a ∷ n ∷ B))
              ∙ cat_append leaf₁.slots A (a ∷ n ∷ B)
              ∙ ap₂ ◌++◌ (slots_cong s.leaf leaf₁ A u_a) (ap₂ ◌++◌ lo (ap₂ ◌++◌ hi (slots_cong s.leaf leaf₁ B u_b)) ∙ sym (append_assoc L U (cat s.leaf.slots B)) ∙ rw sl)
              ∙ sym (cat_append s.leaf.slots A (a ∷ B));
          below = o.below;
          back = o.back;
          deep = o.deep;
          higher = o.higher;
          cap = o.cap;
          leafs = o.leafs;
          into = into;
        }

-- a change of one leaf's slots, carried up
pub record Changed (leaf up leaf' up' : Area) (root : ℕ) (A : List ℕ) (c : ℕ) (B : List ℕ) (st : List (List ℕ)) (ss : List Slot) : Type 0 where
  pub links : Links (total leaf') leaf' up' root (A ++ c ∷ B) st
  pub row : cat leaf'.slots (A ++ c ∷ B) ≡ cat leaf.slots A ++ (ss ++ cat leaf.slots B)

pub change_leaf : (f : ℕ → ℕ → ℕ) (leaf up : Area) (root : ℕ) (A : List ℕ) (c : ℕ) (B : List ℕ) (st : List (List ℕ)) (ss : List Slot) (most : ℕ → ℕ)
    → Links (total leaf) leaf up root (A ++ c ∷ B) st → All Real st
    → ((v : ℕ) → sum_by (len v) (cat leaf.slots A ++ (ss ++ cat leaf.slots B)) ≤ most v)
    → ((v y : ℕ) → sum_by (len v) ss + y ≤ most v → f v (total leaf c v + y) ≡ sum_by (len v) ss + y)
    → Changed leaf up (set_slots leaf c ss) (carry f (length st) up (leaf.parent c) (leaf.place c)) root A c B st ss
change_leaf f leaf up root A c B st ss most l re mo fp =
    let leaf' : Area = set_slots leaf c ss in
    let nd : NoDup (A ++ c ∷ B) = links_nodup (total leaf) leaf up root (A ++ c ∷ B) st l in
    let so : (x : ℕ) → x ≢ c → leaf'.slots x ≡ leaf.slots x = λ x ne. upd_other leaf.slots c ss x ne in
    let sc : leaf'.slots c ≡ ss = upd_same leaf.slots c ss in
    let u_a : All (λ x. leaf'.slots x ≡ leaf.slots x) A = all_map (λ x. x ≢ c) (λ x. leaf'.slots x ≡ leaf.slots x) so A (pairs_before (λ x y. x ≢ y) A c B nd) in
    let u_b : All (λ x. leaf'.slots x ≡ leaf.slots x) B = all_map (λ x. c ≢ x) (λ x. leaf'.slots x ≡ leaf.slots x) (λ x ne. so x (λ e. ne (sym e))) B (pairs_after (λ x y. x ≢ y) A c B nd) in
    let rowEq : cat leaf'.slots (A ++ c ∷ B) ≡ cat leaf.slots A ++ (ss ++ cat leaf.slots B)
    = cat_append leaf'.slots A (c ∷ B) ∙ ap₂ ◌++◌ (slots_cong leaf leaf' A u_a) (ap₂ ◌++◌ sc (slots_cong leaf leaf' B u_b)) in
    let tc : (v : ℕ) → total leaf' c v ≡ sum_by (len v) ss = λ v. ap (sum_by (len v)) sc in
    let k = carry_links f (total leaf) (total leaf') leaf leaf' up root A c B st most l re (λ x. (refl, refl))
    (all_map (λ x. leaf'.slots x ≡ leaf.slots x) (λ x. total leaf' x ≡ total leaf x) (total_same leaf leaf') A u_a)
    (all_map (λ x. leaf'.slots x ≡ leaf.slots x) (λ x. total leaf' x ≡ total leaf x) (total_same leaf leaf') B u_b)
    (λ v. let e : sum_by (λ x. total leaf' x v) (A ++ c ∷ B) ≡ sum_by (len v) (cat leaf.slots A ++ (ss ++ cat leaf.slots B)) = sym (sum_by_cat (len v) leaf'.slots (A ++ c ∷ B)) ∙ ap (sum_by (len v)) rowEq in omega (arith, mo v))
    (λ v y h. let e : total leaf' c v ≡ sum_by (len v) ss = tc v in rw e (fp v y (rw e at h))) in
    record { links = k.links; row = rowEq }
