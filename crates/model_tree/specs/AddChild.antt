-- A node put behind another of its level, full parents split upward: the links hold again.
use Rattle.std.specs.Prelude.{◌≡◌, refl, ◌≢◌, Bool, true, false, List, [], ◌∷◌, ◌++◌, map, ℕ, zero, suc, ◌+◌, ◌≤◌, ◌<◌, eqb, length, take, drop}
use Rattle.std.proofs.Common.{sym, ap, ◌∙◌, subst, arith, take-append-drop}
use Rattle.model.specs.Lists.{All}
use Rattle.model_tree.specs.Lists.{cat, all_map, all_map₂, all_every, all_append, all_left_at, all_right, map_cong, cat_cong}
use Rattle.model_tree.specs.Levels.{Slot, Area, told, said, Links, total, none, Parent, find_parent}
use Rattle.model_tree.specs.Apart.{apart}
use Rattle.model_tree.specs.Update.{SameOwn, SameNode, said_same, total_same, links_frame}
use Rattle.model_tree.specs.Insert.{Trunk, get, Num, num_map, num_every, leaf_trans, inner_leaf, slot_of, insert_child, Into, Out, real, reals, insert_out}
use Rattle.model_tree.specs.Halve.{grow_root, grow_out, halve_at, Halved, halve_step}

pub ins_all : (Q : ℕ → Type 0) (P₁ : List ℕ) (p q : ℕ) (P₂ : List ℕ) → All Q (P₁ ++ p ∷ P₂) → Q q → All Q (P₁ ++ p ∷ q ∷ P₂)
unfolding All
ins_all Q P₁ p q P₂ h k = all_append Q P₁ (p ∷ q ∷ P₂) (all_left_at Q P₁ (p ∷ P₂) h) ((all_right Q P₁ (p ∷ P₂) h).0, (k, (all_right Q P₁ (p ∷ P₂) h).1))

pub flips : (c : ℕ) (L : List (List ℕ)) → All (All (λ m. c ≢ m)) L → All (All (λ m. m ≢ c)) L
flips c L h = all_map (All (λ m. c ≢ m)) (All (λ m. m ≢ c)) (λ Q x. all_map (λ m. c ≢ m) (λ m. m ≢ c) (λ m ne e. ne (sym e)) Q x) L h

-- the children's own words are not touched by the work above
pub own_kept : (h : ℕ) (s s₁ s₂ : Trunk) (t : ℕ → ℕ → ℕ) (C P₁ : List ℕ) (p : ℕ) (P₂ : List ℕ) (st : List (List ℕ)) (t' : ℕ → ℕ → ℕ)
    → Links t (get h s) s.inner s.root C ((P₁ ++ p ∷ P₂) ∷ st) → All (All (λ m. m < s.next)) ((P₁ ++ p ∷ P₂) ∷ st) → s.next ≤ none → Num h (All (λ m. m < s.next) C)
    → s₁.next ≡ suc s.next → Out (suc h) s₁ s₂ t' P₁ p P₂ s.next st → All (SameOwn (get h s₁) (get h s₂)) C
unfolding All
own_kept zero s s₁ s₂ t C P₁ p P₂ st t' l b cp n e o = all_every (SameOwn s₁.leaf s₂.leaf) (λ k. (ap (λ (z : Area). z.parent k) o.leafs, ap (λ (z : Area). z.place k) o.leafs)) C
own_kept (suc h) s s₁ s₂ t C P₁ p P₂ st t' l b cp n e o =
    all_map₂ (λ k. k < s.next) (λ c. All (All (λ m. c ≢ m)) ((P₁ ++ p ∷ P₂) ∷ st)) (SameOwn s₁.inner s₂.inner)
    (λ k lt x. let f = flips k ((P₁ ++ p ∷ P₂) ∷ st) x in o.keep_own k (omega arith) f.0 (λ z. omega arith) f.1) C n
    (apart t s.inner s.root C ((P₁ ++ p ∷ P₂) ∷ st) l (real s.next cp C n) (reals s.next cp ((P₁ ++ p ∷ P₂) ∷ st) b))

-- after the work above a halved parent: the hypotheses for putting sn into one of the halves
pub mid_into : (h : ℕ) (s s₁ s₂ : Trunk) (t t' : ℕ → ℕ → ℕ) (A : List ℕ) (a : ℕ) (B : List ℕ) (sn : Slot) (P₁ : List ℕ) (p : ℕ) (P₂ : List ℕ) (st : List (List ℕ))
    → Into h s t t' A a B sn ((P₁ ++ p ∷ P₂) ∷ st) → s.next ≤ none → s₁.next ≡ suc s.next
    → Halved h s s₁ t (A ++ a ∷ B) P₁ p P₂ st → (o : Out (suc h) s₁ s₂ (total s₁.inner) P₁ p P₂ s.next st)
    → Into h s₂ t t' A a B sn ((P₁ ++ p ∷ s.next ∷ P₂) ∷ o.st')
unfolding All
mid_into h s s₁ s₂ t t' A a B sn P₁ p P₂ st io cp e1 hv o = into₂
  where
    C : List ℕ
    C = A ++ a ∷ B

    q : ℕ
    q = s.next

    P⁺ : List ℕ
    P⁺ = P₁ ++ p ∷ s.next ∷ P₂

    n_c : Num h (All (λ m. m < s.next) (A ++ a ∷ B))
    n_c = num_map h (All (λ m. m < s.next) (A ++ a ∷ B) × (sn.child < s.next) × All (All (λ m. m ≢ sn.child)) ((P₁ ++ p ∷ P₂) ∷ st)) (All (λ m. m < s.next) (A ++ a ∷ B)) (λ z. z.0) io.num

    q_st : All (All (λ m. m ≢ s.next)) st
    q_st = all_map (All (λ m. m < s.next)) (All (λ m. m ≢ s.next)) (λ Q x. all_map (λ m. m < s.next) (λ m. m ≢ s.next) (λ m k z. omega arith) Q x) st io.below.1

    slots₂ : All (λ x. s₂.inner.slots x ≡ s₁.inner.slots x) (P₁ ++ p ∷ s.next ∷ P₂)
    slots₂ = ins_all (λ x. s₂.inner.slots x ≡ s₁.inner.slots x) P₁ p s.next P₂
        (all_map₂ (λ k. k < s.next) (λ c. All (All (λ m. c ≢ m)) st) (λ x. s₂.inner.slots x ≡ s₁.inner.slots x) (λ k lt x. o.keep_slots k (omega arith) (flips k st x)) (P₁ ++ p ∷ P₂) io.below.0
        (apart (total s.inner) s.inner s.root (P₁ ++ p ∷ P₂) st io.links.1 (real s.next cp (P₁ ++ p ∷ P₂) io.below.0) (reals s.next cp st io.below.1)))
        (o.keep_slots s.next (omega arith) q_st)

    link₂ : map (said t (get h s₂)) (A ++ a ∷ B) ≡ cat (told s₂.inner) (P₁ ++ p ∷ s.next ∷ P₂)
    link₂ = map_cong (said t (get h s₂)) (said t (get h s₁)) (A ++ a ∷ B)
        (all_map (SameOwn (get h s₁) (get h s₂)) (λ x. said t (get h s₂) x ≡ said t (get h s₁) x) (λ x z. said_same t t (get h s₁) (get h s₂) x z refl) (A ++ a ∷ B)
        (own_kept h s s₁ s₂ t (A ++ a ∷ B) P₁ p P₂ st (total s₁.inner) io.links io.below cp n_c e1 o))
        ∙ hv.link
        ∙ sym (cat_cong (told s₂.inner) (told s₁.inner) (P₁ ++ p ∷ s.next ∷ P₂) (all_map (λ x. s₂.inner.slots x ≡ s₁.inner.slots x) (λ x. told s₂.inner x ≡ told s₁.inner x) (λ x z. rw z) (P₁ ++ p ∷ s.next ∷ P₂) slots₂))

    upper₂ : Links (total s₂.inner) s₂.inner s₂.inner s₂.root (P₁ ++ p ∷ s.next ∷ P₂) o.st'
    upper₂ = links_frame (total s₁.inner) (total s₂.inner) s₂.inner s₂.inner s₂.inner s₂.inner s₂.root (P₁ ++ p ∷ s.next ∷ P₂) o.st' o.links
        (all_map (λ x. s₂.inner.slots x ≡ s₁.inner.slots x) (λ x. said (total s₂.inner) s₂.inner x ≡ said (total s₁.inner) s₂.inner x) (λ x z. said_same (total s₁.inner) (total s₂.inner) s₂.inner s₂.inner x (refl, refl) (total_same s₁.inner s₂.inner x z)) (P₁ ++ p ∷ s.next ∷ P₂) slots₂)
        (all_every (All (SameNode s₂.inner s₂.inner)) (λ Q. all_every (SameNode s₂.inner s₂.inner) (λ x. (refl, (refl, refl))) Q) o.st')

    le : s.next < s₂.next
    le = omega (arith, o.grew)

    out⁺ : (k : ℕ) → k < s.next → All (All (λ m. m ≢ k)) ((P₁ ++ p ∷ P₂) ∷ st) → All (All (λ m. m ≢ k)) ((P₁ ++ p ∷ s.next ∷ P₂) ∷ o.st')
    out⁺ k lt x = (ins_all (λ m. m ≢ k) P₁ p s.next P₂ x.0 (λ z. omega arith), o.keep_out k (omega arith) x.1)

    into₂ : Into h s₂ t t' A a B sn ((P₁ ++ p ∷ s.next ∷ P₂) ∷ o.st')
    into₂ = record {
      links = (link₂, upper₂);
      fresh = io.fresh;
      below = (ins_all (λ m. m < s₂.next) P₁ p s.next P₂ (all_map (λ m. m < s.next) (λ m. m < s₂.next) (λ m k. omega arith) (P₁ ++ p ∷ P₂) io.below.0) le, o.below);
      num = num_map h (All (λ m. m < s.next) (A ++ a ∷ B) × (sn.child < s.next) × All (All (λ m. m ≢ sn.child)) ((P₁ ++ p ∷ P₂) ∷ st))
          (All (λ m. m < s₂.next) (A ++ a ∷ B) × (sn.child < s₂.next) × All (All (λ m. m ≢ sn.child)) ((P₁ ++ p ∷ s.next ∷ P₂) ∷ o.st'))
          (λ z. (all_map (λ m. m < s.next) (λ m. m < s₂.next) (λ m k. omega arith) (A ++ a ∷ B) z.0, omega (arith, z.1), out⁺ sn.child z.1 z.2)) io.num;
      ta = io.ta;
      tb = io.tb;
      snl = io.snl;
      sum = io.sum;
    }

pub split_out : (h : ℕ) (s s₁ s₂ : Trunk) (t t' : ℕ → ℕ → ℕ) (A : List ℕ) (a : ℕ) (B : List ℕ) (sn : Slot) (P₁ : List ℕ) (p : ℕ) (P₂ : List ℕ) (st : List (List ℕ))
    → Into h s t t' A a B sn ((P₁ ++ p ∷ P₂) ∷ st) → s.next ≤ none → s₁.next ≡ suc s.next
    → Halved h s s₁ t (A ++ a ∷ B) P₁ p P₂ st → (o : Out (suc h) s₁ s₂ (total s₁.inner) P₁ p P₂ s.next st)
    → Out h s (insert_child h s₂ a sn) t' A a B sn.child ((P₁ ++ p ∷ P₂) ∷ st)
unfolding All
split_out h s s₁ s₂ t t' A a B sn P₁ p P₂ st io cp e1 hv o =
    finish (insert_out h s₂ t t' A a B sn (P₁ ++ p ∷ s.next ∷ P₂) o.st' (mid_into h s s₁ s₂ t t' A a B sn P₁ p P₂ st io cp e1 hv o) o.cap)
  where
    le : s.next < s₂.next
    le = omega (arith, o.grew)

    out⁺ : (k : ℕ) → k < s.next → All (All (λ m. m ≢ k)) ((P₁ ++ p ∷ P₂) ∷ st) → All (All (λ m. m ≢ k)) ((P₁ ++ p ∷ s.next ∷ P₂) ∷ o.st')
    out⁺ k lt x = (ins_all (λ m. m ≢ k) P₁ p s.next P₂ x.0 (λ z. omega arith), o.keep_out k (omega arith) x.1)

    finish : Out h s₂ (insert_child h s₂ a sn) t' A a B sn.child ((P₁ ++ p ∷ s.next ∷ P₂) ∷ o.st') → Out h s (insert_child h s₂ a sn) t' A a B sn.child ((P₁ ++ p ∷ P₂) ∷ st)
    finish i = record {
      st' = i.st';
      links = i.links;
      below = i.below;
      grew = omega (arith, i.grew);
      deep = omega (arith, i.deep, o.deep, hv.level);
      higher = omega (arith, i.higher, o.higher, hv.level);
      cap = i.cap;
      keep_slots = λ k lt x. i.keep_slots k (omega arith) (out⁺ k lt x) ∙ o.keep_slots k (omega arith) x.1 ∙ hv.keep_slots k lt (λ z. (all_right (λ m. m ≢ k) P₁ (p ∷ P₂) x.0).0 (sym z));
      keep_own = λ k lt c n x.
          let u = i.keep_own k (omega arith) c n (out⁺ k lt x) in
          let v = o.keep_own k (omega arith) x.0 (λ z. omega arith) x.1 in
          let w = hv.keep_own k lt (num_every h (All (λ m. m ≢ k) (A ++ a ∷ B)) c) in
          (u.0 ∙ v.0 ∙ w.0, u.1 ∙ v.1 ∙ w.1);
      keep_out = λ k lt x. i.keep_out k (omega arith) (out⁺ k lt x);
      back = λ k lt x.
          let u = i.back k lt x in
          let v = o.back k u.0 u.1.1 in
          let z : s.next ≢ k = (all_right (λ m. m ≢ k) P₁ (p ∷ s.next ∷ P₂) u.1.0).1.0 in
          (omega (arith, v.0), (all_append (λ m. m ≢ k) P₁ (p ∷ P₂) (all_left_at (λ m. m ≢ k) P₁ (p ∷ s.next ∷ P₂) u.1.0) ((all_right (λ m. m ≢ k) P₁ (p ∷ s.next ∷ P₂) u.1.0).0, (all_right (λ m. m ≢ k) P₁ (p ∷ s.next ∷ P₂) u.1.0).1.1), v.1));
      leafs = leaf_trans h s s₁ (insert_child h s₂ a sn) hv.leafs (leaf_trans h s₁ s₂ (insert_child h s₂ a sn) (inner_leaf h s₁ s₂ o.leafs) i.leafs);
    }

-- the trunk with a node halved, with a's parent halved, and the slot of the half that is new
abbrev pub halve : ℕ → ℕ → Trunk → ℕ → Trunk
halve half h s p = halve_at h s p (take half (s.inner.slots p)) (drop half (s.inner.slots p))

abbrev pub parent_halved : ℕ → ℕ → Trunk → ℕ → Trunk
parent_halved half h s a = halve half h s ((get h s).parent a)

abbrev pub upper_slot : ℕ → ℕ → Trunk → ℕ → Slot
upper_slot half h s a = slot_of s.next (total (parent_halved half h s a).inner s.next)

-- `add_child`: sn put behind a, d levels above a; a full parent is halved first, its upper half put behind it in turn; a full root gets a root above
abbrev pub add_child : (fan half : ℕ) → ℕ → ℕ → Trunk → ℕ → Slot → Trunk
add_child fan half zero h s a sn = grow_root h s a sn
add_child fan half (suc d) h s a sn =
    elim (eqb (length (s.inner.slots ((get h s).parent a))) fan) [
      | true ↦ insert_child h (add_child fan half d (suc h) (parent_halved half h s a) ((get h s).parent a) (upper_slot half h s a)) a sn
      | false ↦ insert_child h s a sn
    ]

pub add_links : (fan half h : ℕ) (s : Trunk) (t t' : ℕ → ℕ → ℕ) (A : List ℕ) (a : ℕ) (B : List ℕ) (sn : Slot) (st : List (List ℕ))
    → Into h s t t' A a B sn st → t' a ≡ total (get h s) a → s.next + length st < none
    → Out h s (add_child fan half (length st) h s a sn) t' A a B sn.child st
add_links fan half h s t t' A a B sn [] io kept room = grow_out h s t t' A a B sn io kept (omega arith)
add_links fan half h s t t' A a B sn (P ∷ st) io kept room =
    go (eqb (length (s.inner.slots ((get h s).parent a))) fan) refl (find_parent t (get h s) s.inner A a B P io.links.0)
    (λ P₁ P₂ i r. add_links fan half (suc h) (parent_halved half h s a) (total s.inner) (total (parent_halved half h s a).inner) P₁ ((get h s).parent a) P₂ (upper_slot half h s a) st i refl r)
  where
    full : Parent t (get h s) s.inner A a B P
        → ((P₁ P₂ : List ℕ) → Into (suc h) (parent_halved half h s a) (total s.inner) (total (parent_halved half h s a).inner) P₁ ((get h s).parent a) P₂ (upper_slot half h s a) st
        → suc s.next + length st < none
        → Out (suc h) (parent_halved half h s a) (add_child fan half (length st) (suc h) (parent_halved half h s a) ((get h s).parent a) (upper_slot half h s a)) (total (parent_halved half h s a).inner) P₁ ((get h s).parent a) P₂ s.next st)
        → Out h s (insert_child h (add_child fan half (length st) (suc h) (parent_halved half h s a) ((get h s).parent a) (upper_slot half h s a)) a sn) t' A a B sn.child (P ∷ st)
    full r ih =
        let p : ℕ = (get h s).parent a in
        let io' : Into h s t t' A a B sn ((r.P₁ ++ p ∷ r.P₂) ∷ st) = subst (λ (Q : List ℕ). Into h s t t' A a B sn (Q ∷ st)) r.row io in
        let n_c : Num h (All (λ m. m < s.next) (A ++ a ∷ B))
        = num_map h (All (λ m. m < s.next) (A ++ a ∷ B) × (sn.child < s.next) × All (All (λ m. m ≢ sn.child)) ((r.P₁ ++ p ∷ r.P₂) ∷ st)) (All (λ m. m < s.next) (A ++ a ∷ B)) (λ z. z.0) io'.num in
        let hv : Halved h s (halve half h s p) t (A ++ a ∷ B) r.P₁ p r.P₂ st
        = halve_step h s t (A ++ a ∷ B) r.P₁ p r.P₂ st (take half (s.inner.slots p)) (drop half (s.inner.slots p)) io'.links io'.below (omega arith) n_c (sym (take-append-drop half (s.inner.slots p))) in
        subst (λ (Q : List ℕ). Out h s (insert_child h (add_child fan half (length st) (suc h) (halve half h s p) p (slot_of s.next (total (halve half h s p).inner s.next))) a sn) t' A a B sn.child (Q ∷ st)) (sym r.row)
        (split_out h s (halve half h s p) (add_child fan half (length st) (suc h) (halve half h s p) p (slot_of s.next (total (halve half h s p).inner s.next))) t t' A a B sn r.P₁ p r.P₂ st io' (omega arith) refl hv (ih r.P₁ r.P₂ hv.into (omega arith)))

    go : (b : Bool) → eqb (length (s.inner.slots ((get h s).parent a))) fan ≡ b → Parent t (get h s) s.inner A a B P
        → ((P₁ P₂ : List ℕ) → Into (suc h) (parent_halved half h s a) (total s.inner) (total (parent_halved half h s a).inner) P₁ ((get h s).parent a) P₂ (upper_slot half h s a) st
        → suc s.next + length st < none
        → Out (suc h) (parent_halved half h s a) (add_child fan half (length st) (suc h) (parent_halved half h s a) ((get h s).parent a) (upper_slot half h s a)) (total (parent_halved half h s a).inner) P₁ ((get h s).parent a) P₂ s.next st)
        → Out h s (add_child fan half (suc (length st)) h s a sn) t' A a B sn.child (P ∷ st)
    go false e r ih = rw (e, add_child) (insert_out h s t t' A a B sn P st io (omega arith))
    go true e r ih = rw (e, add_child) (full r ih)
