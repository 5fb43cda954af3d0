-- A new root above the old one, and a full parent halved: what the links need one level up.
use Rattle.std.specs.Prelude.{◌≡◌, refl, ◌≢◌, List, [], ◌∷◌, ◌++◌, map, ℕ, zero, suc, ◌≤◌, ◌<◌}
use Rattle.std.proofs.Common.{sym, ap₂, ◌∙◌, arith}
use Rattle.model.specs.Lists.{All}
use Rattle.model_tree.specs.Lists.{cat, cat_append, sum_by_append, all_map, all_map₂, all_every, all_left_at, all_right, pairs_before, pairs_after, NoDup, map_cong, single_split}
use Rattle.model_tree.specs.Levels.{Slot, Area, Mark, told, said, Links, total, none}
use Rattle.model_tree.specs.Apart.{links_nodup, apart}
use Rattle.model_tree.specs.Update.{upd, upd_same, upd_other, set_slots, adopt, adopt_all, adopt_other, SameOwn, SameNode, said_same, said_adopt, total_same, links_frame, all_kids, all_said, halve_low, halve_up}
use Rattle.model_tree.specs.Insert.{Trunk, get, adopt_at, Num, LeafSame, num_map, num_every, at_slots, at_inner, at_leaf, slot_of, Into, Out, real, reals, out_of}

-- a new root above a and the node of sn
abbrev pub grow_at : ℕ → Trunk → List Slot → Trunk
grow_at h s sl = record {
  leaf = (adopt_at h s s.next 0 sl).leaf;
  inner = set_slots (adopt (adopt_at h s s.next 0 sl).inner s.next none 0) s.next sl;
  root = s.next;
  next = suc s.next;
  levels = suc s.levels;
}

abbrev pub grow_root : ℕ → Trunk → ℕ → Slot → Trunk
grow_root h s a sn = grow_at h s (slot_of a (total (get h s) a) ∷ sn ∷ [])

gr_own : (h : ℕ) (s : Trunk) (sl : List Slot) (k : ℕ) → Num h (k ≢ s.next) → SameOwn (adopt_all (get h s) s.next 0 sl) (get h (grow_at h s sl)) k
gr_own zero s sl k n = (refl, refl)
gr_own (suc h) s sl k n = adopt_other (adopt_all s.inner s.next 0 sl) s.next none 0 k n

gr_leaf : (h : ℕ) (s : Trunk) (sl : List Slot) → LeafSame h s (grow_at h s sl)
gr_leaf zero s sl = at_leaf zero s s.next 0 sl
gr_leaf (suc h) s sl = refl

pub grow_out : (h : ℕ) (s : Trunk) (t t' : ℕ → ℕ → ℕ) (A : List ℕ) (a : ℕ) (B : List ℕ) (sn : Slot)
    → Into h s t t' A a B sn [] → t' a ≡ total (get h s) a → s.next < none → Out h s (grow_root h s a sn) t' A a B sn.child []
unfolding All
grow_out h s t t' A a B sn io kept cp =
    let one = single_split A a B s.root io.links.0 in
    let r : ℕ = s.next in
    let sl : List Slot = slot_of a (total (get h s) a) ∷ sn ∷ [] in
    let s₁ : Trunk = adopt_at h s r 0 sl in
    let s' : Trunk = grow_at h s sl in
    let low₁ : Area = adopt_all (get h s) r 0 sl in
    let frs : a ≢ sn.child = (all_right (λ x. x ≢ sn.child) A (a ∷ B) io.fresh).0 in
    let na : Num h (a ≢ r) = num_map h (All (λ m. m < s.next) (A ++ a ∷ B) × (sn.child < s.next) × All (All (λ m. m ≢ sn.child)) []) (a ≢ r) (λ n e. let z : a < s.next = (all_right (λ m. m < s.next) A (a ∷ B) n.0).0 in omega arith) io.num in
    let nn : Num h (sn.child ≢ r) = num_map h (All (λ m. m < s.next) (A ++ a ∷ B) × (sn.child < s.next) × All (All (λ m. m ≢ sn.child)) []) (sn.child ≢ r) (λ n e. let z : sn.child < s.next = n.1 in omega arith) io.num in
    let ma : said t' (get h s') a ≡ record { num = a; par = r; pos = 0; wt = total (get h s) a }
    = said_same t' t' low₁ (get h s') a (gr_own h s sl a na) refl
    ∙ said_same t' t' (adopt (get h s) a r 0) low₁ a (adopt_other (adopt (get h s) a r 0) sn.child r 1 a frs) refl
    ∙ said_adopt t' (get h s) a r 0 ∙ rw kept in
    let mn : said t' (get h s') sn.child ≡ record { num = sn.child; par = r; pos = 1; wt = sn.lens }
    = said_same t' t' low₁ (get h s') sn.child (gr_own h s sl sn.child nn) refl
    ∙ said_adopt t' (adopt (get h s) a r 0) sn.child r 1 ∙ rw io.snl in
    let sr : s'.inner.slots r ≡ sl = upd_same s₁.inner.slots r sl in
    record {
      st' = (r ∷ []) ∷ [];
      links = (rw (one.0, one.2) (ap₂ ◌∷◌ ma (ap₂ ◌∷◌ mn refl) ∙ rw sr), (refl, upd_same s₁.inner.parent r none, upd_same s₁.inner.place r 0));
      below = ((omega arith, tt), tt);
      grew = omega arith;
      deep = omega arith;
      higher = omega arith;
      cap = cp;
      keep_slots = λ k lt o. upd_other s₁.inner.slots r sl k (λ e. omega arith) ∙ at_slots h s r 0 sl k;
      keep_own = λ k lt c n o.
          let x = adopt_other s₁.inner r none 0 k (λ e. omega arith) in
          let y = at_inner h s r 0 sl k (num_every h (All (λ z. k ≢ z.child) sl) ((λ e. (all_right (λ m. m ≢ k) A (a ∷ B) c).0 (sym e)), ((λ e. n (sym e)), tt))) in
          (x.0 ∙ y.0, x.1 ∙ y.1);
      keep_out = λ k lt o. (((λ e. omega arith), tt), tt);
      back = λ k lt o. (let ne : s.next ≢ k = o.0.0 in omega arith, tt);
      leafs = gr_leaf h s sl;
    }

-- node p's slots L ++ U divided between it and the next unused number
abbrev pub halve_at : ℕ → Trunk → ℕ → List Slot → List Slot → Trunk
halve_at h s p L U = record {
  leaf = (adopt_at h s s.next 0 U).leaf;
  inner = set_slots (set_slots (adopt (adopt_at h s s.next 0 U).inner s.next (s.inner.parent p) 0) p L) s.next U;
  root = s.root;
  next = suc s.next;
  levels = s.levels;
}

pub hv_own : (h : ℕ) (s : Trunk) (p : ℕ) (L U : List Slot) (k : ℕ) → Num h (k ≢ s.next) → SameOwn (adopt_all (get h s) s.next 0 U) (get h (halve_at h s p L U)) k
hv_own zero s p L U k n = (refl, refl)
hv_own (suc h) s p L U k n = adopt_other (adopt_all s.inner s.next 0 U) s.next (s.inner.parent p) 0 k n

hv_leaf : (h : ℕ) (s : Trunk) (p : ℕ) (L U : List Slot) → LeafSame h s (halve_at h s p L U)
hv_leaf zero s p L U = at_leaf zero s s.next 0 U
hv_leaf (suc h) s p L U = refl

hv_inner : (h : ℕ) (s : Trunk) (p : ℕ) (L U : List Slot) (k : ℕ) → k ≢ s.next → Num h (All (λ z. k ≢ z.child) U) → SameOwn s.inner (halve_at h s p L U).inner k
hv_inner h s p L U k ne n =
    let x = adopt_other (adopt_at h s s.next 0 U).inner s.next (s.inner.parent p) 0 k ne in
    let y = at_inner h s s.next 0 U k n in
    (x.0 ∙ y.0, x.1 ∙ y.1)

pub hv_slots : (h : ℕ) (s : Trunk) (p : ℕ) (L U : List Slot) (k : ℕ) → k ≢ p → k ≢ s.next → (halve_at h s p L U).inner.slots k ≡ s.inner.slots k
hv_slots h s p L U k np nq =
    upd_other (upd (adopt_at h s s.next 0 U).inner.slots p L) s.next U k nq ∙ upd_other (adopt_at h s s.next 0 U).inner.slots p L k np ∙ at_slots h s s.next 0 U k

pub hv_lower : (h : ℕ) (s : Trunk) (p : ℕ) (L U : List Slot) → p ≢ s.next → (halve_at h s p L U).inner.slots p ≡ L
hv_lower h s p L U ne = upd_other (upd (adopt_at h s s.next 0 U).inner.slots p L) s.next U p ne ∙ upd_same (adopt_at h s s.next 0 U).inner.slots p L

pub hv_upper : (h : ℕ) (s : Trunk) (p : ℕ) (L U : List Slot) → (halve_at h s p L U).inner.slots s.next ≡ U
hv_upper h s p L U = upd_same (upd (adopt_at h s s.next 0 U).inner.slots p L) s.next U

-- what holds of the nodes of a level holds of the children in the slots of a parent
pub kids : (t : ℕ → ℕ → ℕ) (low up : Area) (C P₁ : List ℕ) (p : ℕ) (P₂ : List ℕ) (Q : ℕ → Type 0) → map (said t low) C ≡ cat (told up) (P₁ ++ p ∷ P₂) → All Q C → All (λ z. Q z.child) (up.slots p)
kids t low up C P₁ p P₂ Q e h =
    let R : Mark → Type 0 = λ m. Q m.num in
    let x : All R (cat (told up) P₁ ++ (told up p ++ cat (told up) P₂)) = rw (e, cat_append) at (all_said t low Q C h) in
    all_kids Q p 0 (up.slots p) (all_left_at R (told up p) (cat (told up) P₂) (all_right R (cat (told up) P₁) (told up p ++ cat (told up) P₂) x))

-- the hypotheses of the recursive call, after a full parent is halved
pub record Halved (h : ℕ) (s s₁ : Trunk) (t : ℕ → ℕ → ℕ) (C : List ℕ) (P₁ : List ℕ) (p : ℕ) (P₂ : List ℕ) (st : List (List ℕ)) : Type 0 where
  pub link : map (said t (get h s₁)) C ≡ cat (told s₁.inner) (P₁ ++ p ∷ s.next ∷ P₂)
  pub into : Into (suc h) s₁ (total s.inner) (total s₁.inner) P₁ p P₂ (slot_of s.next (total s₁.inner s.next)) st
  pub keep_slots : (k : ℕ) → k < s.next → k ≢ p → s₁.inner.slots k ≡ s.inner.slots k
  pub keep_own : (k : ℕ) → k < s.next → Num h (All (λ m. m ≢ k) C) → SameOwn s.inner s₁.inner k
  pub leafs : LeafSame h s s₁
  pub level : s₁.levels ≡ s.levels

num_all : (h : ℕ) (Q : ℕ → Type 0) (l : List ℕ) → Num h (All Q l) → All (λ x. Num h (Q x)) l
num_all zero Q l x = all_every (λ x. Unit {0}) (λ x. tt) l
num_all (suc h) Q l x = x

num_alls : (h : ℕ) (Q : ℕ → Type 0) (l : List (List ℕ)) → Num h (All (All Q) l) → All (All (λ x. Num h (Q x))) l
num_alls zero Q l x = all_every (All (λ x. Unit {0})) (λ q. all_every (λ x. Unit {0}) (λ x. tt) q) l
num_alls (suc h) Q l x = x

-- below the inner levels, for a level of inner nodes: none of its nodes stands above it
pub above : (h : ℕ) (s : Trunk) (t : ℕ → ℕ → ℕ) (C : List ℕ) (L : List (List ℕ)) → Links t (get h s) s.inner s.root C L → All (All (λ m. m < s.next)) L → s.next ≤ none
    → Num h (All (λ m. m < s.next) C) → Num h (All (All (λ m. All (λ c. c ≢ m) C)) L)
above zero s t C L l b c n = tt
above (suc h) s t C L l b c n = out_of t s.inner s.root C L l (real s.next c C n) (reals s.next c L b)

pub halve_step : (h : ℕ) (s : Trunk) (t : ℕ → ℕ → ℕ) (C : List ℕ) (P₁ : List ℕ) (p : ℕ) (P₂ : List ℕ) (st : List (List ℕ)) (L U : List Slot)
    → Links t (get h s) s.inner s.root C ((P₁ ++ p ∷ P₂) ∷ st) → All (All (λ m. m < s.next)) ((P₁ ++ p ∷ P₂) ∷ st) → s.next ≤ none → Num h (All (λ m. m < s.next) C)
    → s.inner.slots p ≡ L ++ U → Halved h s (halve_at h s p L U) t C P₁ p P₂ st
unfolding All
halve_step h s t C P₁ p P₂ st L U l b cp n sl =
    let q : ℕ = s.next in
    let s₁ : Trunk = halve_at h s p L U in
    let P : List ℕ = P₁ ++ p ∷ P₂ in
    let lt : p < q = (all_right (λ m. m < q) P₁ (p ∷ P₂) b.0).0 in
    let pq : p ≢ q = λ e. omega arith in
    let nd_p : NoDup (P₁ ++ p ∷ P₂) = links_nodup (total s.inner) s.inner s.inner s.root P st l.1 in
    let b1 : All (λ x. x ≢ p) P₁ = pairs_before (λ x y. x ≢ y) P₁ p P₂ nd_p in
    let b2 : All (λ x. x ≢ p) P₂ = all_map (λ x. p ≢ x) (λ x. x ≢ p) (λ x ne e. ne (sym e)) P₂ (pairs_after (λ x y. x ≢ y) P₁ p P₂ nd_p) in
    let same : (x : ℕ) → x ≢ p → x < q → s₁.inner.slots x ≡ s.inner.slots x = λ x np lt. hv_slots h s p L U x np (λ e. omega arith) in
    let u1 : All (λ x. s₁.inner.slots x ≡ s.inner.slots x) P₁ = all_map₂ (λ x. x ≢ p) (λ x. x < q) (λ x. s₁.inner.slots x ≡ s.inner.slots x) same P₁ b1 (all_left_at (λ m. m < q) P₁ (p ∷ P₂) b.0) in
    let u2 : All (λ x. s₁.inner.slots x ≡ s.inner.slots x) P₂ = all_map₂ (λ x. x ≢ p) (λ x. x < q) (λ x. s₁.inner.slots x ≡ s.inner.slots x) same P₂ b2 (all_right (λ m. m < q) P₁ (p ∷ P₂) b.0).1 in
    let low₁ : Area = adopt_all (get h s) q 0 U in
    let cq : All (λ x. Num h (x ≢ q)) C = num_all h (λ x. x ≢ q) C (num_map h (All (λ m. m < s.next) C) (All (λ x. x ≢ q) C) (λ z. all_map (λ m. m < s.next) (λ x. x ≢ q) (λ m k e. omega arith) C z) n) in
    let sd : map (said t (get h s₁)) C ≡ map (said t low₁) C
    = map_cong (said t (get h s₁)) (said t low₁) C (all_map (λ x. Num h (x ≢ q)) (λ x. said t (get h s₁) x ≡ said t low₁ x) (λ x z. said_same t t low₁ (get h s₁) x (hv_own h s p L U x z) refl) C cq) in
    let lk : map (said t (get h s₁)) C ≡ cat (told s₁.inner) (P₁ ++ p ∷ q ∷ P₂)
    = sd ∙ halve_low t (get h s) s.inner C P₁ p P₂ L U q (links_nodup t (get h s) s.inner s.root C (P ∷ st) l) l.0 sl
    ∙ sym (halve_up s.inner s₁.inner P₁ p q P₂ L U (hv_lower h s p L U pq) (hv_upper h s p L U) u1 u2) in
    let ownk : (k : ℕ) → k < s.next → Num h (All (λ m. m ≢ k) C) → SameOwn s.inner s₁.inner k
    = λ k lt z. hv_inner h s p L U k (λ e. omega arith) (num_map h (All (λ m. m ≢ k) C) (All (λ y. k ≢ y.child) U)
    (λ z. all_right (λ y. k ≢ y.child) L U (rw sl at (kids t (get h s) s.inner C P₁ p P₂ (λ c. k ≢ c) l.0 (all_map (λ c. c ≢ k) (λ c. k ≢ c) (λ c ne e. ne (sym e)) C z)))) z) in
    let ups : All (All (SameOwn s.inner s₁.inner)) (P ∷ st)
    = all_map₂ (All (λ m. m < s.next)) (All (λ m. Num h (All (λ c. c ≢ m) C))) (All (SameOwn s.inner s₁.inner))
    (λ Q x y. all_map₂ (λ m. m < s.next) (λ m. Num h (All (λ c. c ≢ m) C)) (SameOwn s.inner s₁.inner) ownk Q x y) (P ∷ st) b
    (num_alls h (λ m. All (λ c. c ≢ m) C) (P ∷ st) (above h s t C (P ∷ st) l b cp n)) in
    let pst : All (All (λ m. m ≢ p)) st
    = all_map (All (λ m. p ≢ m)) (All (λ m. m ≢ p)) (λ Q x. all_map (λ m. p ≢ m) (λ m. m ≢ p) (λ m ne e. ne (sym e)) Q x) st
    (all_right (λ c. All (All (λ m. c ≢ m)) st) P₁ (p ∷ P₂) (apart (total s.inner) s.inner s.root P st l.1 (real s.next cp P b.0) (reals s.next cp st b.1))).0 in
    let sames : All (All (SameNode s.inner s₁.inner)) st
    = all_map₂ (λ Q. All (λ m. m < s.next) Q × All (λ m. m ≢ p) Q) (All (SameOwn s.inner s₁.inner)) (All (SameNode s.inner s₁.inner))
    (λ Q x y. all_map₂ (λ m. (m < s.next) × (m ≢ p)) (SameOwn s.inner s₁.inner) (SameNode s.inner s₁.inner) (λ m x y. (same m x.1 x.0, y)) Q
    (all_map₂ (λ m. m < s.next) (λ m. m ≢ p) (λ m. (m < s.next) × (m ≢ p)) (λ m x y. (x, y)) Q x.0 x.1) y) st
    (all_map₂ (All (λ m. m < s.next)) (All (λ m. m ≢ p)) (λ Q. All (λ m. m < s.next) Q × All (λ m. m ≢ p) Q) (λ Q x y. (x, y)) st b.1 pst) ups.1 in
    let q-fresh : All (All (λ m. m ≢ q)) (P ∷ st) = all_map (All (λ m. m < s.next)) (All (λ m. m ≢ q)) (λ Q x. all_map (λ m. m < s.next) (λ m. m ≢ q) (λ m k e. omega arith) Q x) (P ∷ st) b in
    let b' : All (All (λ m. m < s₁.next)) (P ∷ st) = all_map (All (λ m. m < s.next)) (All (λ m. m < s₁.next)) (λ Q x. all_map (λ m. m < s.next) (λ m. m < s₁.next) (λ m k. omega arith) Q x) (P ∷ st) b in
    record {
      link = lk;
      into = record {
        links = links_frame (total s.inner) (total s.inner) s.inner s₁.inner s.inner s₁.inner s.root P st l.1
            (all_map (SameOwn s.inner s₁.inner) (λ x. said (total s.inner) s₁.inner x ≡ said (total s.inner) s.inner x) (λ x o. said_same (total s.inner) (total s.inner) s.inner s₁.inner x o refl) P ups.0) sames;
        fresh = q-fresh.0;
        below = b'.1;
        num = (b'.0, omega arith, q-fresh.1);
        ta = all_map (λ x. s₁.inner.slots x ≡ s.inner.slots x) (λ x. total s₁.inner x ≡ total s.inner x) (total_same s.inner s₁.inner) P₁ u1;
        tb = all_map (λ x. s₁.inner.slots x ≡ s.inner.slots x) (λ x. total s₁.inner x ≡ total s.inner x) (total_same s.inner s₁.inner) P₂ u2;
        snl = refl;
        sum = λ v. rw (hv_lower h s p L U pq, hv_upper h s p L U, sl, sum_by_append);
      };
      keep_slots = λ k lt np. same k np lt;
      keep_own = ownk;
      leafs = hv_leaf h s p L U;
      level = refl;
    }
