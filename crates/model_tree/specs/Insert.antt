-- A node put behind another below a parent that has room: the links hold again.
use Rattle.std.specs.Prelude.{◌≡◌, refl, ◌≢◌, List, [], ◌∷◌, ◌++◌, ℕ, zero, suc, ◌+◌, ◌-◌, ◌≤◌, ◌<◌, length, take, drop, get_or}
use Rattle.std.proofs.Common.{sym, ap, ◌∙◌, subst, arith}
use Rattle.std.proofs.Math.Path.{fun_ext}
use Rattle.std.proofs.Math.Seq.{take-append_seam, get_or-append_seam}
use Rattle.model.specs.Lists.{All}
use Rattle.model_tree.specs.Lists.{cat, all_map, all_map₂, all_every, all_left_at, all_right, all_swap}
use Rattle.model_tree.specs.Levels.{no_slot, Slot, Area, Mark, marks, told, Links, total, none, Parent, find_parent}
use Rattle.model_tree.specs.Apart.{Real, apart}
use Rattle.model_tree.specs.Update.{upd_same, upd_other, set_slots, adopt_all, adopt_all_slots, adopt_all_other, SameOwn, all_kids, all_said, insert_links}

pub record Trunk : Type 0 where
  pub leaf : Area
  pub inner : Area
  pub root : ℕ
  pub next : ℕ
  pub levels : ℕ

-- height 0: the leaf area; above: the inner area
abbrev pub get : ℕ → Trunk → Area
get zero s = s.leaf
get (suc h) s = s.inner

abbrev pub with_inner : Trunk → Area → Trunk
with_inner s a = record { leaf = s.leaf; inner = a; root = s.root; next = s.next; levels = s.levels }

abbrev pub adopt_at : ℕ → Trunk → ℕ → ℕ → List Slot → Trunk
adopt_at zero s p i S = record { leaf = adopt_all s.leaf p i S; inner = s.inner; root = s.root; next = s.next; levels = s.levels }
adopt_at (suc h) s p i S = with_inner s (adopt_all s.inner p i S)

abbrev pub Num : ℕ → Type 0 → Type 0
Num zero X = Unit {0}
Num (suc h) X = X

abbrev pub LeafSame : ℕ → Trunk → Trunk → Type 0
LeafSame zero s s' = (k : ℕ) → s'.leaf.slots k ≡ s.leaf.slots k
LeafSame (suc h) s s' = s'.leaf ≡ s.leaf

pub num_map : (h : ℕ) (X Y : Type 0) → (X → Y) → Num h X → Num h Y
num_map zero X Y f x = tt
num_map (suc h) X Y f x = f x

pub num_every : (h : ℕ) (X : Type 0) → X → Num h X
num_every zero X x = tt
num_every (suc h) X x = x

pub leaf_trans : (h : ℕ) (a b c : Trunk) → LeafSame h a b → LeafSame h b c → LeafSame h a c
leaf_trans zero a b c x y = λ k. y k ∙ x k
leaf_trans (suc h) a b c x y = y ∙ x

pub inner_leaf : (h : ℕ) (a b : Trunk) → LeafSame (suc h) a b → LeafSame h a b
inner_leaf zero a b x = λ k. ap (λ (z : Area). z.slots k) x
inner_leaf (suc h) a b x = x

pub at_slots : (h : ℕ) (s : Trunk) (p i : ℕ) (S : List Slot) (k : ℕ) → (adopt_at h s p i S).inner.slots k ≡ s.inner.slots k
at_slots zero s p i S k = refl
at_slots (suc h) s p i S k = adopt_all_slots s.inner p i S k

pub at_inner : (h : ℕ) (s : Trunk) (p i : ℕ) (S : List Slot) (k : ℕ) → Num h (All (λ z. k ≢ z.child) S) → SameOwn s.inner (adopt_at h s p i S).inner k
at_inner zero s p i S k n = (refl, refl)
at_inner (suc h) s p i S k n = adopt_all_other s.inner p i S k n

pub at_leaf : (h : ℕ) (s : Trunk) (p i : ℕ) (S : List Slot) → LeafSame h s (adopt_at h s p i S)
at_leaf zero s p i S = λ k. adopt_all_slots s.leaf p i S k
at_leaf (suc h) s p i S = refl

pub at_next : (h : ℕ) (s : Trunk) (p i : ℕ) (S : List Slot) → (adopt_at h s p i S).next ≡ s.next
at_next zero s p i S = refl
at_next (suc h) s p i S = refl

pub at_root : (h : ℕ) (s : Trunk) (p i : ℕ) (S : List Slot) → (adopt_at h s p i S).root ≡ s.root
at_root zero s p i S = refl
at_root (suc h) s p i S = refl

at_levels : (h : ℕ) (s : Trunk) (p i : ℕ) (S : List Slot) → (adopt_at h s p i S).levels ≡ s.levels
at_levels zero s p i S = refl
at_levels (suc h) s p i S = refl

abbrev pub lessen : Slot → (ℕ → ℕ) → Slot
lessen s u = record { child = s.child; lens = λ v. s.lens v - u v }

abbrev pub slot_of : ℕ → (ℕ → ℕ) → Slot
slot_of c u = record { child = c; lens = u }

-- sn put behind slot i of node p, whose slots are S₁, sa, S₂
abbrev pub insert_at : ℕ → Trunk → ℕ → ℕ → List Slot → Slot → Slot → List Slot → Trunk
insert_at h s p i S₁ sa sn S₂ = with_inner (adopt_at h s p (suc i) (sn ∷ S₂)) (set_slots (adopt_at h s p (suc i) (sn ∷ S₂)).inner p (S₁ ++ sa ∷ sn ∷ S₂))

abbrev pub insert_child : ℕ → Trunk → ℕ → Slot → Trunk
insert_child h s a sn =
    let p : ℕ = (get h s).parent a in
    let i : ℕ = (get h s).place a in
    let ss : List Slot = s.inner.slots p in
    insert_at h s p i (take i ss) (lessen (get_or ss i no_slot) sn.lens) sn (drop (suc i) ss)

drop_past : {A : Type 0} (xs : List A) (y : A) (ys : List A) → drop (suc (length xs)) (xs ++ y ∷ ys) ≡ ys
drop_past [] y ys = refl
drop_past (x ∷ xs) y ys = drop_past xs y ys

pub insert_is : (h : ℕ) (s : Trunk) (a : ℕ) (sn : Slot) (t : ℕ → ℕ → ℕ) (A B P : List ℕ) (r : Parent t (get h s) s.inner A a B P)
    → insert_child h s a sn ≡ insert_at h s ((get h s).parent a) (length r.S₁) r.S₁ (lessen r.s sn.lens) sn r.S₂
insert_is h s a sn t A B P r =
    let e : (i : ℕ) (ss : List Slot) → i ≡ length r.S₁ → ss ≡ r.S₁ ++ r.s ∷ r.S₂
    → insert_at h s ((get h s).parent a) i (take i ss) (lessen (get_or ss i no_slot) sn.lens) sn (drop (suc i) ss)
    ≡ insert_at h s ((get h s).parent a) (length r.S₁) r.S₁ (lessen r.s sn.lens) sn r.S₂
    = λ i ss ei es. rw (ei, es, take-append_seam, get_or-append_seam, drop_past) in
    e ((get h s).place a) (s.inner.slots ((get h s).parent a)) r.place r.slots

pub record Into (h : ℕ) (s : Trunk) (t t' : ℕ → ℕ → ℕ) (A : List ℕ) (a : ℕ) (B : List ℕ) (sn : Slot) (st : List (List ℕ)) : Type 0 where
  pub links : Links t (get h s) s.inner s.root (A ++ a ∷ B) st
  pub fresh : All (λ x. x ≢ sn.child) (A ++ a ∷ B)
  pub below : All (All (λ m. m < s.next)) st
  pub num : Num h (All (λ m. m < s.next) (A ++ a ∷ B) × (sn.child < s.next) × All (All (λ m. m ≢ sn.child)) st)
  pub ta : All (λ x. t' x ≡ t x) A
  pub tb : All (λ x. t' x ≡ t x) B
  pub snl : sn.lens ≡ t' sn.child
  pub sum : (v : ℕ) → t' a v + t' sn.child v ≡ t a v

pub record Out (h : ℕ) (s s' : Trunk) (t' : ℕ → ℕ → ℕ) (A : List ℕ) (a : ℕ) (B : List ℕ) (new : ℕ) (st : List (List ℕ)) : Type 0 where
  pub st' : List (List ℕ)
  pub links : Links t' (get h s') s'.inner s'.root (A ++ a ∷ new ∷ B) st'
  pub below : All (All (λ m. m < s'.next)) st'
  pub grew : s.next ≤ s'.next
  pub deep : length st' + s.levels ≡ length st + s'.levels
  pub higher : s.levels ≤ s'.levels
  pub cap : s'.next ≤ none
  pub keep_slots : (k : ℕ) → k < s.next → All (All (λ m. m ≢ k)) st → s'.inner.slots k ≡ s.inner.slots k
  pub keep_own : (k : ℕ) → k < s.next → All (λ m. m ≢ k) (A ++ a ∷ B) → new ≢ k → All (All (λ m. m ≢ k)) st → SameOwn s.inner s'.inner k
  pub keep_out : (k : ℕ) → k < s.next → All (All (λ m. m ≢ k)) st → All (All (λ m. m ≢ k)) st'
  pub back : (k : ℕ) → k < s'.next → All (All (λ m. m ≢ k)) st' → (k < s.next) × All (All (λ m. m ≢ k)) st
  pub leafs : LeafSame h s s'

pub real : (n : ℕ) → n ≤ none → (l : List ℕ) → All (λ m. m < n) l → Real l
real n c l h = all_map (λ m. m < n) (λ m. m ≢ none) (λ m k e. omega arith) l h

pub reals : (n : ℕ) → n ≤ none → (l : List (List ℕ)) → All (All (λ m. m < n)) l → All Real l
reals n c l h = all_map (All (λ m. m < n)) Real (real n c) l h

-- the nodes of the levels above a level are none of that level
pub out_of : (t : ℕ → ℕ → ℕ) (up : Area) (root : ℕ) (C : List ℕ) (L : List (List ℕ)) → Links t up up root C L → Real C → All Real L → All (All (λ m. All (λ c. c ≢ m) C)) L
out_of t up root C L l r rs =
    all_map (λ Q. All (λ c. All (λ m. c ≢ m) Q) C) (All (λ m. All (λ c. c ≢ m) C)) (λ Q h. all_swap (λ c m. c ≢ m) C Q h) L
    (all_swap (λ c Q. All (λ m. c ≢ m) Q) C L (apart t up root C L l r rs))

-- what holds of the nodes behind a holds of the children in the slots behind a's
pub behind : (t : ℕ → ℕ → ℕ) (low up : Area) (A : List ℕ) (a : ℕ) (B P : List ℕ) (r : Parent t low up A a B P) (Q : ℕ → Type 0) → All Q B → All (λ z. Q z.child) r.S₂
behind t low up A a B P r Q h =
    all_kids Q (low.parent a) (suc (length r.S₁)) r.S₂
    (all_left_at (λ (m : Mark). Q m.num) (marks (low.parent a) (suc (length r.S₁)) r.S₂) (cat (told up) r.P₂) (rw r.after at (all_said t low Q B h)))

ins_own : (h : ℕ) (s : Trunk) (p i : ℕ) (S₁ : List Slot) (sa sn : Slot) (S₂ : List Slot) (k : ℕ) → SameOwn (adopt_all (get h s) p (suc i) (sn ∷ S₂)) (get h (insert_at h s p i S₁ sa sn S₂)) k
ins_own zero s p i S₁ sa sn S₂ k = (refl, refl)
ins_own (suc h) s p i S₁ sa sn S₂ k = (refl, refl)

ins_leaf : (h : ℕ) (s : Trunk) (p i : ℕ) (S₁ : List Slot) (sa sn : Slot) (S₂ : List Slot) → LeafSame h s (insert_at h s p i S₁ sa sn S₂)
ins_leaf zero s p i S₁ sa sn S₂ = at_leaf zero s p (suc i) (sn ∷ S₂)
ins_leaf (suc h) s p i S₁ sa sn S₂ = refl

outs : (h : ℕ) (s : Trunk) (t : ℕ → ℕ → ℕ) (A : List ℕ) (a : ℕ) (B : List ℕ) (sn : Slot) (P : List ℕ) (st : List (List ℕ)) (r : Parent t (get h s) s.inner A a B P)
    → Links t (get h s) s.inner s.root (A ++ a ∷ B) (P ∷ st) → All (All (λ m. m < s.next)) (P ∷ st) → s.next ≤ none
    → Num h (All (λ m. m < s.next) (A ++ a ∷ B) × (sn.child < s.next) × All (All (λ m. m ≢ sn.child)) (P ∷ st))
    → All (All (λ m. Num h (All (λ z. m ≢ z.child) (sn ∷ r.S₂)))) (P ∷ st)
unfolding All
outs zero s t A a B sn P st r l b c n = all_every (All (λ m. Unit {0})) (λ Q. all_every (λ m. Unit {0}) (λ m. tt) Q) (P ∷ st)
outs (suc h) s t A a B sn P st r l b c n =
    all_map₂ (All (λ m. All (λ x. x ≢ m) (A ++ a ∷ B))) (All (λ m. m ≢ sn.child)) (All (λ m. All (λ z. m ≢ z.child) (sn ∷ r.S₂)))
    (λ Q x y. all_map₂ (λ m. All (λ x. x ≢ m) (A ++ a ∷ B)) (λ m. m ≢ sn.child) (λ m. All (λ z. m ≢ z.child) (sn ∷ r.S₂))
    (λ m x y. (y, behind t s.inner s.inner A a B P r (λ c. m ≢ c) (all_map (λ c. c ≢ m) (λ c. m ≢ c) (λ c ne e. ne (sym e)) B (all_right (λ c. c ≢ m) A (a ∷ B) x).1))) Q x y)
    (P ∷ st) (out_of t s.inner s.root (A ++ a ∷ B) (P ∷ st) l (real s.next c (A ++ a ∷ B) n.0) (reals s.next c (P ∷ st) b)) n.2

pub insert_out : (h : ℕ) (s : Trunk) (t t' : ℕ → ℕ → ℕ) (A : List ℕ) (a : ℕ) (B : List ℕ) (sn : Slot) (P : List ℕ) (st : List (List ℕ))
    → Into h s t t' A a B sn (P ∷ st) → s.next ≤ none → Out h s (insert_child h s a sn) t' A a B sn.child (P ∷ st)
unfolding All
insert_out h s t t' A a B sn P st io cp = go (find_parent t (get h s) s.inner A a B P io.links.0)
  where
    make : (r : Parent t (get h s) s.inner A a B P) → Out h s (insert_at h s ((get h s).parent a) (length r.S₁) r.S₁ (lessen r.s sn.lens) sn r.S₂) t' A a B sn.child (P ∷ st)
    make r =
        let p : ℕ = (get h s).parent a in
        let i : ℕ = length r.S₁ in
        let sa : Slot = lessen r.s sn.lens in
        let s₁ : Trunk = adopt_at h s p (suc i) (sn ∷ r.S₂) in
        let s' : Trunk = insert_at h s p i r.S₁ sa sn r.S₂ in
        let so : (k : ℕ) → k ≢ p → s'.inner.slots k ≡ s.inner.slots k
        = λ k ne. upd_other s₁.inner.slots p (r.S₁ ++ sa ∷ sn ∷ r.S₂) k ne ∙ at_slots h s p (suc i) (sn ∷ r.S₂) k in
        let own : (m : ℕ) → Num h (All (λ z. m ≢ z.child) (sn ∷ r.S₂)) → SameOwn s.inner s'.inner m
        = λ m n. at_inner h s p (suc i) (sn ∷ r.S₂) m n in
        let os : All (All (SameOwn s.inner s'.inner)) (P ∷ st)
        = all_map (All (λ m. Num h (All (λ z. m ≢ z.child) (sn ∷ r.S₂)))) (All (SameOwn s.inner s'.inner))
        (λ Q x. all_map (λ m. Num h (All (λ z. m ≢ z.child) (sn ∷ r.S₂))) (SameOwn s.inner s'.inner) own Q x) (P ∷ st)
        (outs h s t A a B sn P st r io.links io.below cp io.num) in
        let pin : (X : ℕ → Type 0) → All X P → X p = λ X x. (all_right X r.P₁ (p ∷ r.P₂) (rw r.row at x)).0 in
        let apt : All (All (λ m. m ≢ p)) st
        = all_map (All (λ m. p ≢ m)) (All (λ m. m ≢ p)) (λ Q x. all_map (λ m. p ≢ m) (λ m. m ≢ p) (λ m ne e. ne (sym e)) Q x) st
        (pin (λ c. All (All (λ m. c ≢ m)) st) (apart (total s.inner) s.inner s.root P st io.links.1 (real s.next cp P io.below.0) (reals s.next cp st io.below.1))) in
        let lessens : sa.lens ≡ t' a
        = fun_ext (λ v. omega (arith, io.sum v, ap (λ (f : ℕ → ℕ). f v) io.snl, ap (λ (f : ℕ → ℕ). f v) r.weight)) in
        record {
          st' = P ∷ st;
          links = subst (λ (rt : ℕ). Links t' (get h s') s'.inner rt (A ++ a ∷ sn.child ∷ B) (P ∷ st)) (sym (at_root h s p (suc i) (sn ∷ r.S₂))) (insert_links t t' (get h s) (get h s') s.inner s'.inner s.root A a B P st sa sn io.links r io.fresh io.ta io.tb r.child lessens io.snl io.sum
              (λ k. ins_own h s p i r.S₁ sa sn r.S₂ k) (upd_same s₁.inner.slots p (r.S₁ ++ sa ∷ sn ∷ r.S₂)) so os.0 os.1 apt);
          below = subst (λ (n : ℕ). All (All (λ m. m < n)) (P ∷ st)) (sym (at_next h s p (suc i) (sn ∷ r.S₂))) io.below;
          grew = rw (at_next h s p (suc i) (sn ∷ r.S₂)) (omega arith);
          deep = rw (at_levels h s p (suc i) (sn ∷ r.S₂)) refl;
          higher = rw (at_levels h s p (suc i) (sn ∷ r.S₂)) (omega arith);
          cap = rw (at_next h s p (suc i) (sn ∷ r.S₂)) cp;
          keep_slots = λ k lt o. so k (λ e. pin (λ m. m ≢ k) o.0 (sym e));
          keep_own = λ k lt c n o. own k (num_every h (All (λ z. k ≢ z.child) (sn ∷ r.S₂)) ((λ e. n (sym e)), behind t (get h s) s.inner A a B P r (λ c. k ≢ c) (all_map (λ c. c ≢ k) (λ c. k ≢ c) (λ c ne e. ne (sym e)) B (all_right (λ c. c ≢ k) A (a ∷ B) c).1)));
          keep_out = λ k lt o. o;
          back = λ k lt o. (rw (at_next h s p (suc i) (sn ∷ r.S₂)) at lt, o);
          leafs = ins_leaf h s p i r.S₁ sa sn r.S₂;
        }

    go : Parent t (get h s) s.inner A a B P → Out h s (insert_child h s a sn) t' A a B sn.child (P ∷ st)
    go r = subst (λ (z : Trunk). Out h s z t' A a B sn.child (P ∷ st)) (sym (insert_is h s a sn t A B P r)) (make r)
