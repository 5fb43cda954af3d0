-- The sizes of inner nodes stay within half and fan when a node gets a new child.
use Rattle.std.specs.Prelude.{◌≡◌, refl, ◌⊎◌, ◌≢◌, List, [], ◌∷◌, ◌++◌, map, ℕ, suc, ◌+◌, ◌-◌, ◌≤◌, ◌<◌, length, take, drop}
use Rattle.std.proofs.Common.{sym, ap, ◌∙◌, subst, inl, inr, arith, eq-eqb, ne_eqb, length-append, length-take, length-drop, take-append-drop}
use Rattle.std.proofs.Math.Decide.{ℕ_discrete}
use Rattle.model.specs.Lists.{All}
use Rattle.model_tree.specs.Lists.{cat, all_map, all_right, single_split}
use Rattle.model_tree.specs.Levels.{Slot, Area, told, said, Links, total, none, Parent, find_parent}
use Rattle.model_tree.specs.Apart.{apart}
use Rattle.model_tree.specs.Update.{upd, upd_same, upd_other, adopt, adopt_all, SameOwn}
use Rattle.model_tree.specs.Insert.{Trunk, get, adopt_at, Num, num_map, at_slots, at_next, at_root, lessen, slot_of, insert_at, insert_child, insert_is, Into, Out, real, reals}
use Rattle.model_tree.specs.Halve.{grow_at, grow_root, halve_at, hv_own, hv_slots, hv_lower, hv_upper, Halved, halve_step}
use Rattle.model_tree.specs.AddChild.{flips, own_kept, mid_into, halve, add_child, add_links, parent_halved, upper_slot}

-- the sizes of the inner nodes in use
abbrev pub size : Trunk → ℕ → ℕ
size s k = length (s.inner.slots k)

pub record Fit (m fan half : ℕ) (s : Trunk) : Type 0 where
  pub most : (k : ℕ) → k < s.next → size s k ≤ fan
  pub least : (k : ℕ) → k < s.next → k ≢ s.root → half ≤ size s k
  pub two : m ≤ size s s.root
  pub root_in : s.root < s.next

-- a state that differs in the size of one node, or in one new node
fit_grow : (m fan half h : ℕ) (s : Trunk) (a : ℕ) (sn : Slot) → m ≤ 2 → 2 ≤ fan → Fit m fan half s → half ≤ size s s.root → Fit m fan half (grow_root h s a sn)
fit_grow m fan half h s a sn m2 f2 f big =
    let r : ℕ = s.next in
    let sl : List Slot = slot_of a (total (get h s) a) ∷ sn ∷ [] in
    let s' : Trunk = grow_at h s sl in
    let same : (k : ℕ) → k ≢ r → size s' k ≡ size s k = λ k ne. ap length (upd_other (adopt_at h s r 0 sl).inner.slots r sl k ne ∙ at_slots h s r 0 sl k) in
    let new : size s' r ≡ 2 = ap length (upd_same (adopt_at h s r 0 sl).inner.slots r sl) in
    let one : (k : ℕ) → Dec (k ≡ r) → k < suc r → size s' k ≤ fan
    = λ k d lt. elim d [ yes e ↦ rw (e, new) f2 | no ne ↦ rw (same k ne) (f.most k (omega arith)) ] in
    let lo : (k : ℕ) → Dec (k ≡ s.root) → k < r → half ≤ size s k
    = λ k d lt. elim d [ yes e ↦ rw e big | no ne ↦ f.least k lt ne ] in
    record {
      most = λ k lt. one k (ℕ_discrete k r) lt;
      least = λ k lt ne. rw (same k ne) (lo k (ℕ_discrete k s.root) (omega arith));
      two = rw new (omega arith);
      root_in = omega arith;
    }

fit_insert : (m fan half h : ℕ) (s : Trunk) (p i : ℕ) (S₁ : List Slot) (s₀ sa sn : Slot) (S₂ : List Slot) → s.inner.slots p ≡ S₁ ++ s₀ ∷ S₂ → p < s.next → size s p < fan → Fit m fan half s → Fit m fan half (insert_at h s p i S₁ sa sn S₂)
fit_insert m fan half h s p i S₁ s₀ sa sn S₂ sl lp lt f =
    let s₁ : Trunk = adopt_at h s p (suc i) (sn ∷ S₂) in
    let s' : Trunk = insert_at h s p i S₁ sa sn S₂ in
    let same : (k : ℕ) → k ≢ p → size s' k ≡ size s k = λ k ne. ap length (upd_other s₁.inner.slots p (S₁ ++ sa ∷ sn ∷ S₂) k ne ∙ at_slots h s p (suc i) (sn ∷ S₂) k) in
    let o : size s p ≡ length S₁ + suc (length S₂) = rw (sl, length-append) in
    let n : size s' p ≡ length S₁ + suc (suc (length S₂)) = ap length (upd_same s₁.inner.slots p (S₁ ++ sa ∷ sn ∷ S₂)) ∙ length-append S₁ (sa ∷ sn ∷ S₂) in
    let new : size s' p ≡ suc (size s p) = omega arith in
    let nx : s'.next ≡ s.next = at_next h s p (suc i) (sn ∷ S₂) in
    let rt : s'.root ≡ s.root = at_root h s p (suc i) (sn ∷ S₂) in
    let up : (k : ℕ) → Dec (k ≡ p) → k < s.next → size s' k ≤ fan = λ k d lk. elim d [ yes e ↦ rw (e, new) lt | no ne ↦ rw (same k ne) (f.most k lk) ] in
    let ge : (k : ℕ) → Dec (k ≡ p) → size s k ≤ size s' k = λ k d. elim d [ yes e ↦ rw (e, new) (omega arith) | no ne ↦ rw (same k ne) (omega arith) ] in
    record {
      most = λ k lk. up k (ℕ_discrete k p) (rw nx at lk);
      least = λ k lk ne. let x = f.least k (rw nx at lk) (λ e. ne (e ∙ sym rt)) in omega (arith, ge k (ℕ_discrete k p));
      two = rw rt (let x = f.two in omega (arith, ge s.root (ℕ_discrete s.root p)));
      root_in = rw (rt, nx) f.root_in;
    }

fit_halve : (m fan half h : ℕ) (s : Trunk) (p : ℕ) (L U : List Slot) → p < s.next → m ≤ 2 → 2 ≤ half → half ≤ fan → length L ≡ half → half ≤ length U → length U ≤ fan → Fit m fan half s → Fit m fan half (halve_at h s p L U)
fit_halve m fan half h s p L U lp m2 h2 hf eL eU fU f =
    let q : ℕ = s.next in
    let s' : Trunk = halve_at h s p L U in
    let pq : p ≢ q = λ e. omega arith in
    let sp : size s' p ≡ half = ap length (hv_lower h s p L U pq) ∙ eL in
    let sq : size s' q ≡ length U = ap length (hv_upper h s p L U) in
    let same : (k : ℕ) → k ≢ p → k ≢ q → size s' k ≡ size s k = λ k np nq. ap length (hv_slots h s p L U k np nq) in
    let up : (k : ℕ) → Dec (k ≡ p) → Dec (k ≡ q) → k < suc q → size s' k ≤ fan
    = λ k d d' lk. elim d [ yes e ↦ rw (e, sp) hf | no np ↦ elim d' [ yes e ↦ rw (e, sq) fU | no nq ↦ rw (same k np nq) (f.most k (omega arith)) ] ] in
    let lo : (k : ℕ) → Dec (k ≡ p) → Dec (k ≡ q) → k < suc q → k ≢ s.root → half ≤ size s' k
    = λ k d d' lk nr. elim d [ yes e ↦ rw (e, sp) (omega arith) | no np ↦ elim d' [ yes e ↦ rw (e, sq) eU | no nq ↦ rw (same k np nq) (f.least k (omega arith) nr) ] ] in
    let rq : s.root ≢ q = λ e. let z = f.root_in in omega arith in
    let ro : Dec (s.root ≡ p) → m ≤ size s' s.root = λ d. elim d [ yes e ↦ (let z : size s' s.root ≡ size s' p = ap (λ (k : ℕ). size s' k) e in omega arith) | no np ↦ rw (same s.root np rq) f.two ] in
    record {
      most = λ k lk. up k (ℕ_discrete k p) (ℕ_discrete k q) lk;
      least = λ k lk nr. lo k (ℕ_discrete k p) (ℕ_discrete k q) lk nr;
      two = ro (ℕ_discrete s.root p);
      root_in = let z = f.root_in in omega arith;
    }

pub either_parent : (low : Area) (q i : ℕ) (U : List Slot) (k : ℕ) → ((adopt_all low q i U).parent k ≡ q) ⊎ ((adopt_all low q i U).parent k ≡ low.parent k)
either_parent low q i [] k = inr refl
either_parent low q i (s ∷ U) k = go (either_parent (adopt low s.child q i) q (suc i) U k) (ℕ_discrete k s.child)
  where
    go : ((adopt_all (adopt low s.child q i) q (suc i) U).parent k ≡ q) ⊎ ((adopt_all (adopt low s.child q i) q (suc i) U).parent k ≡ upd low.parent s.child q k) → Dec (k ≡ s.child)
        → ((adopt_all (adopt low s.child q i) q (suc i) U).parent k ≡ q) ⊎ ((adopt_all (adopt low s.child q i) q (suc i) U).parent k ≡ low.parent k)
    go (inl x) d = inl x
    go (inr x) (yes e) = inl (x ∙ ap (λ (n : ℕ). upd low.parent s.child q n) e ∙ upd_same low.parent s.child q)
    go (inr x) (no ne) = inr (x ∙ upd_other low.parent s.child q k ne)

-- insertion below a node with room keeps the sizes
fit_child : (m fan half h : ℕ) (s : Trunk) (t : ℕ → ℕ → ℕ) (A : List ℕ) (a : ℕ) (B : List ℕ) (sn : Slot) (P : List ℕ)
    → map (said t (get h s)) (A ++ a ∷ B) ≡ cat (told s.inner) P → All (λ m. m < s.next) P → size s ((get h s).parent a) < fan → Fit m fan half s → Fit m fan half (insert_child h s a sn)
unfolding All
fit_child m fan half h s t A a B sn P e b lt f = go (find_parent t (get h s) s.inner A a B P e)
  where
    go : Parent t (get h s) s.inner A a B P → Fit m fan half (insert_child h s a sn)
    go r = subst (Fit m fan half) (sym (insert_is h s a sn t A B P r))
        (fit_insert m fan half h s ((get h s).parent a) (length r.S₁) r.S₁ r.s (lessen r.s sn.lens) sn r.S₂ r.slots
        (all_right (λ m. m < s.next) r.P₁ ((get h s).parent a ∷ r.P₂) (rw r.row at b)).0 lt f)

lone : (t : ℕ → ℕ → ℕ) (up : Area) (root : ℕ) (P₁ : List ℕ) (p : ℕ) (P₂ : List ℕ) (st : List (List ℕ)) → Links t up up root (P₁ ++ p ∷ P₂) st → st ≡ [] → p ≡ root
lone t up root P₁ p P₂ [] l e = (single_split P₁ p P₂ root l.0).1
lone t up root P₁ p P₂ (Q ∷ st) l e = absurd (let z : suc (length st) ≡ 0 = ap length e in omega arith)

-- the sizes hold again after `add_child`
pub fit_add : (m fan half h : ℕ) (s : Trunk) (t t' : ℕ → ℕ → ℕ) (A : List ℕ) (a : ℕ) (B : List ℕ) (sn : Slot) (st : List (List ℕ))
    → m ≤ 2 → 2 ≤ half → half + half ≤ fan → Into h s t t' A a B sn st → t' a ≡ total (get h s) a → s.next + length st < none
    → Fit m fan half s → (st ≡ [] → half ≤ size s s.root) → Fit m fan half (add_child fan half (length st) h s a sn)
unfolding All
fit_add m fan half h s t t' A a B sn [] m2 h2 hf io kept room f big = fit_grow m fan half h s a sn m2 (omega arith) f (big refl)
fit_add m fan half h s t t' A a B sn (P ∷ st) m2 h2 hf io kept room f big =
    go (ℕ_discrete (length (s.inner.slots ((get h s).parent a))) fan) (find_parent t (get h s) s.inner A a B P io.links.0)
    (λ P₁ P₂ i r f' big'. fit_add m fan half (suc h) (parent_halved half h s a) (total s.inner) (total (parent_halved half h s a).inner) P₁ ((get h s).parent a) P₂ (upper_slot half h s a) st m2 h2 hf i refl r f' big')
  where
    full : length (s.inner.slots ((get h s).parent a)) ≡ fan → Parent t (get h s) s.inner A a B P
        → ((P₁ P₂ : List ℕ) → Into (suc h) (parent_halved half h s a) (total s.inner) (total (parent_halved half h s a).inner) P₁ ((get h s).parent a) P₂ (upper_slot half h s a) st
        → suc s.next + length st < none → Fit m fan half (parent_halved half h s a) → (st ≡ [] → half ≤ size (parent_halved half h s a) s.root)
        → Fit m fan half (add_child fan half (length st) (suc h) (parent_halved half h s a) ((get h s).parent a) (upper_slot half h s a)))
        → Fit m fan half (insert_child h (add_child fan half (length st) (suc h) (parent_halved half h s a) ((get h s).parent a) (upper_slot half h s a)) a sn)
    full ef r ih =
        let p : ℕ = (get h s).parent a in
        let q : ℕ = s.next in
        let ss : List Slot = s.inner.slots p in
        let L : List Slot = take half ss in
        let U : List Slot = drop half ss in
        let s₁ : Trunk = halve half h s p in
        let sq : Slot = slot_of q (total s₁.inner q) in
        let s₂ : Trunk = add_child fan half (length st) (suc h) s₁ p sq in
        let cp : s.next ≤ none = omega arith in
        let io' : Into h s t t' A a B sn ((r.P₁ ++ p ∷ r.P₂) ∷ st) = subst (λ (Q : List ℕ). Into h s t t' A a B sn (Q ∷ st)) r.row io in
        let n_c : Num h (All (λ m. m < s.next) (A ++ a ∷ B))
        = num_map h (All (λ m. m < s.next) (A ++ a ∷ B) × (sn.child < s.next) × All (All (λ m. m ≢ sn.child)) ((r.P₁ ++ p ∷ r.P₂) ∷ st)) (All (λ m. m < s.next) (A ++ a ∷ B)) (λ z. z.0) io'.num in
        let hv : Halved h s s₁ t (A ++ a ∷ B) r.P₁ p r.P₂ st
        = halve_step h s t (A ++ a ∷ B) r.P₁ p r.P₂ st L U io'.links io'.below cp n_c (sym (take-append-drop half ss)) in
        let o : Out (suc h) s₁ s₂ (total s₁.inner) r.P₁ p r.P₂ q st
        = add_links fan half (suc h) s₁ (total s.inner) (total s₁.inner) r.P₁ p r.P₂ sq st hv.into refl (omega arith) in
        let lp : p < q = (all_right (λ m. m < s.next) r.P₁ (p ∷ r.P₂) io'.below.0).0 in
        let eL : length L ≡ half = rw length-take (omega arith) in
        let eU : length U ≡ fan - half = rw (length-drop, ef) in
        let f₁ : Fit m fan half s₁ = fit_halve m fan half h s p L U lp m2 h2 (omega arith) eL (omega arith) (omega arith) f in
        let sp : size s₁ p ≡ half = ap length (hv_lower h s p L U (λ z. omega arith)) ∙ eL in
        let sz : size s₁ q ≡ fan - half = ap length (hv_upper h s p L U) ∙ eU in
        let big' : st ≡ [] → half ≤ size s₁ s.root
        = λ z. let w : size s₁ p ≡ size s₁ s.root = ap (λ (k : ℕ). size s₁ k) (lone (total s.inner) s.inner s.root r.P₁ p r.P₂ st io'.links.1 z) in omega arith in
        let f₂ : Fit m fan half s₂ = ih r.P₁ r.P₂ hv.into (omega arith) f₁ big' in
        let md = mid_into h s s₁ s₂ t t' A a B sn r.P₁ p r.P₂ st io' cp refl hv o in
        let oa : (get h s₂).parent a ≡ (get h s₁).parent a
        = (all_right (SameOwn (get h s₁) (get h s₂)) A (a ∷ B) (own_kept h s s₁ s₂ t (A ++ a ∷ B) r.P₁ p r.P₂ st (total s₁.inner) io'.links io'.below cp n_c refl o)).0.0 in
        let na : Num h (a ≢ q) = num_map h (All (λ m. m < s.next) (A ++ a ∷ B)) (a ≢ q) (λ n e. let z : a < s.next = (all_right (λ m. m < s.next) A (a ∷ B) n).0 in omega arith) n_c in
        let ha : (get h s₁).parent a ≡ (adopt_all (get h s) q 0 U).parent a = (hv_own h s p L U a na).0 in
        let p-st : All (All (λ m. m ≢ p)) st
        = flips p st (all_right (λ c. All (All (λ m. c ≢ m)) st) r.P₁ (p ∷ r.P₂) (apart (total s.inner) s.inner s.root (r.P₁ ++ p ∷ r.P₂) st io'.links.1 (real s.next cp (r.P₁ ++ p ∷ r.P₂) io'.below.0) (reals s.next cp st io'.below.1))).0 in
        let q_st : All (All (λ m. m ≢ q)) st = all_map (All (λ m. m < s.next)) (All (λ m. m ≢ q)) (λ Q x. all_map (λ m. m < s.next) (λ m. m ≢ q) (λ m k z. omega arith) Q x) st io'.below.1 in
        let p₂ : size s₂ p ≡ half = ap length (o.keep_slots p (omega arith) p-st) ∙ sp in
        let q₂ : size s₂ q ≡ fan - half = ap length (o.keep_slots q (omega arith) q_st) ∙ sz in
        let lt : size s₂ ((get h s₂).parent a) < fan
        = elim (either_parent (get h s) q 0 U a) [
          | inl x ↦ (let z : size s₂ ((get h s₂).parent a) ≡ size s₂ q = ap (λ (k : ℕ). size s₂ k) (oa ∙ ha ∙ x) in omega arith)
          | inr x ↦ (let z : size s₂ ((get h s₂).parent a) ≡ size s₂ p = ap (λ (k : ℕ). size s₂ k) (oa ∙ ha ∙ x) in omega arith)
        ] in
        fit_child m fan half h s₂ t A a B sn (r.P₁ ++ p ∷ q ∷ r.P₂) md.links.0 md.below.0 lt f₂

    go : Dec (length (s.inner.slots ((get h s).parent a)) ≡ fan) → Parent t (get h s) s.inner A a B P
        → ((P₁ P₂ : List ℕ) → Into (suc h) (parent_halved half h s a) (total s.inner) (total (parent_halved half h s a).inner) P₁ ((get h s).parent a) P₂ (upper_slot half h s a) st
        → suc s.next + length st < none → Fit m fan half (parent_halved half h s a) → (st ≡ [] → half ≤ size (parent_halved half h s a) s.root)
        → Fit m fan half (add_child fan half (length st) (suc h) (parent_halved half h s a) ((get h s).parent a) (upper_slot half h s a)))
        → Fit m fan half (add_child fan half (suc (length st)) h s a sn)
    go (no ne) r ih = rw (ne_eqb (length (s.inner.slots ((get h s).parent a))) fan ne, add_child)
        (fit_child m fan half h s t A a B sn P io.links.0 io.below.0
        (let x = f.most ((get h s).parent a) (all_right (λ m. m < s.next) r.P₁ ((get h s).parent a ∷ r.P₂) (rw r.row at io.below.0)).0 in omega arith) f)
    go (yes e) r ih = rw (eq-eqb (length (s.inner.slots ((get h s).parent a))) fan e, add_child) (full e r ih)
