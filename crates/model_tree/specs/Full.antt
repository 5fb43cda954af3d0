-- A new child below a full parent: the parent's halves, the work above them, and the half in which the child then finds room.
use Rattle.std.specs.Prelude.{◌≡◌, refl, ◌≢◌, List, [], ◌∷◌, ◌++◌, map, ℕ, zero, suc, ◌+◌, ◌-◌, ◌≤◌, ◌<◌, length, get_or, take, drop}
use Rattle.std.proofs.Common.{sym, ap, ap₂, ◌∙◌, subst, inl, inr, not-suc-le-zero, zero-add, add-zero, add-suc, suc-add, arith, length-append, length-take, length-drop, take-append-drop, get_or-append-add}
use Rattle.std.proofs.lemmas.List.{length-map}
use Rattle.std.proofs.Math.ListN.{get_or-append}
use Rattle.model.specs.Lists.{All}
use Rattle.model_tree.specs.Lists.{cat, cat_append, cat_cong, all_map, all_map₂, all_left_at, all_right, pairs_before, NoDup}
use Rattle.model_tree.specs.Levels.{Slot, Area, Mark, marks, told, said, total, none, length_marks, Parent, find_parent}
use Rattle.model_tree.specs.Apart.{links_nodup, apart}
use Rattle.model_tree.specs.Update.{SameOwn, adopt_all, total_same}
use Rattle.model_tree.specs.Insert.{Trunk, get, Into, Out, Num, num_map, slot_of, real, reals}
use Rattle.model_tree.specs.Halve.{Halved, halve_step, hv_own, hv_lower, hv_upper}
use Rattle.model_tree.specs.AddChild.{flips, own_kept, mid_into, halve, add_child, add_links, parent_halved, upper_slot}
use Rattle.model_tree.specs.Fit.{either_parent}

-- the mark at a place
mark_par : (p i : ℕ) (S : List Slot) (j : ℕ) (d : Mark) → j < length S → ((get_or (marks p i S) j d).par ≡ p) × ((get_or (marks p i S) j d).pos ≡ i + j)
mark_par p i [] j d h = absurd (not-suc-le-zero h)
mark_par p i (s ∷ S) zero d h = (refl, sym (add-zero i))
mark_par p i (s ∷ S) (suc j) d h = let r = mark_par p (suc i) S j d (omega arith) in (r.0, r.1 ∙ suc-add i j ∙ sym (add-suc i j))

get_d_here : (f : ℕ → Mark) (A : List ℕ) (a : ℕ) (B : List ℕ) (d : Mark) → get_or (map f (A ++ a ∷ B)) (length A) d ≡ f a
get_d_here f [] a B d = refl
get_d_here f (x ∷ A) a B d = get_d_here f A a B d

-- where the node behind A stands, by the lists of marks that make up its level
module _ (f : ℕ → Mark) (A : List ℕ) (a : ℕ) (B : List ℕ) (X Y Z : List Mark) (i : ℕ) (e : map f (A ++ a ∷ B) ≡ X ++ (Y ++ Z)) (l : length A ≡ length X + i) where
  in_all : (d : Mark) → f a ≡ get_or (Y ++ Z) i d
  in_all d = sym (get_d_here f A a B d) ∙ ap₂ (λ (m : List Mark) (n : ℕ). get_or m n d) e l ∙ get_or-append-add X (Y ++ Z) i d

  in_first : (d : Mark) → i < length Y → f a ≡ get_or Y i d
  in_first d h = in_all d ∙ get_or-append Y Z d i h

  in_second : (d : Mark) → length Y ≤ i → f a ≡ get_or Z (i - length Y) d
  in_second d h = in_all d ∙ ap (λ (n : ℕ). get_or (Y ++ Z) n d) (let z : i ≡ length Y + (i - length Y) = omega arith in z) ∙ get_or-append-add Y Z (i - length Y) d

-- the parent p of a is full: s₁ with p halved, s₂ after the work above
pub record FullParent (fan half h : ℕ) (s s₁ s₂ : Trunk) (t t' : ℕ → ℕ → ℕ) (A : List ℕ) (a : ℕ) (B : List ℕ) (sn : Slot) (p : ℕ) (P : List ℕ) (st : List (List ℕ)) : Type 0 where
  pub P₁ : List ℕ
  pub P₂ : List ℕ
  pub row : P ≡ P₁ ++ p ∷ P₂
  pub into₁ : Into (suc h) s₁ (total s.inner) (total s₁.inner) P₁ p P₂ (slot_of s.next (total s₁.inner s.next)) st
  pub st' : List (List ℕ)
  pub into₂ : Into h s₂ t t' A a B sn ((P₁ ++ p ∷ s.next ∷ P₂) ∷ st')
  pub lower : (get h s).place a < half → ((get h s₂).parent a ≡ p) × ((get h s₂).place a ≡ (get h s).place a)
  pub upper : half ≤ (get h s).place a → ((get h s₂).parent a ≡ s.next) × ((get h s₂).place a ≡ (get h s).place a - half)
  pub room : length (s₂.inner.slots ((get h s₂).parent a)) < fan
  pub new : total (get h s₂) sn.child ≡ total (get h s) sn.child
  pub grew : suc s.next ≤ s₂.next

new_kept : (h : ℕ) (s s₁ s₂ : Trunk) (t : ℕ → ℕ → ℕ) (C P₁ : List ℕ) (p : ℕ) (P₂ : List ℕ) (st : List (List ℕ)) (c : ℕ) → Halved h s s₁ t C P₁ p P₂ st → (o : Out (suc h) s₁ s₂ (total s₁.inner) P₁ p P₂ s.next st) → s₁.next ≡ suc s.next
    → Num h ((c < s.next) × All (All (λ m. m ≢ c)) ((P₁ ++ p ∷ P₂) ∷ st)) → total (get h s₂) c ≡ total (get h s) c
unfolding All
new_kept zero s s₁ s₂ t C P₁ p P₂ st c hv o e n = total_same s.leaf s₂.leaf c (ap (λ (z : Area). z.slots c) o.leafs ∙ hv.leafs c)
new_kept (suc h) s s₁ s₂ t C P₁ p P₂ st c hv o e n =
    total_same s.inner s₂.inner c
    (o.keep_slots c (let z = n.0 in omega arith) n.1.1 ∙ hv.keep_slots c n.0 (λ q. (all_right (λ m. m ≢ c) P₁ (p ∷ P₂) n.1.0).0 (sym q)))

pub full_step : (fan half h : ℕ) (s : Trunk) (t t' : ℕ → ℕ → ℕ) (A : List ℕ) (a : ℕ) (B : List ℕ) (sn : Slot) (P : List ℕ) (st : List (List ℕ))
    → 2 ≤ half → half + half ≤ fan → Into h s t t' A a B sn (P ∷ st) → s.next + length (P ∷ st) < none → length (s.inner.slots ((get h s).parent a)) ≡ fan
    → FullParent fan half h s (parent_halved half h s a)
    (add_child fan half (length st) (suc h) (parent_halved half h s a) ((get h s).parent a) (upper_slot half h s a))
    t t' A a B sn ((get h s).parent a) P st
unfolding All
full_step fan half h s t t' A a B sn P st h2 hf io room ef = go (find_parent t (get h s) s.inner A a B P io.links.0)
  where
    p : ℕ
    p = (get h s).parent a

    q : ℕ
    q = s.next

    s₁ : Trunk
    s₁ = halve half h s ((get h s).parent a)

    s₂ : Trunk
    s₂ = add_child fan half (length st) (suc h) (parent_halved half h s a) ((get h s).parent a) (upper_slot half h s a)

    go : Parent t (get h s) s.inner A a B P → FullParent fan half h s s₁ s₂ t t' A a B sn p P st
    go r =
        let ss : List Slot = s.inner.slots p in
        let Ls : List Slot = take half ss in
        let Us : List Slot = drop half ss in
        let cp : s.next ≤ none = omega arith in
        let io' : Into h s t t' A a B sn ((r.P₁ ++ p ∷ r.P₂) ∷ st) = subst (λ (Q : List ℕ). Into h s t t' A a B sn (Q ∷ st)) r.row io in
        let n_c : Num h (All (λ m. m < s.next) (A ++ a ∷ B)) = num_map h (All (λ m. m < s.next) (A ++ a ∷ B) × (sn.child < s.next) × All (All (λ m. m ≢ sn.child)) ((r.P₁ ++ p ∷ r.P₂) ∷ st)) (All (λ m. m < s.next) (A ++ a ∷ B)) (λ z. z.0) io'.num in
        let hv : Halved h s s₁ t (A ++ a ∷ B) r.P₁ p r.P₂ st = halve_step h s t (A ++ a ∷ B) r.P₁ p r.P₂ st Ls Us io'.links io'.below cp n_c (sym (take-append-drop half ss)) in
        let o : Out (suc h) s₁ s₂ (total s₁.inner) r.P₁ p r.P₂ q st = add_links fan half (suc h) s₁ (total s.inner) (total s₁.inner) r.P₁ p r.P₂ (slot_of q (total s₁.inner q)) st hv.into refl (omega arith) in
        let lp : p < q = (all_right (λ m. m < s.next) r.P₁ (p ∷ r.P₂) io'.below.0).0 in
        let ne : p ≢ q = λ z. omega arith in
        let eL : length Ls ≡ half = rw length-take (omega arith) in
        let eU : length Us ≡ fan - half = rw (length-drop, ef) in
        let slp : s₁.inner.slots p ≡ Ls = hv_lower h s p Ls Us ne in
        let slq : s₁.inner.slots q ≡ Us = hv_upper h s p Ls Us in
        let own : SameOwn (get h s₁) (get h s₂) a = (all_right (SameOwn (get h s₁) (get h s₂)) A (a ∷ B) (own_kept h s s₁ s₂ t (A ++ a ∷ B) r.P₁ p r.P₂ st (total s₁.inner) io'.links io'.below cp n_c refl o)).0 in
        -- where a stands among the marks of s₁
        let nd : NoDup (r.P₁ ++ p ∷ r.P₂) = links_nodup (total s.inner) s.inner s.inner s.root (r.P₁ ++ p ∷ r.P₂) st io'.links.1 in
        let same : All (λ x. told s₁.inner x ≡ told s.inner x) r.P₁ = all_map₂ (λ x. x ≢ p) (λ x. x < s.next) (λ x. told s₁.inner x ≡ told s.inner x) (λ x n lt. ap (λ (l : List Slot). marks x 0 l) (hv.keep_slots x lt n)) r.P₁
        (pairs_before (λ x y. x ≢ y) r.P₁ p r.P₂ nd) (all_left_at (λ m. m < s.next) r.P₁ (p ∷ r.P₂) io'.below.0) in
        let X : List Mark = cat (told s₁.inner) r.P₁ in
        let Y : List Mark = marks p 0 (s₁.inner.slots p) in
        let Z : List Mark = marks q 0 (s₁.inner.slots q) ++ cat (told s₁.inner) r.P₂ in
        let eq : map (said t (get h s₁)) (A ++ a ∷ B) ≡ X ++ (Y ++ Z) = hv.link ∙ cat_append (told s₁.inner) r.P₁ (p ∷ q ∷ r.P₂) in
        let lA : length A ≡ length X + (get h s).place a =
        sym (length-map A (said t (get h s))) ∙ ap length r.before ∙ length-append (cat (told s.inner) r.P₁) (marks p 0 r.S₁)
        ∙ ap₂ ◌+◌ (ap length (sym (cat_cong (told s₁.inner) (told s.inner) r.P₁ same))) (length_marks p 0 r.S₁ ∙ sym r.place) in
        let lY : length Y ≡ half = length_marks p 0 (s₁.inner.slots p) ∙ ap length slp ∙ eL in
        let lq : length (s₁.inner.slots q) ≡ fan - half = ap length slq ∙ eU in
        let lt : (get h s).place a < fan = (let z : length ss ≡ length r.S₁ + suc (length r.S₂) = ap length r.slots ∙ length-append r.S₁ (r.s ∷ r.S₂) in let y = r.place in omega arith) in
        let d : Mark = said t (get h s₁) a in
        let low : (get h s).place a < half → ((get h s₁).parent a ≡ p) × ((get h s₁).place a ≡ (get h s).place a)
        = λ i. (let m = in_first (said t (get h s₁)) A a B X Y Z ((get h s).place a) eq lA d (omega arith) in
        let k = mark_par p 0 (s₁.inner.slots p) ((get h s).place a) d (let z : length (s₁.inner.slots p) ≡ half = ap length slp ∙ eL in omega arith) in
        (ap (λ (m : Mark). m.par) m ∙ k.0, ap (λ (m : Mark). m.pos) m ∙ k.1 ∙ zero-add ((get h s).place a))) in
        let high : half ≤ (get h s).place a → ((get h s₁).parent a ≡ q) × ((get h s₁).place a ≡ (get h s).place a - half)
        = λ i. (let j : ℕ = (get h s).place a - half in
        let m = in_second (said t (get h s₁)) A a B X Y Z ((get h s).place a) eq lA d (omega arith) in
        let jj : (get h s).place a - length Y ≡ j = omega arith in
        let m' : said t (get h s₁) a ≡ get_or (marks q 0 (s₁.inner.slots q)) j d = m ∙ ap (λ (n : ℕ). get_or Z n d) jj ∙ get_or-append (marks q 0 (s₁.inner.slots q)) (cat (told s₁.inner) r.P₂) d j (let y = length_marks q 0 (s₁.inner.slots q) in omega arith) in
        let k = mark_par q 0 (s₁.inner.slots q) j d (omega arith) in
        (ap (λ (m : Mark). m.par) m' ∙ k.0, ap (λ (m : Mark). m.pos) m' ∙ k.1 ∙ zero-add j)) in
        -- sizes after the work above
        let p-st : All (All (λ m. m ≢ p)) st = flips p st (all_right (λ c. All (All (λ m. c ≢ m)) st) r.P₁ (p ∷ r.P₂) (apart (total s.inner) s.inner s.root (r.P₁ ++ p ∷ r.P₂) st io'.links.1 (real s.next cp (r.P₁ ++ p ∷ r.P₂) io'.below.0) (reals s.next cp st io'.below.1))).0 in
        let q_st : All (All (λ m. m ≢ q)) st = all_map (All (λ m. m < s.next)) (All (λ m. m ≢ q)) (λ Q x. all_map (λ m. m < s.next) (λ m. m ≢ q) (λ m k z. omega arith) Q x) st io'.below.1 in
        let p₂ : length (s₂.inner.slots p) ≡ half = ap length (o.keep_slots p (omega arith) p-st) ∙ ap length slp ∙ eL in
        let q₂ : length (s₂.inner.slots q) ≡ fan - half = ap length (o.keep_slots q (omega arith) q_st) ∙ lq in
        let na : Num h (a ≢ q) = num_map h (All (λ m. m < s.next) (A ++ a ∷ B)) (a ≢ q) (λ n e. let z : a < s.next = (all_right (λ m. m < s.next) A (a ∷ B) n).0 in omega arith) n_c in
        let ha : (get h s₁).parent a ≡ (adopt_all (get h s) q 0 Us).parent a = (hv_own h s p Ls Us a na).0 in
        record {
          P₁ = r.P₁;
          P₂ = r.P₂;
          row = r.row;
          into₁ = hv.into;
          st' = o.st';
          into₂ = mid_into h s s₁ s₂ t t' A a B sn r.P₁ p r.P₂ st io' cp refl hv o;
          lower = λ i. (own.0 ∙ (low i).0, own.1 ∙ (low i).1);
          upper = λ i. (own.0 ∙ (high i).0, own.1 ∙ (high i).1);
          room = elim (either_parent (get h s) q 0 Us a) [
            | inl x ↦ (let z : length (s₂.inner.slots ((get h s₂).parent a)) ≡ length (s₂.inner.slots q) = ap (λ (k : ℕ). length (s₂.inner.slots k)) (own.0 ∙ ha ∙ x) in omega arith)
            | inr x ↦ (let z : length (s₂.inner.slots ((get h s₂).parent a)) ≡ length (s₂.inner.slots p) = ap (λ (k : ℕ). length (s₂.inner.slots k)) (own.0 ∙ ha ∙ x) in omega arith)
          ];
          new = new_kept h s s₁ s₂ t (A ++ a ∷ B) r.P₁ p r.P₂ st sn.child hv o refl
              (num_map h (All (λ m. m < s.next) (A ++ a ∷ B) × (sn.child < s.next) × All (All (λ m. m ≢ sn.child)) ((r.P₁ ++ p ∷ r.P₂) ∷ st)) ((sn.child < s.next) × All (All (λ m. m ≢ sn.child)) ((r.P₁ ++ p ∷ r.P₂) ∷ st)) (λ z. (z.1, z.2)) io'.num);
          grew = o.grew;
        }
