-- A change of a node's total carried up to the root by f, for each column.
use Rattle.std.specs.Prelude.{◌≡◌, refl, ◌≢◌, List, [], ◌∷◌, ◌++◌, map, ℕ, zero, suc, ◌+◌, ◌≤◌, length, get_or, set}
use Rattle.std.proofs.Common.{sym, ap, ap₂, ◌∙◌, subst, append_assoc, zero-add, add-zero, arith}
use Rattle.std.proofs.Math.Path.{fun_ext}
use Rattle.std.proofs.Math.Seq.{get_or-append_seam, set-append_seam}
use Rattle.model.specs.Lists.{sum_by, All}
use Rattle.model_tree.specs.Lists.{cat, cat_append, map_append, sum_by_append, sum_by_map, sum_by_cat, all_map, all_every, all_right, pairs_before, pairs_after, NoDup, map_cong, cat_cong}
use Rattle.model_tree.specs.Levels.{no_slot, len, Slot, Area, marks, marks_append, sum_marks, wt_of, told, said, Links, total, Parent, find_parent}
use Rattle.model_tree.specs.Apart.{links_nodup, Real, apart}
use Rattle.model_tree.specs.Update.{upd_same, upd_other, set_slots, SameOwn, SameNode, said_same, total_same, links_frame}

abbrev pub change : (ℕ → ℕ → ℕ) → Slot → Slot
change f s = record { child = s.child; lens = λ v. f v (s.lens v) }

-- slot i of node p, and d − 1 ancestors' slots above it, changed by f
abbrev pub carry : (ℕ → ℕ → ℕ) → ℕ → Area → ℕ → ℕ → Area
carry f zero up p i = up
carry f (suc d) up p i = carry f d (set_slots up p (set (up.slots p) i (change f (get_or (up.slots p) i no_slot)))) (up.parent p) (up.place p)

pub carry_own : (f : ℕ → ℕ → ℕ) (d : ℕ) (up : Area) (p i k : ℕ) → SameOwn up (carry f d up p i) k
carry_own f zero up p i k = (refl, refl)
carry_own f (suc d) up p i k = carry_own f d (set_slots up p (set (up.slots p) i (change f (get_or (up.slots p) i no_slot)))) (up.parent p) (up.place p) k

up_set : (up up' : Area) (P₁ : List ℕ) (p : ℕ) (P₂ : List ℕ) (S₁ : List Slot) (s : Slot) (S₂ : List Slot)
    → up'.slots p ≡ S₁ ++ s ∷ S₂ → All (λ x. up'.slots x ≡ up.slots x) P₁ → All (λ x. up'.slots x ≡ up.slots x) P₂
    → cat (told up') (P₁ ++ p ∷ P₂) ≡ (cat (told up) P₁ ++ marks p 0 S₁) ++
    (record { num = s.child; par = p; pos = length S₁; wt = s.lens } ∷ (marks p (suc (length S₁)) S₂ ++ cat (told up) P₂))
up_set up up' P₁ p P₂ S₁ s S₂ e h k =
    let c1 : cat (told up') P₁ ≡ cat (told up) P₁ = cat_cong (told up') (told up) P₁ (all_map (λ x. up'.slots x ≡ up.slots x) (λ x. told up' x ≡ told up x) (λ x s. rw s) P₁ h) in
    let c2 : cat (told up') P₂ ≡ cat (told up) P₂ = cat_cong (told up') (told up) P₂ (all_map (λ x. up'.slots x ≡ up.slots x) (λ x. told up' x ≡ told up x) (λ x s. rw s) P₂ k) in
    rw (cat_append, c1, c2, e, marks_append, zero-add) (simp append_assoc)

pub record Carried (t' : ℕ → ℕ → ℕ) (low' up up' : Area) (root : ℕ) (C : List ℕ) (st : List (List ℕ)) : Type 0 where
  pub links : Links t' low' up' root C st
  pub keep : (k : ℕ) → All (All (λ m. m ≢ k)) st → up'.slots k ≡ up.slots k

-- the first step, at the parent p of c: its slots, and the hypotheses for the levels above
abbrev stepped : (ℕ → ℕ → ℕ) → Area → ℕ → List Slot → Slot → List Slot → Area
stepped f up p S₁ s S₂ = set_slots up p (S₁ ++ change f s ∷ S₂)

record Ready (f : ℕ → ℕ → ℕ) (t' : ℕ → ℕ → ℕ) (low' up up₁ : Area) (root : ℕ) (C : List ℕ) (P₁ : List ℕ) (p : ℕ) (P₂ : List ℕ) (st : List (List ℕ)) (most : ℕ → ℕ) : Type 0 where
  link : map (said t' low') C ≡ cat (told up₁) (P₁ ++ p ∷ P₂)
  links : Links (total up) up₁ up₁ root (P₁ ++ p ∷ P₂) st
  ta : All (λ x. total up₁ x ≡ total up x) P₁
  tb : All (λ x. total up₁ x ≡ total up x) P₂
  mo : (v : ℕ) → sum_by (λ x. total up₁ x v) (P₁ ++ p ∷ P₂) ≤ most v
  fp : (v y : ℕ) → total up₁ p v + y ≤ most v → f v (total up p v + y) ≡ total up₁ p v + y

ready : (f : ℕ → ℕ → ℕ) (t t' : ℕ → ℕ → ℕ) (low low' up : Area) (root : ℕ) (A : List ℕ) (c : ℕ) (B : List ℕ) (P : List ℕ) (st : List (List ℕ)) (most : ℕ → ℕ)
    → Links t low up root (A ++ c ∷ B) (P ∷ st) → All Real (P ∷ st) → ((k : ℕ) → SameOwn low low' k)
    → All (λ x. t' x ≡ t x) A → All (λ x. t' x ≡ t x) B
    → ((v : ℕ) → sum_by (λ x. t' x v) (A ++ c ∷ B) ≤ most v)
    → ((v y : ℕ) → t' c v + y ≤ most v → f v (t c v + y) ≡ t' c v + y)
    → (r : Parent t low up A c B P) → Ready f t' low' up (stepped f up (low.parent c) r.S₁ r.s r.S₂) root (A ++ c ∷ B) r.P₁ (low.parent c) r.P₂ st most
unfolding All sum_by
ready f t t' low low' up root A c B P st most l re ow ta tb mo fp r =
    let p : ℕ = low.parent c in
    let s' : Slot = change f r.s in
    let up₁ : Area = stepped f up p r.S₁ r.s r.S₂ in
    let P' : List ℕ = r.P₁ ++ p ∷ r.P₂ in
    let l' : Links (total up) up up root P' st = rw r.row at l.1 in
    let nd_p : NoDup (r.P₁ ++ p ∷ r.P₂) = links_nodup (total up) up up root P' st l' in
    let b1 : All (λ x. x ≢ p) r.P₁ = pairs_before (λ x y. x ≢ y) r.P₁ p r.P₂ nd_p in
    let b2 : All (λ x. x ≢ p) r.P₂ = all_map (λ x. p ≢ x) (λ x. x ≢ p) (λ x ne e. ne (sym e)) r.P₂ (pairs_after (λ x y. x ≢ y) r.P₁ p r.P₂ nd_p) in
    let so : (x : ℕ) → x ≢ p → up₁.slots x ≡ up.slots x = λ x ne. upd_other up.slots p (r.S₁ ++ s' ∷ r.S₂) x ne in
    let sp : up₁.slots p ≡ r.S₁ ++ s' ∷ r.S₂ = upd_same up.slots p (r.S₁ ++ s' ∷ r.S₂) in
    let u1 : All (λ x. up₁.slots x ≡ up.slots x) r.P₁ = all_map (λ x. x ≢ p) (λ x. up₁.slots x ≡ up.slots x) so r.P₁ b1 in
    let u2 : All (λ x. up₁.slots x ≡ up.slots x) r.P₂ = all_map (λ x. x ≢ p) (λ x. up₁.slots x ≡ up.slots x) so r.P₂ b2 in
    let own : (v : ℕ) → t' c v ≤ most v = λ v. omega (arith, mo v, sum_by_append (λ (x : ℕ). t' x v) A (c ∷ B)) in
    let wt : s'.lens ≡ t' c = fun_ext (λ v. let e : t c v ≡ r.s.lens v = ap (λ (g : ℕ → ℕ). g v) r.weight in
    rw (← e) (ap (λ (n : ℕ). f v n) (sym (add-zero (t c v))) ∙ fp v 0 (omega (arith, own v)) ∙ add-zero (t' c v))) in
    let one : (x : ℕ) → t' x ≡ t x → said t' low' x ≡ said t low x = λ x e. said_same t t' low low' x (ow x) e in
    let mc : said t' low' c ≡ record { num = s'.child; par = p; pos = length r.S₁; wt = s'.lens }
    = said_same t' t' low low' c (ow c) refl ∙ rw (r.place, r.child, wt) in
    let lk : map (said t' low') (A ++ c ∷ B) ≡ cat (told up₁) P'
    = map_append (said t' low') A (c ∷ B)
    ∙ ap₂ ◌++◌ (map_cong (said t' low') (said t low) A (all_map (λ x. t' x ≡ t x) (λ x. said t' low' x ≡ said t low x) one A ta) ∙ r.before)
    (ap₂ ◌∷◌ mc (map_cong (said t' low') (said t low) B (all_map (λ x. t' x ≡ t x) (λ x. said t' low' x ≡ said t low x) one B tb) ∙ r.after))
    ∙ sym (up_set up up₁ r.P₁ p r.P₂ r.S₁ s' r.S₂ sp u1 u2) in
    let pst : All (All (λ m. p ≢ m)) st = (all_right (λ c. All (All (λ m. c ≢ m)) st) r.P₁ (p ∷ r.P₂) (rw r.row at (apart (total up) up root P st l.1 re.0 re.1))).0 in
    let sames : All (All (SameNode up up₁)) st = all_map (All (λ m. p ≢ m)) (All (SameNode up up₁)) (λ Q x. all_map (λ m. p ≢ m) (SameNode up up₁) (λ m ne. (so m (λ e. ne (sym e)), (refl, refl))) Q x) st pst in
    let sums : (v : ℕ) → sum_by (λ x. t' x v) (A ++ c ∷ B) ≡ sum_by (λ x. total up₁ x v) P'
    = λ v. simp (sum_by_map, sum_by_cat, sum_marks) at (ap (sum_by (wt_of v)) lk) in
    record {
      link = lk;
      links = links_frame (total up) (total up) up up₁ up up₁ root P' st l' (all_every (λ x. said (total up) up₁ x ≡ said (total up) up x) (λ x. refl) P') sames;
      ta = all_map (λ x. up₁.slots x ≡ up.slots x) (λ x. total up₁ x ≡ total up x) (total_same up up₁) r.P₁ u1;
      tb = all_map (λ x. up₁.slots x ≡ up.slots x) (λ x. total up₁ x ≡ total up x) (total_same up up₁) r.P₂ u2;
      mo = λ v. rw (← (sums v)) (mo v);
      fp = λ v y h.
          let e : t c v ≡ r.s.lens v = ap (λ (g : ℕ → ℕ). g v) r.weight in
          let e' : s'.lens v ≡ t' c v = ap (λ (g : ℕ → ℕ). g v) wt in
          let n : total up₁ p v ≡ sum_by (len v) r.S₁ + (s'.lens v + sum_by (len v) r.S₂) = rw (sp, sum_by_append) in
          let o : total up p v ≡ sum_by (len v) r.S₁ + (r.s.lens v + sum_by (len v) r.S₂) = rw (r.slots, sum_by_append) in
          let a : total up p v + y ≡ t c v + (sum_by (len v) r.S₁ + sum_by (len v) r.S₂ + y) = omega arith in
          let b : total up₁ p v + y ≡ t' c v + (sum_by (len v) r.S₁ + sum_by (len v) r.S₂ + y) = omega arith in
          ap (λ (z : ℕ). f v z) a ∙ fp v (sum_by (len v) r.S₁ + sum_by (len v) r.S₂ + y) (omega arith) ∙ sym b;
    }

finish : (f : ℕ → ℕ → ℕ) (t t' : ℕ → ℕ → ℕ) (low low' up : Area) (root : ℕ) (A : List ℕ) (c : ℕ) (B : List ℕ) (P : List ℕ) (st : List (List ℕ)) (most : ℕ → ℕ)
    → Links t low up root (A ++ c ∷ B) (P ∷ st) → All Real (P ∷ st) → (r : Parent t low up A c B P) → (up₁ up₂ : Area) → ((k : ℕ) → k ≢ low.parent c → up₁.slots k ≡ up.slots k)
    → Ready f t' low' up up₁ root (A ++ c ∷ B) r.P₁ (low.parent c) r.P₂ st most
    → Carried (total up₁) up₂ up₁ up₂ root (r.P₁ ++ low.parent c ∷ r.P₂) st
    → Carried t' low' up up₂ root (A ++ c ∷ B) (P ∷ st)
unfolding All
finish f t t' low low' up root A c B P st most l re r up₁ up₂ so q k =
    let P' : List ℕ = r.P₁ ++ low.parent c ∷ r.P₂ in
    let slots₂ : All (λ x. up₂.slots x ≡ up₁.slots x) P'
    = all_map (λ c. All (All (λ m. c ≢ m)) st) (λ x. up₂.slots x ≡ up₁.slots x)
    (λ x h. k.keep x (all_map (All (λ m. x ≢ m)) (All (λ m. m ≢ x)) (λ Q y. all_map (λ m. x ≢ m) (λ m. m ≢ x) (λ m ne e. ne (sym e)) Q y) st h)) P'
    (rw r.row at (apart (total up) up root P st l.1 re.0 re.1)) in
    let top : Links (total up₂) up₂ up₂ root P' st
    = links_frame (total up₁) (total up₂) up₂ up₂ up₂ up₂ root P' st k.links
    (all_map (λ x. up₂.slots x ≡ up₁.slots x) (λ x. said (total up₂) up₂ x ≡ said (total up₁) up₂ x) (λ x z. said_same (total up₁) (total up₂) up₂ up₂ x (refl, refl) (total_same up₁ up₂ x z)) P' slots₂)
    (all_every (All (SameNode up₂ up₂)) (λ Q. all_every (SameNode up₂ up₂) (λ x. (refl, (refl, refl))) Q) st) in
    let lk : map (said t' low') (A ++ c ∷ B) ≡ cat (told up₂) P'
    = q.link ∙ sym (cat_cong (told up₂) (told up₁) P' (all_map (λ x. up₂.slots x ≡ up₁.slots x) (λ x. told up₂ x ≡ told up₁ x) (λ x z. rw z) P' slots₂)) in
    record {
      links = subst (λ (Q : List ℕ). Links t' low' up₂ root (A ++ c ∷ B) (Q ∷ st)) (sym r.row) (lk, top);
      keep = λ x o. k.keep x o.1 ∙ so x (λ e. (all_right (λ m. m ≢ x) r.P₁ (low.parent c ∷ r.P₂) (rw r.row at o.0)).0 (sym e));
    }

same_set : (f : ℕ → ℕ → ℕ) (t : ℕ → ℕ → ℕ) (low up : Area) (A : List ℕ) (c : ℕ) (B P : List ℕ) (r : Parent t low up A c B P)
    → set_slots up (low.parent c) (set (up.slots (low.parent c)) (low.place c) (change f (get_or (up.slots (low.parent c)) (low.place c) no_slot))) ≡ stepped f up (low.parent c) r.S₁ r.s r.S₂
same_set f t low up A c B P r = ap (λ (ss : List Slot). set_slots up (low.parent c) ss) (rw (r.slots, r.place, get_or-append_seam, set-append_seam))

pub carry_links : (f : ℕ → ℕ → ℕ) (t t' : ℕ → ℕ → ℕ) (low low' up : Area) (root : ℕ) (A : List ℕ) (c : ℕ) (B : List ℕ) (st : List (List ℕ)) (most : ℕ → ℕ)
    → Links t low up root (A ++ c ∷ B) st → All Real st → ((k : ℕ) → SameOwn low low' k)
    → All (λ x. t' x ≡ t x) A → All (λ x. t' x ≡ t x) B
    → ((v : ℕ) → sum_by (λ x. t' x v) (A ++ c ∷ B) ≤ most v)
    → ((v y : ℕ) → t' c v + y ≤ most v → f v (t c v + y) ≡ t' c v + y)
    → Carried t' low' up (carry f (length st) up (low.parent c) (low.place c)) root (A ++ c ∷ B) st
unfolding All
carry_links f t t' low low' up root A c B [] most l re ow ta tb mo fp = record {
  links = (l.0, (ow root).0 ∙ l.1, (ow root).1 ∙ l.2);
  keep = λ k o. refl;
}
carry_links f t t' low low' up root A c B (P ∷ st) most l re ow ta tb mo fp =
    let p : ℕ = low.parent c in
    let r = find_parent t low up A c B P l.0 in
    let up₁ : Area = stepped f up p r.S₁ r.s r.S₂ in
    let up₂ : Area = carry f (length st) up₁ (up.parent p) (up.place p) in
    let q = ready f t t' low low' up root A c B P st most l re ow ta tb mo fp r in
    subst (λ (z : Area). Carried t' low' up (carry f (length st) z (up.parent p) (up.place p)) root (A ++ c ∷ B) (P ∷ st)) (sym (same_set f t low up A c B P r))
    (finish f t t' low low' up root A c B P st most l re r up₁ up₂ (λ k ne. upd_other up.slots p (r.S₁ ++ change f r.s ∷ r.S₂) k ne) q
    (carry_links f (total up) (total up₁) up₁ up₂ up₁ root r.P₁ p r.P₂ st most q.links re.1 (λ k. carry_own f (length st) up₁ (up.parent p) (up.place p) k) q.ta q.tb q.mo q.fp))
