-- Updates of an area, and what they do to the links.
use Rattle.std.specs.Prelude.{◌≡◌, refl, ◌≢◌, Bool, true, false, List, [], ◌∷◌, ◌++◌, map, ℕ, suc, ◌+◌, eqb, length}
use Rattle.std.proofs.Common.{sym, ap, ap₂, ◌∙◌, append_assoc, zero-add, arith, eqb→eq}
use Rattle.std.proofs.Math.Path.{fun_ext}
use Rattle.std.proofs.Math.Dec.{eqb_refl}
use Rattle.model.specs.Lists.{sum_by, All}
use Rattle.model_tree.specs.Lists.{cat, cat_append, map_append, sum_by_append, all_map, all_map₂, all_every, all_append, all_left_at, all_right, pairs_before, pairs_after, NoDup, map_cong, cat_cong, MapAt, map_split}
use Rattle.model_tree.specs.Levels.{len, Slot, Area, Mark, marks, told, said, Links, total, marks_append, Parent}
use Rattle.model_tree.specs.Apart.{links_nodup}

abbrev pub upd : {A : Type 0} → (ℕ → A) → ℕ → A → ℕ → A
upd f k v j = elim (eqb j k) [ true ↦ v | false ↦ f j ]

pub upd_same : {A : Type 0} (f : ℕ → A) (k : ℕ) (v : A) → upd f k v k ≡ v
upd_same {A} f k v = go (eqb k k) refl
  where
    go : (b : Bool) → eqb k k ≡ b → upd f k v k ≡ v
    go true e = rw (e, upd)
    go false e = absurd (rw e at (eqb_refl k))

pub upd_other : {A : Type 0} (f : ℕ → A) (k : ℕ) (v : A) (j : ℕ) → j ≢ k → upd f k v j ≡ f j
upd_other {A} f k v j ne = go (eqb j k) refl
  where
    go : (b : Bool) → eqb j k ≡ b → upd f k v j ≡ f j
    go true e = absurd (ne (eqb→eq j k (rw e tt)))
    go false e = rw (e, upd)

abbrev pub set_slots : Area → ℕ → List Slot → Area
set_slots a k ss = record { slots = upd a.slots k ss; parent = a.parent; place = a.place }

abbrev pub adopt : Area → ℕ → ℕ → ℕ → Area
adopt a c p i = record { slots = a.slots; parent = upd a.parent c p; place = upd a.place c i }

abbrev pub adopt_all : Area → ℕ → ℕ → List Slot → Area
adopt_all a p i [] = a
adopt_all a p i (s ∷ ss) = adopt_all (adopt a s.child p i) p (suc i) ss

pub adopt_all_slots : (a : Area) (p i : ℕ) (ss : List Slot) (k : ℕ) → (adopt_all a p i ss).slots k ≡ a.slots k
adopt_all_slots a p i [] k = refl
adopt_all_slots a p i (s ∷ ss) k = adopt_all_slots (adopt a s.child p i) p (suc i) ss k

-- own words
abbrev pub SameOwn : Area → Area → ℕ → Type 0
SameOwn a b k = (b.parent k ≡ a.parent k) × (b.place k ≡ a.place k)

abbrev pub SameNode : Area → Area → ℕ → Type 0
SameNode a b k = (b.slots k ≡ a.slots k) × SameOwn a b k

pub adopt_other : (a : Area) (c p i k : ℕ) → k ≢ c → SameOwn a (adopt a c p i) k
adopt_other a c p i k ne = (upd_other a.parent c p k ne, upd_other a.place c i k ne)

pub adopt_all_other : (a : Area) (p i : ℕ) (ss : List Slot) (k : ℕ) → All (λ s. k ≢ s.child) ss → SameOwn a (adopt_all a p i ss) k
unfolding All
adopt_all_other a p i [] k h = (refl, refl)
adopt_all_other a p i (s ∷ ss) k h =
    let x = adopt_all_other (adopt a s.child p i) p (suc i) ss k h.1 in
    let y = adopt_other a s.child p i k h.0 in
    (x.0 ∙ y.0, x.1 ∙ y.1)

pub said_same : (t t' : ℕ → ℕ → ℕ) (a b : Area) (k : ℕ) → SameOwn a b k → t' k ≡ t k → said t' b k ≡ said t a k
said_same t t' a b k h e = cc

pub total_same : (a b : Area) (k : ℕ) → b.slots k ≡ a.slots k → total b k ≡ total a k
total_same a b k e = ap {B = ℕ → ℕ} (λ (ss : List Slot) (v : ℕ). sum_by (len v) ss) e

pub links_frame : (t t' : ℕ → ℕ → ℕ) (low low' up up' : Area) (root : ℕ) (C : List ℕ) (st : List (List ℕ))
    → Links t low up root C st → All (λ c. said t' low' c ≡ said t low c) C → All (All (SameNode up up')) st → Links t' low' up' root C st
unfolding All
links_frame t t' low low' up up' root C [] l h k =
    let e : said t' low' root ≡ said t low root = (rw l.0 at h).0 in
    (l.0, ap (λ (m : Mark). m.par) e ∙ l.1, ap (λ (m : Mark). m.pos) e ∙ l.2)
links_frame t t' low low' up up' root C (P ∷ st) l h k = (
  map_cong (said t' low') (said t low) C h ∙ l.0 ∙ sym (cat_cong (told up') (told up) P (all_map (SameNode up up') (λ p. told up' p ≡ told up p) (λ p s. rw s.0) P k.0)),
  links_frame (total up) (total up') up up' up up' root P st l.1
      (all_map (SameNode up up') (λ p. said (total up') up' p ≡ said (total up) up p) (λ p s. said_same (total up) (total up') up up' p s.1 (total_same up up' p s.0)) P k.0) k.1,
)

pub said_adopt : (t : ℕ → ℕ → ℕ) (low : Area) (c p i : ℕ) → said t (adopt low c p i) c ≡ record { num = c; par = p; pos = i; wt = t c }
said_adopt t low c p i = rw (upd_same low.parent c p, upd_same low.place c i)

-- one child of a level adopted anew
pub adopt_one : (t : ℕ → ℕ → ℕ) (low : Area) (C : List ℕ) (X : List Mark) (m : Mark) (Z : List Mark) (p i : ℕ) → NoDup C
    → map (said t low) C ≡ X ++ m ∷ Z → map (said t (adopt low m.num p i)) C ≡ X ++ record { num = m.num; par = p; pos = i; wt = m.wt } ∷ Z
adopt_one t low C X m Z p i nd e = go (map_split (said t low) C X m Z e)
  where
    go : MapAt (said t low) C X m Z → map (said t (adopt low m.num p i)) C ≡ X ++ record { num = m.num; par = p; pos = i; wt = m.wt } ∷ Z
    go q =
        let n : q.c ≡ m.num = ap (λ (m : Mark). m.num) q.own in
        let nd' : NoDup (q.A₁ ++ q.c ∷ q.A₂) = rw q.row at nd in
        let one : (x : ℕ) → x ≢ q.c → said t (adopt low m.num p i) x ≡ said t low x =
        λ x ne. said_same t t low (adopt low m.num p i) x (adopt_other low m.num p i x (λ z. ne (z ∙ sym n))) refl in
        let b : map (said t (adopt low m.num p i)) q.A₁ ≡ X = map_cong _ _ q.A₁ (all_map (λ x. x ≢ q.c) (λ x. said t (adopt low m.num p i) x ≡ said t low x) one q.A₁ (pairs_before (λ x y. x ≢ y) q.A₁ q.c q.A₂ nd')) ∙ q.before in
        let a : map (said t (adopt low m.num p i)) q.A₂ ≡ Z = map_cong _ _ q.A₂ (all_map (λ x. q.c ≢ x) (λ x. said t (adopt low m.num p i) x ≡ said t low x) (λ x ne. one x (λ z. ne (sym z))) q.A₂ (pairs_after (λ x y. x ≢ y) q.A₁ q.c q.A₂ nd')) ∙ q.after in
        let o : said t (adopt low m.num p i) q.c ≡ record { num = m.num; par = p; pos = i; wt = m.wt } =
        rw (← n, ← (ap (λ (m : Mark). m.wt) q.own)) (said_adopt t low q.c p i) in
        rw (q.row, map_append) (ap₂ ◌++◌ b (ap₂ ◌∷◌ o a))

pub adopt_all_law : (t : ℕ → ℕ → ℕ) (low : Area) (C : List ℕ) (X : List Mark) (p i p' i' : ℕ) (S : List Slot) (Z : List Mark) → NoDup C
    → map (said t low) C ≡ X ++ (marks p i S ++ Z) → map (said t (adopt_all low p' i' S)) C ≡ X ++ (marks p' i' S ++ Z)
adopt_all_law t low C X p i p' i' [] Z nd e = e
adopt_all_law t low C X p i p' i' (s ∷ S) Z nd e =
    let m : Mark = record { num = s.child; par = p; pos = i; wt = s.lens } in
    let m' : Mark = record { num = s.child; par = p'; pos = i'; wt = s.lens } in
    let one : map (said t (adopt low s.child p' i')) C ≡ X ++ m' ∷ (marks p (suc i) S ++ Z) = adopt_one t low C X m (marks p (suc i) S ++ Z) p' i' nd e in
    let two = adopt_all_law t (adopt low s.child p' i') C (X ++ m' ∷ []) p (suc i) p' (suc i') S Z nd (one ∙ sym (append_assoc X (m' ∷ []) (marks p (suc i) S ++ Z))) in
    two ∙ append_assoc X (m' ∷ []) (marks p' (suc i') S ++ Z)

-- what holds of the nodes of a level holds of the children in slots whose marks stand in the level
pub all_kids : (Q : ℕ → Type 0) (p i : ℕ) (S : List Slot) → All (λ (m : Mark). Q m.num) (marks p i S) → All (λ s. Q s.child) S
unfolding All
all_kids Q p i [] h = tt
all_kids Q p i (s ∷ S) h = (h.0, all_kids Q p (suc i) S h.1)

pub all_said : (t : ℕ → ℕ → ℕ) (low : Area) (Q : ℕ → Type 0) (C : List ℕ) → All Q C → All (λ (m : Mark). Q m.num) (map (said t low) C)
unfolding All
all_said t low Q [] h = tt
all_said t low Q (c ∷ C) h = (h.0, all_said t low Q C h.1)

-- a new node put behind one that is there: no duplicates
pub nodup_insert : (A : List ℕ) (a new : ℕ) (B : List ℕ) → NoDup (A ++ a ∷ B) → All (λ x. x ≢ new) (A ++ a ∷ B) → NoDup (A ++ a ∷ new ∷ B)
unfolding All
nodup_insert [] a new B nd f = ((f.0, nd.0), (all_map (λ x. x ≢ new) (λ x. new ≢ x) (λ x h e. h (sym e)) B f.1, nd.1))
nodup_insert (x ∷ A) a new B nd f = (
  all_append (λ y. x ≢ y) A (a ∷ new ∷ B) (all_left_at (λ y. x ≢ y) A (a ∷ B) nd.0) ((all_right (λ y. x ≢ y) A (a ∷ B) nd.0).0, (f.0, (all_right (λ y. x ≢ y) A (a ∷ B) nd.0).1)),
  nodup_insert A a new B nd.1 f.1,
)

-- the children of one level after `sn` is put behind a: what they say
pub low_insert : (t t' : ℕ → ℕ → ℕ) (low up : Area) (A : List ℕ) (a : ℕ) (B : List ℕ) (P : List ℕ) (sn : Slot) (r : Parent t low up A a B P)
    → NoDup (A ++ a ∷ B) → All (λ x. x ≢ sn.child) (A ++ a ∷ B) → All (λ x. t' x ≡ t x) A → All (λ x. t' x ≡ t x) B
    → map (said t' (adopt_all low (low.parent a) (suc (length r.S₁)) (sn ∷ r.S₂))) (A ++ a ∷ sn.child ∷ B)
    ≡ (cat (told up) r.P₁ ++ marks (low.parent a) 0 r.S₁) ++
    (record { num = a; par = low.parent a; pos = length r.S₁; wt = t' a } ∷ record { num = sn.child; par = low.parent a; pos = suc (length r.S₁); wt = t' sn.child }
    ∷ (marks (low.parent a) (suc (suc (length r.S₁))) r.S₂ ++ cat (told up) r.P₂))
unfolding All
low_insert t t' low up A a B P sn r nd fr ta tb =
    let new : ℕ = sn.child in
    let p : ℕ = low.parent a in
    let i : ℕ = length r.S₁ in
    let low0 : Area = adopt low new p (suc i) in
    let one : (x : ℕ) → x ≢ new → t' x ≡ t x → said t' low0 x ≡ said t low x = λ x ne e. said_same t t' low low0 x (adopt_other low new p (suc i) x ne) e in
    let before : map (said t' low0) A ≡ cat (told up) r.P₁ ++ marks p 0 r.S₁
    = map_cong (said t' low0) (said t low) A (all_map₂ (λ x. x ≢ new) (λ x. t' x ≡ t x) (λ x. said t' low0 x ≡ said t low x) one A (all_left_at (λ x. x ≢ new) A (a ∷ B) fr) ta) ∙ r.before in
    let after : map (said t' low0) B ≡ marks p (suc i) r.S₂ ++ cat (told up) r.P₂
    = map_cong (said t' low0) (said t low) B (all_map₂ (λ x. x ≢ new) (λ x. t' x ≡ t x) (λ x. said t' low0 x ≡ said t low x) one B (all_right (λ x. x ≢ new) A (a ∷ B) fr).1 tb) ∙ r.after in
    let own : said t' low0 a ≡ record { num = a; par = p; pos = i; wt = t' a }
    = said_same t' t' low low0 a (adopt_other low new p (suc i) a (all_right (λ x. x ≢ new) A (a ∷ B) fr).0) refl ∙ rw r.place in
    let ma : Mark = record { num = a; par = p; pos = i; wt = t' a } in
    let mn : Mark = record { num = new; par = p; pos = suc i; wt = t' new } in
    let X : List Mark = cat (told up) r.P₁ ++ marks p 0 r.S₁ in
    let e0 : map (said t' low0) (A ++ a ∷ new ∷ B) ≡ (X ++ (ma ∷ mn ∷ [])) ++ (marks p (suc i) r.S₂ ++ cat (told up) r.P₂)
    = map_append (said t' low0) A (a ∷ new ∷ B) ∙ ap₂ ◌++◌ before (ap₂ ◌∷◌ own (ap₂ ◌∷◌ (said_adopt t' low new p (suc i)) after)) ∙ sym (append_assoc X (ma ∷ mn ∷ []) (marks p (suc i) r.S₂ ++ cat (told up) r.P₂)) in
    adopt_all_law t' low0 (A ++ a ∷ new ∷ B) (X ++ (ma ∷ mn ∷ [])) p (suc i) p (suc (suc i)) r.S₂ (cat (told up) r.P₂) (nodup_insert A a new B nd fr) e0
    ∙ append_assoc X (ma ∷ mn ∷ []) (marks p (suc (suc i)) r.S₂ ++ cat (told up) r.P₂)

-- the parents of one level after the slots sa, sn stand where one was: what they say
pub up_insert : (up up' : Area) (P₁ : List ℕ) (p : ℕ) (P₂ : List ℕ) (S₁ : List Slot) (sa sn : Slot) (S₂ : List Slot)
    → up'.slots p ≡ S₁ ++ sa ∷ sn ∷ S₂ → All (λ x. up'.slots x ≡ up.slots x) P₁ → All (λ x. up'.slots x ≡ up.slots x) P₂
    → cat (told up') (P₁ ++ p ∷ P₂) ≡ (cat (told up) P₁ ++ marks p 0 S₁) ++
    (record { num = sa.child; par = p; pos = length S₁; wt = sa.lens } ∷ record { num = sn.child; par = p; pos = suc (length S₁); wt = sn.lens }
    ∷ (marks p (suc (suc (length S₁))) S₂ ++ cat (told up) P₂))
up_insert up up' P₁ p P₂ S₁ sa sn S₂ e h k =
    let c1 : cat (told up') P₁ ≡ cat (told up) P₁ = cat_cong (told up') (told up) P₁ (all_map (λ x. up'.slots x ≡ up.slots x) (λ x. told up' x ≡ told up x) (λ x s. rw s) P₁ h) in
    let c2 : cat (told up') P₂ ≡ cat (told up) P₂ = cat_cong (told up') (told up) P₂ (all_map (λ x. up'.slots x ≡ up.slots x) (λ x. told up' x ≡ told up x) (λ x s. rw s) P₂ k) in
    rw (cat_append, c1, c2, e, marks_append, zero-add) (simp append_assoc)

-- the level above keeps its links where a slot of p is divided in two
pub insert_links : (t t' : ℕ → ℕ → ℕ) (low low' up up' : Area) (root : ℕ) (A : List ℕ) (a : ℕ) (B : List ℕ) (P : List ℕ) (st : List (List ℕ)) (sa sn : Slot)
    → Links t low up root (A ++ a ∷ B) (P ∷ st) → (r : Parent t low up A a B P)
    → All (λ x. x ≢ sn.child) (A ++ a ∷ B) → All (λ x. t' x ≡ t x) A → All (λ x. t' x ≡ t x) B
    → sa.child ≡ a → sa.lens ≡ t' a → sn.lens ≡ t' sn.child → ((v : ℕ) → t' a v + t' sn.child v ≡ t a v)
    → ((k : ℕ) → SameOwn (adopt_all low (low.parent a) (suc (length r.S₁)) (sn ∷ r.S₂)) low' k)
    → up'.slots (low.parent a) ≡ r.S₁ ++ sa ∷ sn ∷ r.S₂ → ((k : ℕ) → k ≢ low.parent a → up'.slots k ≡ up.slots k)
    → All (SameOwn up up') P → All (All (SameOwn up up')) st → All (All (λ m. m ≢ low.parent a)) st
    → Links t' low' up' root (A ++ a ∷ sn.child ∷ B) (P ∷ st)
unfolding All sum_by
insert_links t t' low low' up up' root A a B P st sa sn l r fr ta tb sac sal snl sum own sl so op os apt =
    (first, links_frame (total up) (total up') up up' up up' root P st l.1 all_p all_st)
  where
    p : ℕ
    p = low.parent a

    nd_p : NoDup (r.P₁ ++ low.parent a ∷ r.P₂)
    nd_p = rw r.row at (links_nodup (total up) up up root P st l.1)

    b1 : All (λ x. x ≢ low.parent a) r.P₁
    b1 = pairs_before (λ x y. x ≢ y) r.P₁ (low.parent a) r.P₂ nd_p

    b2 : All (λ x. x ≢ low.parent a) r.P₂
    b2 = all_map (λ x. low.parent a ≢ x) (λ x. x ≢ low.parent a) (λ x h e. h (sym e)) r.P₂ (pairs_after (λ x y. x ≢ y) r.P₁ (low.parent a) r.P₂ nd_p)

    first : map (said t' low') (A ++ a ∷ sn.child ∷ B) ≡ cat (told up') P
    first =
        let low1 : Area = adopt_all low (low.parent a) (suc (length r.S₁)) (sn ∷ r.S₂) in
        map_cong (said t' low') (said t' low1) (A ++ a ∷ sn.child ∷ B) (all_every (λ x. said t' low' x ≡ said t' low1 x) (λ x. said_same t' t' low1 low' x (own x) refl) (A ++ a ∷ sn.child ∷ B))
        ∙ low_insert t t' low up A a B P sn r (links_nodup t low up root (A ++ a ∷ B) (P ∷ st) l) fr ta tb
        ∙ rw (
          r.row,
          up_insert up up' r.P₁ (low.parent a) r.P₂ r.S₁ sa sn r.S₂ sl
              (all_map (λ x. x ≢ low.parent a) (λ x. up'.slots x ≡ up.slots x) so r.P₁ b1) (all_map (λ x. x ≢ low.parent a) (λ x. up'.slots x ≡ up.slots x) so r.P₂ b2),
          sac,
          sal,
          snl,
        )

    tot : total up' (low.parent a) ≡ total up (low.parent a)
    tot = fun_ext (λ v. rw (sl, r.slots, sum_by_append, sum_by_append) (omega (arith, sum v, ap (λ (f : ℕ → ℕ). f v) sal, ap (λ (f : ℕ → ℕ). f v) snl, ap (λ (f : ℕ → ℕ). f v) r.weight)))

    other : (x : ℕ) → x ≢ low.parent a → SameOwn up up' x → said (total up') up' x ≡ said (total up) up x
    other x ne o = said_same (total up) (total up') up up' x o (total_same up up' x (so x ne))

    op' : All (SameOwn up up') (r.P₁ ++ low.parent a ∷ r.P₂)
    op' = rw r.row at op

    all_p : All (λ c. said (total up') up' c ≡ said (total up) up c) P
    all_p = rw r.row (all_append (λ c. said (total up') up' c ≡ said (total up) up c) r.P₁ (low.parent a ∷ r.P₂)
        (all_map₂ (λ x. x ≢ low.parent a) (SameOwn up up') (λ c. said (total up') up' c ≡ said (total up) up c) other r.P₁ b1 (all_left_at (SameOwn up up') r.P₁ (low.parent a ∷ r.P₂) op')) (
          said_same (total up) (total up') up up' (low.parent a) (all_right (SameOwn up up') r.P₁ (low.parent a ∷ r.P₂) op').0 tot,
          all_map₂ (λ x. x ≢ low.parent a) (SameOwn up up') (λ c. said (total up') up' c ≡ said (total up) up c) other r.P₂ b2 (all_right (SameOwn up up') r.P₁ (low.parent a ∷ r.P₂) op').1,
        ))

    all_st : All (All (SameNode up up')) st
    all_st = all_map₂ (All (λ m. m ≢ low.parent a)) (All (SameOwn up up')) (All (SameNode up up'))
        (λ Q h o. all_map₂ (λ m. m ≢ low.parent a) (SameOwn up up') (SameNode up up') (λ m ne o. (so m ne, o)) Q h o) st apt os

-- a full node's slots L ++ U divided between it and q: what the children say, what the parents say
pub halve_low : (t : ℕ → ℕ → ℕ) (low up : Area) (C : List ℕ) (P₁ : List ℕ) (p : ℕ) (P₂ : List ℕ) (L U : List Slot) (q : ℕ)
    → NoDup C → map (said t low) C ≡ cat (told up) (P₁ ++ p ∷ P₂) → up.slots p ≡ L ++ U
    → map (said t (adopt_all low q 0 U)) C ≡ (cat (told up) P₁ ++ marks p 0 L) ++ (marks q 0 U ++ cat (told up) P₂)
halve_low t low up C P₁ p P₂ L U q nd e sl =
    adopt_all_law t low C (cat (told up) P₁ ++ marks p 0 L) p (0 + length L) q 0 U (cat (told up) P₂) nd
    (e ∙ rw (cat_append, sl, marks_append) (simp append_assoc))

pub halve_up : (up up' : Area) (P₁ : List ℕ) (p q : ℕ) (P₂ : List ℕ) (L U : List Slot)
    → up'.slots p ≡ L → up'.slots q ≡ U → All (λ x. up'.slots x ≡ up.slots x) P₁ → All (λ x. up'.slots x ≡ up.slots x) P₂
    → cat (told up') (P₁ ++ p ∷ q ∷ P₂) ≡ (cat (told up) P₁ ++ marks p 0 L) ++ (marks q 0 U ++ cat (told up) P₂)
halve_up up up' P₁ p q P₂ L U ep eq h k =
    let c1 : cat (told up') P₁ ≡ cat (told up) P₁ = cat_cong (told up') (told up) P₁ (all_map (λ x. up'.slots x ≡ up.slots x) (λ x. told up' x ≡ told up x) (λ x s. rw s) P₁ h) in
    let c2 : cat (told up') P₂ ≡ cat (told up) P₂ = cat_cong (told up') (told up) P₂ (all_map (λ x. up'.slots x ≡ up.slots x) (λ x. told up' x ≡ told up x) (λ x s. rw s) P₂ k) in
    rw (cat_append, c1, c2, ep, eq) (simp append_assoc)
