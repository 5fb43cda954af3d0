-- The next node of a level by climbing is the next of its list; the order of two nodes by their paths is that of the list.
use Rattle.std.specs.Prelude.{◌≡◌, refl, ◌⊎◌, Bool, true, false, ℕ, zero, suc, ◌+◌, ◌≤◌, ◌<◌, ltb, length, get_or}
use Rattle.std.proofs.Common.{sym, ap, ◌∙◌, inl, inr, not-suc-le-zero, arith, ltb→lt, nltb→le, length-append}
use mathlib.Core.List.{List, [], ◌∷◌, ◌++◌, map, nil≢cons, cons≢nil, head-eq_of_cons-eq}
use Rattle.model.specs.Lists.{All}
use Rattle.model_tree.specs.Lists.{cat, map_append, append_split, cat_split, single_split, all_right}
use Rattle.model_tree.specs.Levels.{no_slot, Slot, Area, Mark, marks, told, said, Links, total, mark_at, Parent, find_parent}

pub data NodeOrEnd : Type 0 where
  node : ℕ → NodeOrEnd
  end : NodeOrEnd

abbrev pub first_of : Area → NodeOrEnd → NodeOrEnd
first_of up (node q) = node (get_or (up.slots q) 0 no_slot).child
first_of up end = end

abbrev pub next_of : Area → Area → ℕ → ℕ → NodeOrEnd
next_of low up zero c = end
next_of low up (suc d) c = elim (ltb (suc (low.place c)) (length (up.slots (low.parent c)))) [
  | true ↦ node (get_or (up.slots (low.parent c)) (suc (low.place c)) no_slot).child
  | false ↦ first_of up (next_of up up d (low.parent c))
]

abbrev pub head_of : List ℕ → NodeOrEnd
head_of [] = end
head_of (b ∷ B) = node b

abbrev pub NoneEmpty : Area → List (List ℕ) → Type 0
NoneEmpty up st = All (All (λ p. 0 < length (up.slots p))) st

head_said : (t : ℕ → ℕ → ℕ) (low : Area) (B : List ℕ) (m : Mark) (Z : List Mark) → map (said t low) B ≡ m ∷ Z → node m.num ≡ head_of B
head_said t low [] m Z e = absurd (nil≢cons e)
head_said t low (b ∷ B) m Z e = ap node (sym (ap (λ (m : Mark). m.num) (head-eq_of_cons-eq e)))

none_said : (t : ℕ → ℕ → ℕ) (low : Area) (B : List ℕ) → map (said t low) B ≡ [] → end ≡ head_of B
none_said t low [] e = refl
none_said t low (b ∷ B) e = absurd (cons≢nil e)

get_d_next : {A : Type 0} (xs : List A) (y z : A) (zs : List A) (d : A) → get_or (xs ++ y ∷ z ∷ zs) (suc (length xs)) d ≡ z
get_d_next [] y z zs d = refl
get_d_next (x ∷ xs) y z zs d = get_d_next xs y z zs d

pub next_is : (t : ℕ → ℕ → ℕ) (low up : Area) (root : ℕ) (A : List ℕ) (c : ℕ) (B : List ℕ) (st : List (List ℕ))
    → Links t low up root (A ++ c ∷ B) st → NoneEmpty up st → next_of low up (length st) c ≡ head_of B
unfolding All
next_is t low up root A c B [] l f = rw (single_split A c B root l.0).2
next_is t low up root A c B (P ∷ st) l f =
    go (find_parent t low up A c B P l.0) (λ P₁ P₂ e. next_is (total up) up up root P₁ (low.parent c) P₂ st (rw e at l.1) f.1)
  where
    below : (P₂ : List ℕ) → All (λ p. 0 < length (up.slots p)) P₂ → map (said t low) B ≡ cat (told up) P₂ → first_of up (head_of P₂) ≡ head_of B
    below [] g e = none_said t low B e
    below (q ∷ P₂) g e = dig (up.slots q) refl g.0
      where
        dig : (ss : List Slot) → up.slots q ≡ ss → 0 < length (up.slots q) → node (get_or (up.slots q) 0 no_slot).child ≡ head_of B
        dig [] x y = absurd (not-suc-le-zero (rw x at y))
        dig (z ∷ zs) x y = rw x (head_said t low B (record { num = z.child; par = q; pos = 0; wt = z.lens }) (marks q 1 zs ++ cat (told up) P₂) (e ∙ rw x))

    test : (b : Bool) → ltb (suc (low.place c)) (length (up.slots (low.parent c))) ≡ b → (r : Parent t low up A c B P) → next_of up up (length st) (low.parent c) ≡ head_of r.P₂
        → (S₂ : List Slot) → r.S₂ ≡ S₂ → next_of low up (suc (length st)) c ≡ head_of B
    test true e r ih [] x =
        let lt : suc (low.place c) < length (up.slots (low.parent c)) = ltb→lt _ _ (rw e tt) in
        absurd (let y : length (up.slots (low.parent c)) ≡ length r.S₁ + 1 = rw (r.slots, length-append, x) in omega (arith, r.place))
    test true e r ih (z ∷ zs) x = rw (e, next_of) (rw (r.place, r.slots, x, get_d_next) (head_said t low B (record { num = z.child; par = low.parent c; pos = suc (length r.S₁); wt = z.lens }) (marks (low.parent c) (suc (suc (length r.S₁))) zs ++ cat (told up) r.P₂) (r.after ∙ rw x)))
    test false e r ih [] x = rw (e, next_of) (rw ih (below r.P₂ (all_right (λ p. 0 < length (up.slots p)) r.P₁ (low.parent c ∷ r.P₂) (rw r.row at f.0)).1 (r.after ∙ rw x)))
    test false e r ih (z ∷ zs) x =
        let le : length (up.slots (low.parent c)) ≤ suc (low.place c) = nltb→le _ _ (rw e tt) in
        absurd (let y : length (up.slots (low.parent c)) ≡ length r.S₁ + suc (suc (length zs)) = rw (r.slots, length-append, x) in omega (arith, r.place))

    go : (r : Parent t low up A c B P) → ((P₁ P₂ : List ℕ) → P ≡ P₁ ++ low.parent c ∷ P₂ → next_of up up (length st) (low.parent c) ≡ head_of P₂) → next_of low up (suc (length st)) c ≡ head_of B
    go r ih = test (ltb (suc (low.place c)) (length (up.slots (low.parent c)))) refl r (ih r.P₁ r.P₂ r.row) r.S₂ refl

-- paths from the root, and their order
abbrev pub path : Area → Area → ℕ → ℕ → List ℕ
path low up zero c = []
path low up (suc d) c = path up up d (low.parent c) ++ (low.place c ∷ [])

abbrev pub Lex : List ℕ → List ℕ → Type 0
Lex [] ys = ⊥
Lex (x ∷ xs) [] = ⊥
Lex (x ∷ xs) (y ∷ ys) = (x < y) ⊎ ((x ≡ y) × Lex xs ys)

lex_more : (xs ys : List ℕ) (x y : ℕ) → Lex xs ys → Lex (xs ++ (x ∷ [])) (ys ++ (y ∷ []))
lex_more [] ys x y h = absurd h
lex_more (a ∷ xs) [] x y h = absurd h
lex_more (a ∷ xs) (b ∷ ys) x y (inl h) = inl h
lex_more (a ∷ xs) (b ∷ ys) x y (inr h) = inr (h.0, lex_more xs ys x y h.1)

lex_last : (xs : List ℕ) (x y : ℕ) → x < y → Lex (xs ++ (x ∷ [])) (xs ++ (y ∷ []))
lex_last [] x y h = inl h
lex_last (a ∷ xs) x y h = inr (refl, lex_last xs x y h)

pub path_order : (t : ℕ → ℕ → ℕ) (low up : Area) (root : ℕ) (A : List ℕ) (c : ℕ) (B : List ℕ) (c' : ℕ) (D : List ℕ) (st : List (List ℕ))
    → Links t low up root (A ++ c ∷ (B ++ c' ∷ D)) st → Lex (path low up (length st) c) (path low up (length st) c')
path_order t low up root A c B c' D [] l = absurd (more B (single_split A c (B ++ c' ∷ D) root l.0).2)
  where
    more : (B : List ℕ) → B ++ c' ∷ D ≡ [] → ⊥
    more [] e = cons≢nil e
    more (b ∷ B) e = cons≢nil e
path_order t low up root A c B c' D (P ∷ st) l =
    go (find_parent t low up A c (B ++ c' ∷ D) P l.0) (λ P₁ p Q p' R e. path_order (total up) up up root P₁ p Q p' R st (rw e at l.1))
  where
    go : Parent t low up A c (B ++ c' ∷ D) P
        → ((P₁ : List ℕ) (p : ℕ) (Q : List ℕ) (p' : ℕ) (R : List ℕ) → P ≡ P₁ ++ p ∷ (Q ++ p' ∷ R) → Lex (path up up (length st) p) (path up up (length st) p'))
        → Lex (path low up (suc (length st)) c) (path low up (suc (length st)) c')
    go r ih = case (append_split (marks (low.parent c) (suc (length r.S₁)) r.S₂) (cat (told up) r.P₂) (map (said t low) B) (said t low c') (map (said t low) D) (sym r.after ∙ map_append (said t low) B (c' ∷ D)))
      where
        case : ((F : List Mark) × (marks (low.parent c) (suc (length r.S₁)) r.S₂ ≡ map (said t low) B ++ said t low c' ∷ F) × (map (said t low) D ≡ F ++ cat (told up) r.P₂))
            ⊎ ((Y : List Mark) × (map (said t low) B ≡ marks (low.parent c) (suc (length r.S₁)) r.S₂ ++ Y) × (cat (told up) r.P₂ ≡ Y ++ said t low c' ∷ map (said t low) D))
            → Lex (path low up (suc (length st)) c) (path low up (suc (length st)) c')
        case (inl x) =
            let m = mark_at (low.parent c) (suc (length r.S₁)) r.S₂ (map (said t low) B) (said t low c') x.0 x.1 in
            rw m.par (lex_last (path up up (length st) (low.parent c)) (low.place c) (low.place c') (omega (arith, r.place, m.pos)))
        case (inr x) =
            let z = cat_split (told up) r.P₂ x.0 (said t low c') (map (said t low) D) x.2 in
            let m = mark_at z.p 0 (up.slots z.p) z.F₁ (said t low c') z.F₂ z.own in
            lex_more (path up up (length st) (low.parent c)) (path up up (length st) (low.parent c')) (low.place c) (low.place c')
            (ih r.P₁ (low.parent c) z.P₁ (low.parent c') z.P₂ (r.row ∙ ap {B = List ℕ} (λ l. r.P₁ ++ low.parent c ∷ l) (z.row ∙ ap {B = List ℕ} (λ k. z.P₁ ++ k ∷ z.P₂) (sym m.par))))
