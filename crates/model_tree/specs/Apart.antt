-- From the links alone: no node stands twice in its level, and nodes of different levels differ.
use Rattle.std.specs.Prelude.{◌≡◌, refl, ◌≢◌, Bool, true, false, List, [], ◌∷◌, map, ℕ, zero, suc, ◌≤◌, eqb, length}
use Rattle.std.proofs.Common.{sym, ap, ◌∙◌, not-suc-le-zero, arith, eqb→eq}
use Rattle.model.specs.Lists.{All}
use Rattle.model_tree.specs.Lists.{cat, Pairs, all_map, all_map₂, all_append, all_of_map, pairs_of_map, pairs_cat, NoDup}
use Rattle.model_tree.specs.Levels.{Slot, Area, Mark, marks, told, said, Links, total, none}

abbrev pub Diff : Mark → Mark → Type 0
Diff m m' = m.par ≡ m'.par → m.pos ≢ m'.pos

abbrev pub Later : ℕ → ℕ → Mark → Type 0
Later p i m = (m.par ≡ p) × (i ≤ m.pos)

later : (p i : ℕ) (ss : List Slot) → All (Later p i) (marks p i ss)
unfolding All
later p i [] = tt
later p i (s ∷ ss) = ((refl, omega arith), all_map (Later p (suc i)) (Later p i) (λ m h. (h.0, omega arith)) (marks p (suc i) ss) (later p (suc i) ss))

marks_pairs : (p i : ℕ) (ss : List Slot) → Pairs Diff (marks p i ss)
marks_pairs p i [] = tt
marks_pairs p i (s ∷ ss) = (all_map (Later p (suc i)) (Diff (record { num = s.child; par = p; pos = i; wt = s.lens })) (λ m h e e'. omega arith) (marks p (suc i) ss) (later p (suc i) ss), marks_pairs p (suc i) ss)

marks_cross : (up : Area) (p q : ℕ) → p ≢ q → All (λ x. All (Diff x) (told up q)) (told up p)
marks_cross up p q ne = all_map (Later p 0) (λ x. All (Diff x) (told up q)) (λ m h. all_map (Later q 0) (Diff m) (λ m' h' e e'. ne (sym h.0 ∙ e ∙ h'.0)) (told up q) (later q 0 (up.slots q))) (told up p) (later p 0 (up.slots p))

pub links_nodup : (t : ℕ → ℕ → ℕ) (low up : Area) (root : ℕ) (C : List ℕ) (st : List (List ℕ)) → Links t low up root C st → NoDup C
unfolding All
links_nodup t low up root C [] l = rw l.0 (tt, tt)
links_nodup t low up root C (P ∷ st) l =
    pairs_of_map Diff (λ x y. x ≢ y) (said t low) (λ x y d e. d (ap low.parent e) (ap low.place e)) C
    (rw l.0 (pairs_cat Diff (λ x y. x ≢ y) (told up) (λ p. marks_pairs p 0 (up.slots p)) (marks_cross up) P (links_nodup (total up) up up root P st l.1)))

pub all_told : (up : Area) (Q : ℕ → Type 0) (P : List ℕ) → All Q P → All (λ m. Q m.par) (cat (told up) P)
unfolding All
all_told up Q [] h = tt
all_told up Q (p ∷ P) h = all_append (λ m. Q m.par) (told up p) (cat (told up) P)
    (all_map (Later p 0) (λ m. Q m.par) (λ m k. rw k.0 h.0) (told up p) (later p 0 (up.slots p))) (all_told up Q P h.1)

-- what holds of all parents holds of each child's parent
pub all_parents : (t : ℕ → ℕ → ℕ) (low up : Area) (Q : ℕ → Type 0) (C P : List ℕ) → map (said t low) C ≡ cat (told up) P → All Q P → All (λ c. Q (low.parent c)) C
all_parents t low up Q C P e h = all_of_map (λ (m : Mark). Q m.par) (said t low) C (rw e (all_told up Q P h))

abbrev pub dep : Area → ℕ → ℕ → ℕ
dep up zero n = 0
dep up (suc K) n = elim (eqb n none) [ true ↦ 0 | false ↦ suc (dep up K (up.parent n)) ]

pub dep_none : (up : Area) (K : ℕ) → dep up K none ≡ 0
dep_none up zero = refl
dep_none up (suc K) = refl

pub dep_step : (up : Area) (K n : ℕ) → n ≢ none → dep up (suc K) n ≡ suc (dep up K (up.parent n))
dep_step up K n ne = go (eqb n none) refl
  where
    go : (b : Bool) → eqb n none ≡ b → dep up (suc K) n ≡ suc (dep up K (up.parent n))
    go true e = absurd (ne (eqb→eq n none (rw e tt)))
    go false e = rw (e, dep)

abbrev pub Real : List ℕ → Type 0
Real l = All (λ n. n ≢ none) l

pub ranks : (t : ℕ → ℕ → ℕ) (up : Area) (root : ℕ) (C : List ℕ) (st : List (List ℕ)) (K : ℕ) → Links t up up root C st → Real C → All Real st → length st ≤ K
    → All (λ n. dep up (suc K) n ≡ suc (length st)) C × All (All (λ m. dep up (suc K) m ≤ length st)) st
unfolding All
ranks t up root C [] K l r rs k = (rw l.0 (dep_step up K root (rw l.0 at r).0 ∙ ap suc (rw l.1 (dep_none up K)), tt), tt)
ranks t up root C (P ∷ st) zero l r rs k = absurd (not-suc-le-zero k)
ranks t up root C (P ∷ st) (suc K) l r rs k = go (ranks (total up) up root P st K l.1 rs.0 rs.1 (omega arith)) (ranks (total up) up root P st (suc K) l.1 rs.0 rs.1 (omega arith))
  where
    go : All (λ n. dep up (suc K) n ≡ suc (length st)) P × All (All (λ m. dep up (suc K) m ≤ length st)) st
        → All (λ n. dep up (suc (suc K)) n ≡ suc (length st)) P × All (All (λ m. dep up (suc (suc K)) m ≤ length st)) st
        → All (λ n. dep up (suc (suc K)) n ≡ suc (suc (length st))) C × All (All (λ m. dep up (suc (suc K)) m ≤ suc (length st))) (P ∷ st)
    go a b = (
      all_map₂ (λ n. n ≢ none) (λ n. dep up (suc K) (up.parent n) ≡ suc (length st)) (λ n. dep up (suc (suc K)) n ≡ suc (suc (length st)))
          (λ n ne e. dep_step up (suc K) n ne ∙ ap suc e) C r (all_parents t up up (λ p. dep up (suc K) p ≡ suc (length st)) C P l.0 a.0),
      (
        all_map (λ n. dep up (suc (suc K)) n ≡ suc (length st)) (λ n. dep up (suc (suc K)) n ≤ suc (length st)) (λ n e. omega arith) P b.0,
        all_map (All (λ m. dep up (suc (suc K)) m ≤ length st)) (All (λ m. dep up (suc (suc K)) m ≤ suc (length st))) (λ Q h. all_map (λ m. dep up (suc (suc K)) m ≤ length st) (λ m. dep up (suc (suc K)) m ≤ suc (length st)) (λ m e. omega arith) Q h) st b.1,
      ),
    )

-- the nodes of a level stand in none of the levels above it
pub apart : (t : ℕ → ℕ → ℕ) (up : Area) (root : ℕ) (C : List ℕ) (st : List (List ℕ)) → Links t up up root C st → Real C → All Real st
    → All (λ c. All (All (λ m. c ≢ m)) st) C
apart t up root C st l r rs = go (ranks t up root C st (length st) l r rs (omega arith))
  where
    go : All (λ n. dep up (suc (length st)) n ≡ suc (length st)) C × All (All (λ m. dep up (suc (length st)) m ≤ length st)) st → All (λ c. All (All (λ m. c ≢ m)) st) C
    go a = all_map (λ n. dep up (suc (length st)) n ≡ suc (length st)) (λ c. All (All (λ m. c ≢ m)) st)
        (λ n e. all_map (All (λ m. dep up (suc (length st)) m ≤ length st)) (All (λ m. n ≢ m)) (λ Q h. all_map (λ m. dep up (suc (length st)) m ≤ length st) (λ m. n ≢ m)
        (λ m k q. let z : dep up (suc (length st)) n ≡ dep up (suc (length st)) m = ap (λ (x : ℕ). dep up (suc (length st)) x) q in omega arith) Q h) st a.1) C a.0
