-- The marks of the walk are the edits that an edit rests on: it rests on whatever is marked, and along every chain the parents of a marked edit are
-- marked. Assumes nothing.
use mathlib.Core.Path.{◌≡◌, refl, sym, ap, subst, ◌∙◌}
use mathlib.Core.Logic.{◌≢◌, ◌⊎◌, inl, inr, ⊎_elim}
use mathlib.Core.Bool.{Bool, true, false, cond}
use mathlib.Core.List.{List}
use Prim.Native.Nat.{ℕ, zero, suc, ◌+◌, ◌-◌, ◌<◌, ◌≤◌}
use native.Mathlib.Omega.{arith}
use lib.ListN.{length, get_or, set, replicate, length-set, length-replicate, get_or-replicate, get_or-eq_default}
use lib.Seq.{get_or-set_same, get_or-set_other, set_out}
use lib.Dec.{ltb, eqb}
use borrow.Author.Tests.{eq-eqb, ne_eqb, eqb-true, eqb-false, ltb-true, ltb-false}
use Rattle.calls_edits.specs.Edits.{none, edits, left, right, Parent, by_left, by_right, Rests, itself, through, rests_on}
use Rattle.calls_edits.specs.Walk.{stepped, walked}
use Rattle.calls_edits.specs.Exactly.{AllGood, chained, rests_yes, rests_no}

-- one mark --------------------------------------------------------------------------------------------------------------------------------

mark_keep : (p j : ℕ) (m : List ℕ) → get_or m j 0 ≡ 1 → get_or (set m p 1) j 0 ≡ 1
mark_keep p j m e = go (eqb j p) refl (ltb p (length m)) refl
  where
    go : (d : Bool) → eqb j p ≡ d → (l : Bool) → ltb p (length m) ≡ l → get_or (set m p 1) j 0 ≡ 1
    go true ed true el = subst (λ (x : ℕ). get_or (set m p 1) x 0 ≡ 1) (sym (eqb-true j p ed)) (get_or-set_same m p 1 0 (ltb-true p (length m) el))
    go true ed false el = subst (λ (x : List ℕ). get_or x j 0 ≡ 1) (sym (set_out m p 1 (ltb-false p (length m) el))) e
    go false ed l el = get_or-set_other m p j 1 0 (eqb-false j p ed) ∙ e

-- a new mark is the one set, inside the marks
mark_new : (p j : ℕ) (m : List ℕ) → get_or (set m p 1) j 0 ≡ 1 → (get_or m j 0 ≡ 1) ⊎ ((p ≡ j) × (j < length m))
mark_new p j m e = go (eqb j p) refl (ltb p (length m)) refl
  where
    go : (d : Bool) → eqb j p ≡ d → (l : Bool) → ltb p (length m) ≡ l → (get_or m j 0 ≡ 1) ⊎ ((p ≡ j) × (j < length m))
    go true ed true el = let q : j ≡ p = eqb-true j p ed in inr (sym q, omega (arith, ltb-true p (length m) el))
    go true ed false el = inl (subst (λ (x : List ℕ). get_or x j 0 ≡ 1) (set_out m p 1 (ltb-false p (length m) el)) e)
    go false ed l el = inl (sym (get_or-set_other m p j 1 0 (eqb-false j p ed)) ∙ e)

-- the marks from edit e alone ------------------------------------------------------------------------------------------------------------

abbrev unmarked : List ℕ
unmarked = replicate 512 0

abbrev begun : ℕ → List ℕ
begun e = set unmarked e 1

plain_length : length unmarked ≡ 512
plain_length = length-replicate {A = ℕ} 512 0

begun_length : (e : ℕ) → length (begun e) ≡ 512
begun_length e = length-set unmarked e 1 ∙ plain_length

begun_only : (e j : ℕ) → get_or (begun e) j 0 ≡ 1 → e ≡ j
begun_only e j h = go (eqb j e) refl (ltb j 512) refl
  where
    zeros : (b : Bool) → ltb j 512 ≡ b → ◌≡◌ {A = ℕ} (get_or unmarked j 0) 0
    zeros true t = get_or-replicate {A = ℕ} 512 j 0 0 (ltb-true j 512 t)
    zeros false t = get_or-eq_default unmarked 0 {n = j} (rw plain_length (ltb-false j 512 t))

    go : (b : Bool) → eqb j e ≡ b → (d : Bool) → ltb j 512 ≡ d → e ≡ j
    go true t d u = sym (eqb-true j e t)
    go false t d u = absurd (omega (arith, sym (get_or-set_other unmarked e j 1 0 (eqb-false j e t)) ∙ h, zeros d u))

-- one step --------------------------------------------------------------------------------------------------------------------------------

module _ (file : List ℕ) where
  length_stepped : (k : ℕ) (m : List ℕ) → length (stepped file k m) ≡ length m
  unfolding stepped
  length_stepped k m = go (eqb (get_or m k 0) 1)
    where
      go : (b : Bool) → length (cond b (set (set m (left file k) 1) (right file k) 1) m) ≡ length m
      go true = length-set (set m (left file k) 1) (right file k) 1 ∙ length-set m (left file k) 1
      go false = refl

  step_keep : (k j : ℕ) (m : List ℕ) → get_or m j 0 ≡ 1 → get_or (stepped file k m) j 0 ≡ 1
  unfolding stepped
  step_keep k j m e = go (eqb (get_or m k 0) 1)
    where
      go : (b : Bool) → get_or (cond b (set (set m (left file k) 1) (right file k) 1) m) j 0 ≡ 1
      go true = mark_keep (right file k) j (set m (left file k) 1) (mark_keep (left file k) j m e)
      go false = e

  -- a new mark is a parent of k, which is marked
  step_new : (k j : ℕ) (m : List ℕ) → length m ≤ none → get_or (stepped file k m) j 0 ≡ 1 → (get_or m j 0 ≡ 1) ⊎ ((get_or m k 0 ≡ 1) × Parent file k j)
  unfolding stepped
  step_new k j m s e = go (eqb (get_or m k 0) 1) refl e
    where
      long : length (set m (left file k) 1) ≡ length m
      long = length-set m (left file k) 1

      go : (b : Bool) → eqb (get_or m k 0) 1 ≡ b → get_or (cond b (set (set m (left file k) 1) (right file k) 1) m) j 0 ≡ 1 → (get_or m j 0 ≡ 1) ⊎ ((get_or m k 0 ≡ 1) × Parent file k j)
      go false eb e = inl e
      go true eb e =
          ⊎_elim
          (λ f. ⊎_elim (λ g. inl g) (λ g. inr (eqb-true (get_or m k 0) 1 eb, by_left g.0 (λ n. omega (arith, g.1, n, s)))) (mark_new (left file k) j m f))
          (λ g. inr (eqb-true (get_or m k 0) 1 eb, by_right g.0 (λ n. omega (arith, g.1, n, s, long))))
          (mark_new (right file k) j (set m (left file k) 1) e)

  -- the parents of a marked k are marked
  step_hit : (k p : ℕ) (m : List ℕ) → get_or m k 0 ≡ 1 → Parent file k p → p < length m → get_or (stepped file k m) p 0 ≡ 1
  unfolding stepped
  step_hit k p m e q l = rw (eq-eqb (get_or m k 0) 1 e) (go q)
    where
      go : Parent file k p → get_or (set (set m (left file k) 1) (right file k) 1) p 0 ≡ 1
      go (by_left s n) = mark_keep (right file k) p (set m (left file k) 1) (subst (λ (x : ℕ). get_or (set m x 1) p 0 ≡ 1) (sym s) (get_or-set_same m p 1 0 l))
      go (by_right s n) = subst (λ (x : ℕ). get_or (set (set m (left file k) 1) x 1) p 0 ≡ 1) (sym s) (get_or-set_same (set m (left file k) 1) p 1 0 (rw (length-set m (left file k) 1) l))

  -- the walk ------------------------------------------------------------------------------------------------------------------------------

  walk_keep : (k j : ℕ) (m : List ℕ) → get_or m j 0 ≡ 1 → get_or (walked file k m) j 0 ≡ 1
  unfolding walked
  walk_keep zero j m e = e
  walk_keep (suc k) j m e = walk_keep k j (stepped file k m) (step_keep k j m e)

  -- what holds of the marks and passes to parents holds of all marks of the walk
  walk_only : (P : ℕ → Type 0) → ((k p : ℕ) → P k → Parent file k p → P p) → (k : ℕ) (m : List ℕ) → length m ≤ none → ((j : ℕ) → get_or m j 0 ≡ 1 → P j) → (j : ℕ) → get_or (walked file k m) j 0 ≡ 1 → P j
  unfolding walked
  walk_only P pass zero m s h j e = h j e
  walk_only P pass (suc k) m s h j e =
      walk_only P pass k (stepped file k m) (rw (length_stepped k m) s) (λ i g. ⊎_elim (λ a. h i a) (λ a. pass k i (h k a.0) a.1) (step_new k i m s g)) j e

  module _ (good : AllGood file) where
    step_above : (k j : ℕ) (m : List ℕ) → length m ≤ none → k < edits file → k ≤ j → get_or (stepped file k m) j 0 ≡ 1 → get_or m j 0 ≡ 1
    step_above k j m l h g e =
        ⊎_elim (λ a. a) (λ a. let s : j < k = (good k h).parents j a.1 in absurd (omega arith)) (step_new k j m l e)

    walk_above : (k j : ℕ) (m : List ℕ) → length m ≤ none → k ≤ edits file → k ≤ j → get_or (walked file k m) j 0 ≡ 1 → get_or m j 0 ≡ 1
    unfolding walked
    walk_above zero j m l h g e = e
    walk_above (suc k) j m l h g e =
        step_above k j m l (omega arith) (omega arith) (walk_above k j (stepped file k m) (rw (length_stepped k m) l) (omega arith) (omega arith) e)

    -- a marked edit below k has its parents marked
    walk_closed : (k i p : ℕ) (m : List ℕ) → length m ≤ none → k ≤ edits file → edits file ≤ length m → i < k → get_or (walked file k m) i 0 ≡ 1 → Parent file i p → get_or (walked file k m) p 0 ≡ 1
    unfolding walked
    walk_closed zero i p m s h l g e q = absurd (omega arith)
    walk_closed (suc k) i p m s h l g e q =
        last (eqb i k) refl (λ (d : i < k). walk_closed k i p (stepped file k m) (rw (length_stepped k m) s) (omega arith) (rw (length_stepped k m) l) d e q)
      where
        top : i ≡ k → get_or (walked file k (stepped file k m)) p 0 ≡ 1
        top d =
            let q' : Parent file k p = subst (λ (x : ℕ). Parent file x p) d q in
            let e' : get_or (walked file k (stepped file k m)) k 0 ≡ 1 = subst (λ (x : ℕ). get_or (walked file k (stepped file k m)) x 0 ≡ 1) d e in
            let less : p < k = (good k (omega arith)).parents p q' in
            let mk : get_or m k 0 ≡ 1 = step_above k k m s (omega arith) (omega arith) (walk_above k k (stepped file k m) (rw (length_stepped k m) s) (omega arith) (omega arith) e') in
            walk_keep k p (stepped file k m) (step_hit k p m mk q' (omega arith))

        last : (b : Bool) → eqb i k ≡ b → (i < k → get_or (walked file k (stepped file k m)) p 0 ≡ 1) → get_or (walked file k (stepped file k m)) p 0 ≡ 1
        last true d f = top (eqb-true i k d)
        last false d f =
            let n : i ≡ k → ⊥ = eqb-false i k d in
            f (omega arith)

    walk_chain : (k : ℕ) (m : List ℕ) → length m ≤ none → k ≤ edits file → edits file ≤ length m → {i j : ℕ} → Rests file i j → i < k → get_or (walked file k m) i 0 ≡ 1 → get_or (walked file k m) j 0 ≡ 1
    walk_chain k m s h l itself g e = e
    walk_chain k m s h l {i} (through {p = p} q r) g e =
        let less : p < i = (good i (omega arith)).parents p q in
        walk_chain k m s h l r (omega arith) (walk_closed k i p m s h l g e q)

    marks_exactly : (e k : ℕ) → e < edits file → edits file ≤ 512 → eqb (get_or (walked file (e + 1) (begun e)) k 0) 1 ≡ rests_on file e k
    marks_exactly e k h g = go (eqb (get_or (walked file (e + 1) (begun e)) k 0) 1) refl
      where
        short : length (begun e) ≤ none
        short = omega (arith, begun_length e)

        start : get_or (begun e) e 0 ≡ 1
        start = get_or-set_same unmarked e 1 0 (rw plain_length (omega arith))

        go : (b : Bool) → eqb (get_or (walked file (e + 1) (begun e)) k 0) 1 ≡ b → b ≡ rests_on file e k
        go true t =
            sym (rests_yes file good e h k (walk_only (λ j. Rests file e j) (λ i p a q. chained a (through q itself)) (e + 1) (begun e) short (λ j s. subst (λ (x : ℕ). Rests file e x) (begun_only e j s) itself) k (eqb-true _ 1 t)))
        go false t =
            sym (rests_no file good e h k (λ r. eqb-false _ 1 t (walk_chain (e + 1) (begun e) short (omega arith) (omega (arith, begun_length e)) r (omega arith) (walk_keep (e + 1) e (begun e) start))))

    pub marks_are : (e : ℕ) (now : List ℕ) → e < edits file → edits file ≤ 512 → now ≡ walked file (e + 1) (begun e) → (k : ℕ) → eqb (get_or now k 0) 1 ≡ rests_on file e k
    marks_are e now h g q k = ap (λ (m : List ℕ). eqb (get_or m k 0) 1) q ∙ marks_exactly e k h g

  -- the code's turns ----------------------------------------------------------------------------------------------------------------------

  pub step_not : (k : ℕ) (m : List ℕ) → get_or m k 0 ≢ 1 → m ≡ stepped file k m
  unfolding stepped
  step_not k m h = rw (ne_eqb (get_or m k 0) 1 h)

  pub step_marked : (k : ℕ) (m : List ℕ) (l r : ℕ) (one two : List ℕ) → get_or m k 0 ≡ 1 → l ≡ left file k → r ≡ right file k → one ≡ set m l 1 → two ≡ set one r 1 → two ≡ stepped file k m
  unfolding stepped
  step_marked k m l r one two h el er e1 e2 = e2 ∙ rw (e1, eq-eqb (get_or m k 0) 1 h, el, er)

  walk_one : (j : ℕ) (m : List ℕ) → walked file (suc j) m ≡ walked file j (stepped file j m)
  unfolding walked
  walk_one j m = refl

  pub walk_turn : (k : ℕ) (m now all : List ℕ) → 1 ≤ k → now ≡ stepped file (k - 1) m → walked file k m ≡ all → walked file (k - 1) now ≡ all
  walk_turn k m now all h e inv =
      let s : k ≡ suc (k - 1) = omega arith in
      ap (walked file (k - 1)) e ∙ (sym (walk_one (k - 1) m) ∙ (ap (λ (x : ℕ). walked file x m) (sym s) ∙ inv))

  pub walk_none : (k : ℕ) (m all : List ℕ) → k ≤ 0 → walked file k m ≡ all → m ≡ all
  unfolding walked
  walk_none zero m all h inv = inv
  walk_none (suc k) m all h inv = absurd (omega arith)
