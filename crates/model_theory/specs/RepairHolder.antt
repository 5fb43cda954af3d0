-- Where a child stands among some nodes, and in which of some levels a node stands: found again, if it stands there once. Assumes nothing.
use Rattle.std.specs.Prelude.{◌≡◌, ◌⊎◌, Bool, true, false, cond, length, get_or, ltb, eqb}
use Rattle.std.proofs.Math.Path.{refl, sym}
use Rattle.std.proofs.Common.{ap, ap₂, subst, ◌∙◌, inl, inr, arith, lt-ltb, le-ltb, eq-eqb, eqb-true}
use mathlib.Core.List.{List, [], ◌∷◌, flat_map}
use Prim.Native.Nat.{ℕ, zero, suc, ◌+◌, ◌<◌, ◌≤◌}
use Rattle.std.proofs.lemmas.Bool.{eqb-false}
use Rattle.model.specs.Lists.{times, range}
use Rattle.model.specs.Node.{none}
use Rattle.model.specs.Sound.{until}
use Rattle.model.specs.Mend.{holder, depth_from}
use Rattle.model_theory.specs.LiftCount.{times_append}
use Rattle.model_theory.specs.RepairLists.{In, here, later, in_flat, in_range, in_cons, no_nil, get_d_in}

pub in_times : (k : ℕ) {l : List ℕ} → In k l → 0 < times k l
unfolding times
in_times k here = rw (eq-eqb k k refl) (omega arith)
in_times k (later i) = omega (arith, in_times k i)

-- the first place of a number that stands in a list once
pub until_place : (k : ℕ) (l : List ℕ) (i : ℕ) → i < length l → get_or l i 0 ≡ k → times k l ≡ 1 → length (until k l) ≡ i
unfolding until times
until_place k [] i h e o = absurd (omega arith)
until_place k (x ∷ l) zero h e o = rw (eq-eqb x k e)
until_place k (x ∷ l) (suc i) h e o = go (eqb x k) refl o (λ q. until_place k l i (omega arith) e q)
  where
    there : 0 < times k l
    there = subst (λ (y : ℕ). 0 < times y l) e (in_times (get_or l i 0) (get_d_in l i (omega arith)))

    go : (b : Bool) → eqb x k ≡ b → cond b 1 0 + times k l ≡ 1 → (times k l ≡ 1 → length (until k l) ≡ i) → length (cond b [] (x ∷ until k l)) ≡ suc i
    go true q o f = absurd (omega (arith, there))
    go false q o f = ap suc (f (omega arith))

module _ (kids : ℕ → List ℕ) where
  pub holder_is : (ps : List ℕ) (c p i : ℕ) → In p ps → times c (flat_map kids ps) ≡ 1 → i < length (kids p) → get_or (kids p) i 0 ≡ c → holder kids ps c ≡ (p, i)
  unfolding holder flat_map
  holder_is [] c p i r o h e = absurd (no_nil r refl)
  holder_is (q ∷ ps) c p i r o h e = go (in_cons r) (λ j w. holder_is ps c p i j w h e)
    where
      both : times c (kids q) + times c (flat_map kids ps) ≡ 1
      both = sym (times_append c (kids q) (flat_map kids ps)) ∙ o

      there : 0 < times c (kids p)
      there = subst (λ (y : ℕ). 0 < times y (kids p)) e (in_times (get_or (kids p) i 0) (get_d_in (kids p) i h))

      go : (p ≡ q) ⊎ In p ps → (In p ps → times c (flat_map kids ps) ≡ 1 → holder kids ps c ≡ (p, i)) → cond (ltb 0 (times c (kids q))) (q, length (until c (kids q))) (holder kids ps c) ≡ (p, i)
      go (inl y) f =
          let t : 0 < times c (kids q) = subst (λ (x : ℕ). 0 < times c (kids x)) y there in
          rw (lt-ltb 0 (times c (kids q)) t)
          (ap₂ (λ (a b : ℕ). (a, b)) (sym y) (until_place c (kids q) i (subst (λ (x : ℕ). i < length (kids x)) y h) (subst (λ (x : ℕ). get_or (kids x) i 0 ≡ c) y e) (omega (arith, both))))
      go (inr j) f =
          let t : 0 < times c (flat_map kids ps) = in_times c (in_flat kids j (subst (λ (y : ℕ). In y (kids p)) e (get_d_in (kids p) i h))) in
          rw (le-ltb 0 (times c (kids q)) (omega (arith, both))) (f j (omega (arith, both)))

  pub holder_none : (ps : List ℕ) (c : ℕ) → times c (flat_map kids ps) ≡ 0 → holder kids ps c ≡ (none, 0)
  unfolding holder flat_map
  holder_none [] c o = refl
  holder_none (q ∷ ps) c o =
      let both : times c (kids q) + times c (flat_map kids ps) ≡ 0 = sym (times_append c (kids q) (flat_map kids ps)) ∙ o in
      rw (le-ltb 0 (times c (kids q)) (omega arith)) (holder_none ps c (omega arith))

module _ (level : ℕ → List ℕ) where
  pub depth_is : (n i d k : ℕ) → i ≤ d → d < i + n → In k (level d) → times k (flat_map level (range i n)) ≡ 1 → depth_from level i n k ≡ d
  unfolding depth_from flat_map range
  depth_is zero i d k h g r o = absurd (omega arith)
  depth_is (suc n) i d k h g r o = go (eqb i d) refl (λ (l : suc i ≤ d) w. depth_is n (suc i) d k l (omega arith) r w)
    where
      both : times k (level i) + times k (flat_map level (range (suc i) n)) ≡ 1
      both = sym (times_append k (level i) (flat_map level (range (suc i) n))) ∙ o

      go : (b : Bool) → eqb i d ≡ b → (suc i ≤ d → times k (flat_map level (range (suc i) n)) ≡ 1 → depth_from level (suc i) n k ≡ d) → cond (ltb 0 (times k (level i))) i (depth_from level (suc i) n k) ≡ d
      go true q f =
          let y : i ≡ d = eqb-true i d q in
          rw (lt-ltb 0 (times k (level i)) (subst (λ (x : ℕ). 0 < times k (level x)) (sym y) (in_times k r))) y
      go false q f =
          let y : i ≡ d → ⊥ = eqb-false i d q in
          let t : 0 < times k (flat_map level (range (suc i) n)) = in_times k (in_flat level (in_range (suc i) n d (omega arith) (omega arith)) r) in
          rw (le-ltb 0 (times k (level i)) (omega (arith, both))) (f (omega arith) (omega (arith, both)))
