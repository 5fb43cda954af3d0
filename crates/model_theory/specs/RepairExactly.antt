-- Repair does what is promised of it (document 02, CR 13), on any words and for every kind. Assumes nothing.
use Rattle.model.specs.Numbered.{Numbered}
use Rattle.std.specs.Prelude.{◌≡◌, ◌≢◌, Bool, true, false, ◌&&◌, ℕ, zero, suc, ◌≤◌, Ok, Err}
use Rattle.std.proofs.Math.Path.{refl, ap}
use Rattle.std.proofs.Common.{sym, subst, ◌∙◌, arith, ne_eqb}
use mathlib.Core.List.{[], ◌∷◌}
use Rattle.model.specs.Kind.{stride}
use Rattle.model.specs.declared.shape.Kind.{Kind}
use Rattle.model.specs.Lists.{cause, refusal}
use Rattle.model.specs.State.{State, state}
use Rattle.model.specs.Sound.{Sound}
use Rattle.model.specs.Audit.{audit}
use Rattle.model.specs.Seats.{Fair, is_fair}
use Rattle.model.specs.SeatedCalls.{also_fair, audit_seated}
use Rattle.model.specs.declared.head.Head.{Head}
use Rattle.model.specs.declared.seats.Seats.{Seats}
use Rattle.model.specs.Answer.{number_answer}
use Rattle.model.specs.Calls.{Reply, reply, area_causes}
use Rattle.model.specs.Mend.{no_finger, mend, is_fit}
use Rattle.model.specs.Repair.{Agreeing, Mends, Repairs, changes, mend_if, sizes_in, repair_if, repair}
use Rattle.model_laws.specs.Differ.{differ_none}
use Rattle.model_theory.specs.CallOpen.{passed, good_areas}
use Rattle.model_theory.specs.CallMake.{sizes_of}
use Rattle.model_theory.specs.AuditExactly.{audit_exactly}
use Rattle.model_theory.specs.SeatRules.{fair_exactly}
use Rattle.model_theory.specs.AuditTests.{both, join}
use Rattle.model_theory.specs.RepairTrusted.{LongAreas}
use Rattle.model_theory.specs.RepairElse.{leaves_else, inners_else, homes_else, leaves_long, inners_long, homes_long}
use Rattle.model_theory.specs.RepairKept.{sound_kept}
use Rattle.model_theory.specs.RepairTest.{TrustedSound, sound_fit, fit_agree, areas_of_law, right, agreed, mend_sound, fit_test, test_fit}

-- a number of 1 and 2 alone
small : (a b : Bool) → refusal (cause 1 a ∷ cause 2 b ∷ []) ≤ 2
unfolding refusal
small true b = omega arith
small false true = omega arith
small false false = omega arith

none_left : refusal [] ≡ 0
unfolding refusal
none_left = refl

module _ (K : Kind) (t : State) (b : Seats) where
  abbrev fairs : Bool
  fairs = is_fair t.head.limit t.head.entries b

  head_is : (mend (stride K) t).head ≡ no_finger t.head
  unfolding mend
  head_is = refl

  sizes : sizes_in K t ≢ 0 → repair K t b ≡ reply t (Err (sizes_in K t))
  unfolding repair_if
  sizes h = rw (ne_eqb (sizes_in K t) 0 h)

  module _ (z : sizes_in K t ≡ 0) where
    areas : LongAreas (stride K) t
    areas = areas_of_law K t (sizes_of K t.head.fan t.head.limit t.leaves t.inners t.homes z)

    opened : repair K t b ≡ mend_if K (is_fit K t && fairs) t
    unfolding repair_if
    opened = passed (area_causes K t.head.fan t.head.limit t.leaves t.inners t.homes) (λ n. reply t (Err n)) (mend_if K (is_fit K t && fairs) t) z

    agreeing : TrustedSound K t → Fair t.head.limit t.head.entries b → Agreeing K t b
    agreeing f w = record { tree = mend (stride K) t; seats = b; sound = mend_sound K t f areas; fair = subst (λ (h : Head). Fair h.limit h.entries b) (sym head_is) w; agrees = agreed K t f areas; seated = refl }

    refused : (Agreeing K t b → ⊥) → repair K t b ≡ reply t (Err 21)
    refused n = opened ∙ ap (λ (x : Bool). mend_if K x t) (no (is_fit K t && fairs) refl)
      where
        no : (x : Bool) → (is_fit K t && fairs) ≡ x → (is_fit K t && fairs) ≡ false
        no true e =
            let r = both (is_fit K t) fairs e in
            absurd (n (agreeing (test_fit K t (sizes_of K t.head.fan t.head.limit t.leaves t.inners t.homes z) r.0) ((fair_exactly t.head.limit t.head.entries b).0 r.1)))
        no false e = e

    fit : Agreeing K t b → TrustedSound K t
    fit a = fit_agree K t a.tree a.agrees (sound_fit K a.tree a.sound)

    fair : Agreeing K t b → fairs ≡ true
    fair a =
        (fair_exactly t.head.limit t.head.entries b).1
        (subst (λ (h : Head). Fair h.limit h.entries b) a.agrees.head (subst (Fair a.tree.head.limit a.tree.head.entries) a.seated a.fair))

    served : Agreeing K t b → repair K t b ≡ reply (mend (stride K) t) (Ok (changes t (mend (stride K) t)))
    served a = opened ∙ ap (λ (x : Bool). mend_if K x t) (join (is_fit K t) fairs (fit_test K t (fit a) areas) (fair a))

    audits : audit K (mend (stride K) t) ≡ Ok true → fairs ≡ true → audit_seated K (mend (stride K) t) b ≡ Ok true
    unfolding audit_seated
    audits y w =
        ap (λ (h : Head). also_fair (is_fair h.limit h.entries b) (audit K (mend (stride K) t))) head_is ∙ ap (also_fair fairs) y ∙ rw w

    mends : Agreeing K t b → Mends K t b (mend (stride K) t)
    mends a =
        let f = fit a in
        record {
          audited = audits ((audit_exactly K (mend (stride K) t)).1 (mend_sound K t f areas)) (fair a);
          agrees = agreed K t f areas;
          head = head_is;
          only = λ c w g. (right K t f areas).only c w.coherent g;
          leaf_words = leaves_else (stride K) K.effect (omega arith) t f.fits areas;
          inner_words = inners_else (stride K) K.effect (omega arith) t f.fits areas;
          home_words = homes_else (stride K) K.effect (omega arith) t f.fits areas;
          leaf_area = leaves_long (stride K) K.effect (omega arith) t f.fits areas;
          inner_area = inners_long (stride K) K.effect (omega arith) t f.fits areas;
          home_area = homes_long (stride K) K.effect (omega arith) t f.fits areas;
        }

    mended : Agreeing K t b → Mends K t b (repair K t b).after
    mended a = subst (λ (r : Reply (Numbered ℕ)). Mends K t b r.after) (sym (served a)) (mends a)

    counted : Agreeing K t b → (repair K t b).answer ≡ Ok (changes t (repair K t b).after)
    counted a = subst (λ (r : Reply (Numbered ℕ)). r.answer ≡ Ok (changes t r.after)) (sym (served a)) refl

  -- the number of an answer, whichever way it is come by
  abbrev number_in : Reply (Numbered ℕ) → ℕ
  number_in r = (number_answer r.answer).number

  early : (n : ℕ) → sizes_in K t ≡ suc n → number_in (repair K t b) ≤ 2
  early n e =
      let q : sizes_in K t ≢ 0 = λ z. omega (arith, z, e) in
      subst (λ (r : Reply (Numbered ℕ)). number_in r ≤ 2) (sym (sizes q)) (small _ _)

  exactly : number_in (repair K t b) ≡ 21 → Agreeing K t b → ⊥
  exactly e a = go (sizes_in K t) refl
    where
      go : (n : ℕ) → sizes_in K t ≡ n → ⊥
      go zero q = let z : number_in (reply (mend (stride K) t) (Ok (changes t (mend (stride K) t)))) ≡ 21 = subst (λ (r : Reply (Numbered ℕ)). number_in r ≡ 21) (served q a) e in omega (arith, z)
      go (suc n) q = omega (arith, early n q, e)

  sound : Sound K t → Fair t.head.limit t.head.entries b → repair K t b ≡ reply (state (no_finger t.head) t.leaves t.inners t.homes) (Ok 0)
  unfolding changes
  sound w f =
      let z : sizes_in K t ≡ 0 = good_sizes w in
      opened z ∙ ap (λ (x : Bool). mend_if K x t) (join (is_fit K t) fairs (fit_test K t (sound_fit K t w) (areas z)) ((fair_exactly t.head.limit t.head.entries b).1 f))
      ∙ ap (λ (r : State). reply r (Ok (changes t r))) (sound_kept (stride K) K.effect (omega arith) t w.coherent)
      ∙ rw (differ_none t.leaves, differ_none t.inners, differ_none t.homes)
    where
      good_sizes : Sound K t → sizes_in K t ≡ 0
      good_sizes w = good_areas K t w.coherent [] ∙ none_left

  nine : number_in (repair K t b) ≢ 9
  nine e = go (sizes_in K t) refl
    where
      go : (n : ℕ) → sizes_in K t ≡ n → ⊥
      go zero q = late (is_fit K t && fairs) (subst (λ (r : Reply (Numbered ℕ)). number_in r ≡ 9) (opened q) e)
        where
          late : (x : Bool) → number_in (mend_if K x t) ≡ 9 → ⊥
          late true z = omega (arith, z)
          late false z = omega (arith, z)
      go (suc n) q = omega (arith, early n q, e)

  -- the theorem
  pub repairs : Repairs K t b
  repairs = record { sizes = sizes; refused = refused; exactly = exactly; mended = mended; counted = counted; sound = sound; nine = nine }
