-- What is promised of the two calls (Promised.antt) is so, of every file, area and pair of edits. Assumes nothing.
use Rattle.model.specs.Numbered.{Numbered}
use Rattle.std.proofs.Math.Path.{◌≡◌, refl, ap}
use Rattle.std.proofs.Common.{sym, subst, ◌∙◌}
use Rattle.std.specs.Prelude.{◌≢◌, ◌⊎◌, Bool, ◌&&◌, List, [], ◌∷◌, ℕ, ◌+◌, ◌%◌, ◌<◌, ◌≤◌, take, ltb, leb, Ok, Err}
use Rattle.std.proofs.Math.Logic.{⊎_elim}
use Rattle.std.proofs.Math.Bool.{true, false, cond, not}
use native.Mathlib.Omega.{arith}
use Rattle.std.proofs.Math.ListN.{length, drop}
use Rattle.std.proofs.Math.Seq.{take_at, drop_at}
use Rattle.std.proofs.Math.Dec.{eqb}
use borrow.Author.Tests.{eq-eqb, ne_eqb, eqb-true, eqb-false, lt-ltb, le-ltb, ltb-true, ltb-false, le-leb, lt-leb, leb-false}
use Rattle.model.specs.Lists.{put_at, refusal}
use Rattle.model_laws.specs.Words.{length_put}
use Rattle.calls_edits.specs.Edits.{edits, rests_on, beyond, record_causes, records_causes, absent, check_causes, difference_causes, check, difference}
use Rattle.calls_edits.specs.Promised.{In, Accepted, GoodBefore, Checks, Listed, Differs}
use Rattle.calls_edits.specs.Causes.{refuse, grant, is_done, is_refused, check_number, check_numbers, every_good, no_cause, first_bad, rest_number, late_number, cut_first, narrow_next, from_check, difference_numbers}
use Rattle.calls_edits.specs.Exactly.{length_picked, exactly}

-- the checker -----------------------------------------------------------------------------------------------------------------------------

module _ (file : List ℕ) where
  refused_by : (n : ℕ) → refusal (check_causes file) ≡ n → n ≢ 0 → check file ≡ Err n
  unfolding check
  refused_by n e h = refuse Err (Ok tt) (check_causes file) n e h

  number_of_law : (n : ℕ) → check file ≡ Err n → (refusal (check_causes file) ≡ n) × (refusal (check_causes file) ≢ 0)
  unfolding check
  number_of_law n e = is_refused (check_causes file) n e

  no_number : check file ≡ Ok tt → refusal (check_causes file) ≡ 0
  unfolding check
  no_number e = is_done (check_causes file) e

  of_records : length file % 16 ≡ 0 → edits file ≤ 512 → refusal (check_causes file) ≡ refusal (records_causes file (edits file))
  of_records e l = check_number file ∙ rw (eq-eqb (length file % 16) 0 e, le-ltb 512 (edits file) l)

  without : refusal (check_causes file) ≡ 0 → Accepted file
  without z = go (eqb (length file % 16) 0) refl (ltb 512 (edits file)) refl (sym (check_number file) ∙ z)
    where
      go : (a : Bool) → eqb (length file % 16) 0 ≡ a → (b : Bool) → ltb 512 (edits file) ≡ b → cond (not a) 11 (cond b 16 (refusal (records_causes file (edits file)))) ≡ 0 → Accepted file
      go false q b r e = absurd (omega arith)
      go true q true r e = absurd (omega arith)
      go true q false r e = record { whole = eqb-true (length file % 16) 0 q; few = ltb-false 512 (edits file) r; records = every_good file (edits file) e }

  pub accepted : check file ≡ Ok tt → Accepted file
  accepted e = without (no_number e)

  -- the number of the records decides where no earlier cause applies
  module _ (whole : length file % 16 ≡ 0) (few : edits file ≤ 512) (n : ℕ) (e : n ≡ refusal (records_causes file (edits file))) where
    pub by_records : n ≢ 0 → check file ≡ Err n
    by_records h = refused_by n (of_records whole few ∙ sym e) h

    pub by_none : n ≡ 0 → check file ≡ Ok tt
    unfolding check
    by_none z = grant Err (Ok tt) (check_causes file) (of_records whole few ∙ (sym e ∙ z))

  bad : (n e : ℕ) → GoodBefore file e → refusal (record_causes file e) ≡ n → n ≢ 0 → check file ≡ Err n
  bad n e f q h = by_records f.whole f.few n (sym (first_bad file (edits file) e f.inside f.before (λ z. h (sym q ∙ z)) ∙ q)) h

  numbers : (n : ℕ) → check file ≡ Err n → In n (11 ∷ 16 ∷ 10 ∷ 15 ∷ [])
  numbers n e = let t = number_of_law n e in subst (λ (k : ℕ). In k (11 ∷ 16 ∷ 10 ∷ 15 ∷ [])) t.0 (check_numbers file t.1)

  pub checks : Checks file
  checks = record {
    accepted = accepted;
    accepts = λ a. by_none a.whole a.few 0 (sym (no_cause file (edits file) a.records)) refl;
    cut = λ h. refused_by 11 (check_number file ∙ rw (ne_eqb (length file % 16) 0 h)) (λ z. omega arith);
    crowded = λ e h. refused_by 16 (check_number file ∙ rw (eq-eqb (length file % 16) 0 e, lt-ltb 512 (edits file) h)) (λ z. omega arith);
    rest = λ e f h. bad 10 e f (rest_number file e h) (λ z. omega arith);
    late = λ e p f x y q h. bad 15 e f (late_number file e p x y q h) (λ z. omega arith);
    numbers = numbers;
  }

-- the difference --------------------------------------------------------------------------------------------------------------------------

module _ (file area : List ℕ) (a b : ℕ) where
  abbrev causes : ℕ
  causes = refusal (difference_causes file area a b)

  abbrev refused : ℕ → (Numbered ℕ) × List ℕ
  refused n = (Err n, area)

  abbrev reply : Numbered ℕ × List ℕ
  reply = (Ok (length (beyond file a b)), put_at 0 (beyond file a b) area)

  refused_with : (n : ℕ) → causes ≡ n → n ≢ 0 → difference file area a b ≡ refused n
  unfolding difference
  refused_with n e h = refuse refused reply (difference_causes file area a b) n e h

  module _ (wide : 512 ≤ length area) where
    same_number : (n : ℕ) → check file ≡ Err n → causes ≡ n
    same_number n e = go (eqb (length file % 16) 0) refl
      where
        at_check : refusal (check_causes file) ≡ n
        at_check = (number_of_law file n e).0

        go : (t : Bool) → eqb (length file % 16) 0 ≡ t → causes ≡ n
        go true q = from_check file area a b (eqb-true (length file % 16) 0 q) wide ∙ (rw (ne_eqb (refusal (check_causes file)) 0 (number_of_law file n e).1) at_check)
        go false q =
            let h : length file % 16 ≢ 0 = eqb-false (length file % 16) 0 q in
            cut_first file area a b h ∙ (sym (check_number file ∙ rw (ne_eqb (length file % 16) 0 h)) ∙ at_check)

    asked : check file ≡ Ok tt → causes ≡ refusal (absent file a ∷ absent file b ∷ [])
    asked e = from_check file area a b (accepted file e).whole wide ∙ rw (no_number file e)

    no_edit : check file ≡ Ok tt → (edits file ≤ a) ⊎ (edits file ≤ b) → causes ≡ 4
    unfolding refusal
    no_edit e h = asked e ∙ ⊎_elim (λ l. rw (le-leb (edits file) a l)) (λ l. rw (le-leb (edits file) b l) (go (leb (edits file) a))) h
      where
        go : (t : Bool) → ◌≡◌ {A = ℕ} (cond t 4 4) 4
        go true = refl
        go false = refl

    both_there : check file ≡ Ok tt → a < edits file → b < edits file → causes ≡ 0
    unfolding refusal
    both_there e l m = asked e ∙ rw (lt-leb (edits file) a l, lt-leb (edits file) b m)

    pub granted : check file ≡ Ok tt → a < edits file → b < edits file → difference file area a b ≡ reply
    unfolding difference
    granted e l m = grant refused reply (difference_causes file area a b) (both_there e l m)

  -- where no cause applies
  record Free : Type 0 where
    wide : 512 ≤ length area
    file_good : Accepted file
    first : a < edits file
    second : b < edits file

  asked_none : (x y : Bool) → ◌≡◌ {A = ℕ} (cond x 4 (cond y 4 0)) 0 → (x ≡ false) × (y ≡ false)
  asked_none true y e = absurd (omega arith)
  asked_none false true e = absurd (omega arith)
  asked_none false false e = (refl, refl)

  free : causes ≡ 0 → Free
  unfolding refusal
  free z = go (eqb (length file % 16) 0) refl (ltb (length area) 512) refl
    where
      of_check : (w : ℕ) (t : Bool) → eqb w 0 ≡ t → cond (eqb w 0) (refusal (absent file a ∷ absent file b ∷ [])) w ≡ 0 → (w ≡ 0) × (refusal (absent file a ∷ absent file b ∷ []) ≡ 0)
      of_check w true q e = (eqb-true w 0 q, rw q at e)
      of_check w false q e = absurd (eqb-false w 0 q (rw q at e))

      go : (s : Bool) → eqb (length file % 16) 0 ≡ s → (t : Bool) → ltb (length area) 512 ≡ t → Free
      go false q t r = absurd (omega (arith, sym (cut_first file area a b (eqb-false (length file % 16) 0 q)) ∙ z))
      go true q true r = absurd (omega (arith, sym (narrow_next file area a b (eqb-true (length file % 16) 0 q) (ltb-true (length area) 512 r)) ∙ z))
      go true q false r =
          let w : 512 ≤ length area = ltb-false (length area) 512 r in
          let t = of_check (refusal (check_causes file)) (eqb (refusal (check_causes file)) 0) refl (sym (from_check file area a b (eqb-true (length file % 16) 0 q) w) ∙ z) in
          let u = asked_none (leb (edits file) a) (leb (edits file) b) t.1 in
          record { wide = w; file_good = without file t.0; first = leb-false (edits file) a u.0; second = leb-false (edits file) b u.1 }

  -- a list at the front of the area
  in_front : (ks : List ℕ) → take (length ks) (put_at 0 ks area) ≡ ks
  unfolding put_at
  in_front ks = take_at ks (drop (0 + length ks) area) (length ks) refl

  behind : (ks : List ℕ) → drop (length ks) (put_at 0 ks area) ≡ drop (length ks) area
  unfolding put_at
  behind ks = let z : 0 + length ks ≡ length ks = omega arith in drop_at ks (drop (0 + length ks) area) (length ks) refl ∙ ap (λ (k : ℕ). drop k area) z

  beyond_short : length (beyond file a b) ≤ edits file
  unfolding beyond
  beyond_short = length_picked (λ k. rests_on file a k && not (rests_on file b k)) 0 (edits file)

  in_list : causes ≡ 0 → (n : ℕ) → n ≡ length (beyond file a b) → Listed file area a b n (put_at 0 (beyond file a b) area)
  in_list z n e =
      let f = free z in
      let ks : List ℕ = beyond file a b in
      record {
        list = beyond file a b;
        exactly = exactly file f.file_good.records a b f.first f.second;
        count = e;
        front = ap (λ (k : ℕ). take k (put_at 0 (beyond file a b) area)) e ∙ in_front (beyond file a b);
        rest = ap (λ (k : ℕ). drop k (put_at 0 (beyond file a b) area)) e ∙ (behind (beyond file a b) ∙ ap (λ (k : ℕ). drop k area) (sym e));
        long = length_put 0 (beyond file a b) area (omega (arith, beyond_short, f.wide, f.file_good.few));
      }

  -- the call by its two cases
  by_case : (P : Numbered ℕ × List ℕ → Type 0) → (causes ≡ 0 → P reply) → (causes ≢ 0 → P (refused causes)) → P (difference file area a b)
  unfolding difference
  by_case P f g = go (eqb causes 0) refl
    where
      go : (t : Bool) → eqb causes 0 ≡ t → P (cond t reply (refused causes))
      go true q = f (eqb-true causes 0 q)
      go false q = g (eqb-false causes 0 q)

  pub differs : Differs file area a b
  differs = record {
    cut = λ h. refused_with 11 (cut_first file area a b h) (λ z. omega arith);
    narrow = λ e h. refused_with 12 (narrow_next file area a b e h) (λ z. omega arith);
    same = λ w n e. refused_with n (same_number w n e) (λ z. (number_of_law file n e).1 ((number_of_law file n e).0 ∙ z));
    absent = λ w e h. refused_with 4 (no_edit w e h) (λ z. omega arith);
    refused = by_case (λ r. (n : ℕ) → r.0 ≡ Err n → (r.1 ≡ area) × In n (11 ∷ 12 ∷ 16 ∷ 10 ∷ 15 ∷ 4 ∷ []))
        (λ z n e. let d : ◌≡◌ {A = ℕ} 0 1 = cc in absurd (omega arith))
        (λ z n e. let s : causes ≡ n = cc in (refl, subst (λ (k : ℕ). In k (11 ∷ 12 ∷ 16 ∷ 10 ∷ 15 ∷ 4 ∷ [])) s (difference_numbers file area a b z)));
    listed = by_case (λ r. (n : ℕ) → r.0 ≡ Ok n → Listed file area a b n r.1)
        (λ z n e. let s : n ≡ length (beyond file a b) = cc in in_list z n s)
        (λ z n e. let d : ◌≡◌ {A = ℕ} 0 1 = cc in absurd (omega arith));
    served = λ w e l m. (length (beyond file a b), ap (λ (r : Numbered ℕ × List ℕ). r.0) (granted w e l m));
  }
