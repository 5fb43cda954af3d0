-- Which cause decides: of one record, of the records in order, and of the two calls. Assumes nothing.
use Rattle.model.specs.Numbered.{Numbered}
use Rattle.std.specs.Prelude.{◌≡◌, ◌≢◌, Bool, ◌&&◌, ◌||◌, not, length, ltb, leb, Ok, Err}
use Rattle.std.proofs.Math.Path.{refl, ap}
use Rattle.std.proofs.Common.{sym, subst, ◌∙◌}
use Rattle.std.proofs.Math.Bool.{true, false, cond}
use mathlib.Core.List.{List, [], ◌∷◌, ◌++◌, flat_map, append_assoc}
use Prim.Native.Nat.{ℕ, zero, suc, ◌+◌, ◌-◌, ◌%◌, ◌<◌, ◌≤◌}
use native.Mathlib.Omega.{arith}
use Rattle.std.proofs.Math.Dec.{eqb}
use borrow.Author.Tests.{eq-eqb, ne_eqb, eqb-true, eqb-false, lt-ltb, le-ltb, le-leb, lt-leb, leb-false}
use Rattle.model.specs.Lists.{All, range, Cause, cause, refusal}
use Rattle.model.specs.Calls.{unless}
use Rattle.model_laws.specs.Lists.{all_append}
use Rattle.calls_edits.specs.Edits.{none, edits, left, right, third, fourth, Parent, by_left, by_right, late, causes_of, record_causes, records_causes, absent, check_causes, difference_causes}
use Rattle.calls_edits.specs.Promised.{In, here, later, Good}

-- a call with these causes ----------------------------------------------------------------------------------------------------------------

module _ {A : Type 0} (f : ℕ → A) (a : A) (cs : List Cause) where
  pub refuse : (n : ℕ) → refusal cs ≡ n → n ≢ 0 → unless cs f a ≡ f n
  refuse n e h = rw (e, ne_eqb n 0 h)

  pub grant : refusal cs ≡ 0 → unless cs f a ≡ a
  grant e = rw e

-- nothing said, or the number of a refusal
abbrev pub Verdict : Type 0
Verdict = Numbered (Unit {0})

abbrev pub verdict : List Cause → Verdict
verdict cs = unless cs Err (Ok tt)

pub is_done : (cs : List Cause) → verdict cs ≡ Ok tt → refusal cs ≡ 0
is_done cs = go (eqb (refusal cs) 0) refl
  where
    go : (b : Bool) → eqb (refusal cs) 0 ≡ b → ◌≡◌ {A = Verdict} (cond b (Ok tt) (Err (refusal cs))) (Ok tt) → refusal cs ≡ 0
    go true q e = eqb-true (refusal cs) 0 q
    go false q e = let z : ◌≡◌ {A = ℕ} 0 1 = cc in absurd (omega arith)

pub is_refused : (cs : List Cause) (n : ℕ) → verdict cs ≡ Err n → (refusal cs ≡ n) × (refusal cs ≢ 0)
is_refused cs n = go (eqb (refusal cs) 0) refl
  where
    go : (b : Bool) → eqb (refusal cs) 0 ≡ b → ◌≡◌ {A = Verdict} (cond b (Ok tt) (Err (refusal cs))) (Err n) → (refusal cs ≡ n) × (refusal cs ≢ 0)
    go true q e = let z : ◌≡◌ {A = ℕ} 0 1 = cc in absurd (omega arith)
    go false q e = let r : refusal cs ≡ n = cc in (r, eqb-false (refusal cs) 0 q)

-- the numbers that causes have
abbrev pub OneOf : List ℕ → Cause → Type 0
OneOf ns c = In c.number ns

pub one_of : (ns : List ℕ) (cs : List Cause) → All (OneOf ns) cs → refusal cs ≢ 0 → In (refusal cs) ns
unfolding refusal All
one_of ns [] h n = absurd (n refl)
one_of ns (c ∷ cs) h n = go c.applies (one_of ns cs h.1) n
  where
    go : (b : Bool) → (refusal cs ≢ 0 → In (refusal cs) ns) → cond b c.number (refusal cs) ≢ 0 → In (cond b c.number (refusal cs)) ns
    go true f m = h.0
    go false f m = f m

-- one record ------------------------------------------------------------------------------------------------------------------------------

-- no cause applies exactly to a good record
not_late : (e p : ℕ) → late e p ≡ false → p ≢ none → p < e
not_late e p h g = leb-false e p (rw (ne_eqb p none g) at h)

in_time : (e p : ℕ) → (p ≢ none → p < e) → late e p ≡ false
in_time e p h = go (eqb p none) refl
  where
    go : (b : Bool) → eqb p none ≡ b → (not b && leb e p) ≡ false
    go true q = refl
    go false q = lt-leb e p (h (eqb-false p none q))

all_false : (a b c d : Bool) → refusal (cause 10 (a || b) ∷ cause 15 (c || d) ∷ []) ≡ 0 → (a ≡ false) × (b ≡ false) × (c ≡ false) × (d ≡ false)
unfolding refusal
all_false false false false false e = (refl, refl, refl, refl)
all_false false false false true e = absurd (omega (arith, e))
all_false false false true d e = absurd (omega (arith, e))
all_false false true c d e = absurd (omega (arith, e))
all_false true b c d e = absurd (omega (arith, e))

zero_word : (x : ℕ) → not (eqb x 0) ≡ false → x ≡ 0
zero_word x = go (eqb x 0) refl
  where
    go : (b : Bool) → eqb x 0 ≡ b → not b ≡ false → x ≡ 0
    go true q e = eqb-true x 0 q
    go false q e = let z : ◌≡◌ {A = ℕ} 0 1 = cc in absurd (omega arith)

pub none_good : (file : List ℕ) (e : ℕ) → refusal (record_causes file e) ≡ 0 → Good file e
unfolding record_causes causes_of
none_good file e h =
    let t = all_false (not (eqb (third file e) 0)) (not (eqb (fourth file e) 0)) (late e (left file e)) (late e (right file e)) h in
    record { rest = (zero_word (third file e) t.0, zero_word (fourth file e) t.1); parents = λ p q. smaller p t.2 t.3 q }
  where
    smaller : (p : ℕ) → late e (left file e) ≡ false → late e (right file e) ≡ false → Parent file e p → p < e
    smaller p l r (by_left q n) = not_late e p (subst (λ (x : ℕ). late e x ≡ false) q l) n
    smaller p l r (by_right q n) = not_late e p (subst (λ (x : ℕ). late e x ≡ false) q r) n

good_none : (file : List ℕ) (e : ℕ) → Good file e → refusal (record_causes file e) ≡ 0
unfolding record_causes causes_of refusal
good_none file e g =
    rw (eq-eqb (third file e) 0 g.rest.0, eq-eqb (fourth file e) 0 g.rest.1, in_time e (left file e) (λ n. g.parents (left file e) (by_left refl n)), in_time e (right file e) (λ n. g.parents (right file e) (by_right refl n)))

-- 10 where its rest isn't zero, else 15 where a parent is late
pub rest_number : (file : List ℕ) (e : ℕ) → (third file e ≡ 0 → fourth file e ≢ 0) → refusal (record_causes file e) ≡ 10
unfolding record_causes causes_of refusal
rest_number file e h = go (eqb (third file e) 0) refl
  where
    go : (b : Bool) → eqb (third file e) 0 ≡ b → cond (not b || not (eqb (fourth file e) 0)) 10 (refusal (cause 15 (late e (left file e) || late e (right file e)) ∷ [])) ≡ 10
    go true q = rw (ne_eqb (fourth file e) 0 (h (eqb-true (third file e) 0 q)))
    go false q = refl

is_late : (e p : ℕ) → p ≢ none → e ≤ p → late e p ≡ true
is_late e p n h = rw (ne_eqb p none n) (le-leb e p h)

some_late : (a b : Bool) → (a ≡ true) → (a || b) ≡ true
some_late true b e = refl
some_late false b e = let z : ◌≡◌ {A = ℕ} 0 1 = cc in absurd (omega arith)

other_late : (a b : Bool) → (b ≡ true) → (a || b) ≡ true
other_late true b e = refl
other_late false b e = e

pub late_number : (file : List ℕ) (e p : ℕ) → third file e ≡ 0 → fourth file e ≡ 0 → Parent file e p → e ≤ p → refusal (record_causes file e) ≡ 15
unfolding record_causes causes_of refusal
late_number file e p x y q h = rw (eq-eqb (third file e) 0 x, eq-eqb (fourth file e) 0 y, either q)
  where
    either : Parent file e p → (late e (left file e) || late e (right file e)) ≡ true
    either (by_left s n) = some_late (late e (left file e)) (late e (right file e)) (subst (λ (k : ℕ). late e k ≡ true) (sym s) (is_late e p n h))
    either (by_right s n) = other_late (late e (left file e)) (late e (right file e)) (subst (λ (k : ℕ). late e k ≡ true) (sym s) (is_late e p n h))

-- the records in order --------------------------------------------------------------------------------------------------------------------

first_two : (a b : Bool) (cs : List Cause)
    → refusal (cause 10 a ∷ cause 15 b ∷ cs) ≡ cond (eqb (refusal (cause 10 a ∷ cause 15 b ∷ [])) 0) (refusal cs) (refusal (cause 10 a ∷ cause 15 b ∷ []))
unfolding refusal
first_two false false cs = refl
first_two false true cs = refl
first_two true b cs = refl

one_first : (file : List ℕ) (e : ℕ) (cs : List Cause)
    → refusal (record_causes file e ++ cs) ≡ cond (eqb (refusal (record_causes file e)) 0) (refusal cs) (refusal (record_causes file e))
unfolding record_causes causes_of
one_first file e cs = first_two _ _ cs

module _ (file : List ℕ) where
  -- the number of the m records from e on
  abbrev pub after : ℕ → ℕ → ℕ
  after e m = refusal (flat_map (record_causes file) (range e m))

  pub one_more : (e m : ℕ) → after e (suc m) ≡ cond (eqb (refusal (record_causes file e)) 0) (after (suc e) m) (refusal (record_causes file e))
  unfolding range flat_map
  one_more e m = one_first file e (flat_map (record_causes file) (range (suc e) m))

  -- no cause in a range of records: none in each
  all_good : (i m : ℕ) → after i m ≡ 0 → (k : ℕ) → i ≤ k → k < i + m → refusal (record_causes file k) ≡ 0
  all_good i zero e k h g = absurd (omega arith)
  all_good i (suc m) e k h g = go (eqb (refusal (record_causes file i)) 0) refl (eqb i k) refl (λ a l. all_good (suc i) m a k l (omega arith))
    where
      go : (b : Bool) → eqb (refusal (record_causes file i)) 0 ≡ b → (d : Bool) → eqb i k ≡ d → (after (suc i) m ≡ 0 → suc i ≤ k → refusal (record_causes file k) ≡ 0) → refusal (record_causes file k) ≡ 0
      go false eb d ed f = absurd (eqb-false _ 0 eb (rw (one_more i m, eb) at e))
      go true eb true ed f = subst (λ (x : ℕ). refusal (record_causes file x) ≡ 0) (eqb-true i k ed) (eqb-true _ 0 eb)
      go true eb false ed f =
          let n : i ≡ k → ⊥ = eqb-false i k ed in
          f (rw (one_more i m, eb) at e) (omega arith)

  -- good records are passed over
  passed : (m i n : ℕ) → ((k : ℕ) → i ≤ k → k < i + m → refusal (record_causes file k) ≡ 0) → after i (m + n) ≡ after (i + m) n
  passed zero i n h =
      let z : 0 + n ≡ n = omega arith in
      let y : i + 0 ≡ i = omega arith in
      rw (z, y)
  passed (suc m) i n h =
      let s : suc m + n ≡ suc (m + n) = omega arith in
      let t : suc i + m ≡ i + suc m = omega arith in
      ap (after i) s ∙ (one_more i (m + n) ∙ (rw (h i (omega arith) (omega arith)) (passed m (suc i) n (λ k l g. h k (omega arith) (omega arith))) ∙ ap (λ (x : ℕ). after x n) t))

  -- those of a file: none, or the first bad one decides
  pub every_good : (n : ℕ) → refusal (records_causes file n) ≡ 0 → (e : ℕ) → e < n → Good file e
  unfolding records_causes
  every_good n h e l = none_good file e (all_good 0 n h e (omega arith) (omega arith))

  pub no_cause : (n : ℕ) → ((e : ℕ) → e < n → Good file e) → refusal (records_causes file n) ≡ 0
  unfolding records_causes range flat_map refusal
  no_cause n h =
      let z : n ≡ n + 0 = omega arith in
      ap (after 0) z ∙ passed n 0 0 (λ k l g. good_none file k (h k (omega arith)))

  pub first_bad : (n e : ℕ) → e < n → ((k : ℕ) → k < e → Good file k) → refusal (record_causes file e) ≢ 0 → refusal (records_causes file n) ≡ refusal (record_causes file e)
  unfolding records_causes
  first_bad n e l h b =
      let s : n ≡ e + suc (n - (e + 1)) = omega arith in
      let z : 0 + e ≡ e = omega arith in
      ap (after 0) s
      ∙ (passed e 0 (suc (n - (e + 1))) (λ k _ g. good_none file k (h k (omega arith)))
      ∙ (ap (λ (x : ℕ). after x (suc (n - (e + 1)))) z ∙ (one_more e (n - (e + 1)) ∙ rw (ne_eqb (refusal (record_causes file e)) 0 b))))

  -- the records before other causes
  records_first : (i m : ℕ) (cs : List Cause) → refusal (flat_map (record_causes file) (range i m) ++ cs) ≡ cond (eqb (after i m) 0) (refusal cs) (after i m)
  unfolding range flat_map refusal
  records_first i zero cs = refl
  records_first i (suc m) cs =
      ap refusal (append_assoc (record_causes file i) (flat_map (record_causes file) (range (suc i) m)) cs)
      ∙ (one_first file i (flat_map (record_causes file) (range (suc i) m) ++ cs)
      ∙ rw (one_more i m, records_first (suc i) m cs) (go (refusal (record_causes file i)) (eqb (refusal (record_causes file i)) 0) refl))
    where
      go : (x : ℕ) (b : Bool) → eqb x 0 ≡ b
          → cond (eqb x 0) (cond (eqb (after (suc i) m) 0) (refusal cs) (after (suc i) m)) x ≡ cond (eqb (cond (eqb x 0) (after (suc i) m) x) 0) (refusal cs) (cond (eqb x 0) (after (suc i) m) x)
      go x true e = rw e
      go x false e = rw (e, e)

  records_numbered : (ns : List ℕ) → In 10 ns → In 15 ns → (i m : ℕ) → All (OneOf ns) (flat_map (record_causes file) (range i m))
  unfolding range flat_map record_causes causes_of All
  records_numbered ns a b i zero = tt
  records_numbered ns a b i (suc m) = (a, (b, records_numbered ns a b (suc i) m))

-- the calls -------------------------------------------------------------------------------------------------------------------------------

module _ (file : List ℕ) where
  pub check_number : refusal (check_causes file) ≡ cond (not (eqb (length file % 16) 0)) 11 (cond (ltb 512 (edits file)) 16 (refusal (records_causes file (edits file))))
  unfolding refusal
  check_number = refl

  pub check_numbers : refusal (check_causes file) ≢ 0 → In (refusal (check_causes file)) (11 ∷ 16 ∷ 10 ∷ 15 ∷ [])
  unfolding All records_causes
  check_numbers = one_of (11 ∷ 16 ∷ 10 ∷ 15 ∷ []) (check_causes file) (here, (later here, records_numbered file (11 ∷ 16 ∷ 10 ∷ 15 ∷ []) (later (later here)) (later (later (later here))) 0 (edits file)))

  module _ (area : List ℕ) (a b : ℕ) where
    pub difference_numbers : refusal (difference_causes file area a b) ≢ 0 → In (refusal (difference_causes file area a b)) (11 ∷ 12 ∷ 16 ∷ 10 ∷ 15 ∷ 4 ∷ [])
    unfolding All records_causes
    difference_numbers =
        let ns : List ℕ = 11 ∷ 12 ∷ 16 ∷ 10 ∷ 15 ∷ 4 ∷ [] in
        let four : In 4 (11 ∷ 12 ∷ 16 ∷ 10 ∷ 15 ∷ 4 ∷ []) = later (later (later (later (later here)))) in
        one_of ns (difference_causes file area a b)
        (here, (later here, (later (later here), all_append (OneOf ns) (flat_map (record_causes file) (range 0 (edits file))) _ (records_numbered file ns (later (later (later here))) (later (later (later (later here)))) 0 (edits file)) (four, (four, tt)))))

    pub cut_first : length file % 16 ≢ 0 → refusal (difference_causes file area a b) ≡ 11
    unfolding refusal
    cut_first h = rw (ne_eqb (length file % 16) 0 h)

    pub narrow_next : length file % 16 ≡ 0 → length area < 512 → refusal (difference_causes file area a b) ≡ 12
    unfolding refusal
    narrow_next e h = rw (eq-eqb (length file % 16) 0 e, lt-ltb (length area) 512 h)

    -- then check's number, and then the edits asked for
    pub from_check : length file % 16 ≡ 0 → 512 ≤ length area
        → refusal (difference_causes file area a b) ≡ cond (eqb (refusal (check_causes file)) 0) (refusal (absent file a ∷ absent file b ∷ [])) (refusal (check_causes file))
    unfolding refusal records_causes
    from_check e h = rw (eq-eqb (length file % 16) 0 e, le-ltb (length area) 512 h) (go (ltb 512 (edits file)))
      where
        go : (c : Bool) → cond c 16 (refusal (flat_map (record_causes file) (range 0 (edits file)) ++ (absent file a ∷ absent file b ∷ [])))
            ≡ cond (eqb (cond c 16 (after file 0 (edits file))) 0) (refusal (absent file a ∷ absent file b ∷ [])) (cond c 16 (after file 0 (edits file)))
        go true = refl
        go false = records_first file 0 (edits file) (absent file a ∷ absent file b ∷ [])
