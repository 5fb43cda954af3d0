-- What is written to the seats' words. Assumes nothing.
use Rattle.std.specs.Prelude.{Some, None, Option}
use Rattle.std.proofs.Common.{◌≡◌, ℕ, zero, suc, ◌+◌, ◌<◌, ◌≤◌, true, cond, not, eqb, ltb, List, [], ◌∷◌, ◌++◌, length, get_or, take, drop, set, sym, refl, ap, ◌∙◌, subst, ap₂, append_assoc, arith, drop_of_length-le, drop-cons, get_or-set_other, take_at, drop_at, ltb-true}
use lib.Seq.{sets, sets-eq, lt-length-sets, length-sets, take-set-lt, take-set-le, drop-set-add}
use Rattle.model.specs.Lists.{part, put_at}
use Rattle.model.specs.Node.{wrap}
use Rattle.model.specs.declared.seats.Seats.{Seats}
use Rattle.model.specs.Seats.{seats_of, no_charges, charged, charged_to, uncharged}
use Rattle.model_laws.specs.Words.{part_before, part_same, part_add, part_end, get_d_before}
use Rattle.tree_seats.specs.Words.{seats_from, seats_words}
use Rattle.tree_seats.proofs.SumLaws.{charge_word}

-- a place is within the words, whatever was written to some of them
pub in_words : (w vs : List ℕ) (i j : ℕ) → ltb j 17 ≡ true → length w ≡ 17 → j < length (sets w i vs)
in_words w vs i j t e = lt-length-sets w i vs (subst (λ (n : ℕ). j < n) (sym e) (ltb-true j 17 t))

-- one entry more for seat i
module _ (w : List ℕ) (i : ℕ) (l : i < 8) (a : ℕ) where
  shares_kept : part 1 8 (set w (9 + i) a) ≡ part 1 8 w
  unfolding part
  shares_kept =
      let at : 9 + i ≡ 1 + (8 + i) = omega arith in
      ap (λ (j : ℕ). take 8 (drop 1 (set w j a))) at ∙ ap (take 8) (drop-set-add 1 w (8 + i) a) ∙ take-set-le 8 (drop 1 w) (8 + i) a (omega arith)

  charge_set : part 9 8 (set w (9 + i) a) ≡ set (part 9 8 w) i a
  unfolding part
  charge_set = ap (take 8) (drop-set-add 9 w i a) ∙ take-set-lt 8 (drop 9 w) i a l

  pub flag_kept : get_or (set w (9 + i) a) 0 0 ≡ get_or w 0 0
  flag_kept = get_or-set_other w (9 + i) 0 a 0 (λ z. absurd (omega (arith, z)))

  set_seats : seats_from (set w (9 + i) a) ≡ seats_of (seats_from w).seated (seats_from w).shares (set (seats_from w).charges i a)
  unfolding seats_from
  set_seats = rw (shares_kept, charge_set, flag_kept)

pub one_charged : (w : List ℕ) (i : ℕ) → i < 8 → seats_from (set w (9 + i) (wrap (get_or w (9 + i) 0 + 1))) ≡ charged i (seats_from w)
one_charged w i l =
    set_seats w i l (wrap (get_or w (9 + i) 0 + 1))
    ∙ ap (λ (x : ℕ). seats_of (seats_from w).seated (seats_from w).shares (set (seats_from w).charges i (wrap (x + 1)))) (sym (charge_word w i l))

pub charged_nobody : (b : Seats) (t : Option ℕ) → t ≡ None → b ≡ charged_to t b
charged_nobody b t e = rw e

pub charged_number : (b : Seats) (t : Option ℕ) (i : ℕ) → t ≡ Some i → (a : Seats) → a ≡ charged i b → a ≡ charged_to t b
charged_number b t i e a d = rw e d

-- eight zeros in the last eight words
pub cleared : (w : List ℕ) → length w ≡ 17 → sets w 9 no_charges ≡ put_at 9 no_charges w
unfolding put_at
cleared w e = sets-eq no_charges w 9 (omega (arith, e)) ∙ append_assoc (take 9 w) no_charges (drop 17 w)

pub flag_cleared : (w : List ℕ) → length w ≡ 17 → get_or (put_at 9 no_charges w) 0 0 ≡ get_or w 0 0
flag_cleared w e = get_d_before 9 0 no_charges w (omega arith) (omega (arith, e))

pub seats_cleared : (w : List ℕ) → length w ≡ 17 → seats_from (put_at 9 no_charges w) ≡ uncharged (seats_from w)
unfolding seats_from
seats_cleared w e =
    rw (part_before 1 8 9 no_charges w (omega arith) (omega (arith, e)), part_same 9 no_charges w (omega (arith, e)), get_d_before 9 0 no_charges w (omega arith) (omega (arith, e)))

-- a new tree's words: nine in front, and no charges
front_written : (w vs : List ℕ) → length w ≡ 17 → length vs ≡ 9 → take 9 (sets w 0 vs) ≡ vs
front_written w vs e n =
    ap (take 9) (sets-eq vs w 0 (omega (arith, e, n))) ∙ take_at vs (drop (0 + length vs) w) 9 n

-- eight words, one by one
eight : (ss : List ℕ) → length ss ≡ 8
    → ◌≡◌ {A = List ℕ} (get_or ss 0 0 ∷ get_or ss 1 0 ∷ get_or ss 2 0 ∷ get_or ss 3 0 ∷ get_or ss 4 0 ∷ get_or ss 5 0 ∷ get_or ss 6 0 ∷ get_or ss 7 0 ∷ []) ss
eight [] q = absurd (omega (arith, q))
eight (a ∷ []) q = absurd (omega (arith, q))
eight (a ∷ b ∷ []) q = absurd (omega (arith, q))
eight (a ∷ b ∷ c ∷ []) q = absurd (omega (arith, q))
eight (a ∷ b ∷ c ∷ d ∷ []) q = absurd (omega (arith, q))
eight (a ∷ b ∷ c ∷ d ∷ e ∷ []) q = absurd (omega (arith, q))
eight (a ∷ b ∷ c ∷ d ∷ e ∷ f ∷ []) q = absurd (omega (arith, q))
eight (a ∷ b ∷ c ∷ d ∷ e ∷ f ∷ g ∷ []) q = absurd (omega (arith, q))
eight (a ∷ b ∷ c ∷ d ∷ e ∷ f ∷ g ∷ h ∷ []) q = refl
eight (a ∷ b ∷ c ∷ d ∷ e ∷ f ∷ g ∷ h ∷ i ∷ ss) q = absurd (omega (arith, q))

pub begun : (w : List ℕ) (seated : ℕ) (ss u : List ℕ) → length w ≡ 17 → length ss ≡ 8
    → u ≡ put_at 9 no_charges (sets w 0 (seated ∷ get_or ss 0 0 ∷ get_or ss 1 0 ∷ get_or ss 2 0 ∷ get_or ss 3 0 ∷ get_or ss 4 0 ∷ get_or ss 5 0 ∷ get_or ss 6 0 ∷ get_or ss 7 0 ∷ []))
    → u ≡ seated ∷ (ss ++ no_charges)
unfolding put_at
begun w seated ss u e n h =
    let nine : List ℕ = seated ∷ get_or ss 0 0 ∷ get_or ss 1 0 ∷ get_or ss 2 0 ∷ get_or ss 3 0 ∷ get_or ss 4 0 ∷ get_or ss 5 0 ∷ get_or ss 6 0 ∷ get_or ss 7 0 ∷ [] in
    h ∙ ap₂ (λ (x y : List ℕ). x ++ (no_charges ++ y)) (front_written w nine e refl ∙ ap (λ (x : List ℕ). seated ∷ x) (eight ss n))
    (drop_of_length-le (sets w 0 nine) {i = 17} (omega (arith, e, length-sets w 0 nine)))

pub seats_begun : (seated : ℕ) (ss : List ℕ) → length ss ≡ 8 → seats_from (seated ∷ (ss ++ no_charges)) ≡ seats_of (not (eqb seated 0)) ss no_charges
unfolding seats_from part
seats_begun seated ss e = ap₂ (seats_of (not (eqb seated 0))) (take_at ss no_charges 8 e) (ap (take 8) (drop_at ss no_charges 8 e))

-- good words are those of the seats that they hold
flag_back : (x : ℕ) → x ≤ 1 → cond (not (eqb x 0)) 1 0 ≡ x
flag_back zero h = refl
flag_back (suc zero) h = refl
flag_back (suc (suc x)) h = absurd (omega (arith, h))

pub seats_back : (w : List ℕ) → length w ≡ 17 → get_or w 0 0 ≤ 1 → seats_words (seats_from w) ≡ w
unfolding seats_from
seats_back w e h =
    ap₂ (λ (x : ℕ) (r : List ℕ). x ∷ r) (flag_back (get_or w 0 0) h) (sym (part_add 1 8 8 w) ∙ part_end 1 16 w (omega (arith, e)))
    ∙ sym (drop-cons w 0 0 (omega (arith, e)))
