-- The rules of seats from the words that are read. Assumes nothing.
use Rattle.std.specs.Prelude.{Some, None, Option}
use Rattle.std.proofs.Common.{◌≡◌, ℕ, ◌+◌, ◌-◌, ◌<◌, ◌≤◌, Bool, true, false, cond, not, ◌&&◌, ◌||◌, eqb, ltb, leb, List, [], ◌∷◌, get_or, sym, refl, ap, ◌∙◌, ap₂, arith, ltb-false, le-ltb, lt-ltb, eq-eqb, ne_eqb, le-leb}
use borrow.Author.Tests.{lt-leb}
use Rattle.model.specs.Lists.{cause, refusal}
use Rattle.model.specs.State.{State}
use Rattle.model.specs.declared.seats.Seats.{Seats}
use Rattle.model.specs.Seats.{sum_from, sum, share, charge, unused, all_unused, bad_seat, over, too_high, is_fair}
use Rattle.model.specs.SeatedCalls.{space}
use Rattle.tree_seats.specs.Words.{seats_from}
use Rattle.tree_seats.proofs.SumLaws.{part_sum, same_sum, share_word, charge_word, others_all}

-- which seat may be named
module _ (w : List ℕ) (t : Option ℕ) where
  pub bad_nobody : t ≡ None → not (eqb (get_or w 0 0) 0) ≡ bad_seat (seats_from w) t
  unfolding seats_from
  bad_nobody e = sym (ap (bad_seat (seats_from w)) e)

  pub bad_unseated : (i : ℕ) → t ≡ Some i → get_or w 0 0 ≡ 0 → true ≡ bad_seat (seats_from w) t
  unfolding seats_from
  bad_unseated i e n = sym (ap (bad_seat (seats_from w)) e ∙ ap (λ (b : Bool). not (not b) || ltb 7 i) (eq-eqb (get_or w 0 0) 0 n))

  pub bad_number : (i : ℕ) → t ≡ Some i → (get_or w 0 0 ≡ 0 → ⊥) → ltb 7 i ≡ bad_seat (seats_from w) t
  unfolding seats_from
  bad_number i e n = sym (ap (bad_seat (seats_from w)) e ∙ ap (λ (b : Bool). not (not b) || ltb 7 i) (ne_eqb (get_or w 0 0) 0 n))

  or_second : (a b : Bool) → (a || b) ≡ false → b ≡ false
  or_second true true e = e
  or_second true false e = refl
  or_second false b e = e

  -- a seat that may be named is one of eight
  pub good_number : (i : ℕ) → bad_seat (seats_from w) t ≡ false → t ≡ Some i → i < 8
  good_number i g e =
      let z = or_second (not (seats_from w).seated) (ltb 7 i) (sym (ap (bad_seat (seats_from w)) e) ∙ g) in
      omega (arith, ltb-false 7 i z)

-- 8, without seats
pub limit_reached : (limit n : ℕ) → limit ≤ n → (8 ≡ refusal (cause 8 (leb limit n) ∷ [])) × (◌≡◌ {A = ℕ} 8 0 → n < limit)
unfolding refusal
limit_reached limit n h = (sym (ap (λ (b : Bool). cond b 8 0) (le-leb limit n h)), λ z. absurd (omega (arith, z)))

pub limit_free : (limit n : ℕ) → n < limit → (0 ≡ refusal (cause 8 (leb limit n) ∷ [])) × (◌≡◌ {A = ℕ} 0 0 → n < limit)
unfolding refusal
limit_free limit n h = (sym (ap (λ (b : Bool). cond b 8 0) (lt-leb limit n h)), λ z. h)

-- 18, by the words of seat i
module _ (limit n : ℕ) (w : List ℕ) (i : ℕ) (l : i < 8) where
  pub seat_below : get_or w (9 + i) 0 < get_or w (1 + i) 0 → false ≡ (over limit n (seats_from w) i).applies
  seat_below h =
      sym (ap (λ (b : Bool). b && leb (limit - n) (sum_from (λ j. cond (eqb j i) 0 (unused (seats_from w) j)) 0 8))
      (lt-leb (share (seats_from w) i) (charge (seats_from w) i) (let z = charge_word w i l in let y = share_word w i l in omega (arith, h, z, y))))

  pub seat_at : get_or w (1 + i) 0 ≤ get_or w (9 + i) 0 → (x y : ℕ) → x ≡ limit - n → y ≡ all_unused (seats_from w) → leb x y ≡ (over limit n (seats_from w) i).applies
  seat_at h x y ex ey =
      let at : share (seats_from w) i ≤ charge (seats_from w) i = (let z = charge_word w i l in let y = share_word w i l in omega (arith, h, z, y)) in
      ap₂ leb ex (ey ∙ others_all (seats_from w) i at)
      ∙ sym (ap (λ (b : Bool). b && leb (limit - n) (sum_from (λ j. cond (eqb j i) 0 (unused (seats_from w) j)) 0 8)) (le-leb (share (seats_from w) i) (charge (seats_from w) i) at))

-- 18 and the 9 behind it
module _ (limit n : ℕ) (o : Bool) (t : Bool) (e : o ≡ t) where
  abbrev number : ℕ → Type 0
  number r = (r ≡ refusal (cause 18 t ∷ cause 9 (leb limit n) ∷ [])) × (r ≡ 0 → n < limit)

  pub room_over : o ≡ true → number 18
  unfolding refusal
  room_over h = (sym (ap (λ (b : Bool). cond b 18 (cond (leb limit n) 9 0)) (sym e ∙ h)), λ z. absurd (omega (arith, z)))

  pub room_none : o ≡ false → limit ≤ n → number 9
  unfolding refusal
  room_none h g =
      (sym (ap₂ (λ (a b : Bool). cond a 18 (cond b 9 0)) (sym e ∙ h) (le-leb limit n g)), λ z. absurd (omega (arith, z)))

  pub room_some : o ≡ false → n < limit → number 0
  unfolding refusal
  room_some h g = (sym (ap₂ (λ (a b : Bool). cond a 18 (cond b 9 0)) (sym e ∙ h) (lt-leb limit n g)), λ z. g)

-- the number for the seat that was named
module _ (limit n : ℕ) (b : Seats) (t : Option ℕ) (r : ℕ) where
  abbrev RoomNumber : Type 0
  RoomNumber = ((s : State) → s.head.limit ≡ limit → s.head.entries ≡ n → r ≡ refusal (space s b t)) × (r ≡ 0 → n < limit)

  pub room_nobody : t ≡ None → (r ≡ refusal (cause 8 (leb limit n) ∷ [])) × (r ≡ 0 → n < limit) → RoomNumber
  room_nobody e h = (λ s el en. rw (e, el, en) h.0, h.1)

  pub room_number : (i : ℕ) → t ≡ Some i → (r ≡ refusal (over limit n b i ∷ cause 9 (leb limit n) ∷ [])) × (r ≡ 0 → n < limit) → RoomNumber
  room_number i e h = (λ s el en. rw (e, el, en) h.0, h.1)

-- 19
module _ (limit : ℕ) (shares : List ℕ) (total : ℕ) (e : total ≡ sum_from (λ j. get_or shares (0 + j) 0) 0 8) where
  shares_sum : total ≡ sum shares
  shares_sum = e ∙ same_sum (λ j. get_or shares (0 + j) 0) (λ j. get_or shares j 0) 0 8 (λ k l. ap (λ (x : ℕ). get_or shares x 0) (let z : 0 + k ≡ k = omega arith in z))

  pub shares_high : limit ≤ total → 19 ≡ refusal (too_high limit shares ∷ [])
  unfolding refusal
  shares_high h = sym (ap (λ (b : Bool). cond (not b) 19 0) (ap (λ (x : ℕ). ltb x limit) (sym shares_sum) ∙ le-ltb total limit h))

  pub shares_low : total < limit → 0 ≡ refusal (too_high limit shares ∷ [])
  unfolding refusal
  shares_low h = sym (ap (λ (b : Bool). cond (not b) 19 0) (ap (λ (x : ℕ). ltb x limit) (sym shares_sum) ∙ lt-ltb total limit h))

-- what audit also asks
module _ (limit n : ℕ) (w : List ℕ) where
  abbrev fair : Bool → Bool → Bool → Bool → Bool
  fair seated shares charges covers = not seated || (shares && charges && covers)

  pub fair_unseated : get_or w 0 0 ≡ 0 → true ≡ is_fair limit n (seats_from w)
  unfolding is_fair seats_from
  fair_unseated e = rw e

  module _ (s : get_or w 0 0 ≡ 0 → ⊥) (total : ℕ) (es : total ≡ sum_from (λ j. get_or w (1 + j) 0) 0 8) where
    pub fair_high : limit ≤ total → false ≡ is_fair limit n (seats_from w)
    unfolding is_fair seats_from
    fair_high h = rw (ne_eqb (get_or w 0 0) 0 s, ← part_sum 1 w, ← es, le-ltb total limit h)

    module _ (h : total < limit) (charges : ℕ) (ec : charges ≡ sum_from (λ j. get_or w (9 + j) 0) 0 8) where
      pub fair_charges : (charges + 1 ≡ n → ⊥) → false ≡ is_fair limit n (seats_from w)
      unfolding is_fair seats_from
      fair_charges d = rw (ne_eqb (get_or w 0 0) 0 s, ← part_sum 1 w, ← es, lt-ltb total limit h, ← part_sum 9 w, ← ec, ne_eqb (charges + 1) n d)

      pub fair_covers : charges + 1 ≡ n → (x y : ℕ) → x ≡ all_unused (seats_from w) → y ≡ limit - n → leb x y ≡ is_fair limit n (seats_from w)
      unfolding is_fair seats_from
      fair_covers d x y ex ey = rw (ne_eqb (get_or w 0 0) 0 s, ← part_sum 1 w, ← es, lt-ltb total limit h, ← part_sum 9 w, ← ec, eq-eqb (charges + 1) n d, ex, ey)
