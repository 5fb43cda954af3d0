-- What make and reset reply and leave of the seats. Assumes nothing.
use Rattle.model.specs.Numbered.{Numbered}
use Rattle.std.specs.Prelude.{Ok, Err, None}
use Rattle.std.proofs.Common.{◌≡◌, ℕ, ◌≤◌, Bool, true, false, cond, eqb, List, [], ◌∷◌, ◌++◌, length, get_or, sym, refl, ap, ◌∙◌, eq-eqb, ne_eqb}
use Rattle.model.specs.Kind.{base}
use Rattle.model.specs.Lists.{refusal}
use Rattle.model.specs.State.{State, state, head_of}
use Rattle.model.specs.Calls.{Reply, reply, make_causes, begun, make, reset}
use Rattle.model.specs.Seats.{seats_of, no_charges, no_seats, too_high, uncharged}
use Rattle.model.specs.SeatedCalls.{seated_reply, make_seated, after_reset, reset_seated}
use Rattle.model.specs.declared.seats.Seats.{Seats}
use Rattle.tree_seats.proofs.ReplyLaws.{seats_after}
use Rattle.calls_make.specs.Made.{make_by, seats_made, made_by, shares_causes, seats_given, make_with}
use Rattle.calls_make.proofs.BeginLaws.{no_more, make_plain}

-- the first word
pub flag_at : (w ws : List ℕ) (x : ℕ) → w ≡ x ∷ ws → x ≤ 1 → get_or w 0 0 ≤ 1
flag_at w ws x e h = rw e h

-- the seats, by the answer
module _ (b : Seats) (a : Numbered (Unit {0})) (x : Seats) where
  pub made_done : a ≡ Ok tt → x ≡ b → x ≡ seats_made b a
  made_done e d = rw e d

  pub made_refused : (n : ℕ) → a ≡ Err n → x ≡ no_seats → x ≡ seats_made b a
  made_refused n e d = rw e d

  pub reset_done : a ≡ Ok tt → x ≡ uncharged b → x ≡ after_reset b a
  reset_done e d = rw e d

pub reset_kept : (b : Seats) (a : Numbered (Unit {0})) (n : ℕ) → a ≡ Err n → b ≡ after_reset b a
reset_kept b a n e = rw e

-- what the shares given ask for
module _ (limit : ℕ) (shares : List ℕ) where
  pub none_high : length shares ≡ 0 → refusal (shares_causes limit shares) ≡ 0
  none_high e = ap (λ (t : Bool). refusal (cond t [] (too_high limit shares ∷ []))) (eq-eqb (length shares) 0 e) ∙ no_more

  pub some_high : (length shares ≡ 0 → ⊥) → (n : ℕ) → n ≡ refusal (too_high limit shares ∷ []) → refusal (shares_causes limit shares) ≡ n
  some_high e n d = ap (λ (t : Bool). refusal (cond t [] (too_high limit shares ∷ []))) (ne_eqb (length shares) 0 e) ∙ sym d

module _ (b : Seats) (shares : List ℕ) where
  pub none_given : length shares ≡ 0 → b ≡ no_seats → b ≡ seats_given shares
  none_given e d = rw (eq-eqb (length shares) 0 e) d

  pub some_given : (length shares ≡ 0 → ⊥) → b ≡ seats_of true shares no_charges → b ≡ seats_given shares
  some_given e d = rw (ne_eqb (length shares) 0 e) d

-- make with the seats asked for, or with none
pub made_reply : (b : Seats) (r : Reply (Numbered (Unit {0}))) (s : State) (a : Numbered (Unit {0})) (b1 : Seats) → reply s a ≡ r → b1 ≡ seats_made b a → seated_reply s b1 a ≡ made_by b r
made_reply b r s a b1 d q = seats_after (seats_made b) r s b1 a d q

no_seats_law : (a : Numbered (Unit {0})) → seats_made no_seats a ≡ no_seats
no_seats_law (Ok tt) = refl
no_seats_law (Err n) = refl

module _ (fan limit : ℕ) (shares l ls xs hs : List ℕ) where
  by_none : made_by no_seats (make_by base [] fan limit l ls xs hs) ≡ seated_reply (make base fan limit l ls xs hs).after no_seats (make base fan limit l ls xs hs).answer
  by_none =
      let r = make base fan limit l ls xs hs in
      ap (made_by no_seats) (make_plain base fan limit l ls xs hs) ∙ ap (λ (b : Seats). seated_reply r.after b r.answer) (no_seats_law r.answer)

  by_shares : (t : Bool) (n : ℕ)
      → made_by (seats_of true shares no_charges) (cond t (reply (begun base fan limit 1 l ls xs hs) (Ok tt)) (reply (state (head_of 0 0 0 0 0 0 0 0 None) ls xs hs) (Err n)))
      ≡ cond t (seated_reply (begun base fan limit 1 l ls xs hs) (seats_of true shares no_charges) (Ok tt)) (seated_reply (state (head_of 0 0 0 0 0 0 0 0 None) ls xs hs) no_seats (Err n))
  by_shares true n = refl
  by_shares false n = refl

  by_some : made_by (seats_of true shares no_charges) (make_by base (too_high limit shares ∷ []) fan limit l ls xs hs) ≡ make_seated base fan limit shares l ls xs hs
  unfolding make_by make_seated
  by_some =
      let n = refusal (make_causes base fan limit l ls xs hs ++ too_high limit shares ∷ []) in
      by_shares (eqb n 0) n

  by_given : (none : Bool) → made_by (cond none no_seats (seats_of true shares no_charges)) (make_by base (cond none [] (too_high limit shares ∷ [])) fan limit l ls xs hs)
      ≡ cond none (seated_reply (make base fan limit l ls xs hs).after no_seats (make base fan limit l ls xs hs).answer) (make_seated base fan limit shares l ls xs hs)
  by_given true = by_none
  by_given false = by_some

  pub made_given : made_by (seats_given shares) (make_by base (shares_causes limit shares) fan limit l ls xs hs) ≡ make_with base fan limit shares l ls xs hs
  unfolding make_with
  made_given = by_given (eqb (length shares) 0)

pub reset_reply : (s : State) (b : Seats) (l : List ℕ) (s1 : State) (b1 : Seats) (a : Numbered (Unit {0})) → reply s1 a ≡ reset base s l → b1 ≡ after_reset b a → seated_reply s1 b1 a ≡ reset_seated base s b l
unfolding reset_seated
reset_reply s b l s1 b1 a d q = seats_after (after_reset b) (reset base s l) s1 b1 a d q
