-- What a seated call replies: refused where the seat is bad, else what the call replies, with the seats after it. Assumes nothing.
use Rattle.std.proofs.Common.{◌≡◌, Bool, true, false, cond, sym, ap, ◌∙◌}
use Rattle.model.specs.State.{State}
use Rattle.model.specs.Calls.{Reply, reply}
use Rattle.model.specs.SeatedCalls.{SeatedReply, seated_reply}
use Rattle.model.specs.declared.seats.Seats.{Seats}

module _ {A : Type 0} (after : A → Seats) where
  abbrev with : Reply A → SeatedReply A
  with q = seated_reply q.after (after q.answer) q.answer

  pub seats_after : (r : Reply A) (s : State) (b : Seats) (a : A) → reply s a ≡ r → b ≡ after a → seated_reply s b a ≡ with r
  seats_after r s b a d q = ap (λ (x : Seats). seated_reply s x a) q ∙ ap with d

  module _ (refused : SeatedReply A) (bad : Bool) (r : Reply A) where
    pub seat_refused : bad ≡ true → refused ≡ cond bad refused (with r)
    seat_refused e = sym (ap (λ (t : Bool). cond t refused (with r)) e)

    pub seat_taken : bad ≡ false → (s : State) (b : Seats) (a : A) → reply s a ≡ r → b ≡ after a → seated_reply s b a ≡ cond bad refused (with r)
    seat_taken e s b a d q = seats_after r s b a d q ∙ sym (ap (λ (t : Bool). cond t refused (with r)) e)
