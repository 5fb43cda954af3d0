-- What a refused call leaves of the lent head: zeros after a make, the words as they were after any other. Assumes nothing.
use Rattle.model.specs.Numbered.{Numbered}
use Rattle.std.specs.Prelude.{◌≡◌, ◌≢◌, Bool, cond, not, ◌||◌, ℕ, length, replicate, eqb, Ok, Err, None}
use Rattle.std.proofs.Math.Path.{refl}
use Rattle.std.proofs.Math.Bool.{true, false}
use mathlib.Core.List.{List, [], ◌∷◌, ◌++◌}
use Rattle.std.proofs.Common.{ne_eqb}
use Rattle.model.specs.Lists.{Cause, refusal}
use Rattle.model.specs.Kind.{base}
use Rattle.model.specs.Length.{list_of}
use Rattle.model.specs.Row.{Answer}
use Rattle.model.specs.State.{state, head_of}
use Rattle.model.specs.Answer.{outcome_answer}
use Rattle.model.specs.Calls as calls
use Rattle.model.specs.Calls.{Reply, reply}
use Rattle.model.specs.Seats as seats
use Rattle.model.specs.Seats.{no_charges, no_seats, too_high}
use Rattle.model.specs.SeatedCalls.{SeatedReply, seated_reply, make_seated}
use Rattle.model.specs.declared.length.Lengths.{Lengths}
use Rattle.tree_seats.specs.Words.{seats_words}
use Rattle.calls_make.specs.Made.{make_with}
use Rattle.smelvock_marshal.specs.Flat.{bad_shares, head_words, head_after}
use Rattle.smelvock_marshal.specs.Lent.{Given}
use Rattle.smelvock.specs.Changes.{left_by, left_seated, seated_after, make}

module _ (fan limit : ℕ) (shares : List ℕ) (l : Lengths) (g : Given) where
  -- what a make leaves, done or refused, without seats and with them
  abbrev Zeros : SeatedReply (Numbered (Unit {0})) → Type 0
  Zeros r = (outcome_answer r.answer).number ≢ 0 → head_words r.after.head ++ seats_words r.seats ≡ replicate 36 0

  by_limit : (good : Bool) (n : ℕ)
      → (let r = cond good (reply (calls.begun base fan limit 1 (list_of l) g.leaves g.inners g.homes) (Ok tt)) (reply (state (head_of 0 0 0 0 0 0 0 0 None) g.leaves g.inners g.homes) (Err n)) in Zeros (seated_reply r.after no_seats r.answer))
  unfolding head_words
  by_limit true n h = absurd (h refl)
  by_limit false n h = refl

  by_shares : (good : Bool) (n : ℕ)
      → Zeros (cond good (seated_reply (calls.begun base fan limit 1 (list_of l) g.leaves g.inners g.homes) (seats.seats_of true shares no_charges) (Ok tt)) (seated_reply (state (head_of 0 0 0 0 0 0 0 0 None) g.leaves g.inners g.homes) no_seats (Err n)))
  unfolding head_words
  by_shares true n h = absurd (h refl)
  by_shares false n h = refl

  all : Zeros (make_with base fan limit shares (list_of l) g.leaves g.inners g.homes)
  unfolding make_with calls.make make_seated
  all = go (eqb (length shares) 0)
    where
      causes : List Cause
      causes = calls.make_causes base fan limit (list_of l) g.leaves g.inners g.homes

      go : (t : Bool) → Zeros (cond t (let r = calls.make base fan limit (list_of l) g.leaves g.inners g.homes in seated_reply r.after no_seats r.answer) (make_seated base fan limit shares (list_of l) g.leaves g.inners g.homes))
      go true = by_limit (eqb (refusal causes) 0) (refusal causes)
      go false = by_shares (eqb (refusal (causes ++ too_high limit shares ∷ [])) 0) (refusal (causes ++ too_high limit shares ∷ []))

  pub make_zeros : (not (eqb (length g.head) 36) || bad_shares shares) ≡ false → (make fan limit shares l g).reply ≢ 0 → (make fan limit shares l g).head ≡ replicate 36 0
  unfolding make left_seated
  make_zeros e = rw e all

-- of the others: `bad` is what is refused by 10
module _ {A : Type 0} {R : Type 0} (flat : Answer → R) (answer : A → Answer) (g : Given) where
  pub head_kept : (r : Reply A) (bad : Bool) → (bad ≡ false → (answer r.answer).number ≢ 0) → (left_by flat answer head_after bad g r).head ≡ g.head
  unfolding left_by head_after
  head_kept r true n = refl
  head_kept r false n = rw (ne_eqb (answer r.answer).number 0 (n refl))

  pub seats_kept : (r : SeatedReply A) (bad : Bool) → (bad ≡ false → (answer r.answer).number ≢ 0) → (left_seated flat answer seated_after bad g r).head ≡ g.head
  unfolding left_seated seated_after
  seats_kept r true n = refl
  seats_kept r false n = rw (ne_eqb (answer r.answer).number 0 (n refl))
