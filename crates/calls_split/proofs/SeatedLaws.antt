-- What a split for a seat replies. Assumes nothing.
use Rattle.model.specs.Numbered.{Numbered}
use Rattle.std.specs.Prelude.{Err, Option}
use Rattle.std.proofs.Common.{◌≡◌, ℕ, Bool, true, false, List, sym, ◌∙◌}
use Rattle.model.specs.Kind.{base}
use Rattle.model.specs.State.{State}
use Rattle.model.specs.Calls.{reply, split_by}
use Rattle.model.specs.Seats.{bad_seat}
use Rattle.model.specs.SeatedCalls.{seated_reply, space, after_split, split_seated}
use Rattle.model.specs.declared.number.EntryId.{EntryId}
use Rattle.model.specs.declared.seats.Seats.{Seats}
use Rattle.model.specs.declared.head.Cursor.{Cursor}
use Rattle.tree_seats.proofs.ReplyLaws.{seat_refused, seat_taken}

module _ (s : State) (b : Seats) (t : Option ℕ) (at : Cursor) (l : List ℕ) (flag : Bool) (q : Bool) (e : q ≡ bad_seat b t) where
  pub seated_refused : q ≡ true → seated_reply s b (Err 10) ≡ split_seated base s b t at l flag
  unfolding split_seated
  seated_refused h = seat_refused (after_split t b) (seated_reply s b (Err 10)) (bad_seat b t) (split_by base (space s b t) s at l flag) (sym e ∙ h)

  pub seated_done : q ≡ false → (s1 : State) (a : Numbered (EntryId × Cursor × Cursor)) → reply s1 a ≡ split_by base (space s b t) s at l flag → (b1 : Seats) → b1 ≡ after_split t b a
      → seated_reply s1 b1 a ≡ split_seated base s b t at l flag
  unfolding split_seated
  seated_done h s1 a d b1 c = seat_taken (after_split t b) (seated_reply s b (Err 10)) (bad_seat b t) (split_by base (space s b t) s at l flag) (sym e ∙ h) s1 b1 a d c
