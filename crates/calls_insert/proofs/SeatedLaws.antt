-- What an insert for a seat replies. Assumes nothing.
use Rattle.model.specs.declared.head.Cursor.{Cursor}
use Rattle.model.specs.Numbered.{Numbered}
use Rattle.std.specs.Prelude.{Err, Option}
use mathlib.Core.Path.{◌≡◌, refl, sym, ◌∙◌}
use mathlib.Core.Bool.{Bool, true, false, ◌||◌}
use mathlib.Core.List.{List}
use Prim.Native.Nat.{ℕ}
use Rattle.model.specs.Kind.{base, too_many_lines}
use Rattle.model.specs.Lists.{Cause, refusal}
use Rattle.model.specs.State.{State}
use Rattle.model.specs.Calls.{reply, insert_by}
use Rattle.model.specs.Seats.{bad_seat}
use Rattle.model.specs.SeatedCalls.{seated_reply, space, after_insert, insert_seated}
use Rattle.model.specs.declared.number.EntryId.{EntryId}
use Rattle.model.specs.declared.seats.Seats.{Seats}
use Rattle.tree_seats.proofs.ReplyLaws.{seat_refused, seat_taken}
use Rattle.tree_open.proofs.Bools.{or_false}

-- too many line ends are 10 before all else
overlong : (room : List Cause) (s : State) (to : Option Cursor) (l : List ℕ) → too_many_lines base l ≡ true → reply s (Err 10) ≡ insert_by base room s to l
unfolding insert_by refusal
overlong room s to l h = rw h

module _ (s : State) (b : Seats) (t : Option ℕ) (to : Option Cursor) (l : List ℕ) where
  by_seat : bad_seat b t ≡ true → seated_reply s b (Err 10) ≡ insert_seated base s b t to l
  unfolding insert_seated
  by_seat h = seat_refused (after_insert t b) (seated_reply s b (Err 10)) (bad_seat b t) (insert_by base (space s b t) s to l) h

  taken : bad_seat b t ≡ false → (s1 : State) (a : Numbered (EntryId × ℕ)) → reply s1 a ≡ insert_by base (space s b t) s to l → (b1 : Seats) → b1 ≡ after_insert t b a
      → seated_reply s1 b1 a ≡ insert_seated base s b t to l
  unfolding insert_seated
  taken h s1 a d b1 c = seat_taken (after_insert t b) (seated_reply s b (Err 10)) (bad_seat b t) (insert_by base (space s b t) s to l) h s1 b1 a d c

  module _ (q : Bool) (e : q ≡ (bad_seat b t || too_many_lines base l)) where
    pub seat_good : q ≡ false → bad_seat b t ≡ false
    seat_good h = (or_false (bad_seat b t) (too_many_lines base l) (sym e ∙ h)).0

    pub seated_refused : q ≡ true → seated_reply s b (Err 10) ≡ insert_seated base s b t to l
    seated_refused h = go (bad_seat b t) (too_many_lines base l) refl refl (sym e ∙ h)
      where
        go : (x y : Bool) → bad_seat b t ≡ x → too_many_lines base l ≡ y → (x || y) ≡ true → seated_reply s b (Err 10) ≡ insert_seated base s b t to l
        go true y p _ _ = by_seat p
        go false y p o m = taken p s (Err 10) (overlong (space s b t) s to l (o ∙ m)) b refl

    pub seated_done : q ≡ false → (s1 : State) (a : Numbered (EntryId × ℕ)) → reply s1 a ≡ insert_by base (space s b t) s to l → (b1 : Seats) → b1 ≡ after_insert t b a
        → seated_reply s1 b1 a ≡ insert_seated base s b t to l
    seated_done h s1 a d b1 c = taken (seat_good h) s1 a d b1 c
