-- Make with more causes behind its own, and the tree that a host asks for: with seats or without. Assumes nothing.
use Rattle.model.specs.Numbered.{Numbered}
use Rattle.std.specs.Prelude.{ℕ, true, cond, List, [], ◌∷◌, ◌++◌, length, ◌==◌, Ok, Err, None}
use Rattle.model.specs.Lists.{Cause}
use Rattle.model.specs.State.{state, head_of}
use Rattle.model.specs.Calls.{Reply, reply, unless, make_causes, begun, make}
use Rattle.model.specs.Seats.{seats_of, no_charges, no_seats, too_high}
use Rattle.model.specs.SeatedCalls.{SeatedReply, seated_reply, make_seated}
use Rattle.model.specs.declared.shape.Kind.{Kind}
use Rattle.model.specs.declared.seats.Seats.{Seats}

unfoldable pub make_by : Kind → List Cause → ℕ → ℕ → List ℕ → List ℕ → List ℕ → List ℕ → Reply (Numbered (Unit {0}))
make_by K more fan limit l ls xs hs =
    unless (make_causes K fan limit l ls xs hs ++ more) (λ n. reply (state (head_of 0 0 0 0 0 0 0 0 None) ls xs hs) (Err n)) (reply (begun K fan limit 1 l ls xs hs) (Ok tt))

-- the seats b are those of a tree that was made
abbrev pub seats_made : Seats → Numbered (Unit {0}) → Seats
seats_made b (Ok tt) = b
seats_made b (Err n) = no_seats

abbrev pub made_by : Seats → Reply (Numbered (Unit {0})) → SeatedReply (Numbered (Unit {0}))
made_by b r = seated_reply r.after (seats_made b r.answer) r.answer

-- what shares that are given add to make's causes, and the seats that they ask for: without shares there are none
abbrev pub shares_causes : ℕ → List ℕ → List Cause
shares_causes limit shares = cond (length shares == 0) [] (too_high limit shares ∷ [])

abbrev pub seats_given : List ℕ → Seats
seats_given shares = cond (length shares == 0) no_seats (seats_of true shares no_charges)

-- without shares a tree without seats
unfoldable pub make_with : Kind → ℕ → ℕ → List ℕ → List ℕ → List ℕ → List ℕ → List ℕ → SeatedReply (Numbered (Unit {0}))
make_with K fan limit shares l ls xs hs =
    let r = make K fan limit l ls xs hs in
    cond (length shares == 0) (seated_reply r.after no_seats r.answer) (make_seated K fan limit shares l ls xs hs)
