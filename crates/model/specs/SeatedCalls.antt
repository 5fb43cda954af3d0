-- The calls that read or change the seats of a tree (document 02, CR 10): make, reset, insert, split and audit; all others know no seats.
-- The seats stand beside the tree. Assumes nothing.
use Rattle.model.specs.declared.number.EntryId.{EntryId}
use Rattle.model.specs.Numbered.{Numbered}
use Rattle.std.specs.Prelude.{Bool, true, cond, List, [], ◌∷◌, ◌++◌, ℕ, leb, Ok, Err, Some, None, Option, false}
use Rattle.model.specs.Lists.{Cause, cause}
use Rattle.model.specs.declared.shape.Kind.{Kind}
use Rattle.model.specs.State.{State, state, head_of}
use Rattle.model.specs.Refuse.{full}
use Rattle.model.specs.Calls.{unless, make_causes, begun, reset, insert_by, split_by}
use Rattle.model.specs.Audit.{audit}
use Rattle.model.specs.Seats.{seats_of, no_charges, no_seats, bad_seat, over, too_high, charged_to, uncharged, is_fair}
use Rattle.model.specs.declared.seats.Seats.{Seats}
use Rattle.model.specs.declared.head.Cursor.{Cursor}

-- the state and the seats after a call, and its answer
pub record SeatedReply (A : Type 0) : Type 0 where
  pub after : State
  pub seats : Seats
  pub answer : A

abbrev pub seated_reply : {A : Type 0} → State → Seats → A → SeatedReply A
seated_reply s b a = record { after = s; seats = b; answer = a }

-- make and reset ----------------------------------------------------------------------------------------------------------------------------

-- a refused make returns a head of zeros, as without seats, and no seats
unfoldable pub make_seated : Kind → ℕ → ℕ → List ℕ → List ℕ → List ℕ → List ℕ → List ℕ → SeatedReply (Numbered (Unit {0}))
make_seated K fan limit shares l ls xs hs =
    unless (make_causes K fan limit l ls xs hs ++ too_high limit shares ∷ []) (λ n. seated_reply (state (head_of 0 0 0 0 0 0 0 0 None) ls xs hs) no_seats (Err n))
    (seated_reply (begun K fan limit 1 l ls xs hs) (seats_of true shares no_charges) (Ok tt))

abbrev pub after_reset : Seats → Numbered (Unit {0}) → Seats
after_reset b (Ok tt) = uncharged b
after_reset b (Err n) = b

unfoldable pub reset_seated : Kind → State → Seats → List ℕ → SeatedReply (Numbered (Unit {0}))
reset_seated K s b l = let r = reset K s l in seated_reply r.after (after_reset b r.answer) r.answer

-- insert and split --------------------------------------------------------------------------------------------------------------------------

-- why one entry more has no space: without seats the limit, 8; with them their rules, 18, and 9 in a tree that is full though the seat is below its share, as no sound tree is
abbrev pub space : State → Seats → Option ℕ → List Cause
space s b None = full s ∷ []
space s b (Some i) = over s.head.limit s.head.entries b i ∷ cause 9 (leb s.head.limit s.head.entries) ∷ []

-- the new entry is charged to the seat named; a refused call charges nobody
abbrev pub after_insert : Option ℕ → Seats → Numbered (EntryId × ℕ) → Seats
after_insert seat b (Ok (i, position)) = charged_to seat b
after_insert seat b (Err n) = b

unfoldable pub insert_seated : Kind → State → Seats → Option ℕ → Option Cursor → List ℕ → SeatedReply (Numbered (EntryId × ℕ))
insert_seated K s b seat t l =
    let r = insert_by K (space s b seat) s t l in
    cond (bad_seat b seat) (seated_reply s b (Err 10)) (seated_reply r.after (after_insert seat b r.answer) r.answer)

abbrev pub after_split : Option ℕ → Seats → Numbered (EntryId × Cursor × Cursor) → Seats
after_split seat b (Ok (i, first, second)) = charged_to seat b
after_split seat b (Err n) = b

unfoldable pub split_seated : Kind → State → Seats → Option ℕ → Cursor → List ℕ → Bool → SeatedReply (Numbered (EntryId × Cursor × Cursor))
split_seated K s b seat c l flag =
    let r = split_by K (space s b seat) s c l flag in
    cond (bad_seat b seat) (seated_reply s b (Err 10)) (seated_reply r.after (after_split seat b r.answer) r.answer)

-- audit -------------------------------------------------------------------------------------------------------------------------------------

-- a sound tree's seats must be fair too
abbrev pub also_fair : Bool → Numbered Bool → Numbered Bool
also_fair fair (Ok true) = cond fair (Ok true) (Ok false)
also_fair fair (Ok false) = Ok false
also_fair fair (Err n) = Err n

unfoldable pub audit_seated : Kind → State → Seats → Numbered Bool
audit_seated K t b = also_fair (is_fair t.head.limit t.head.entries b) (audit K t)
