-- Lists of seated calls (document 02, CR 10), by ids and on cursors: each call names a seat or nobody, the tree and the row have their seats beside
-- them, and the row holds the charges. Assumes nothing.
use Rattle.std.specs.Prelude.{Bool, false, cond, ◌||◌, List, [], ◌∷◌, ℕ, eqb, length, Some, None, Option}
use Rattle.model.specs.Lists.{Cause}
use Rattle.model.specs.declared.shape.Kind.{Kind}
use Rattle.model.specs.State.{State}
use Rattle.model.specs.Row as row
use Rattle.model.specs.Row.{Row, Call, Answer, refused, Moved, moved, row_move, overlong}
use Rattle.model.specs.Answer.{outcome_answer, inserted_answer}
use Rattle.model.specs.Calls as calls
use Rattle.model.specs.ById.{with_cursor, at_target, divided_id_answer, tree_move}
use Rattle.model.specs.ByCursor as by
use Rattle.model.specs.ByCursor.{CursorCall, EntryCall, cursor_step, entry_step, meant, parts_answer, with_parts}
use Rattle.model.specs.Seats.{bad_seat, over, charged_to, uncharged}
use Rattle.model.specs.SeatedCalls.{SeatedReply, reset_seated, insert_seated, split_seated}
use Rattle.model.specs.declared.head.Cursor.{Cursor}
use Rattle.model.specs.declared.seats.Seats.{Seats}

-- a tree or a row, and its seats
pub record Seated (S : Type 0) : Type 0 where
  pub of : S
  pub seats : Seats

abbrev pub seated : {S : Type 0} → S → Seats → Seated S
seated s b = record { of = s; seats = b }

-- a call, and the seat that it names; only inserts and splits name one, and in all other calls nobody looks at it
pub record Naming (C : Type 0) : Type 0 where
  pub seat : Option ℕ
  pub call : C

abbrev pub naming : {C : Type 0} → Option ℕ → C → Naming C
naming seat c = record { seat = seat; call = c }

-- a call that knows no seats leaves them as they were
abbrev pub beside : {S : Type 0} → Seats → Moved S → Moved (Seated S)
beside b m = moved (seated m.after b) m.answer

-- what a call has to do with seats: a reset with those lengths; an insert at a place, or a split of an entry, with its lengths; nothing
pub data Deed (P E : Type 0) : Type 0 where
  resets : List ℕ → Deed P E
  inserts : P → List ℕ → Deed P E
  splits : Bool → E → List ℕ → Deed P E
  nothing : Deed P E

-- an insert or a split that names a wrong seat: 10
abbrev pub misnamed : {P E : Type 0} → Seats → Option ℕ → Deed P E → Bool
misnamed b seat (resets l) = false
misnamed b seat (inserts i l) = bad_seat b seat
misnamed b seat (splits flag i l) = bad_seat b seat
misnamed b seat nothing = false

-- by ids ------------------------------------------------------------------------------------------------------------------------------------

abbrev pub deed : Call → Deed ℕ ℕ
deed (row.reset l) = resets l
deed (row.insert i l) = inserts i l
deed (row.split flag i l) = splits flag i l
deed (row.set_lengths i l) = nothing
deed (row.update i l) = nothing
deed (row.lookup v index) = nothing
deed (row.rank v i) = nothing
deed (row.next i) = nothing
deed (row.compare i j) = nothing
deed (row.lengths i) = nothing
deed row.count = nothing
deed row.first = nothing
deed row.malformed = nothing

-- why one entry more has no space in the row: 8 without seats, with them 18
abbrev pub row_space : Row → Seats → Option ℕ → List Cause
row_space r b None = row.full r ∷ []
row_space r b (Some i) = over r.limit (length r.entries) b i ∷ []

-- the new entry is charged to the seat named; a refused call charges nobody
abbrev pub charging : {S : Type 0} → Option ℕ → Seats → Moved S → Moved (Seated S)
charging seat b m = moved (seated m.after (cond (eqb m.answer.number 0) (charged_to seat b) b)) m.answer

-- a reset clears the charges; a refused one leaves them
abbrev pub clearing : {S : Type 0} → Seats → Moved S → Moved (Seated S)
clearing b m = moved (seated m.after (cond (eqb m.answer.number 0) (uncharged b) b)) m.answer

-- the row of a seated list
unfoldable pub seated_row_move : Kind → Row → Seats → Option ℕ → Call → Deed ℕ ℕ → Moved (Seated Row)
seated_row_move K r b seat c (resets l) = clearing b (row_move K r (row.reset l))
seated_row_move K r b seat c (inserts i l) = charging seat b (row.insert_by K (row_space r b seat) r i l)
seated_row_move K r b seat c (splits flag i l) = charging seat b (row.split_by K (row_space r b seat) r flag i l)
seated_row_move K r b seat c nothing = beside b (row_move K r c)

unfoldable pub seated_row : Kind → Seated Row → Naming Call → Moved (Seated Row)
seated_row K r c =
    let d = deed c.call in
    cond (overlong K c.call || misnamed r.seats c.seat d) (moved r (refused 10)) (seated_row_move K r.of r.seats c.seat c.call d)

-- a seated call's reply with its answer in the row's form
abbrev pub told_seated : {A : Type 0} → SeatedReply A → (A → Answer) → Moved (Seated State)
told_seated r f = moved (seated r.after r.seats) (f r.answer)

-- on a tree each is `cursor(id)` and then the call of the library, 10 before all else
unfoldable pub seated_tree_move : Kind → State → Seats → Option ℕ → Call → Deed ℕ ℕ → Moved (Seated State)
seated_tree_move K s b seat c (resets l) = told_seated (reset_seated K s b l) outcome_answer
seated_tree_move K s b seat c (inserts i l) = at_target (seated s b) i (calls.cursor K s i) (λ t. told_seated (insert_seated K s b seat t l) inserted_answer)
seated_tree_move K s b seat c (splits flag i l) = with_cursor (seated s b) (calls.cursor K s i) (λ at. told_seated (split_seated K s b seat at l flag) divided_id_answer)
seated_tree_move K s b seat c nothing = beside b (tree_move K s c)

unfoldable pub seated_tree : Kind → Seated State → Naming Call → Moved (Seated State)
seated_tree K s c =
    let d = deed c.call in
    cond (overlong K c.call || misnamed s.seats c.seat d) (moved s (refused 10)) (seated_tree_move K s.of s.seats c.seat c.call d)

-- on cursors --------------------------------------------------------------------------------------------------------------------------------

abbrev pub cursor_deed : CursorCall → Deed (Option Cursor) Cursor
cursor_deed (by.reset l) = resets l
cursor_deed (by.insert t l) = inserts t l
cursor_deed (by.split flag c l) = splits flag c l
cursor_deed (by.set_lengths c l) = nothing
cursor_deed (by.update c l) = nothing
cursor_deed (by.locate v x) = nothing
cursor_deed (by.select v x) = nothing
cursor_deed (by.rank v c) = nothing
cursor_deed (by.next c) = nothing
cursor_deed (by.compare a b) = nothing
cursor_deed (by.lengths c) = nothing
cursor_deed (by.id c) = nothing
cursor_deed (by.cursor i) = nothing
cursor_deed by.first = nothing
cursor_deed by.len = nothing
cursor_deed by.is_empty = nothing

-- each is the call of the library, an answer's cursors read in the tree after the call
unfoldable pub seated_cursor_move : Kind → State → Seats → Option ℕ → CursorCall → Deed (Option Cursor) Cursor → Moved (Seated State)
seated_cursor_move K s b seat c (resets l) = told_seated (reset_seated K s b l) outcome_answer
seated_cursor_move K s b seat c (inserts t l) = told_seated (insert_seated K s b seat t l) inserted_answer
seated_cursor_move K s b seat c (splits flag at l) = let r = split_seated K s b seat at l flag in told_seated r (parts_answer K r.after)
seated_cursor_move K s b seat c nothing = beside b (cursor_step K s c)

unfoldable pub seated_cursor : Kind → Seated State → Naming CursorCall → Moved (Seated State)
seated_cursor K s c = seated_cursor_move K s.of s.seats c.seat c.call (cursor_deed c.call)

-- what the row does where an entry stands for each cursor
unfoldable pub seated_entry_move : Kind → Seated Row → Option ℕ → EntryCall → Moved (Seated Row)
seated_entry_move K r seat (by.plain c) = seated_row K r (naming seat c)
seated_entry_move K r seat (by.parts flag i l) = let m = seated_row K r (naming seat (row.split flag i l)) in moved m.after (with_parts flag i m.answer)
seated_entry_move K r seat (by.select v x) = beside r.seats (entry_step K r.of (by.select v x))
seated_entry_move K r seat (by.self i) = beside r.seats (entry_step K r.of (by.self i))
seated_entry_move K r seat by.is_empty = beside r.seats (entry_step K r.of by.is_empty)
seated_entry_move K r seat (by.failed n) = beside r.seats (entry_step K r.of (by.failed n))

unfoldable pub seated_entry : Kind → Seated Row → Naming EntryCall → Moved (Seated Row)
seated_entry K r c = seated_entry_move K r c.seat c.call

-- what a call means in the tree before it: a wrong seat fails by 10 before any cursor is looked at
unfoldable pub seated_meant : Kind → Seated State → Naming CursorCall → Naming EntryCall
seated_meant K s c = naming c.seat (cond (misnamed s.seats c.seat (cursor_deed c.call)) (by.failed 10) (meant K s.of c.call))

unfoldable pub seated_meant_all : Kind → Seated State → List (Naming CursorCall) → List (Naming EntryCall)
seated_meant_all K s [] = []
seated_meant_all K s (c ∷ cs) = seated_meant K s c ∷ seated_meant_all K (seated_cursor K s c).after cs
