-- What is promised of seats (document 02, CR 10): what a refused call leaves, what every list of seated calls answers, by ids and on cursors, and what
-- audit says. The theorems are model_theory's. Assumes nothing.
use Rattle.std.specs.Prelude.{◌≡◌, ◌≢◌, Bool, true, false, List, [], ◌∷◌, ℕ, ◌+◌, ◌%◌, ◌^◌, ◌≤◌, ◌<◌, length, Ok, Some, None, Option}
use Rattle.model.specs.Kind.{too_many_lines, crossed}
use Rattle.model.specs.Lists.{All, refusal}
use Rattle.model.specs.declared.shape.Kind.{Kind}
use Rattle.model.specs.State.{State, state, head_of}
use Rattle.model.specs.Row.{Row, Call, Answer, made_row}
use Rattle.model.specs.Answer.{outcome_answer, inserted_answer, divided_answer}
use Rattle.model.specs.Refuse.{stale}
use Rattle.model.specs.Calls as calls
use Rattle.model.specs.ById.{tree_step}
use Rattle.model.specs.ByCursor.{CursorCall}
use Rattle.model.specs.Sound.{Sound}
use Rattle.model.specs.Audit.{audit}
use Rattle.model.specs.Promise.{Words, InWords, CursorInWords, Leaves, Fixed, Adds, earlier, Invariant, answers, finally}
use Rattle.model.specs.Stamp.{one}
use Rattle.model.specs.Seats.{seats_of, no_charges, no_seats, share, charge, others_unused, free, bad_seat, Fair}
use Rattle.model.specs.SeatedCalls.{SeatedReply, seated_reply, make_seated, reset_seated, insert_seated, split_seated, audit_seated}
use Rattle.model.specs.SeatedList as list
use Rattle.model.specs.SeatedList.{Seated, seated, Naming, naming, Deed, cursor_deed, seated_row, seated_tree, seated_cursor, seated_entry, seated_meant, seated_meant_all}
use Rattle.model.specs.declared.seats.Seats.{Seats}
use Rattle.model.specs.declared.head.Cursor.{Cursor}

-- any words -----------------------------------------------------------------------------------------------------------------------------------

-- a call on s that answers the number n leaves t: a refused one leaves the seats, whatever its number, and none changes fan, limit or shares
pub record SeatedLeaves (n : ℕ) (s t : Seated State) : Type 0 where
  pub tree : Leaves n s.of t.of
  pub seats : n ≢ 0 → t.seats ≡ s.seats
  pub fixed : Fixed s.of t.of
  pub seated : t.seats.seated ≡ s.seats.seated
  pub shares : t.seats.shares ≡ s.seats.shares

abbrev pub Replies : {A : Type 0} → (A → Answer) → Seated State → SeatedReply A → Type 0
Replies f s r = SeatedLeaves (f r.answer).number s (seated r.after r.seats)

-- the calls that change seats, and every call by id
pub record SeatedRefusals (K : Kind) (s : Seated State) : Type 0 where
  pub reset : (l : List ℕ) → Words K l → Replies outcome_answer s (reset_seated K s.of s.seats l)
  pub insert : (x : Option ℕ) (t : Option Cursor) (l : List ℕ) → Words K l → Replies inserted_answer s (insert_seated K s.of s.seats x t l)
  pub split : (x : Option ℕ) (c : Cursor) (l : List ℕ) (flag : Bool) → Words K l → Replies divided_answer s (split_seated K s.of s.seats x c l flag)
  pub step : (c : Naming Call) → InWords K c.call → SeatedLeaves (seated_tree K s c).answer.number s (seated_tree K s c).after

-- a refused make gives a head of zeros and no seats; one that isn't makes the tree that make makes, with the shares given and no charges
pub record SeatedMade (K : Kind) (fan limit : ℕ) (shares l ls xs hs : List ℕ) : Type 0 where
  pub refused : (outcome_answer (make_seated K fan limit shares l ls xs hs).answer).number ≢ 0
      → make_seated K fan limit shares l ls xs hs ≡ seated_reply (state (head_of 0 0 0 0 0 0 0 0 None) ls xs hs) no_seats (make_seated K fan limit shares l ls xs hs).answer
  pub done : (make_seated K fan limit shares l ls xs hs).answer ≡ Ok tt
      → ((calls.make K fan limit l ls xs hs).answer ≡ Ok tt) × (make_seated K fan limit shares l ls xs hs ≡ seated_reply (calls.make K fan limit l ls xs hs).after (seats_of true shares no_charges) (Ok tt))

-- in a tree without seats the calls that name nobody are those of Calls.antt, ById.antt and Audit.antt
pub record WithoutSeats (K : Kind) (s : State) (b : Seats) : Type 0 where
  pub insert : (t : Option Cursor) (l : List ℕ) → insert_seated K s b None t l ≡ seated_reply (calls.insert K s t l).after b (calls.insert K s t l).answer
  pub split : (c : Cursor) (l : List ℕ) (flag : Bool) → split_seated K s b None c l flag ≡ seated_reply (calls.split_entry K s c l flag).after b (calls.split_entry K s c l flag).answer
  pub step : (c : Call) → ((seated_tree K (seated s b) (naming None c)).answer ≡ (tree_step K s c).answer) × ((seated_tree K (seated s b) (naming None c)).after.of ≡ (tree_step K s c).after)
  pub audit : audit_seated K s b ≡ audit K s

-- a tree that is sound, seats and all: what audit says yes to
pub record SoundSeated (K : Kind) (t : Seated State) : Type 0 where
  pub sound : Sound K t.of
  pub fair : Fair t.of.head.limit t.of.head.entries t.seats

-- all of this of every call on any words, sound or not
pub record SeatedDemand1 (K : Kind) : Type 0 where
  pub made : (fan limit : ℕ) (shares l ls xs hs : List ℕ) → SeatedMade K fan limit shares l ls xs hs
  pub refused : (s : Seated State) → SeatedRefusals K s
  pub without : (s : State) (b : Seats) → b.seated ≡ false → WithoutSeats K s b
  pub audited : (t : Seated State) → (audit_seated K t.of t.seats ≡ Ok true → SoundSeated K t) × (SoundSeated K t → audit_seated K t.of t.seats ≡ Ok true)

-- lists of seated calls -----------------------------------------------------------------------------------------------------------------------

-- an insert or a split for seat i of a seated row
pub record Asks (r : Seated Row) (c : Naming Call) (i : ℕ) : Type 0 where
  pub adds : Adds c.call
  pub names : c.seat ≡ Some i
  pub below : i < 8
  pub seated : r.seats.seated ≡ true

-- the rules: seat i is at or over its share, and the free entries don't outnumber all the other seats' unused shares together
abbrev pub Over : Seated Row → ℕ → Type 0
Over r i = (share r.seats i ≤ charge r.seats i) × (free r.of.limit (length r.of.entries) ≤ others_unused r.seats i)

-- the numbers of a call that names a seat, on a tree that stands for the row r
pub record SeatedNumbers (K : Kind) (s : Seated State) (r : Seated Row) (c : Naming Call) : Type 0 where
  -- 18 exactly by the rules, where the earlier checks are passed; an entry over them is never made, and one that isn't is refused by those checks alone
  pub exactly : (i : ℕ) → Asks r c i → earlier K r.of c.call ≡ 0 → Over r i → (seated_tree K s c).answer.number ≡ 18
  pub only : (seated_tree K s c).answer.number ≡ 18 → (i : ℕ) × Asks r c i × Over r i
  pub always : (i : ℕ) → Asks r c i → Over r i → (seated_tree K s c).answer.number ≢ 0
  pub otherwise : (i : ℕ) → Asks r c i → (Over r i → ⊥) → (seated_tree K s c).answer.number ≡ earlier K r.of c.call
  -- so a seat below its share is never refused for space
  pub below : (i : ℕ) → Asks r c i → charge r.seats i < share r.seats i → (seated_tree K s c).answer.number ≡ earlier K r.of c.call
  -- a wrong seat is 10; in a seated tree there is no 8; and there is never a 9
  pub ten : Adds c.call → bad_seat r.seats c.seat ≡ true → (seated_tree K s c).answer.number ≡ 10
  pub eight : r.seats.seated ≡ true → (seated_tree K s c).answer.number ≢ 8
  pub nine : (seated_tree K s c).answer.number ≢ 9

-- what holds of a seated state of that fan beside a seated row: demand 3's `Invariant`, it is sound, seats and all, and the charges are the row's
pub record SeatedInvariant (K : Kind) (fan : ℕ) (s : Seated State) (r : Seated Row) : Type 0 where
  pub kept : Invariant K fan s.of r.of
  pub sound : SoundSeated K s
  pub seats : s.seats ≡ r.seats
  pub numbers : (c : Naming Call) → InWords K c.call → SeatedNumbers K s r c

abbrev pub NamingInWords : Kind → Naming Call → Type 0
NamingInWords K c = InWords K c.call

-- each call of a list gets the row's answer, and the state before it and after the last one is kept
unfoldable pub AlongSeats : Kind → ℕ → Seated State → Seated Row → List (Naming Call) → Type 0
AlongSeats K fan s r [] = SeatedInvariant K fan s r
AlongSeats K fan s r (c ∷ cs) = SeatedInvariant K fan s r × ((seated_tree K s c).answer ≡ (seated_row K r c).answer) × AlongSeats K fan (seated_tree K s c).after (seated_row K r c).after cs

-- on cursors
abbrev pub CursorNamingInWords : Kind → Naming CursorCall → Type 0
CursorNamingInWords K c = CursorInWords K c.call

-- a seat of a seated row that is below its share
pub record BelowShare (r : Seated Row) (x : Option ℕ) : Type 0 where
  pub number : ℕ
  pub names : x ≡ Some number
  pub below : number < 8
  pub seated : r.seats.seated ≡ true
  pub unused : charge r.seats number < share r.seats number

-- each call gets the row's answer to what it means in the tree before it; never 9, in a seated tree never 8, and for a seat below its share never 18
unfoldable pub AlongSeatedCursors : Kind → ℕ → Seated State → Seated Row → List (Naming CursorCall) → Type 0
AlongSeatedCursors K fan s r [] = SeatedInvariant K fan s r
AlongSeatedCursors K fan s r (c ∷ cs) =
    SeatedInvariant K fan s r × ((seated_cursor K s c).answer ≡ (seated_entry K r (seated_meant K s c)).answer)
    × ((seated_cursor K s c).answer.number ≢ 9)
    × (r.seats.seated ≡ true → (seated_cursor K s c).answer.number ≢ 8)
    × (BelowShare r c.seat → (seated_cursor K s c).answer.number ≢ 18)
    × AlongSeatedCursors K fan (seated_cursor K s c).after (seated_entry K r (seated_meant K s c)).after cs

-- the stamp (document 02, CR 8): a reset makes its first entry, an insert or a split its new one, where it isn't refused
unfoldable pub seated_makes : Kind → Seated State → Option ℕ → Deed (Option Cursor) Cursor → ℕ
seated_makes K s x (list.resets l) = one (outcome_answer (reset_seated K s.of s.seats l).answer)
seated_makes K s x (list.inserts t l) = one (inserted_answer (insert_seated K s.of s.seats x t l).answer)
seated_makes K s x (list.splits flag c l) = one (divided_answer (split_seated K s.of s.seats x c l flag).answer)
seated_makes K s x list.nothing = 0

unfoldable pub seated_makes_all : Kind → Seated State → List (Naming CursorCall) → ℕ
seated_makes_all K s [] = 0
seated_makes_all K s (c ∷ cs) = seated_makes K s c.seat (cursor_deed c.call) + seated_makes_all K (seated_cursor K s c).after cs

-- it goes on by the entries made, and a cursor with the stamp of s is refused by 3 once 1 to 2 ^ 64 - 1 were made
pub record SeatedCounts (K : Kind) (s : Seated State) : Type 0 where
  pub stamp : (cs : List (Naming CursorCall)) → (finally (seated_cursor K) s cs).of.head.stamp ≡ (s.of.head.stamp + seated_makes_all K s cs) % 2 ^ 64
  pub shut : (c : Cursor) → c.stamp ≡ s.of.head.stamp → (cs : List (Naming CursorCall)) → 0 < seated_makes_all K s cs → seated_makes_all K s cs < 2 ^ 64
      → refusal (stale K (finally (seated_cursor K) s cs).of c) ≡ 3

-- demand 3 of a tree with seats or without, from the state that a make leaves, and the row beside it
pub record SeatedDemand3 (K : Kind) (fan : ℕ) (s : Seated State) (r : Seated Row) : Type 0 where
  -- the answers to every list of seated calls are the row's
  pub answered : (cs : List (Naming Call)) → All (NamingInWords K) cs → answers (seated_tree K) s cs ≡ answers (seated_row K) r cs
  -- and after each call the state is sound, its entries and charges the row's; 18 exactly by the rules
  pub each : (cs : List (Naming Call)) → All (NamingInWords K) cs → AlongSeats K fan s r cs
  -- whoever called before, a seat below its share is refused by the earlier checks alone
  pub below : (cs : List (Naming Call)) → All (NamingInWords K) cs → (c : Naming Call) → NamingInWords K c → (i : ℕ)
      → (let q = finally (seated_row K) r cs in Asks q c i → charge q.seats i < share q.seats i
      → (seated_tree K (finally (seated_tree K) s cs) c).answer.number ≡ earlier K q.of c.call)
  -- the same on cursors
  pub by_cursor : (cs : List (Naming CursorCall)) → All (CursorNamingInWords K) cs → answers (seated_cursor K) s cs ≡ answers (seated_entry K) r (seated_meant_all K s cs)
  pub each_by_cursor : (cs : List (Naming CursorCall)) → All (CursorNamingInWords K) cs → AlongSeatedCursors K fan s r cs
  -- and the stamp counts as without seats: no cursor passes a reset until 2 ^ 64 entries were made since its issue; one with too many line ends or crossed bounds is refused
  pub counts : (cs : List (Naming CursorCall)) → SeatedCounts K (finally (seated_cursor K) s cs)
  pub resets : (cs : List (Naming CursorCall)) → All (CursorNamingInWords K) cs → (x : Option ℕ) (l : List ℕ) → too_many_lines K l ≡ false → crossed K l ≡ false
      → seated_makes K (finally (seated_cursor K) s cs) x (list.resets l) ≡ 1

-- of every make that isn't refused, with shares or without seats
pub record SeatedLists (K : Kind) : Type 0 where
  pub shared : (fan limit : ℕ) (shares l ls xs hs : List ℕ) → Words K l → (make_seated K fan limit shares l ls xs hs).answer ≡ Ok tt
      → (let r = make_seated K fan limit shares l ls xs hs in SeatedDemand3 K fan (seated r.after r.seats) (seated (made_row limit l) (seats_of true shares no_charges)))
  pub without : (fan limit : ℕ) (l ls xs hs : List ℕ) → Words K l → (calls.make K fan limit l ls xs hs).answer ≡ Ok tt
      → SeatedDemand3 K fan (seated (calls.make K fan limit l ls xs hs).after no_seats) (seated (made_row limit l) no_seats)
