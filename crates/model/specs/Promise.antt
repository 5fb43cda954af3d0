-- What is promised of all calls together (document 01, demands 1 and 3): what a refused call leaves, and what every list of calls answers.
-- The theorems are model_theory's. Assumes nothing.
use Rattle.model.specs.declared.length.Lengths.{Lengths}
use Rattle.model.specs.declared.number.EntryId.{EntryId}
use Rattle.std.specs.declared.cmp.Ordering.{Ordering}
use Rattle.model.specs.Numbered.{Numbered}
use Rattle.std.specs.Prelude.{◌≡◌, ◌≢◌, ◌⊎◌, Bool, true, false, cond, ℕ, ◌-◌, ◌*◌, ◌^◌, ◌≤◌, ◌<◌, length, get_or, Ok, Err, Some, None, Option}
use mathlib.Core.List.{List, [], ◌∷◌, zip_with}
use Rattle.model.specs.Kind.{too_many_lines}
use Rattle.model.specs.Lists.{All, cause, refusal}
use Rattle.model.specs.declared.shape.Kind.{Kind}
use Rattle.model.specs.Node.{half}
use Rattle.model.specs.State.{State, state, head_of}
use Rattle.model.specs.Row as row
use Rattle.model.specs.Row.{Row, Call, Answer, done, refused, Moved, no_entry, made_row, row_step}
use Rattle.model.specs.Answer.{outcome_answer, number_answer, verdict_answer, standing_answer, next_answer, named_answer, measured_answer, compared_answer, selected_answer, located_answer, inserted_answer, divided_answer}
use Rattle.model.specs.Refuse.{current}
use Rattle.model.specs.Calls as calls
use Rattle.model.specs.Calls.{entry_id}
use Rattle.model.specs.Print.{PrintLeaves}
use Rattle.model.specs.ById.{tree_step}
use Rattle.model.specs.ByCursor as by
use Rattle.model.specs.ByCursor.{CursorCall, cursor_step, entry_step, meant, meant_all}
use Rattle.model.specs.Sound.{Sound, entries_of}
use Rattle.model.specs.declared.head.Cursor.{Cursor}
use Rattle.model.specs.Examined.{Examines}

-- calls in words --------------------------------------------------------------------------------------------------------------------------

-- lengths that are words
pub record Words (K : Kind) (l : List ℕ) : Type 0 where
  pub long : length l ≡ K.views
  pub small : All (λ x. x < 4294967296) l

-- a call whose numbers are words
abbrev pub IsWord : ℕ → Type 0
IsWord n = n < 4294967296

abbrev pub InWords : Kind → Call → Type 0
InWords K (row.reset l) = Words K l
InWords K (row.insert i l) = IsWord i × Words K l
InWords K (row.split flag i l) = IsWord i × Words K l
InWords K (row.set_lengths i l) = IsWord i × Words K l
InWords K (row.update i l) = IsWord i × Words K l
InWords K (row.lookup v x) = (v < K.views) × IsWord x
InWords K (row.rank v i) = (v < K.views) × IsWord i
InWords K (row.next i) = IsWord i
InWords K (row.compare i j) = IsWord i × IsWord j
InWords K (row.lengths i) = IsWord i
InWords K row.count = Unit {0}
InWords K row.first = Unit {0}
InWords K row.malformed = Unit {0}

-- what a refused call leaves --------------------------------------------------------------------------------------------------------------

-- a call on s that answers the number n leaves t
pub record Leaves (n : ℕ) (s t : State) : Type 0 where
  pub refused : n ≢ 0 → n ≢ 9 → t ≡ s
  pub broken : n ≡ 9 → t.head ≡ s.head
  pub leaves : length t.leaves ≡ length s.leaves
  pub inners : length t.inners ≡ length s.inners
  pub homes : length t.homes ≡ length s.homes

-- every call that gives a tree back, by cursor and by id; the others only read
pub record Refusals (K : Kind) (s : State) : Type 0 where
  pub reset : (l : List ℕ) → Words K l → Leaves (outcome_answer (calls.reset K s l).answer).number s (calls.reset K s l).after
  pub insert : (t : Option Cursor) (l : List ℕ) → Words K l → Leaves (inserted_answer (calls.insert K s t l).answer).number s (calls.insert K s t l).after
  pub split : (c : Cursor) (l : List ℕ) (flag : Bool) → Words K l → Leaves (divided_answer (calls.split_entry K s c l flag).answer).number s (calls.split_entry K s c l flag).after
  pub set_lengths : (c : Cursor) (l : List ℕ) → Words K l → Leaves (outcome_answer (calls.set_lengths K s c l).answer).number s (calls.set_lengths K s c l).after
  pub update : (c : Cursor) (l : List ℕ) → Words K l → Leaves (number_answer (calls.update K s c l).answer).number s (calls.update K s c l).after
  pub locate : (v x : ℕ) → Leaves (located_answer (calls.locate K s v x).answer).number s (calls.locate K s v x).after
  pub select : (v x : ℕ) → Leaves (selected_answer (calls.char_index_to_entry K s v x).answer).number s (calls.char_index_to_entry K s v x).after
  pub step : (c : Call) → InWords K c → Leaves (tree_step K s c).answer.number s (tree_step K s c).after

-- t has the fan and the limit of s
pub record Fixed (s t : State) : Type 0 where
  pub fan : t.head.fan ≡ s.head.fan
  pub limit : t.head.limit ≡ s.head.limit

-- the same calls keep both
pub record Fixes (K : Kind) (s : State) : Type 0 where
  pub reset : (l : List ℕ) → Fixed s (calls.reset K s l).after
  pub insert : (t : Option Cursor) (l : List ℕ) → Fixed s (calls.insert K s t l).after
  pub split : (c : Cursor) (l : List ℕ) (flag : Bool) → Fixed s (calls.split_entry K s c l flag).after
  pub set_lengths : (c : Cursor) (l : List ℕ) → Fixed s (calls.set_lengths K s c l).after
  pub update : (c : Cursor) (l : List ℕ) → Fixed s (calls.update K s c l).after
  pub locate : (v x : ℕ) → Fixed s (calls.locate K s v x).after
  pub select : (v x : ℕ) → Fixed s (calls.char_index_to_entry K s v x).after
  pub step : (c : Call) → Fixed s (tree_step K s c).after

-- a refusal has no values: an answer of a fixed size holds zeros there
abbrev pub Bare : Answer → Type 0
Bare a = a.number ≢ 0 → a.values ≡ []

-- every answer of a call, by cursor and by id
pub record Bares : Type 0 where
  pub outcome : (a : Numbered (Unit {0})) → Bare (outcome_answer a)
  pub number : (a : Numbered ℕ) → Bare (number_answer a)
  pub verdict : (a : Numbered Bool) → Bare (verdict_answer a)
  pub standing : (a : Numbered Cursor) → Bare (standing_answer a)
  pub next : (a : Numbered (Option Cursor)) → Bare (next_answer a)
  pub named : (a : Numbered EntryId) → Bare (named_answer a)
  pub measured : (a : Numbered Lengths) → Bare (measured_answer a)
  pub compared : (a : Numbered Ordering) → Bare (compared_answer a)
  pub selected : (a : Numbered (Cursor × ℕ)) → Bare (selected_answer a)
  pub located : (a : Numbered (Cursor × ℕ × ℕ × ℕ)) → Bare (located_answer a)
  pub inserted : (a : Numbered (EntryId × ℕ)) → Bare (inserted_answer a)
  pub divided : (a : Numbered (EntryId × Cursor × Cursor)) → Bare (divided_answer a)
  pub step : (K : Kind) (s : State) (c : Call) → Bare (tree_step K s c).answer

-- make gives a head back, and a head of zeros without finger where it is refused
pub record Made (K : Kind) (fan limit : ℕ) (l ls xs hs : List ℕ) : Type 0 where
  pub refused : (outcome_answer (calls.make K fan limit l ls xs hs).answer).number ≢ 0 → (calls.make K fan limit l ls xs hs).after ≡ state (head_of 0 0 0 0 0 0 0 0 None) ls xs hs
  pub leaves : length (calls.make K fan limit l ls xs hs).after.leaves ≡ length ls
  pub inners : length (calls.make K fan limit l ls xs hs).after.inners ≡ length xs
  pub homes : length (calls.make K fan limit l ls xs hs).after.homes ≡ length hs

-- demand 1, of every call on any words, sound or not
pub record Demand1 (K : Kind) : Type 0 where
  pub made : (fan limit : ℕ) (l ls xs hs : List ℕ) → Words K l → Made K fan limit l ls xs hs
  pub refused : (s : State) → Refusals K s
  pub printed : (s : State) (page : List ℕ) → PrintLeaves K s page
  pub fixed : (s : State) → Fixes K s
  pub bare : Bares

-- lists of calls --------------------------------------------------------------------------------------------------------------------------

-- the answers to a list of calls, each on what the one before left, and what the last leaves
module _ {C S : Type 0} (move : S → C → Moved S) where
  unfoldable pub answers : S → List C → List Answer
  answers s [] = []
  answers s (c ∷ cs) = (move s c).answer ∷ answers (move s c).after cs

  unfoldable pub finally : S → List C → S
  finally s [] = s
  finally s (c ∷ cs) = finally (move s c).after cs

-- a lookup, and the calls of a list that aren't
abbrev pub is_lookup : Call → Bool
is_lookup (row.lookup v x) = true
is_lookup (row.reset l) = false
is_lookup (row.insert i l) = false
is_lookup (row.split flag i l) = false
is_lookup (row.set_lengths i l) = false
is_lookup (row.update i l) = false
is_lookup (row.rank v i) = false
is_lookup (row.next i) = false
is_lookup (row.compare i j) = false
is_lookup (row.lengths i) = false
is_lookup row.count = false
is_lookup row.first = false
is_lookup row.malformed = false

unfoldable pub others : List Call → List Call
others [] = []
others (c ∷ cs) = cond (is_lookup c) (others cs) (c ∷ others cs)

-- the answers that calls other than lookups get
unfoldable pub other_answers : {S : Type 0} → (S → Call → Moved S) → S → List Call → List Answer
other_answers move s [] = []
other_answers move s (c ∷ cs) = let rest = other_answers move (move s c).after cs in cond (is_lookup c) rest ((move s c).answer ∷ rest)

-- a sound state and the row that it stands for
pub record Represents (K : Kind) (t : State) (r : Row) : Type 0 where
  pub sound : Sound K t
  pub entries : entries_of K t ≡ r.entries
  pub limit : t.head.limit ≡ r.limit

-- a call that adds an entry where it isn't refused
abbrev pub Adds : Call → Type 0
Adds (row.insert i l) = Unit {0}
Adds (row.split flag i l) = Unit {0}
Adds (row.reset l) = ⊥
Adds (row.set_lengths i l) = ⊥
Adds (row.update i l) = ⊥
Adds (row.lookup v x) = ⊥
Adds (row.rank v i) = ⊥
Adds (row.next i) = ⊥
Adds (row.compare i j) = ⊥
Adds (row.lengths i) = ⊥
Adds row.count = ⊥
Adds row.first = ⊥
Adds row.malformed = ⊥

-- the row's refusal before the limit is asked: 0 where the earlier checks are passed
abbrev pub earlier : Kind → Row → Call → ℕ
earlier K r (row.insert i l) = refusal (cause 10 (too_many_lines K l) ∷ row.no_such_place r i ∷ row.crossed_bounds K l ∷ row.past K (row.inserted i (row.new_entry r l) r.entries) ∷ [])
earlier K r (row.split flag i l) = refusal (cause 10 (too_many_lines K l) ∷ row.no_such_id r i ∷ row.too_much K l (row.lengths_of i r.entries) ∷ row.hollow_part K l (row.lengths_of i r.entries) ∷ row.crossed_parts K l (row.lengths_of i r.entries) ∷ [])
earlier K r (row.reset l) = 0
earlier K r (row.set_lengths i l) = 0
earlier K r (row.update i l) = 0
earlier K r (row.lookup v x) = 0
earlier K r (row.rank v i) = 0
earlier K r (row.next i) = 0
earlier K r (row.compare i j) = 0
earlier K r (row.lengths i) = 0
earlier K r row.count = 0
earlier K r row.first = 0
earlier K r row.malformed = 0

-- the numbers 8 and 9 on a tree that stands for the row r: where a call adds an entry and passes the earlier checks, 8 comes exactly if the row holds
-- its limit
pub record Numbers (K : Kind) (s : State) (r : Row) (c : Call) : Type 0 where
  pub exactly : Adds c → earlier K r c ≡ 0 → r.limit ≤ length r.entries → (tree_step K s c).answer.number ≡ 8
  pub only : (tree_step K s c).answer.number ≡ 8 → r.limit ≤ length r.entries
  pub always : Adds c → r.limit ≤ length r.entries → (tree_step K s c).answer.number ≢ 0
  pub nine : (tree_step K s c).answer.number ≢ 9

-- zero in every length, and above zero in some
abbrev pub Hollow : Kind → List ℕ → Type 0
Hollow K l = (v : ℕ) → v < K.views → get_or l v 0 ≡ 0

abbrev pub NotHollow : Kind → List ℕ → Type 0
NotHollow K l = (v : ℕ) × (v < K.views) × (0 < get_or l v 0)

-- the row's refusal of a split up to 6, and the hollow parts that 17 is for
abbrev pub up_to_six : Kind → Row → ℕ → List ℕ → ℕ
up_to_six K r i l = refusal (cause 10 (too_many_lines K l) ∷ row.no_such_id r i ∷ row.too_much K l (row.lengths_of i r.entries) ∷ [])

abbrev pub HollowPart : Kind → Row → ℕ → List ℕ → Type 0
HollowPart K r i l = Hollow K l ⊎ Hollow K (zip_with ◌-◌ (row.lengths_of i r.entries) l)

-- the splits of a row: 17 comes exactly where a part is hollow and nothing up to 6 is refused, also where the row holds its limit; and where a split is
-- answered, neither the new entry nor the one that it was taken from is hollow in the row that it leaves
pub record Parts (K : Kind) (r : Row) (flag : Bool) (i : ℕ) (l : List ℕ) : Type 0 where
  pub only : (row_step K r (row.split flag i l)).answer.number ≡ 17 → (up_to_six K r i l ≡ 0) × HollowPart K r i l
  pub exactly : up_to_six K r i l ≡ 0 → HollowPart K r i l → (row_step K r (row.split flag i l)).answer.number ≡ 17
  pub made : (row_step K r (row.split flag i l)).answer.number ≡ 0 → NotHollow K (row.lengths_of (length r.entries) (row_step K r (row.split flag i l)).after.entries)
  pub left : (row_step K r (row.split flag i l)).answer.number ≡ 0 → NotHollow K (row.lengths_of i (row_step K r (row.split flag i l)).after.entries)

-- what holds of a state of that fan that stands for the row r
pub record Invariant (K : Kind) (fan : ℕ) (s : State) (r : Row) : Type 0 where
  pub sound : Sound K s
  pub entries : entries_of K s ≡ r.entries
  pub fan_is : s.head.fan ≡ fan
  pub limit : s.head.limit ≡ r.limit
  pub count : s.head.entries ≡ length r.entries
  pub within : length r.entries ≤ r.limit
  pub levels : s.head.levels ≤ 15
  pub floor : 2 ≤ s.head.levels → 2 * half fan ^ s.head.levels ≤ length r.entries
  pub numbers : (c : Call) → InWords K c → Numbers K s r c
  pub parts : (flag : Bool) (i : ℕ) (l : List ℕ) → Parts K r flag i l
  pub examines : (v x : ℕ) → v < K.views → Examines K s v x r

-- each call of a list gets the row's answer, and the state before it and after the last one is kept
unfoldable pub Along : Kind → ℕ → State → Row → List Call → Type 0
Along K fan s r [] = Invariant K fan s r
Along K fan s r (c ∷ cs) = Invariant K fan s r × ((tree_step K s c).answer ≡ (row_step K r c).answer) × Along K fan (tree_step K s c).after (row_step K r c).after cs

-- demand 3, of the tree that a make leaves, whatever the areas held before
pub record Demand3 (K : Kind) (fan limit : ℕ) (l ls xs hs : List ℕ) : Type 0 where
  -- the answers to every list of calls are the row's
  pub answered : (cs : List Call) → All (InWords K) cs → answers (tree_step K) (calls.make K fan limit l ls xs hs).after cs ≡ answers (row_step K) (made_row limit l) cs
  -- and after each call the state is sound, its entries the row's, its fan and limit make's; 8 exactly, never 9; levels and floor
  pub each : (cs : List Call) → All (InWords K) cs → Along K fan (calls.make K fan limit l ls xs hs).after (made_row limit l) cs
  -- two lists alike but for lookups give their other calls the same answers, from other areas and at another fan too
  pub alike : (fan' : ℕ) (ls' xs' hs' : List ℕ) → (calls.make K fan' limit l ls' xs' hs').answer ≡ Ok tt
      → (cs ds : List Call) → All (InWords K) cs → All (InWords K) ds → others cs ≡ others ds
      → other_answers (tree_step K) (calls.make K fan limit l ls xs hs).after cs ≡ other_answers (tree_step K) (calls.make K fan' limit l ls' xs' hs').after ds

-- lists of calls on cursors --------------------------------------------------------------------------------------------------------------

-- a call whose lengths and numbers are words; its cursors are any at all
abbrev pub CursorInWords : Kind → CursorCall → Type 0
CursorInWords K (by.reset l) = Words K l
CursorInWords K (by.insert t l) = Words K l
CursorInWords K (by.split flag c l) = Words K l
CursorInWords K (by.set_lengths c l) = Words K l
CursorInWords K (by.update c l) = Words K l
CursorInWords K (by.locate v x) = (v < K.views) × IsWord x
CursorInWords K (by.select v x) = (v < K.views) × IsWord x
CursorInWords K (by.rank v c) = v < K.views
CursorInWords K (by.next c) = Unit {0}
CursorInWords K (by.compare a b) = Unit {0}
CursorInWords K (by.lengths c) = Unit {0}
CursorInWords K (by.id c) = Unit {0}
CursorInWords K (by.cursor i) = IsWord i
CursorInWords K by.first = Unit {0}
CursorInWords K by.len = Unit {0}
CursorInWords K by.is_empty = Unit {0}

-- each call of a list gets the row's answer to what it means in the tree before it, never 9, and the state before it and after the last one is kept
unfoldable pub AlongCursors : Kind → ℕ → State → Row → List CursorCall → Type 0
AlongCursors K fan s r [] = Invariant K fan s r
AlongCursors K fan s r (c ∷ cs) =
    Invariant K fan s r × ((cursor_step K s c).answer ≡ (entry_step K r (meant K s c)).answer) × ((cursor_step K s c).answer.number ≢ 9)
    × AlongCursors K fan (cursor_step K s c).after (entry_step K r (meant K s c)).after cs

-- demand 3 in its cursor form, of the tree that a make leaves
pub record Demand3ByCursor (K : Kind) (fan limit : ℕ) (l ls xs hs : List ℕ) : Type 0 where
  -- the answers to every list of calls on cursors are the row's to what they mean
  pub answered : (cs : List CursorCall) → All (CursorInWords K) cs
      → (let s = (calls.make K fan limit l ls xs hs).after in answers (cursor_step K) s cs ≡ answers (entry_step K) (made_row limit l) (meant_all K s cs))
  -- and after each call the state is sound, its entries the row's, as demand 3 has it
  pub each : (cs : List CursorCall) → All (CursorInWords K) cs → AlongCursors K fan (calls.make K fan limit l ls xs hs).after (made_row limit l) cs

-- the cursors that calls answer -----------------------------------------------------------------------------------------------------------

-- a cursor that is current and stands at the entry of that id
pub record At (K : Kind) (s : State) (c : Cursor) (i : ℕ) : Type 0 where
  pub current : current K s c ≡ true
  pub id : calls.id K s c ≡ Ok (entry_id i)

-- what an answer says; it is a refusal only where the row's is
abbrev pub StandsAt : Kind → State → Numbered Cursor → ℕ → Type 0
StandsAt K s (Ok c) i = At K s c i
StandsAt K s (Err n) i = ⊥

abbrev pub NextAt : Kind → State → Numbered (Option Cursor) → ℕ → Type 0
NextAt K s (Ok (Some c)) i = At K s c i
NextAt K s (Ok None) i = i ≡ no_entry
NextAt K s (Err n) i = ⊥

abbrev pub LocatedAt : Kind → State → Numbered (Cursor × ℕ × ℕ × ℕ) → Answer → Type 0
LocatedAt K s (Ok (c, offset, effect, prepare)) a = (i : ℕ) × (a ≡ done (i ∷ offset ∷ effect ∷ prepare ∷ [])) × At K s c i
LocatedAt K s (Err n) a = a ≡ refused n

abbrev pub SelectedAt : Kind → State → Numbered (Cursor × ℕ) → Answer → Type 0
SelectedAt K s (Ok (c, offset)) a = (i : ℕ) × (effect : ℕ) × (prepare : ℕ) × (a ≡ done (i ∷ offset ∷ effect ∷ prepare ∷ [])) × At K s c i
SelectedAt K s (Err n) a = a ≡ refused n

-- the entry i divided: the new one has the id n and stands before it if so flagged, else after
abbrev pub DividedAt : Kind → Bool → ℕ → ℕ → State → Numbered (EntryId × Cursor × Cursor) → Answer → Type 0
DividedAt K flag i n s (Ok (k, c, d)) a = (a ≡ done (n ∷ [])) × (k ≡ entry_id n) × At K s c (cond flag n i) × At K s d (cond flag i n)
DividedAt K flag i n s (Err m) a = a ≡ refused m
