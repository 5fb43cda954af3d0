-- Heads, cursors, lengths, views and answers as the words that cross the C boundary, and back. Assumes nothing.
use Rattle.std.specs.Prelude.{◌≡◌, Bool, cond, not, ◌&&◌, ◌||◌, List, [], ◌∷◌, ◌++◌, ℕ, ◌+◌, ◌*◌, ◌/◌, ◌%◌, length, get_or, drop, eqb, ltb, Some, None, Option}
use Rattle.model.specs.Row.{Answer}
use Rattle.model.specs.State.{head_of}
use Rattle.model.specs.Node.{none}
use Rattle.model.specs.declared.head.Cursor.{Cursor}
use Rattle.model.specs.declared.head.Finger.{Finger}
use Rattle.model.specs.declared.head.Head.{Head}
use Rattle.model.specs.declared.length.Lengths.{Lengths}
use Rattle.model.specs.declared.length.View.{View}
use Rattle.model.specs.declared.length.View.TheVariants as view
use Rattle.smelvock_marshal.specs.declared.flat.FlatNumber.{FlatNumber}
use Rattle.smelvock_marshal.specs.declared.flat.FlatMeasured.{FlatMeasured}
use Rattle.smelvock_marshal.specs.declared.flat.FlatCursor.{FlatCursor}
use Rattle.smelvock_marshal.specs.declared.flat.FlatStanding.{FlatStanding}
use Rattle.smelvock_marshal.specs.declared.flat.FlatLocated.{FlatLocated}
use Rattle.smelvock_marshal.specs.declared.flat.FlatInserted.{FlatInserted}
use Rattle.smelvock_marshal.specs.declared.flat.FlatDivided.{FlatDivided}

-- what a host hands over ------------------------------------------------------------------------------------------------------------------

-- not thirty-six words, or word i, which says whether there is something, is neither 0 nor 1
abbrev pub bad_at : ℕ → List ℕ → Bool
bad_at i w = not (eqb (length w) 36) || ltb 1 (get_or w i 0)

-- thirty-six words; the eighth says whether there is a finger
unfoldable pub bad_head : List ℕ → Bool
bad_head w = bad_at 7 w

-- the last seventeen are the seats', whose first says whether there are any; only the calls that know seats look at them
unfoldable pub bad_seats : List ℕ → Bool
bad_seats w = bad_head w || ltb 1 (get_or w 19 0)

-- a stored head, whose finger may be any words: it isn't trusted
unfoldable pub bad_stored : List ℕ → Bool
bad_stored w = bad_at 19 w

abbrev pub finger_from : List ℕ → Finger
finger_from w =
    record { view = get_or w 8 0; leaf = get_or w 9 0; start = get_or w 10 0; effect = get_or w 11 0; slot = get_or w 12 0; within = get_or w 13 0; effect_within = get_or w 14 0; prepare = get_or w 15 0; prepare_within = get_or w 16 0 }

unfoldable pub held_from : List ℕ → Option Finger
held_from w = cond (eqb (get_or w 7 0) 0) None (Some (finger_from w))

-- two words are the stamp, the low one first
abbrev pub stamp_from : List ℕ → ℕ
stamp_from w = get_or w 17 0 + 4294967296 * get_or w 18 0

unfoldable pub head_from : List ℕ → Head
head_from w = head_of (get_or w 0 0) (get_or w 1 0) (get_or w 2 0) (get_or w 3 0) (get_or w 4 0) (get_or w 5 0) (get_or w 6 0) (stamp_from w) (held_from w)

abbrev pub cursor_from : ℕ → ℕ → ℕ → Cursor
cursor_from leaf slot stamp = record { leaf = record { 0 = leaf }; slot = slot; stamp = stamp }

abbrev pub lengths_from : ℕ → ℕ → ℕ → Lengths
lengths_from prepare effect lines = record { prepare = prepare; effect = effect; lines = lines }

-- a view is prepare (0), effect (1) or lines (2); the calls refuse any other number
unfoldable pub view_from : ℕ → View
view_from n = cond (eqb n 0) view.Prepare (cond (eqb n 1) view.Effect view.Lines)

-- before a cursor (0) or at the end (1); the calls refuse any other number
unfoldable pub target_from : ℕ → Cursor → Option Cursor
target_from n c = cond (eqb n 0) (Some c) None

-- 4,294,967,295 is nobody; a seat above 7 is refused by the calls
unfoldable pub seat_from : ℕ → Option ℕ
seat_from n = cond (eqb n none) None (Some n)

-- the shares of a new tree: none, for one without seats, or eight
unfoldable pub bad_shares : List ℕ → Bool
bad_shares shares = not (eqb (length shares) 0) && not (eqb (length shares) 8)

-- what it gets back -----------------------------------------------------------------------------------------------------------------------

abbrev pub present_of : Option Finger → ℕ
present_of None = 0
present_of (Some f) = 1

-- zeros where there is no finger
abbrev pub finger_of : Option Finger → Finger
finger_of None = record { view = 0; leaf = 0; start = 0; effect = 0; slot = 0; within = 0; effect_within = 0; prepare = 0; prepare_within = 0 }
finger_of (Some f) = f

-- root, levels and the counts; whether there is a finger, and its words; the stamp
abbrev pub count_words : Head → List ℕ
count_words h = h.root.0 ∷ h.levels ∷ h.leaves ∷ h.inners ∷ h.entries ∷ []

abbrev pub finger_words : Option Finger → List ℕ
finger_words t =
    let f = finger_of t in
    present_of t ∷ f.view ∷ f.leaf ∷ f.start ∷ f.effect ∷ f.slot ∷ f.within ∷ f.effect_within ∷ f.prepare ∷ f.prepare_within ∷ []

-- the words of a finger that stayed in its leaf: all but its slot and what stands before that in the leaf are as they were
pub record InLeaf (t : Option Finger) (w : List ℕ) : Type 0 where
  pub present : present_of t ≡ get_or w 7 0
  pub view : (finger_of t).view ≡ get_or w 8 0
  pub leaf : (finger_of t).leaf ≡ get_or w 9 0
  pub start : (finger_of t).start ≡ get_or w 10 0
  pub effect : (finger_of t).effect ≡ get_or w 11 0
  pub prepare : (finger_of t).prepare ≡ get_or w 15 0

abbrev pub stamp_words : ℕ → List ℕ
stamp_words stamp = stamp % 4294967296 ∷ stamp / 4294967296 ∷ []

abbrev pub words_with : Head → ℕ → Finger → List ℕ
words_with h present f =
    h.fan ∷ h.limit ∷ h.root.0 ∷ h.levels ∷ h.leaves ∷ h.inners ∷ h.entries ∷ present ∷ f.view ∷ f.leaf ∷ f.start ∷ f.effect ∷ f.slot ∷ f.within ∷ f.effect_within ∷ f.prepare ∷ f.prepare_within ∷ stamp_words h.stamp

unfoldable pub head_words : Head → List ℕ
head_words h = words_with h (present_of h.finger) (finger_of h.finger)

-- the lent words after a call with this number, which leaves the seats: a refused one leaves them all
unfoldable pub head_after : ℕ → Head → List ℕ → List ℕ
head_after number h w = cond (eqb number 0) (head_words h ++ drop 19 w) w

-- value i of an answer, 0 where there is none: a refusal has no values
abbrev pub value : ℕ → Answer → ℕ
value i a = get_or a.values i 0

abbrev pub number_of : Answer → FlatNumber
number_of a = record { number = a.number; value = value 0 a }

abbrev pub measured_of : Answer → FlatMeasured
measured_of a = record { number = a.number; prepare = value 0 a; effect = value 1 a; lines = value 2 a }

-- the cursor whose values stand from value i on
abbrev pub cursor_in : ℕ → Answer → FlatCursor
cursor_in i a = record { leaf = value i a; slot = value (i + 1) a; stamp = value (i + 2) a }

abbrev pub standing_of : Answer → FlatStanding
standing_of a = record { number = a.number; at = cursor_in 0 a }

abbrev pub located_of : Answer → FlatLocated
located_of a = record { number = a.number; at = cursor_in 0 a; offset = value 3 a; position = value 4 a; prepare = value 5 a; examined = value 6 a }

abbrev pub inserted_of : Answer → FlatInserted
inserted_of a = record { number = a.number; id = value 0 a; position = value 1 a }

abbrev pub divided_of : Answer → FlatDivided
divided_of a = record { number = a.number; id = value 0 a; first = cursor_in 1 a; second = cursor_in 4 a }
