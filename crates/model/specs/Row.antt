-- The plain row (document 01, "The plain row"): what every list of calls must answer. Assumes nothing.
use Rattle.std.specs.Prelude.{Bool, false, cond, ◌&&◌, ◌||◌, not, ℕ, ◌+◌, ◌-◌, length, get_or, drop, ltb, leb, eqb}
use mathlib.Core.List.{List, [], ◌∷◌, ◌++◌, zip_with}
use Rattle.model.specs.Lists.{sum_by, some, Cause, cause, refusal}
use Rattle.model.specs.Kind.{views_of, prepare, too_many_lines, hollow, crossed}
use Rattle.model.specs.declared.shape.Kind.{Kind}

-- an entry: its id and a length in each view
pub record Entry : Type 0 where
  pub id : ℕ
  pub lengths : List ℕ

pub record Row : Type 0 where
  pub limit : ℕ
  pub entries : List Entry

-- a call of a list; `malformed` stands for a record with a field outside its values
pub data Call : Type 0 where
  reset : List ℕ → Call
  insert : ℕ → List ℕ → Call
  split : Bool → ℕ → List ℕ → Call
  set_lengths : ℕ → List ℕ → Call
  update : ℕ → List ℕ → Call
  lookup : ℕ → ℕ → Call
  rank : ℕ → ℕ → Call
  next : ℕ → Call
  compare : ℕ → ℕ → Call
  lengths : ℕ → Call
  count : Call
  first : Call
  malformed : Call

-- 0 or the number of a refusal, and the values in document 01's order
pub record Answer : Type 0 where
  pub number : ℕ
  pub values : List ℕ

abbrev pub done : List ℕ → Answer
done vs = record { number = 0; values = vs }

abbrev pub refused : ℕ → Answer
refused n = record { number = n; values = [] }

-- what a call leaves and what it answers
pub record Moved (S : Type 0) : Type 0 where
  pub after : S
  pub answer : Answer

abbrev pub moved : {S : Type 0} → S → Answer → Moved S
moved s a = record { after = s; answer = a }

-- the id that stands for the end, and the answer "none"
abbrev pub no_entry : ℕ
no_entry = 4294967295

abbrev pub entry : ℕ → List ℕ → Entry
entry i ls = record { id = i; lengths = ls }

abbrev pub row : ℕ → List Entry → Row
row l es = record { limit = l; entries = es }

abbrev pub length_in : ℕ → Entry → ℕ
length_in v e = get_or e.lengths v 0

-- the sum of the lengths in view v
abbrev pub total : ℕ → List Entry → ℕ
total v es = sum_by (length_in v) es

-- the entries before the one of that id, and those from it on; all and none where no entry has that id
unfoldable pub before : ℕ → List Entry → List Entry
before i [] = []
before i (e ∷ es) = cond (eqb e.id i) [] (e ∷ before i es)

unfoldable pub from : ℕ → List Entry → List Entry
from i [] = []
from i (e ∷ es) = cond (eqb e.id i) (e ∷ es) (from i es)

abbrev pub after : ℕ → List Entry → List Entry
after i es = drop 1 (from i es)

abbrev pub lengths_of : ℕ → List Entry → List ℕ
lengths_of i es = (get_or (from i es) 0 (entry i [])).lengths

-- the id of the first of some entries
abbrev pub first_id : List Entry → ℕ
first_id es = (get_or es 0 (entry no_entry [])).id

-- a new entry e before the one of that id; at the end for no_entry, which no entry has
abbrev pub inserted : ℕ → Entry → List Entry → List Entry
inserted i e es = before i es ++ e ∷ from i es

-- the lengths of e taken out of the entry of that id into e, just before it if so flagged, else just after
unfoldable pub divided : Bool → ℕ → Entry → List Entry → List Entry
divided flag i e es =
    let rest = entry i (zip_with ◌-◌ (lengths_of i es) e.lengths) in
    before i es ++ cond flag (e ∷ rest ∷ after i es) (rest ∷ e ∷ after i es)

-- other lengths for the entry of that id
abbrev pub changed : ℕ → List ℕ → List Entry → List Entry
changed i ls es = before i es ++ entry i ls ∷ after i es

-- the one entry whose sum s of view lengths before it has s ≤ index < s + its length: its id, index - s and f, the sum of effect lengths before it,
-- p that of prepare lengths
unfoldable pub found : Kind → ℕ → ℕ → ℕ → ℕ → ℕ → List Entry → List ℕ
found K v index s f p [] = []
found K v index s f p (e ∷ es) =
    cond (leb s index && ltb index (s + length_in v e)) (e.id ∷ (index - s) ∷ f ∷ p ∷ []) (found K v index (s + length_in v e) (f + length_in K.effect e) (p + length_in prepare e) es)

-- 0, 1, 2: the first named stands before, is, or stands after the second
unfoldable pub ordered : ℕ → ℕ → List Entry → ℕ
ordered i j es =
    let m = length (before i es) in
    let n = length (before j es) in
    cond (ltb m n) 0 (cond (eqb m n) 1 2)

-- the causes of a refusal (document 01, "When a call cannot be done")
abbrev pub no_such_id : Row → ℕ → Cause
no_such_id r i = cause 4 (leb (length r.entries) i)

abbrev pub no_such_place : Row → ℕ → Cause
no_such_place r i = cause 4 (leb (length r.entries) i && not (eqb i no_entry))

abbrev pub no_such_position : Row → ℕ → ℕ → Cause
no_such_position r v index = cause 5 (leb (total v r.entries) index)

abbrev pub too_much : Kind → List ℕ → List ℕ → Cause
too_much K given ls = cause 6 (some (λ v. ltb (get_or ls v 0) (get_or given v 0)) (views_of K))

-- 17: the moved part, or the part left behind, has zero in every length
abbrev pub hollow_part : Kind → List ℕ → List ℕ → Cause
hollow_part K given ls = cause 17 (hollow K given || hollow K (zip_with ◌-◌ ls given))

-- 20: a lowest above a highest, given, or given or left by a split
abbrev pub crossed_bounds : Kind → List ℕ → Cause
crossed_bounds K l = cause 20 (crossed K l)

abbrev pub crossed_parts : Kind → List ℕ → List ℕ → Cause
crossed_parts K given ls = cause 20 (crossed K given || crossed K (zip_with ◌-◌ ls given))

abbrev pub past : Kind → List Entry → Cause
past K es = cause 7 (some (λ v. ltb 4294967295 (total v es)) (views_of K))

abbrev pub full : Row → Cause
full r = cause 8 (leb r.limit (length r.entries))

-- the entries after a call and its answer, where none of the causes applies; else the row as it was and the number
unfoldable pub unless : Row → List Cause → List Entry → Answer → Moved Row
unless r cs es a = cond (eqb (refusal cs) 0) (moved (row r.limit es) a) (moved r (refused (refusal cs)))

-- a new entry: its id is the entry count
abbrev pub new_entry : Row → List ℕ → Entry
new_entry r l = entry (length r.entries) l

-- the row that make and reset leave
abbrev pub made_row : ℕ → List ℕ → Row
made_row limit l = row limit (entry 0 l ∷ [])

-- a call that gives an entry too many line ends
abbrev pub overlong : Kind → Call → Bool
overlong K (reset l) = too_many_lines K l
overlong K (insert i l) = too_many_lines K l
overlong K (split flag i l) = too_many_lines K l
overlong K (set_lengths i l) = too_many_lines K l
overlong K (update i l) = too_many_lines K l
overlong K (lookup v index) = false
overlong K (rank v i) = false
overlong K (next i) = false
overlong K (compare i j) = false
overlong K (lengths i) = false
overlong K count = false
overlong K first = false
overlong K malformed = false

-- an insert and a split; room is why one entry more has no space: the row holds its limit, or, with seats, their rules
abbrev pub insert_by : Kind → List Cause → Row → ℕ → List ℕ → Moved Row
insert_by K room r i l =
    let es = inserted i (new_entry r l) r.entries in
    unless r (no_such_place r i ∷ crossed_bounds K l ∷ past K es ∷ room) es (done (length r.entries ∷ total K.effect (before i r.entries) ∷ []))

abbrev pub split_by : Kind → List Cause → Row → Bool → ℕ → List ℕ → Moved Row
split_by K room r flag i l =
    unless r (no_such_id r i ∷ too_much K l (lengths_of i r.entries) ∷ hollow_part K l (lengths_of i r.entries) ∷ crossed_parts K l (lengths_of i r.entries) ∷ room) (divided flag i (new_entry r l) r.entries) (done (length r.entries ∷ []))

-- what any other call does; and every call, 10 before all else
unfoldable pub row_move : Kind → Row → Call → Moved Row
row_move K r (reset l) = unless r (crossed_bounds K l ∷ []) (made_row r.limit l).entries (done [])
row_move K r (insert i l) = insert_by K (full r ∷ []) r i l
row_move K r (split flag i l) = split_by K (full r ∷ []) r flag i l
row_move K r (set_lengths i l) =
    let es = changed i l r.entries in
    unless r (no_such_id r i ∷ crossed_bounds K l ∷ past K es ∷ []) es (done [])
row_move K r (update i l) =
    let es = changed i l r.entries in
    unless r (no_such_id r i ∷ crossed_bounds K l ∷ past K es ∷ []) es (done (total K.effect (before i r.entries) ∷ []))
row_move K r (lookup v index) = unless r (no_such_position r v index ∷ []) r.entries (done (found K v index 0 0 0 r.entries))
row_move K r (rank v i) = unless r (no_such_id r i ∷ []) r.entries (done (total v (before i r.entries) ∷ []))
row_move K r (next i) = unless r (no_such_id r i ∷ []) r.entries (done (first_id (after i r.entries) ∷ []))
row_move K r (compare i j) = unless r (no_such_id r i ∷ no_such_id r j ∷ []) r.entries (done (ordered i j r.entries ∷ []))
row_move K r (lengths i) = unless r (no_such_id r i ∷ []) r.entries (done (lengths_of i r.entries))
row_move K r count = moved r (done (length r.entries ∷ []))
row_move K r first = moved r (done (first_id r.entries ∷ []))
row_move K r malformed = moved r (refused 10)

unfoldable pub row_step : Kind → Row → Call → Moved Row
row_step K r c = cond (overlong K c) (moved r (refused 10)) (row_move K r c)
