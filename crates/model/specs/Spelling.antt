-- Records as document 01 spells them ("Door and program"): the fields of each call, and its run as bytes. Assumes nothing.
use Rattle.std.specs.Prelude.{◌≡◌, List, [], ◌∷◌, ◌++◌, true, cond, ℕ, ◌<◌, length, get_or, set, eqb}
use Rattle.model.specs.Row.{Call, reset, insert, split, set_lengths, update, lookup, rank, next, compare, lengths, count, first, malformed, Answer, done, refused, no_entry}
use Rattle.model.specs.Record.{Fields}
use Rattle.model.specs.Table.{pair}

-- the fields of each call ------------------------------------------------------------------------------------------------------------------

-- kind, view or flag, line ends, a, b, c
abbrev pub fields : ℕ → ℕ → ℕ → ℕ → ℕ → ℕ → Fields
fields kind flag lines a b c = record { kind = kind; flag = flag; lines = lines; a = a; b = b; c = c }

abbrev pub fields_for : Call → Fields
fields_for (reset l) = fields 1 0 (get_or l 2 0) 0 (get_or l 0 0) (get_or l 1 0)
fields_for (insert i l) = fields 2 0 (get_or l 2 0) i (get_or l 0 0) (get_or l 1 0)
fields_for (split before i l) = fields 4 (cond before 1 0) (get_or l 2 0) i (get_or l 0 0) (get_or l 1 0)
fields_for (set_lengths i l) = fields 5 0 (get_or l 2 0) i (get_or l 0 0) (get_or l 1 0)
fields_for (update i l) = fields 6 0 (get_or l 2 0) i (get_or l 0 0) (get_or l 1 0)
fields_for (lookup v x) = fields 7 v 0 x 0 0
fields_for (rank v i) = fields 8 v 0 i 0 0
fields_for (next i) = fields 9 0 0 i 0 0
fields_for (compare i j) = fields 10 0 0 i j 0
fields_for (lengths i) = fields 11 0 0 i 0 0
fields_for count = fields 12 0 0 0 0 0
fields_for first = fields 13 0 0 0 0 0
-- no record says it
fields_for malformed = fields 0 0 0 0 0 0

-- the calls that a record can say: with three lengths, in view 0, 1 or 2
abbrev pub Sayable : Call → Type 0
Sayable (reset l) = length l ≡ 3
Sayable (insert i l) = length l ≡ 3
Sayable (split before i l) = length l ≡ 3
Sayable (set_lengths i l) = length l ≡ 3
Sayable (update i l) = length l ≡ 3
Sayable (lookup v x) = v < 3
Sayable (rank v i) = v < 3
Sayable (next i) = Unit {0}
Sayable (compare i j) = Unit {0}
Sayable (lengths i) = Unit {0}
Sayable count = Unit {0}
Sayable first = Unit {0}
Sayable malformed = ⊥

-- a record with 2 in the stead of kind 3, which was add's and runs as 2 (document 02, CR 6)
abbrev pub as_two : List ℕ → List ℕ
as_two bs = cond (eqb (get_or bs 0 0) 3) (set bs 0 2) bs

-- bytes ------------------------------------------------------------------------------------------------------------------------------------

-- sixteen bytes: kind or number, view or flag or kind, two more, then four for each of three words
abbrev pub bytes : ℕ → ℕ → ℕ → ℕ → List ℕ → List ℕ → List ℕ → List ℕ
bytes k v y z a b c = k ∷ v ∷ y ∷ z ∷ (a ++ (b ++ c))

abbrev pub four : ℕ → ℕ → ℕ → ℕ → List ℕ
four w x y z = w ∷ x ∷ y ∷ z ∷ []

-- a number below 256, and 4,294,967,295
abbrev pub low : ℕ → List ℕ
low n = four n 0 0 0

abbrev pub top_word : List ℕ
top_word = four 255 255 255 255

-- the six records of document 01's run; one in whose fields all bytes differ; two of one line end and of 256; two that give none, with a byte behind the
-- flag that isn't zero; a lookup and a rank in view 2, both in a view 3, and a split with the flag 2; one of kind 3, and one of kind 3 with a flag
abbrev pub records : List (List ℕ)
records =
    bytes 1 0 0 0 (low 0) (low 3) (low 3)
    ∷ bytes 2 0 0 0 top_word (low 2) (low 0)
    ∷ bytes 2 0 0 0 (low 0) (low 0) (low 5)
    ∷ bytes 7 0 0 0 (low 0) (low 0) (low 0)
    ∷ bytes 7 0 0 0 (low 5) (low 0) (low 0)
    ∷ bytes 9 0 0 0 (low 1) (low 0) (low 0)
    ∷ bytes 4 1 13 14 (four 1 2 3 4) (four 5 6 7 8) (four 9 10 11 12)
    ∷ bytes 2 0 1 0 (low 0) (low 0) (low 5)
    ∷ bytes 2 0 0 1 (low 0) (low 0) (low 5)
    ∷ bytes 9 0 1 0 (low 1) (low 0) (low 0)
    ∷ bytes 10 0 0 1 (low 1) (low 0) (low 0)
    ∷ bytes 7 2 0 0 (low 5) (low 0) (low 0)
    ∷ bytes 8 2 0 0 (low 1) (low 0) (low 0)
    ∷ bytes 7 3 0 0 (low 5) (low 0) (low 0)
    ∷ bytes 8 3 0 0 (low 1) (low 0) (low 0)
    ∷ bytes 4 2 0 0 (low 1) (low 0) (low 0)
    ∷ bytes 3 0 0 0 top_word (low 2) (low 0)
    ∷ bytes 3 1 0 0 top_word (low 2) (low 0)
    ∷ []

-- 67,305,985 is 1 + 2 * 256 + 3 * 65,536 + 4 * 16,777,216, and so the others; 3,597 is 13 + 14 * 256
abbrev pub calls : List Call
calls =
    reset (pair 3 3)
    ∷ insert no_entry (pair 2 0)
    ∷ insert 0 (pair 0 5)
    ∷ lookup 0 0
    ∷ lookup 0 5
    ∷ next 1
    ∷ split true 67305985 (134678021 ∷ 202050057 ∷ 3597 ∷ [])
    ∷ insert 0 (0 ∷ 5 ∷ 1 ∷ [])
    ∷ insert 0 (0 ∷ 5 ∷ 256 ∷ [])
    ∷ malformed
    ∷ malformed
    ∷ lookup 2 5
    ∷ rank 2 1
    ∷ malformed
    ∷ malformed
    ∷ malformed
    ∷ insert no_entry (pair 2 0)
    ∷ malformed
    ∷ []

-- an answer and the kind that its record gave
pub record KindAnswer : Type 0 where
  pub kind : ℕ
  pub answer : Answer

abbrev pub to : ℕ → Answer → KindAnswer
to kind answer = record { kind = kind; answer = answer }

-- the six answers, a refusal among them; one of four values: a record has room for three; the three lengths of an entry; and one to kind 3, with its
-- position
abbrev pub given : List KindAnswer
given =
    to 1 (done [])
    ∷ to 2 (done (1 ∷ 3 ∷ []))
    ∷ to 2 (done (2 ∷ 0 ∷ []))
    ∷ to 7 (done (0 ∷ 0 ∷ 5 ∷ 0 ∷ []))
    ∷ to 7 (refused 5)
    ∷ to 9 (done (no_entry ∷ []))
    ∷ to 7 (done (67305985 ∷ 134678021 ∷ 202050057 ∷ 1 ∷ []))
    ∷ to 11 (done (3 ∷ 2 ∷ 1 ∷ []))
    ∷ to 3 (done (1 ∷ 3 ∷ []))
    ∷ []

abbrev pub written : List (List ℕ)
written =
    bytes 0 1 0 0 (low 0) (low 0) (low 0)
    ∷ bytes 0 2 0 0 (low 1) (low 3) (low 0)
    ∷ bytes 0 2 0 0 (low 2) (low 0) (low 0)
    ∷ bytes 0 7 0 0 (low 0) (low 0) (low 5)
    ∷ bytes 5 7 0 0 (low 0) (low 0) (low 0)
    ∷ bytes 0 9 0 0 top_word (low 0) (low 0)
    ∷ bytes 0 7 0 0 (four 1 2 3 4) (four 5 6 7 8) (four 9 10 11 12)
    ∷ bytes 0 11 0 0 (low 3) (low 2) (low 1)
    ∷ bytes 0 3 0 0 (low 1) (low 3) (low 0)
    ∷ []
