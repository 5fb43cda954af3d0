-- Records and answers as bytes (document 01, "Door and program"). Assumes nothing.
use Rattle.std.specs.Prelude.{Bool, cond, ◌&&◌, List, [], ◌∷◌, ◌++◌, ℕ, ◌+◌, ◌*◌, ◌%◌, ◌/◌, get_or, ltb, eqb}
use Rattle.model.specs.Row.{Call, reset, insert, split, set_lengths, update, lookup, rank, next, compare, lengths, count, first, malformed, Answer}
use Rattle.model.specs.Length.{view_number, list_of}
use Rattle.model.specs.declared.length.View.{View}
use Rattle.model.specs.declared.length.View.TheVariants.{Prepare, Effect, Lines}
use Rattle.model.specs.declared.length.Lengths.{Lengths}

-- a little-endian u32 at byte p, and its bytes
abbrev pub word_at : ℕ → List ℕ → ℕ
word_at p bs = get_or bs p 0 + 256 * get_or bs (p + 1) 0 + 65536 * get_or bs (p + 2) 0 + 16777216 * get_or bs (p + 3) 0

abbrev pub bytes_of : ℕ → List ℕ
bytes_of w = w % 256 ∷ w / 256 % 256 ∷ w / 65536 % 256 ∷ w / 16777216 % 256 ∷ []

-- a record's fields: kind, view or flag, line ends in the two bytes behind it (document 02, CR 7), and a, b, c
pub record Fields : Type 0 where
  pub kind : ℕ
  pub flag : ℕ
  pub lines : ℕ
  pub a : ℕ
  pub b : ℕ
  pub c : ℕ

unfoldable pub fields_of : List ℕ → Fields
fields_of bs = record { kind = get_or bs 0 0; flag = get_or bs 1 0; lines = get_or bs 2 0 + 256 * get_or bs 3 0; a = word_at 4 bs; b = word_at 8 bs; c = word_at 12 bs }

abbrev pub view_of : ℕ → View
view_of n = cond (eqb n 0) Prepare (cond (eqb n 1) Effect Lines)

abbrev pub field_lengths : Fields → Lengths
field_lengths f = record { prepare = f.b; effect = f.c; lines = f.lines }

-- the call where the unused fields are zero, a flag is 0 or 1 and a view 0, 1 or 2
abbrev pub only : Bool → Call → Call
only ok call = cond ok call malformed

abbrev pub plain : Fields → Bool
plain f = eqb f.flag 0

abbrev pub binary : Fields → Bool
binary f = ltb f.flag 2

abbrev pub viewed : Fields → Bool
viewed f = ltb f.flag 3

abbrev pub no_lengths : Fields → Bool
no_lengths f = eqb f.b 0 && eqb f.c 0 && eqb f.lines 0

-- what a record of each kind says, from kind 0, which is none, to kind 13; 3, once add, is an insert like 2 (document 02, CR 6)
unfoldable pub kinds : Fields → List Call
kinds f =
    malformed
    ∷ only (plain f && eqb f.a 0) (reset (list_of (field_lengths f)))
    ∷ only (plain f) (insert f.a (list_of (field_lengths f)))
    ∷ only (plain f) (insert f.a (list_of (field_lengths f)))
    ∷ only (binary f) (split (eqb f.flag 1) f.a (list_of (field_lengths f)))
    ∷ only (plain f) (set_lengths f.a (list_of (field_lengths f)))
    ∷ only (plain f) (update f.a (list_of (field_lengths f)))
    ∷ only (viewed f && no_lengths f) (lookup (view_number (view_of f.flag)) f.a)
    ∷ only (viewed f && no_lengths f) (rank (view_number (view_of f.flag)) f.a)
    ∷ only (plain f && no_lengths f) (next f.a)
    ∷ only (plain f && eqb f.c 0 && eqb f.lines 0) (compare f.a f.b)
    ∷ only (plain f && no_lengths f) (lengths f.a)
    ∷ only (plain f && eqb f.a 0 && no_lengths f) count
    ∷ only (plain f && eqb f.a 0 && no_lengths f) first
    ∷ []

-- the call of a record of 16 bytes
unfoldable pub decode : List ℕ → Call
decode bs = let f = fields_of bs in get_or (kinds f) f.kind malformed

-- an answer record: number, kind as given, two zero bytes, three values
unfoldable pub encode : ℕ → Answer → List ℕ
encode kind r =
    r.number % 256 ∷ kind % 256 ∷ 0 ∷ 0 ∷ (bytes_of (get_or r.values 0 0) ++ (bytes_of (get_or r.values 1 0) ++ bytes_of (get_or r.values 2 0)))
