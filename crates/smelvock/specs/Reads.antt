-- The exported calls that read, on the words that a host hands over: model's call between the conversions.
-- A head that isn't thirty-six words, in audit seats whose flag is above 1, and a view above 2 are refused by 10 before anything else.
-- Assumes nothing.
use Rattle.std.specs.Prelude.{◌||◌, List, ℕ, ltb}
use Rattle.model.specs.Length.{view_number}
use Rattle.model.specs.Kind.{base}
use Rattle.model.specs.Answer.{number_answer, verdict_answer, standing_answer, next_answer, named_answer, compared_answer}
use Rattle.model.specs.Calls as calls
use Rattle.model.specs.declared.head.Cursor.{Cursor}
use Rattle.model.specs.Lists.{part}
use Rattle.model.specs.SeatedCalls.{audit_seated}
use Rattle.model.specs.declared.seats.Seats.{Seats}
use Rattle.tree_seats.specs.Words.{seats_from}
use Rattle.smelvock_marshal.specs.Flat.{bad_head, bad_seats, head_from, view_from, number_of, measured_of, standing_of}
use Rattle.smelvock_marshal.specs.Lent.{Given, state_of, unless_bad}
use Rattle.smelvock_marshal.specs.declared.flat.FlatNumber.{FlatNumber}
use Rattle.smelvock_marshal.specs.declared.flat.FlatMeasured.{FlatMeasured}
use Rattle.smelvock_marshal.specs.declared.flat.FlatStanding.{FlatStanding}

-- the seats' words are the last seventeen of the head's
abbrev pub seats_of : Given → Seats
seats_of g = seats_from (part 19 17 g.head)

unfoldable pub len : List ℕ → FlatNumber
len w = number_of (unless_bad (bad_head w) (number_answer (calls.len (head_from w))))

unfoldable pub is_empty : List ℕ → FlatNumber
is_empty w = number_of (unless_bad (bad_head w) (verdict_answer (calls.is_empty (head_from w))))

unfoldable pub id : Given → Cursor → FlatNumber
id g c = number_of (unless_bad (bad_head g.head) (named_answer (calls.id base (state_of g) c)))

unfoldable pub lengths : Given → Cursor → FlatMeasured
lengths g c = measured_of (unless_bad (bad_head g.head) (calls.entry_lengths base (state_of g) c))

unfoldable pub cursor : Given → ℕ → FlatStanding
cursor g i = standing_of (unless_bad (bad_head g.head) (standing_answer (calls.cursor base (state_of g) i)))

unfoldable pub entry_to_char_index : Given → ℕ → Cursor → FlatNumber
entry_to_char_index g v c =
    number_of (unless_bad (bad_head g.head || ltb 2 v) (number_answer (calls.entry_to_char_index base (state_of g) (view_number (view_from v)) c)))

unfoldable pub first : Given → FlatStanding
first g = standing_of (unless_bad (bad_head g.head) (standing_answer (calls.first base (state_of g))))

unfoldable pub next : Given → Cursor → FlatStanding
next g c = standing_of (unless_bad (bad_head g.head) (next_answer (calls.next_after base (state_of g) c)))

unfoldable pub cmp : Given → Cursor → Cursor → FlatNumber
cmp g a b = number_of (unless_bad (bad_head g.head) (compared_answer (calls.cmp base (state_of g) a b)))

unfoldable pub audit : Given → FlatNumber
audit g = number_of (unless_bad (bad_seats g.head) (verdict_answer (audit_seated base (state_of g) (seats_of g))))
