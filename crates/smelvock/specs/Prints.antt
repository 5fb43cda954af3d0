-- The exported print, on the words and bytes that a host lends: model's call between the conversions. A bad head is refused by 10 before anything else.
-- Assumes nothing.
use Rattle.model.specs.Numbered.{Numbered}
use Rattle.std.specs.Prelude.{Bool, cond, List, ℕ}
use Rattle.model.specs.Kind.{base}
use Rattle.model.specs.Row.{refused}
use Rattle.model.specs.Answer.{number_answer}
use Rattle.model.specs.Print as calls
use Rattle.smelvock_marshal.specs.Flat.{bad_head, number_of}
use Rattle.smelvock_marshal.specs.Lent.{Given, state_of}
use Rattle.smelvock_marshal.specs.declared.flat.FlatNumber.{FlatNumber}

-- the reply's words and the buffer
unfoldable pub printed_by : Bool → List ℕ → (Numbered ℕ) × List ℕ → FlatNumber × List ℕ
printed_by bad page r = cond bad (number_of (refused 10), page) (number_of (number_answer r.0), r.1)

unfoldable pub print : Given → List ℕ → FlatNumber × List ℕ
print g page = printed_by (bad_head g.head) page (calls.print base (state_of g) page)
