-- The exported calls on files of edits, on the bytes and words that a host lends: the call of calls_edits with its answer in words. Assumes nothing.
use Rattle.model.specs.Numbered.{Numbered}
use Rattle.std.specs.Prelude.{List, ℕ}
use Rattle.model.specs.Answer.{outcome_answer, number_answer}
use Rattle.calls_edits.specs.Edits as calls
use Rattle.smelvock_marshal.specs.Flat.{number_of}
use Rattle.smelvock_marshal.specs.declared.flat.FlatNumber.{FlatNumber}

-- 0 where the file is accepted
unfoldable pub check : List ℕ → ℕ
check file = (outcome_answer (calls.check file)).number

-- the reply's words and the list area
unfoldable pub listed_by : Numbered ℕ × List ℕ → FlatNumber × List ℕ
listed_by r = (number_of (number_answer r.0), r.1)

unfoldable pub difference : List ℕ → List ℕ → ℕ → ℕ → FlatNumber × List ℕ
difference file area a b = listed_by (calls.difference file area a b)
