-- Records as a list of bytes, played on a tree or on the row, and their answer records (document 01, "Door and program"). Assumes nothing.
use Rattle.model.specs.Numbered.{Numbered}
use Rattle.std.specs.Prelude.{◌≡◌, Bool, cond, ◌&&◌, List, [], ◌∷◌, ◌++◌, map, ℕ, zero, suc, ◌%◌, ◌/◌, length, take, drop, eqb, Ok, Err}
use Rattle.model.specs.Kind.{base}
use Rattle.model.specs.Row.{Row, Call, Answer, Moved, row_step}
use Rattle.model.specs.Record.{fields_of, decode, encode}
use Rattle.model.specs.State.{State}
use Rattle.model.specs.ById.{tree_step}
use Rattle.model.specs.Promise.{answers, finally, Invariant}

-- the first n records of some bytes
unfoldable pub records : ℕ → List ℕ → List (List ℕ)
records zero bs = []
records (suc n) bs = take 16 bs ∷ records n (drop 16 bs)

abbrev pub records_of : List ℕ → List (List ℕ)
records_of bs = records (length bs / 16) bs

abbrev pub calls_of : List (List ℕ) → List Call
calls_of rs = map decode rs

-- each answer's record, with the kind that its own record gave
unfoldable pub written : List (List ℕ) → List Answer → List ℕ
written [] more = []
written (r ∷ rs) [] = []
written (r ∷ rs) (a ∷ more) = encode (fields_of r).kind a ++ written rs more

-- some records played: the answer records, and what they leave
module _ {S : Type 0} (move : S → Call → Moved S) where
  abbrev pub played : S → List (List ℕ) → List ℕ
  played s rs = written rs (answers move s (calls_of rs))

  abbrev pub left : S → List (List ℕ) → S
  left s rs = finally move s (calls_of rs)

-- a tree and an output, after one record and after some
pub record TreeOutput : Type 0 where
  pub after : State
  pub out : List ℕ

abbrev pub tree_output : State → List ℕ → TreeOutput
tree_output s out = record { after = s; out = out }

abbrev pub turn : State → List ℕ → TreeOutput
turn s r = let m = tree_step base s (decode r) in tree_output m.after (encode (fields_of r).kind m.answer)

abbrev pub turns : State → List (List ℕ) → TreeOutput
turns s rs = tree_output (left (tree_step base) s rs) (played (tree_step base) s rs)

-- the output is as long as the records, which are whole
abbrev pub fit : List ℕ → List ℕ → Bool
fit bs out = eqb (length bs) (length out) && eqb (length bs % 16) 0

-- a tree and an output after a run
pub record Ran : Type 0 where
  pub after : State
  pub answer : Numbered (Unit {0})
  pub out : List ℕ

abbrev pub ran : State → Numbered (Unit {0}) → List ℕ → Ran
ran s a out = record { after = s; answer = a; out = out }

-- records on a tree; refused, it leaves tree and output as they were
unfoldable pub run_on : State → List ℕ → List ℕ → Ran
run_on s bs out = cond (fit bs out) (let m = turns s (records_of bs) in ran m.after (Ok tt) m.out) (ran s (Err 11) out)

-- where a tree of that fan stands for a row, the output is the row's, and the tree left stands for what the row becomes
pub record AsRow (bs : List ℕ) (m : Ran) (fan : ℕ) (r : Row) : Type 0 where
  pub says : m.out ≡ played (row_step base) r (records_of bs)
  pub kept : Invariant base fan m.after (left (row_step base) r (records_of bs))
