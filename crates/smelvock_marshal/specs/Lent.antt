-- What a host lends to a call by id and what it has afterwards: head and areas before and after, and the reply's words. Assumes nothing.
use Rattle.std.specs.Prelude.{Bool, cond, not, List, ◌++◌, ℕ, length, replicate, eqb}
use Rattle.std.specs.Borrow.{Bor}
use denote.Triple.Both.{Both}
use Rattle.model.specs.Row.{Answer, refused, Moved}
use Rattle.model.specs.State.{State, state}
use Rattle.model.specs.Answer.{outcome_answer}
use Rattle.model.specs.Calls as calls
use Rattle.model.specs.ById.{told}
use Rattle.model.specs.declared.shape.Kind.{Kind}
use Rattle.model.specs.declared.head.Head.{Head}
use Rattle.smelvock_marshal.specs.Flat.{head_from, head_words}

-- head and areas as a host lends them
pub record Given : Type 0 where
  pub head : List ℕ
  pub leaves : List ℕ
  pub inners : List ℕ
  pub homes : List ℕ

abbrev pub given : List ℕ → List ℕ → List ℕ → List ℕ → Given
given w ls xs hs = record { head = w; leaves = ls; inners = xs; homes = hs }

-- the same from the four that an export is lent, as it finds them
abbrev pub given_at_entry : {W X Y Z : Type 0} → Both (Bor (List ℕ)) W → Both (Bor (List ℕ)) X → Both (Bor (List ℕ)) Y → Both (Bor (List ℕ)) Z → Given
given_at_entry head leaves inners homes = given head.entry.now leaves.entry.now inners.entry.now homes.entry.now

abbrev pub state_of : Given → State
state_of g = state (head_from g.head) g.leaves g.inners g.homes

-- what a host has after a call: the reply's words, its head and its areas
pub record Left (R : Type 0) : Type 0 where
  pub reply : R
  pub head : List ℕ
  pub leaves : List ℕ
  pub inners : List ℕ
  pub homes : List ℕ

abbrev pub left : {R : Type 0} → R → List ℕ → List ℕ → List ℕ → List ℕ → Left R
left r w ls xs hs = record { reply = r; head = w; leaves = ls; inners = xs; homes = hs }

-- the same from the four, as an export leaves them
abbrev pub left_at_exit : {R W X Y Z : Type 0} → R → Both W (Bor (List ℕ)) → Both X (Bor (List ℕ)) → Both Y (Bor (List ℕ)) → Both Z (Bor (List ℕ)) → Left R
left_at_exit r head leaves inners homes = left r head.exit.now leaves.exit.now inners.exit.now homes.exit.now

abbrev pub number_alone : Answer → ℕ
number_alone a = a.number

-- a call that leaves head and areas: refused by 10 where something is bad, else what it answers
abbrev pub unless_bad : Bool → Answer → Answer
unless_bad bad a = cond bad (refused 10) a

-- any call: refused by 10 with all as given, else its reply in words, with the head's words by its number
unfoldable pub left_by : {R : Type 0} → (Answer → R) → (ℕ → Head → List ℕ → List ℕ) → Bool → Given → Moved State → Left R
left_by flat words bad g m =
    cond bad (left (flat (refused 10)) g.head g.leaves g.inners g.homes)
    (left (flat m.answer) (words m.answer.number m.after.head g.head) m.after.leaves m.after.inners m.after.homes)

-- a make of a tree without seats, whose words are zeros; a refused one leaves a head of zeros
abbrev pub unseated_words : ℕ → Head → List ℕ → List ℕ
unseated_words n h w = head_words h ++ replicate 17 0

abbrev pub unseated_make : Kind → ℕ → ℕ → List ℕ → Given → Left ℕ
unseated_make K fan limit l g = left_by number_alone unseated_words (not (eqb (length g.head) 36)) g (told (calls.make K fan limit l g.leaves g.inners g.homes) outcome_answer)
