-- The tests that every call makes first, as the code answers them, and what a call replies. Assumes nothing.
use Rattle.model.specs.Numbered.{Numbered, refusal_number}
use Rattle.std.specs.Prelude.{ℕ, cond, List, eqb, Ok, Err, Result}
use Rattle.model.specs.Lists.{Cause, refusal}
use Rattle.model.specs.State.{state}
use Rattle.model.specs.Calls.{Reply, reply}
use Rattle.model.specs.declared.refusal.Refusal.{Refusal}
use Rattle.model.specs.declared.head.Head.{Head}
use Rattle.model.specs.declared.shape.Shape.{Shape}

abbrev pub opened_by : List Cause → Shape → Numbered Shape
opened_by cs g = cond (eqb (refusal cs) 0) (Ok g) (Err (refusal cs))

-- what a call replies that answers with the head after it; where it is refused the head is as it was
abbrev pub replied : {A : Type 0} → Head → Result (Head × A) Refusal → List ℕ → List ℕ → List ℕ → Reply (Numbered A)
replied h (Ok (h1, a)) ls xs hs = reply (state h1 ls xs hs) (Ok a)
replied h (Err r) ls xs hs = reply (state h ls xs hs) (Err (refusal_number r))
