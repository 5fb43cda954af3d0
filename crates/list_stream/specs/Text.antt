-- Answers as text (document 01, "Door and program"). Assumes nothing.
use Rattle.std.specs.Prelude.{List, [], ◌∷◌, ◌++◌, ℕ, ◌+◌, length}
use Rattle.std.proofs.lemmas.List.Edits.{sets}
use Rattle.model.specs.Numeral.{decimal}
use Rattle.list_records.specs.declared.answer.Answer.{Answer}

-- number and three values, a blank behind each but the last, which the end of the line follows
unfoldable pub line : Answer → List ℕ
line a = (decimal a.number ++ (32 ∷ [])) ++ ((decimal a.x ++ (32 ∷ [])) ++ ((decimal a.y ++ (32 ∷ [])) ++ (decimal a.z ++ (10 ∷ []))))

-- text written over a buffer from a place on: the place behind it, and the buffer
unfoldable pub put : List ℕ → ℕ → List ℕ → ℕ × List ℕ
put out at text = (at + length text, sets out at text)
