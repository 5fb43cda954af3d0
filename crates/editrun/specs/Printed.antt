-- What the program prints of a file of edits: a line for each edit of the difference, or the number of the refusal. Assumes nothing.
use Rattle.std.specs.Prelude.{◌≡◌, ◌≢◌, List, [], ◌∷◌, ◌++◌, ℕ, ◌≤◌, length, Ok, Err}
use Rattle.std.proofs.Common.{sym, ◌∙◌, arith}
use Rattle.model.specs.Numbered.{Numbered}
use Rattle.model.specs.Numeral.{decimal}
use Rattle.calls_edits.specs.Edits.{difference}
use Rattle.calls_edits.specs.Promised.{Difference}
use Rattle.list_stream.specs.Text.{put}

-- a number a line
unfoldable pub lines : List ℕ → List ℕ
lines [] = []
lines (k ∷ ks) = (decimal k ++ (10 ∷ [])) ++ lines ks

-- the call isn't refused, and the text up to `end` is the lines of the list that is exactly the difference
pub record Printed (input : List ℕ) (a b : ℕ) (area out : List ℕ) (end : ℕ) (o : List ℕ) : Type 0 where
  pub list : List ℕ
  pub reply : (difference input area a b).0 ≡ Ok (length list)
  pub exactly : Difference input a b list
  pub text : (end, o) ≡ put out 0 (lines list)
  pub inside : end ≤ length o

-- so there is no text of a refused call, even where the edits of the file have a difference
pub not_refused : (input : List ℕ) (a b : ℕ) (area out : List ℕ) (end : ℕ) (o : List ℕ) (n : ℕ) → Printed input a b area out end o → (difference input area a b).0 ≢ Err n
not_refused input a b area out end o n p e = never (length p.list) (sym p.reply ∙ e)
  where
    never : (m : ℕ) → Ok m ≡ Err n → ⊥
    never m z = let z' : ◌≡◌ {A = ℕ} 0 1 = cc in omega arith

abbrev pub Answered : Numbered ℕ → List ℕ → ℕ → ℕ → List ℕ → List ℕ → List ℕ → Type 0
Answered (Ok end) input a b area out o = Printed input a b area out end o
Answered (Err n) input a b area out o = difference input area a b ≡ (Err n, area)
