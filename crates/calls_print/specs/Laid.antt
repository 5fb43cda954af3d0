-- Lines written one behind the other: the place behind them, the positions of the entry after them, and the buffer. Assumes nothing.
use Rattle.std.specs.Prelude.{ℕ, ◌+◌, List, [], ◌∷◌}
use Rattle.model.specs.Lists.{put_at}
use Rattle.model.specs.Node.{child, length_in, wrap}
use Rattle.model.specs.Sheet.{line}

pub record Laid : Type 0 where
  pub at : ℕ
  pub p : ℕ
  pub q : ℕ
  pub page : List ℕ

abbrev pub laid : ℕ → ℕ → ℕ → List ℕ → Laid
laid at p q page = record { at = at; p = p; q = q; page = page }

-- the lines of some slots, with the lengths in view 0 and in view e
unfoldable pub laid_by : ℕ → List (List ℕ) → Laid → Laid
laid_by e [] l = l
laid_by e (x ∷ xs) l =
    laid_by e xs (laid (l.at + 55) (wrap (l.p + length_in 0 x)) (wrap (l.q + length_in e x)) (put_at l.at (line (child x) l.p l.q (length_in 0 x) (length_in e x)) l.page))
