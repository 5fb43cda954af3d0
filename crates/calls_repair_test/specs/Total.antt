-- Totals of some leaves, one after the other. Assumes nothing.
use Rattle.std.specs.Prelude.{Bool, ℕ, ◌<◌, ◌≤◌, leb, get_or}
use mathlib.Core.List.{List, flat_map}
use Rattle.model.specs.Node.{total, used}
use Rattle.model.specs.State.{node_at}
use Rattle.model.specs.declared.shape.Shape.{Shape}

abbrev pub total_in : Shape → List ℕ → ℕ → List ℕ → ℕ
total_in g leaves v ks = total v (flat_map (λ k. used (node_at g k leaves)) ks)

abbrev pub within : Shape → List ℕ → List ℕ → ℕ → Bool
within g leaves ks v = leb (total_in g leaves v ks) 4294967295

-- the numbers in the queue from start up to end are below n
abbrev pub QueueListed : ℕ → ℕ → ℕ → List ℕ → Type 0
QueueListed n start end order = (j : ℕ) → start ≤ j → j < end → get_or order j 0 < n
