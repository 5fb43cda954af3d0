-- A slot that was found, and how much was summed up on the way to it. Assumes nothing.
use Rattle.std.specs.Prelude.{◌≡◌, ℕ, ◌+◌, ◌≤◌, Some}
use Rattle.model.specs.Node.{Found}

-- r is what the definition finds; at most 32 words were added to each sum
pub record FoundIn (a b : ℕ) (r found : Found) : Type 0 where
  pub finds : r ≡ found
  pub few : (j o t u : ℕ) → r ≡ Some (j, o, t, u) → (t ≤ a + 137438953440) × (u ≤ b + 137438953440)
