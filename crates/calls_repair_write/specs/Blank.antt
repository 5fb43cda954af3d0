-- Words to copy empty slots from. Assumes nothing.
use Rattle.std.specs.Prelude.{◌≡◌, List, ℕ, ◌*◌, ◌≤◌, length, take}
use Rattle.model.specs.Node.{empty_slots}
use Rattle.model_laws.specs.Slots.{flat}

-- 128 words, of which the first are 32 empty slots of s words
pub record Blank (s : ℕ) (ws : List ℕ) : Type 0 where
  pub long : length ws ≡ 128
  pub empty : (n : ℕ) → n ≤ 32 → take (n * s) ws ≡ flat (empty_slots s n)
