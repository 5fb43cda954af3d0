-- The bytes of the input that a block holds: all of them, or, from 513 records on, the first 513 and as many bytes as are left over. `difference` doesn't
-- tell the two apart (`as_whole` in the laws), for such a file is refused by its length. Assumes nothing.
use Rattle.std.specs.Prelude.{◌≡◌, cond, List, ◌++◌, ℕ, ◌+◌, ◌%◌, ◌<◌, ◌≤◌, length, take, leb, Option, Some, None, Result, Ok, Err}
use Rattle.model.specs.Lists.{part}

-- how many bytes are held of so many
unfoldable pub folded : ℕ → ℕ
folded n = cond (leb 8208 n) (8208 + n % 16) n

pub record InputHeld (input block : List ℕ) (have : ℕ) : Type 0 where
  pub long : have ≡ folded (length input)
  pub room : have ≤ length block
  pub front : take 8208 (take have block) ≡ take 8208 input

-- a turn after which the input goes on: n bytes were read behind those held, and the block holds them too; at its end nothing is changed
abbrev pub Turned : {E : Type 0} → Result (Option ℕ) E → List ℕ → ℕ → List ℕ → Type 0
Turned (Ok (Some have)) block kept b = (n : ℕ) × (0 < n) × ((input : List ℕ) → InputHeld input block kept → InputHeld (input ++ part kept n b) b have)
Turned (Ok None) block kept b = (take kept b ≡ take kept block) × (kept ≤ length b)
Turned (Err e) block kept b = Unit {0}

-- some input is held
pub record HoldsInput (block : List ℕ) (have : ℕ) : Type 0 where
  pub input : List ℕ
  pub held : InputHeld input block have
