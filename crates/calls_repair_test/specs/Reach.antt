-- What is met on the way down from the root: the inner nodes level by level, the leaves, and the ids in them. Assumes nothing.
use Rattle.std.specs.Prelude.{◌≡◌, ℕ, ◌+◌, ◌-◌, ◌<◌, ◌≤◌, length, replicate}
use mathlib.Core.List.{List, flat_map}
use Rattle.model.specs.Lists.{All, part, range}
use Rattle.calls_repair_test.specs.Queue.{level_in}

-- no mark is set, and there is one for each of n numbers below 65,536
pub record Marks (n : ℕ) (marks : List ℕ) : Type 0 where
  pub size : ℕ
  pub room : n ≤ size
  pub word : n ≤ 65536
  pub zeros : marks ≡ replicate size 0

module _ (kids : ℕ → List ℕ) (root levels : ℕ) where
  abbrev pub inners_from : List ℕ
  inners_from = flat_map (level_in kids root) (range 0 levels)

  abbrev pub leaves_from : List ℕ
  leaves_from = level_in kids root levels

-- the children of the leaves
abbrev pub ids_from : (ℕ → List ℕ) → (ℕ → List ℕ) → ℕ → ℕ → List ℕ
ids_from kids entries root levels = flat_map entries (leaves_from kids root levels)

-- the queue begins with the inner nodes, of which those from last on are the last level, and then the leaves
pub record QueueReached (kids : ℕ → List ℕ) (root levels n m last : ℕ) (order : List ℕ) : Type 0 where
  pub long : n + m ≤ length order
  pub above : part 0 n order ≡ inners_from kids root levels
  pub sorted : last ≤ n
  pub lowest : part last (n - last) order ≡ level_in kids root (levels - 1)
  pub met : part n m order ≡ leaves_from kids root levels
  pub inners_used : All (λ k. k < n) (inners_from kids root levels)
  pub leaves_used : All (λ k. k < m) (leaves_from kids root levels)
