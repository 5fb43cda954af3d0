-- The shapes that the functions over one node take: slots of 2 to 4 words, 4 to 32 of them in a node, at most 65,536 nodes. Assumes nothing.
use Rattle.std.specs.Prelude.{◌≡◌, ℕ, ◌+◌, ◌*◌, ◌<◌, ◌≤◌}
use Rattle.std.proofs.Common.{◌∙◌, arith}
use Rattle.model_laws.specs.Lists.{rows_le, row_end}
use Rattle.model.specs.declared.shape.Shape.{Shape}

pub record Shaped (g : Shape) : Type 0 where
  pub columns : 2 ≤ g.stride
  pub narrow : g.stride ≤ 4
  pub slots : 4 ≤ g.fan
  pub few : g.fan ≤ 32
  pub words : g.size ≡ 3 + g.fan * g.stride
  pub areas : g.nodes ≤ 65536

-- a node's words, those before slot i, and those of slot i, in a node of l words
module _ (g : Shape) (l : ℕ) (h : Shaped g) (e : l ≡ g.size) where
  pub whole : l ≡ 3 + g.fan * g.stride
  whole = e ∙ h.words

  pub slots_in_law : (i : ℕ) → i ≤ g.fan → 3 + i * g.stride ≤ l
  slots_in_law i k = omega (arith, whole, rows_le i g.fan g.stride k)

  pub slot_in_law : (i : ℕ) → i < g.fan → 3 + i * g.stride + g.stride ≤ l
  slot_in_law i k = omega (arith, whole, row_end i g.fan g.stride k)
