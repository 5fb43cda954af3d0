-- A search from the root down to a leaf, with how many slots stand before those taken on the way. Assumes nothing.
use Rattle.std.specs.Prelude.{◌≡◌, ℕ, ◌+◌, ◌*◌, ◌≤◌, List, Ok, Some, None}
use Rattle.model.specs.Node.{used}
use Rattle.model.specs.State.{node_at}
use Rattle.model.specs.Locate.{Descent, descend, leaf_of}
use Rattle.model.specs.Examined.{slots_before, downward, with_slots, found_slots}
use Rattle.model.specs.declared.shape.Shape.{Shape}
use Rattle.model.specs.declared.number.LeafNo.{LeafNo}
use Rattle.model.specs.declared.way.Searched.{Searched}

pub record Went (v e : ℕ) (g : Shape) (levels root index : ℕ) (xs : List ℕ) (end : Descent) (passed : ℕ) : Type 0 where
  pub is : end ≡ descend v e g (Ok None) levels root index 0 0 xs
  pub few : passed ≤ levels * 32
  -- where it comes to a leaf, what it examined on the way, and in that leaf of any leaf area
  pub counts : (l : LeafNo) (rest a b : ℕ) → end ≡ Ok (Some (l, rest, a, b)) → (ls : List ℕ)
      → downward v g ls xs levels root index ≡ passed + levels + (slots_before v rest (used (node_at g l.0 ls)) + 1)

-- the search in that leaf, where `taken` slots were examined on the way
abbrev pub leaf_slots : ℕ → ℕ → Shape → ℕ → ℕ → List ℕ → LeafNo → ℕ → ℕ → ℕ → ℕ → Searched
leaf_slots v e g leaves index ls k rest a b taken =
    let r = leaf_of v e g leaves index ls (Ok (Some (k, rest, a, b))) in
    with_slots r (found_slots r (taken + (slots_before v rest (used (node_at g k.0 ls)) + 1)))
