-- The way up from a slot of a leaf, and a sum that is given only where it is asked for. Assumes nothing.
use Rattle.model.specs.declared.way.Broken.{Broken}
use Rattle.model.specs.Numbered.{broken}
use Rattle.std.specs.Prelude.{ℕ, Bool, true, false, List, Ok, Err, Result}
use Rattle.model.specs.Node.{start}
use Rattle.model.specs.State.{node_at}
use Rattle.model.specs.Climb.{climb_up}
use Rattle.model.specs.declared.shape.Shape.{Shape}

-- the sum, or 0 for it where it isn't asked for
abbrev pub asked : Bool → ℕ → ℕ
asked true n = n
asked false n = 0

abbrev pub asked_sum : Bool → Result ℕ Broken → Result ℕ Broken
asked_sum b (Ok n) = Ok (asked b n)
asked_sum b (Err _) = Err broken

-- the same of a way up, with the words that it leaves
abbrev pub asked_way : Bool → (Result ℕ Broken) × List ℕ → (Result ℕ Broken) × List ℕ
asked_way b (w, xs) = (asked_sum b w, xs)

-- delta goes into every slot above leaf k, and the lengths before slot i of it in view e are summed up
abbrev pub way_up : Shape → ℕ → List ℕ → ℕ → ℕ → ℕ → List ℕ → List ℕ → (Result ℕ Broken) × List ℕ
way_up g e delta levels k i ls xs =
    let m = node_at g k ls in
    climb_up g e delta levels m.parent m.at (start e i m) xs
