-- A tree's state as a contract speaks of it: a head with the words of the three areas that a function is lent, as it finds them and as it leaves them.
-- Abbreviations: each stands for its right side wherever it is written. Assumes nothing.
use Rattle.std.specs.Prelude.{List, ℕ}
use Rattle.std.specs.Borrow.{Bor}
use denote.Triple.Both.{Both}
use Rattle.model.specs.State.{State, state}
use Rattle.model.specs.declared.head.Head.{Head}

-- an area is a pair of what it is at the two moments, of which each reads one
abbrev pub at_entry : {X Y Z : Type 0} → Head → Both (Bor (List ℕ)) X → Both (Bor (List ℕ)) Y → Both (Bor (List ℕ)) Z → State
at_entry h leaves inners homes = state h leaves.entry.now inners.entry.now homes.entry.now

abbrev pub at_exit : {X Y Z : Type 0} → Head → Both X (Bor (List ℕ)) → Both Y (Bor (List ℕ)) → Both Z (Bor (List ℕ)) → State
at_exit h leaves inners homes = state h leaves.exit.now inners.exit.now homes.exit.now
