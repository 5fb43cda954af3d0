-- Where insert aims. Assumes nothing.
use Rattle.model.specs.declared.way.Broken.{Broken}
use Rattle.model.specs.declared.head.Cursor.{Cursor}
use Rattle.model.specs.Numbered.{broken}
use Rattle.std.specs.Prelude.{Bool, cond, ◌&&◌, ℕ, ltb, leb, eqb, Ok, Err, Some, None, Option, Result}
use Rattle.model.specs.State.{State, node_at}
use Rattle.model.specs.Refuse.{shape_of}
use Rattle.model.specs.Place.{Change}
use Rattle.model.specs.Calls as calls
use Rattle.model.specs.declared.shape.Kind.{Kind}
use Rattle.calls_insert.specs.declared.any.Aim.{Aim}

-- a target's slot, in a leaf in use that says no more slots than it has; broken where the end has none. A cursor was tested before
abbrev pub aim_at : ℕ → ℕ → Aim
aim_at k i = record { leaf = record { 0 = k }; slot = i }

abbrev pub in_use : Kind → State → Change → Bool
in_use K s r = eqb r.number 0 && ltb r.leaf s.head.leaves && leb (node_at (shape_of K s.head) r.leaf s.leaves).len s.head.fan

abbrev pub aimed : Kind → State → Option Cursor → Result Aim Broken
aimed K s (Some c) = Ok (aim_at c.leaf.0 c.slot)
aimed K s None = let r = calls.aim K s None in cond (in_use K s r) (Ok (aim_at r.leaf r.slot)) (Err broken)
