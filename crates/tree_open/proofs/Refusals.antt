-- No refusal has the number 0. Assumes nothing.
use Rattle.std.specs.Prelude.{◌≡◌}
use native.Mathlib.Omega.{arith}
use Rattle.model.specs.Numbered.{refusal_number}
use Rattle.model.specs.declared.refusal.Refusal.{Refusal}
use Rattle.model.specs.declared.refusal.Refusal.TheVariants as refusal

pub some_number : (r : Refusal) → refusal_number r ≡ 0 → ⊥
some_number refusal.Size e = omega arith
some_number refusal.Area e = omega arith
some_number refusal.Stamp e = omega arith
some_number refusal.Id e = omega arith
some_number refusal.Position e = omega arith
some_number refusal.Split e = omega arith
some_number refusal.Total e = omega arith
some_number refusal.Full e = omega arith
some_number refusal.Link e = omega arith
some_number refusal.Field e = omega arith
some_number refusal.Records e = omega arith
some_number refusal.Buffer e = omega arith
some_number refusal.Leaf e = omega arith
some_number refusal.Slot e = omega arith
some_number refusal.Parent e = omega arith
some_number refusal.Edits e = omega arith
some_number refusal.Hollow e = omega arith
some_number refusal.Over e = omega arith
some_number refusal.Shares e = omega arith
some_number refusal.Bounds e = omega arith
some_number refusal.Unsound e = omega arith
