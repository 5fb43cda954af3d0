-- Other lengths for the entry at a cursor, as the one call that update and set_lengths are. Assumes nothing.
use Rattle.model.specs.Numbered.{Numbered}
use Rattle.std.specs.Prelude.{◌≡◌, ℕ, Bool, List, Ok, Err}
use Rattle.model.specs.State.{State}
use Rattle.model.specs.Calls.{Reply, reply, unless, settled, resized, resize_causes}
use Rattle.tree_place.specs.Asked.{asked}
use Rattle.model.specs.declared.shape.Kind.{Kind}
use Rattle.model.specs.declared.shape.Shape.{Shape}
use Rattle.model.specs.declared.head.Cursor.{Cursor}

-- where the tests are passed, these are the lengths that the entry has
abbrev pub old_by : Numbered Shape → List ℕ → List ℕ → Type 0
old_by r own ls = (g : Shape) → r ≡ Ok g → own ≡ ls

-- `update`; without its position, which is then 0, `set_lengths`
abbrev pub resize : Kind → Bool → State → Cursor → List ℕ → Reply (Numbered ℕ)
resize K summed s c l =
    let r = resized K s c l in
    unless (resize_causes K s c l) (λ n. reply s (Err n)) (settled s r.0 Err (Ok (asked summed r.1)))

abbrev pub unnumbered : Numbered ℕ → Numbered (Unit {0})
unnumbered (Ok n) = Ok tt
unnumbered (Err n) = Err n
