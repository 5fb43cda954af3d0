use Rattle.std.specs.Prelude.{ℕ, ◌≡◌, refl, List, [], ◌∷◌, get_or, take, drop}
use Rattle.model.specs.declared.length.View.{View}
use Rattle.model.specs.declared.length.View.TheVariants.{Prepare, Effect, Lines}
use Rattle.model.specs.declared.length.Lengths.{Lengths}
use Rattle.model.specs.declared.length.Slot.{Slot}

abbrev pub view_number : View → ℕ
view_number Prepare = 0
view_number Effect = 1
view_number Lines = 2

abbrev pub length_in_view : Lengths → View → ℕ
length_in_view l Prepare = l.prepare
length_in_view l Effect = l.effect
length_in_view l Lines = l.lines

abbrev pub slot_of : ℕ → Lengths → Slot
slot_of c l = record { child = c; prepare_len = l.prepare; effect_len = l.effect; line_ends = l.lines }

-- one length a view
abbrev pub list_of : Lengths → List ℕ
list_of l = l.prepare ∷ l.effect ∷ l.lines ∷ []

-- the lengths of a slot, which is lent as four words: those behind the first, as many as there are views
abbrev pub lengths_in : ℕ → List ℕ → List ℕ
lengths_in views x = take views (drop 1 x)

-- the length in a view stands at the view's number
pub by_view : (l : Lengths) (v : View) → get_or (list_of l) (view_number v) 0 ≡ length_in_view l v
by_view l Prepare = refl
by_view l Effect = refl
by_view l Lines = refl
