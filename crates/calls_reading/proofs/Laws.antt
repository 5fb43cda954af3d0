-- The reading copy has no line ends, so that none of its calls gives too many of them. Assumes nothing.
use Rattle.model.specs.Numbered.{Numbered}
use mathlib.Core.Path.{◌≡◌, refl, ap, ◌∙◌}
use mathlib.Core.Bool.{false}
use mathlib.Core.List.{List}
use Rattle.model.specs.Kind.{reading}
use Rattle.model.specs.Row as row
use Rattle.model.specs.Row.{Call, moved, overlong}
use Rattle.model.specs.State.{State}
use Rattle.model.specs.Answer.{outcome_answer}
use Rattle.model.specs.Calls as calls
use Rattle.model.specs.Calls.{Reply, reply}
use Rattle.model.specs.ById.{told, tree_move, tree_step}
use Prim.Native.Nat.{ℕ}

pub as_step : (s : State) (c : Call) → overlong reading c ≡ false → tree_move reading s c ≡ tree_step reading s c
unfolding tree_step
as_step s c h = rw h

pub reset_step : (s t : State) (l : List ℕ) (a : Numbered (Unit {0})) → reply t a ≡ calls.reset reading s l → moved t (outcome_answer a) ≡ tree_step reading s (row.reset l)
unfolding tree_move
reset_step s t l a e = ap (λ (r : Reply (Numbered (Unit {0}))). told r outcome_answer) e ∙ as_step s (row.reset l) refl
