-- The premises of the planning tree's list theorem are met by a list of every one of its calls, refused ones among them; the answers are computed, and
-- a choice of lengths shows what could be held.
use Rattle.std.specs.Prelude.{◌≡◌, refl, true, ℕ, ◌<◌, replicate, Ok, false}
use mathlib.Core.List.{List, [], ◌∷◌, ◌++◌, zip_with, flat_map}
use Rattle.std.proofs.Common.{arith}
use Rattle.model.specs.Kind.{planning}
use Rattle.model.specs.Lists as lists
use Rattle.model.specs.Lists.{All, sum_by, some, range, refusal}
use Rattle.model.specs.Node as node
use Rattle.model.specs.State.{State}
use Rattle.model.specs.Row as row
use Rattle.model.specs.Row.{Row, done, refused, no_entry, made_row}
use Rattle.model.specs.Choice.{Chosen, CouldHold}
use Rattle.model.specs.Calls.{make, begun}
use Rattle.model.specs.Audit as check
use Rattle.model.specs.Audit.{audit}
use Rattle.model.specs.Promise.{Words, answers, finally}
use Rattle.model.specs.Plan as plan
use Rattle.model.specs.Plan.{PlanCall, InPlan, row_plan, tree_plan, PlanDemand}
use Rattle.model_tree.specs.Lists.{all_append}
use Rattle.model_theory.specs.TopPlan.{plan_whole}

-- fan 4 and limit 6: three nodes of 3 + 4 × 3 words
abbrev words : List ℕ
words = replicate 45 7

abbrev start : State
start = (make planning 4 6 (4 ∷ 8 ∷ []) words words (replicate 6 7)).after

made : (make planning 4 6 (4 ∷ 8 ∷ []) words words (replicate 6 7)).answer ≡ Ok tt
unfolding make refusal
made = refl

two : (p e : ℕ) → p < 4294967296 → e < 4294967296 → Words planning (p ∷ e ∷ [])
unfolding All
two p e a b = record { long = refl; small = (a, (b, tt)) }

promised : PlanDemand 4 6 (4 ∷ 8 ∷ []) words words (replicate 6 7)
promised = plan_whole 4 6 (4 ∷ 8 ∷ []) words words (replicate 6 7) (two 4 8 (omega arith) (omega arith)) made

-- entries of 4 to 8, 2, 0 to 3 and no characters
abbrev placed : List PlanCall
placed = plan.insert no_entry (0 ∷ 3 ∷ []) ∷ plan.insert 1 (2 ∷ 2 ∷ []) ∷ plan.insert no_entry (0 ∷ 0 ∷ []) ∷ []

in_placed : All InPlan placed
unfolding All
in_placed = ((omega arith, two 0 3 (omega arith) (omega arith)), ((omega arith, two 2 2 (omega arith) (omega arith)), ((omega arith, two 0 0 (omega arith) (omega arith)), tt)))

-- the positions of entry 1; from the lowest total on the last that could hold is not the entry without characters; 5
abbrev asked : List PlanCall
asked = plan.earliest 1 ∷ plan.latest 1 ∷ plan.earliest 4 ∷ plan.first_at 5 ∷ plan.last_at 5 ∷ plan.last_at 6 ∷ plan.first_at 12 ∷ plan.last_at 12 ∷ plan.first_at 13 ∷ plan.last_at 13 ∷ []

in_asked : All InPlan asked
unfolding All
in_asked = (omega arith, (omega arith, (omega arith, (omega arith, (omega arith, (omega arith, (omega arith, (omega arith, (omega arith, (omega arith, tt))))))))))

-- 20 after 4 and before 7; of a split after 6 and 17, for the given part and for the part left
abbrev changed : List PlanCall
changed = plan.insert 9 (5 ∷ 4 ∷ []) ∷ plan.insert 0 (4294967295 ∷ 4 ∷ []) ∷ plan.insert 0 (4294967290 ∷ 4294967290 ∷ []) ∷ plan.set_lengths 9 (1 ∷ 0 ∷ [])
    ∷ plan.set_lengths 3 (4294967295 ∷ 0 ∷ []) ∷ plan.split true 0 (5 ∷ 8 ∷ []) ∷ plan.split true 0 (4 ∷ 8 ∷ []) ∷ plan.split true 0 (3 ∷ 2 ∷ []) ∷ plan.split true 0 (0 ∷ 5 ∷ [])
    ∷ plan.split true 0 (2 ∷ 4 ∷ []) ∷ plan.lengths 0 ∷ plan.count ∷ plan.next 0 ∷ plan.next 3 ∷ plan.set_lengths 3 (1 ∷ 1 ∷ []) ∷ plan.last_at 7 ∷ plan.reset (2 ∷ 1 ∷ []) ∷ plan.reset (1 ∷ 1 ∷ []) ∷ plan.count ∷ []

in_changed : All InPlan changed
unfolding All
in_changed = (
  (omega arith, two 5 4 (omega arith) (omega arith)),
  ((omega arith, two 4294967295 4 (omega arith) (omega arith)), ((omega arith, two 4294967290 4294967290 (omega arith) (omega arith)), ((omega arith, two 1 0 (omega arith) (omega arith)), ((omega arith, two 4294967295 0 (omega arith) (omega arith)), ((omega arith, two 5 8 (omega arith) (omega arith)), ((omega arith, two 4 8 (omega arith) (omega arith)), ((omega arith, two 3 2 (omega arith) (omega arith)), ((omega arith, two 0 5 (omega arith) (omega arith)), ((omega arith, two 2 4 (omega arith) (omega arith)), (omega arith, (tt, (omega arith, (omega arith, ((omega arith, two 1 1 (omega arith) (omega arith)), (omega arith, (two 2 1 (omega arith) (omega arith), (two 1 1 (omega arith) (omega arith), (tt, tt)))))))))))))))))),
)

-- the row that the first three calls leave
abbrev planned : Row
planned = finally row_plan (made_row 6 (4 ∷ 8 ∷ [])) placed

-- all of them on the tree
pub answered : answers tree_plan start (placed ++ (asked ++ changed)) ≡ answers row_plan (made_row 6 (4 ∷ 8 ∷ [])) (placed ++ (asked ++ changed))
answered = promised.answered (placed ++ (asked ++ changed)) (all_append InPlan placed (asked ++ changed) in_placed (all_append InPlan asked changed in_asked in_changed))

pub placed_are : answers row_plan (made_row 6 (4 ∷ 8 ∷ [])) placed ≡ done (1 ∷ 8 ∷ []) ∷ done (2 ∷ 8 ∷ []) ∷ done (3 ∷ 13 ∷ []) ∷ []
unfolding answers row_plan row.row_move row.row_step row.before row.from row.unless sum_by some range refusal zip_with
placed_are = refl

pub asked_are : answers row_plan planned asked
    ≡ done (6 ∷ []) ∷ done (10 ∷ []) ∷ refused 4 ∷ done (0 ∷ []) ∷ done (2 ∷ []) ∷ done (1 ∷ []) ∷ done (1 ∷ []) ∷ done (1 ∷ []) ∷ refused 5 ∷ refused 5 ∷ []
unfolding answers finally row_plan row.row_move row.row_step row.before row.from row.found row.unless sum_by some range refusal zip_with
asked_are = refl

pub changed_are : answers row_plan planned changed
    ≡ refused 4 ∷ refused 20 ∷ refused 7 ∷ refused 4 ∷ refused 20 ∷ refused 6 ∷ refused 17 ∷ refused 20 ∷ refused 20 ∷ done (4 ∷ []) ∷ done (2 ∷ 4 ∷ []) ∷ done (5 ∷ []) ∷ done (2 ∷ []) ∷ done (no_entry ∷ [])
    ∷ done [] ∷ done (3 ∷ []) ∷ refused 20 ∷ done [] ∷ done (1 ∷ []) ∷ []
unfolding answers finally row_plan row.row_move row.row_step row.before row.from row.divided row.found row.unless sum_by some range refusal zip_with
changed_are = refl

-- a choice under which entry 1 holds position 6
pub could_hold : CouldHold planned.entries 2 6
unfolding finally row_plan row.row_move row.row_step row.before row.from row.unless sum_by some range refusal zip_with Chosen
could_hold = record { chosen = 4 ∷ 2 ∷ 1 ∷ 0 ∷ []; within = ((omega arith), (omega arith), ((omega arith), (omega arith), ((omega arith), (omega arith), ((omega arith), (omega arith), tt)))); there = omega arith; before = omega arith; above = omega arith }

-- a lowest above its highest in a leaf slot isn't sound
abbrev slotted : ℕ → State
slotted low = begun planning 4 6 1 (low ∷ 4 ∷ []) words words (replicate 6 7)

pub audited_bounds : (audit planning (slotted 4) ≡ Ok true) × (audit planning (slotted 5) ≡ Ok false)
unfolding begun refusal lists.part lists.put_at sum_by range node.node_of node.slots_from node.words_of node.empty_slot flat_map check.every check.depth check.is_filled check.is_held check.is_child check.is_inner check.is_entry check.is_leaf check.is_sound audit
audited_bounds = (refl, refl)
