-- The table played on a tree's words and on the plain row, each from nothing, and one theorem: both see what the table says.
use Rattle.model.specs.declared.head.Cursor.{Cursor}
use Rattle.model.specs.Numbered.{Numbered}
use Rattle.std.specs.Prelude.{◌≡◌, refl, ℕ, ◌-◌, take, replicate, Ok, Err, None, Bool, true}
use mathlib.Core.List.{List, [], ◌∷◌, map, flat_map, zip_with}
use Rattle.model.specs.Lists.{part, put_at, sum_by, some, range, refusal}
use Rattle.model.specs.Node as node
use Rattle.model.specs.Kind.{base}
use Rattle.model.specs.State.{State, state, head_of}
use Rattle.model.specs.Row as row
use Rattle.model.specs.Row.{Row, Answer, Moved, moved, done, made_row, row_step}
use Rattle.model.specs.Climb as climb
use Rattle.model.specs.Locate as locate
use Rattle.model.specs.Grow as grow
use Rattle.model.specs.Place as place
use Rattle.model.specs.Answer.{outcome_answer}
use Rattle.model.specs.Refuse as refuse
use Rattle.model.specs.Calls as calls
use Rattle.model.specs.ById.{told, tree_move, tree_step}
use Rattle.model.specs.Sound.{entries_of, level}
use Rattle.model.specs.Audit as check
use Rattle.model.specs.Audit.{audit}
use Rattle.model.specs.Table.{Play, made, called, Case, table}
use Rattle.model.specs.Spelling as spelling
use Rattle.model.specs.Promise.{answers}

pub record Seen : Type 0 where
  pub answer : Answer
  pub order : List ℕ
  pub newest : List ℕ
  pub audit : Numbered Bool

abbrev pub seen : Answer → List ℕ → List ℕ → Numbered Bool → Seen
seen a o n v = record { answer = a; order = o; newest = n; audit = v }

-- fan 4, limit 5: two nodes of 19 words in each area, five homes; what they held before make is of no account
abbrev pub before_make : State
before_make = state (head_of 0 0 0 0 0 0 0 0 None) (replicate 38 7) (replicate 38 7) (replicate 5 7)

unfoldable pub tree_play : State → Play → Moved State
tree_play s (made l) = told (calls.make base 4 5 l s.leaves s.inners s.homes) outcome_answer
tree_play s (called c) = tree_step base s c

-- leaf and slot of the entry made last
unfoldable pub newest_in : Numbered Cursor → List ℕ
newest_in (Ok c) = c.leaf.0 ∷ c.slot ∷ []
newest_in (Err n) = []

unfoldable pub tree_seen : Moved State → Seen
tree_seen m = seen m.answer (map (λ e. e.id) (entries_of base m.after)) (newest_in (calls.cursor base m.after (m.after.head.entries - 1))) (audit base m.after)

unfoldable pub tree_run : State → List Case → List Seen
tree_run s [] = []
tree_run s (c ∷ cs) = let m = tree_play s c.play in tree_seen m ∷ tree_run m.after cs

unfoldable pub row_play : Row → Play → Moved Row
row_play r (made l) = moved (made_row 5 l) (done [])
row_play r (called c) = row_step base r c

unfoldable pub row_seen : Case → Moved Row → Seen
row_seen c m = seen m.answer (map (λ e. e.id) m.after.entries) c.newest (Ok true)

unfoldable pub row_run : Row → List Case → List Seen
row_run r [] = []
row_run r (c ∷ cs) = let m = row_play r c.play in row_seen c m ∷ row_run m.after cs

abbrev pub seen_in : Case → Seen
seen_in c = seen c.answer c.order c.newest (Ok true)

-- after each case the tree's audit says yes; a plain row has neither leaves nor an audit: these two are taken from the table
pub table_holds : (tree_run before_make table ≡ map seen_in table) × (row_run (row.row 0 []) table ≡ map seen_in table)
unfolding tree_play newest_in tree_seen tree_run row_play row_seen row_run
    part put_at sum_by some range refusal flat_map zip_with
    node.slots_from node.node_of node.words_of node.empty_slot node.plus node.minus node.totals_from node.slot_for node.find_from node.index_from node.inserted node.child_split node.lower_half node.upper_half
    row.before row.from row.divided row.found row.ordered row.unless row.row_move row.row_step
    climb.rank_up climb.climb_up climb.steps_up climb.first_down climb.last_down climb.next_up
    locate.back locate.walked locate.served locate.descend locate.from_root
    grow.adopt grow.adopt_all grow.link grow.divide grow.grow_root grow.split_node grow.link_half grow.add_to grow.above_of
    place.rehome place.link_leaf place.split_leaf place.make_room place.enter place.place place.divide place.replace place.climb
    refuse.opening
    calls.begun calls.make calls.first calls.next_after calls.id calls.cursor calls.locate calls.insert_by calls.split_by
    tree_move tree_step entries_of level
    check.every check.depth check.is_filled check.is_held check.is_child check.is_inner check.is_entry check.is_leaf check.is_finger check.is_sound audit
table_holds = (refl, refl)

-- the number of a make with so many line ends and areas of these lengths
unfoldable pub make_number : ℕ → ℕ → ℕ → ℕ → ℕ → ℕ → ℕ
make_number fan limit lines leaves inners homes = (outcome_answer (calls.make base fan limit (3 ∷ 3 ∷ lines ∷ []) (replicate leaves 7) (replicate inners 7) (replicate homes 7)).answer).number

-- document 01's fans and limits that are refused, next to those that aren't, areas one word too short, and one line end too many, which comes first
pub sizes : (map (λ fan. make_number fan 1 0 131 131 1) (3 ∷ 4 ∷ 32 ∷ 33 ∷ []) ≡ 1 ∷ 0 ∷ 0 ∷ 1 ∷ []) × (map (λ limit. make_number 4 limit 0 38 38 5) (0 ∷ 1 ∷ 5 ∷ 65536 ∷ 65537 ∷ []) ≡ 1 ∷ 0 ∷ 0 ∷ 2 ∷ 1 ∷ [])
    × (make_number 4 5 0 37 38 5 ≡ 2) × (make_number 4 5 0 38 37 5 ≡ 2) × (make_number 4 5 0 38 38 4 ≡ 2)
    × (make_number 4 5 65535 38 38 5 ≡ 0) × (make_number 4 5 65536 38 38 5 ≡ 10) × (make_number 3 5 65536 37 38 5 ≡ 10)
unfolding make_number calls.make refusal
sizes = (refl, refl, refl, refl, refl, refl, refl, refl)

-- document 01's run, on a row like the door's
pub run : answers (row_step base) (made_row 512 (0 ∷ 0 ∷ 0 ∷ [])) (take 6 spelling.calls) ≡ map (λ g. g.answer) (take 6 spelling.given)
unfolding answers sum_by some range refusal row.before row.from row.found row.unless row.row_move row.row_step
run = refl
