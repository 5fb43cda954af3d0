-- What some lookups examine, played on a tree's words: fan 4, limit 8, eight entries of lengths (1, 2, 0) in three leaves; the premises of the bounds
-- are met by them; and the deepest tree that some counts of entries allow.
use Rattle.std.specs.Prelude.{◌≡◌, refl, ℕ, replicate, Ok}
use mathlib.Core.List.{List, [], ◌∷◌, flat_map, zip_with}
use Rattle.std.proofs.Common.{arith}
use Rattle.model.specs.Kind.{base}
use Rattle.model.specs.Lists.{All, part, put_at, sum_by, some, range, refusal}
use Rattle.model.specs.Node as node
use Rattle.model.specs.State.{State}
use Rattle.model.specs.Row as row
use Rattle.model.specs.Row.{Call, made_row, row_step, no_entry}
use Rattle.model.specs.Climb as climb
use Rattle.model.specs.Locate as locate
use Rattle.model.specs.Grow as grow
use Rattle.model.specs.Place as place
use Rattle.model.specs.Refuse as refuse
use Rattle.model.specs.Calls as calls
use Rattle.model.specs.ById.{tree_move, tree_step}
use Rattle.model.specs.Deepest.{largest, deepest}
use Rattle.model.specs.Examined as count
use Rattle.model.specs.Examined.{examined, look_slots, Near, Far}
use Rattle.model.specs.Promise.{InWords, finally}
use Rattle.model_theory.specs.TopById.{whole}
use Rattle.model_theory.specs.ExampleById.{three}

abbrev lengths : List ℕ
lengths = 1 ∷ 2 ∷ 0 ∷ []

abbrev start : State
start = (calls.make base 4 8 lengths (replicate 76 7) (replicate 76 7) (replicate 8 7)).after

abbrev puts : List Call
puts = let c : Call = row.insert no_entry lengths in c ∷ c ∷ c ∷ c ∷ c ∷ c ∷ c ∷ []

abbrev eight : State
eight = finally (tree_step base) start puts

abbrev look : State → ℕ → State
look t x = (tree_step base t (row.lookup 0 x)).after

abbrev both : State → ℕ → List ℕ
both t x = look_slots base t 0 x ∷ examined base t 0 x ∷ []

-- leaves of 2, 2 and 4 entries below one root: position 5 is slot 1 of the third leaf; then on to 7, back to 4, in front of the leaf to 1, past the
-- leaf to 6; position 8 is past the total
pub played : (both eight 5 ≡ 5 ∷ 5 ∷ []) × (both (look eight 5) 7 ≡ 3 ∷ 3 ∷ []) × (both (look eight 5) 4 ≡ 2 ∷ 2 ∷ []) × (both (look eight 5) 1 ≡ 3 ∷ 3 ∷ [])
    × (both (look eight 0) 6 ≡ 8 ∷ 8 ∷ []) × (look_slots base eight 0 8 ≡ 0)
unfolding part put_at sum_by some range refusal flat_map zip_with finally
    node.slots_from node.node_of node.words_of node.empty_slot node.plus node.minus node.totals_from node.slot_for node.find_from node.index_from node.inserted node.child_split node.lower_half node.upper_half
    climb.rank_up climb.climb_up climb.steps_up climb.first_down climb.last_down climb.next_up
    locate.back locate.walked locate.served locate.descend locate.from_root
    grow.adopt grow.adopt_all grow.link grow.divide grow.grow_root grow.split_node grow.link_half grow.add_to grow.above_of
    place.rehome place.link_leaf place.split_leaf place.make_room place.enter place.place place.divide place.replace place.climb
    refuse.opening calls.begun calls.make calls.locate calls.insert_by calls.id tree_move tree_step
    count.slots_before count.downward count.examined count.served_slots count.look_slots
played = (refl, refl, refl, refl, refl, refl)

-- half 2 and 2 × 2 ^ 2 = 8 entries; one entry less; too few for any; half 16
pub deepest_are : (deepest 2 8 ≡ 2) × (deepest 2 7 ≡ 1) × (deepest 2 1 ≡ 1) × (deepest 16 8 ≡ 1)
unfolding largest deepest
deepest_are = (refl, refl, refl, refl)

made : (calls.make base 4 8 lengths (replicate 76 7) (replicate 76 7) (replicate 8 7)).answer ≡ Ok tt
unfolding calls.make refusal
made = refl

in_words : All (InWords base) puts
unfolding All
in_words = let w = three 1 2 0 (omega arith) (omega arith) (omega arith) in ((omega arith, w), ((omega arith, w), ((omega arith, w), ((omega arith, w), ((omega arith, w), ((omega arith, w), ((omega arith, w), tt)))))))

-- the list theorem gives the bounds: the tree of eight has two levels at most, and the row's prepare total is 8
pub far_eight : Far base eight 0 5 (look_slots base eight 0 5)
unfolding finally row.row_move row_step row.before row.from row.unless sum_by some range refusal
far_eight = ((whole base (omega arith) 4 8 lengths (replicate 76 7) (replicate 76 7) (replicate 8 7) (three 1 2 0 (omega arith) (omega arith) (omega arith)) made puts in_words).1.examines 0 5 (omega arith)).far (omega arith)
