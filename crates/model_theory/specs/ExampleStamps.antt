-- The premises of CR 8's theorems are met: a sheet of two entries, a reset, and two entries again; a reset on a tree that is not sound; 2 ^ 64 resets;
-- and a stamp that goes round at once.
use Rattle.std.specs.Prelude.{◌≡◌, refl, ◌^◌, ◌<◌, replicate, None}
use mathlib.Core.List.{List, [], ◌∷◌, ◌++◌, flat_map, zip_with}
use Rattle.std.proofs.Common.{arith}
use Rattle.model.specs.Kind.{base}
use Rattle.model.specs.Lists as lists
use Rattle.model.specs.Lists.{All, refusal}
use Rattle.model.specs.Node as node
use Rattle.model.specs.State.{State}
use Rattle.model.specs.Row.{done, refused, made_row, row_step}
use Rattle.model.specs.Climb as climb
use Rattle.model.specs.Place as place
use Rattle.model.specs.Refuse as refuse
use Rattle.model.specs.Refuse.{stale}
use Rattle.model.specs.Sound.{Sound}
use Rattle.model.specs.Calls as calls
use Rattle.model.specs.Calls.{cursor_at}
use Rattle.model.specs.ById.{tree_step}
use Rattle.model.specs.ByCursor as by
use Rattle.model.specs.ByCursor.{CursorCall, cursor_step}
use Rattle.model.specs.Promise.{CursorInWords, answers, finally, Represents}
use Rattle.model.specs.Stamp.{makes, makes_all, GoesRound, Stamped, restamped, SameById}
use Rattle.model_theory.specs.StampById.{same_by_id, any_stamp, same_row}
use Rattle.model_theory.specs.TopStamps.{never_again, goes_round, stamped}
use Rattle.model_theory.specs.ExampleById as example
use Rattle.model_theory.specs.ExampleById.{pair, area_words, start, made, first_words, three, represents_start, sound_start, loose}

-- a second entry, whose cursor bears the stamp 2; then a reset and another second entry: as many entries as before, and the stamp is 4
abbrev sheet : List CursorCall
sheet = by.insert None (pair 2 0) ∷ []

abbrev next : List CursorCall
next = by.insert None (pair 4 4) ∷ []

sheet_in_words : All (CursorInWords base) sheet
unfolding All
sheet_in_words = (three 2 0 0 (omega arith) (omega arith) (omega arith), tt)

pub from_make : Stamped base 4 5 (pair 3 3) area_words area_words (replicate 5 7)
from_make = stamped base (omega arith) 4 5 (pair 3 3) area_words area_words (replicate 5 7) first_words made

-- what the calls answer: the old cursor stands at its entry, and is refused by 3 after the reset, at the same count; the new one stands
pub old_refused : answers (cursor_step base) start (sheet ++ by.id (cursor_at 2 0 1) ∷ by.len ∷ by.reset (pair 1 1) ∷ next ++ by.len ∷ by.id (cursor_at 2 0 1) ∷ by.id (cursor_at 4 0 1) ∷ [])
    ≡ done (1 ∷ 3 ∷ []) ∷ done (1 ∷ []) ∷ done (2 ∷ []) ∷ done [] ∷ done (1 ∷ 1 ∷ []) ∷ done (2 ∷ []) ∷ refused 3 ∷ done (1 ∷ []) ∷ []
unfolding answers cursor_step
    lists.part lists.put_at lists.sum_by lists.some lists.range lists.refusal flat_map zip_with
    node.slots_from node.node_of node.words_of node.empty_slot node.plus node.totals_from node.inserted
    climb.climb_up climb.last_down
    place.make_room place.enter place.place place.climb
    refuse.opening
    calls.make calls.begun calls.reset calls.insert_by calls.id calls.len
old_refused = refl

-- the same by the theorem, from the tree where the cursor was issued
entries_made : makes_all base (finally (cursor_step base) start sheet) (by.reset (pair 1 1) ∷ next) ≡ 2
unfolding makes makes_all finally cursor_step
    lists.part lists.put_at lists.sum_by lists.some lists.range lists.refusal flat_map zip_with
    node.slots_from node.node_of node.words_of node.empty_slot node.plus node.totals_from node.inserted
    climb.climb_up climb.last_down
    place.make_room place.enter place.place place.climb
    refuse.opening
    calls.make calls.begun calls.reset calls.insert_by
entries_made = refl

issued : 2 ≡ (finally (cursor_step base) start sheet).head.stamp
unfolding finally cursor_step
    lists.part lists.put_at lists.sum_by lists.some lists.range lists.refusal flat_map zip_with
    node.slots_from node.node_of node.words_of node.empty_slot node.plus node.totals_from node.inserted
    climb.climb_up climb.last_down
    place.make_room place.enter place.place place.climb
    refuse.opening
    calls.make calls.begun calls.insert_by
issued = refl

pub old_shut : refusal (stale base (finally (cursor_step base) (finally (cursor_step base) start sheet) (by.reset (pair 1 1) ∷ next)) (cursor_at 2 0 1)) ≡ 3
unfolding All
old_shut = (from_make.across sheet sheet_in_words).shut (cursor_at 2 0 1) issued [] next (pair 1 1) tt refl refl (let z = entries_made in omega arith)

-- on a tree that is not sound a reset shuts a cursor out too
loose_made : makes_all base loose (by.reset (pair 1 1) ∷ []) ≡ 1
unfolding makes makes_all calls.reset refusal
loose_made = refl

pub loose_shut : refusal (stale base (finally (cursor_step base) loose (by.reset (pair 1 1) ∷ [])) (cursor_at 1 1 0)) ≡ 3
loose_shut = never_again base loose (omega arith) (cursor_at 1 1 0) refl (by.reset (pair 1 1) ∷ []) (let z = loose_made in omega arith) (let z = loose_made in omega arith)

-- 2 ^ 64 resets let it pass again
small_start : start.head.stamp < 2 ^ 64
small_start = (let z = from_make.first in omega arith)

pub round_start : GoesRound base start (pair 1 1)
round_start = goes_round base (omega arith) (pair 1 1) (three 1 1 0 (omega arith) (omega arith) (omega arith)) refl refl start (made_row 5 (pair 3 3)) represents_start small_start

-- the last stamp is sound, and 0 comes after it
abbrev last : State
last = restamped 18446744073709551615 start

pub last_sound : Sound base last
last_sound = (any_stamp base 18446744073709551615 start).sound sound_start

pub round_at_once : (cursor_step base last (by.reset (pair 1 1))).after.head.stamp ≡ 0
unfolding cursor_step calls.reset calls.begun calls.make refusal lists.put_at node.words_of node.empty_slot flat_map
round_at_once = refl

-- and every kind of call by id is answered as before
pub same_last : SameById base 18446744073709551615 start example.calls
same_last = same_by_id base 18446744073709551615 start example.calls

pub row_last : Represents base (finally (tree_step base) last example.calls) (finally (row_step base) (made_row 5 (pair 3 3)) example.calls)
row_last = (same_row base (omega arith) 18446744073709551615 start (made_row 5 (pair 3 3)) represents_start example.calls example.in_words).1
