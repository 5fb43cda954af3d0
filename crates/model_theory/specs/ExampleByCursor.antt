-- The premises of the list theorem's cursor form are met by a list on cursors good and bad; what its calls mean and what they answer is computed.
use Rattle.std.specs.Prelude.{◌≡◌, refl, true, replicate, None}
use Rattle.std.proofs.Common.{ap, arith}
use mathlib.Core.List.{List, [], ◌∷◌, flat_map, zip_with}
use Rattle.model.specs.Kind.{base}
use Rattle.model.specs.Lists as lists
use Rattle.model.specs.Lists.{All}
use Rattle.model.specs.Node as node
use Rattle.model.specs.Row as row
use Rattle.model.specs.Row.{done, refused, no_entry, made_row}
use Rattle.model.specs.Climb as climb
use Rattle.model.specs.Locate as locate
use Rattle.model.specs.Place as place
use Rattle.model.specs.Refuse as refuse
use Rattle.model.specs.Calls as calls
use Rattle.model.specs.Calls.{cursor_at}
use Rattle.model.specs.ByCursor as by
use Rattle.model.specs.ByCursor.{CursorCall, cursor_step, entry_step, meant, meant_all}
use Rattle.model.specs.Promise.{CursorInWords, answers}
use Rattle.model_theory.specs.TopByCursor.{demand3_by_cursor}
use Rattle.model_theory.specs.ExampleById.{pair, area_words, start, made, first_words, three}

-- an insert makes a cursor stale whose slot still holds its entry (3); a leaf not in use (13); a slot at its leaf's len (14); the cursors of a split
-- used at once; of two bad cursors the first decides; too many line ends, whatever the cursor (10)
abbrev cursor_calls : List CursorCall
cursor_calls = by.next (cursor_at 1 0 0) ∷ by.insert None (pair 2 0) ∷ by.id (cursor_at 1 0 0) ∷ by.lengths (cursor_at 2 1 0) ∷ by.rank 1 (cursor_at 2 0 2)
    ∷ by.split true (cursor_at 2 0 0) (pair 1 1) ∷ by.compare (cursor_at 3 0 1) (cursor_at 3 0 0) ∷ by.lengths (cursor_at 3 0 1) ∷ by.compare (cursor_at 3 0 3) (cursor_at 3 1 0)
    ∷ by.compare (cursor_at 3 0 0) (cursor_at 3 1 3) ∷ by.select 0 1 ∷ by.first ∷ by.set_lengths (cursor_at 1 0 0) (1 ∷ 1 ∷ 65536 ∷ []) ∷ by.set_lengths (cursor_at 1 0 0) (1 ∷ 1 ∷ 65535 ∷ []) ∷ []

cursors_in_words : All (CursorInWords base) cursor_calls
unfolding All
cursors_in_words = (tt, (three 2 0 0 (omega arith) (omega arith) (omega arith), (tt, (tt, (omega arith, (three 1 1 0 (omega arith) (omega arith) (omega arith), (tt, (tt, (tt, (tt, ((omega arith, omega arith), (tt, (three 1 1 65536 (omega arith) (omega arith) (omega arith), (three 1 1 65535 (omega arith) (omega arith) (omega arith), tt))))))))))))))

pub cursors_answered : answers (cursor_step base) start cursor_calls ≡ answers (entry_step base) (made_row 5 (pair 3 3)) (meant_all base start cursor_calls)
cursors_answered = (demand3_by_cursor base (omega arith) 4 5 (pair 3 3) area_words area_words (replicate 5 7) first_words made).answered cursor_calls cursors_in_words

-- what these calls mean, and what they answer
pub cursors_mean : meant_all base start cursor_calls
    ≡ by.plain (row.next 0) ∷ by.plain (row.insert no_entry (pair 2 0)) ∷ by.failed 3 ∷ by.failed 13 ∷ by.failed 14 ∷ by.parts true 0 (pair 1 1) ∷ by.plain (row.compare 0 2)
    ∷ by.plain (row.lengths 0) ∷ by.failed 14 ∷ by.failed 13 ∷ by.select 0 1 ∷ by.plain row.first ∷ by.plain (row.set_lengths 2 (1 ∷ 1 ∷ 65536 ∷ [])) ∷ by.failed 3 ∷ []
unfolding meant_all meant by.standing by.standing_for cursor_step
    lists.part lists.put_at lists.sum_by lists.some lists.range lists.refusal flat_map zip_with
    node.slots_from node.node_of node.words_of node.empty_slot node.plus node.minus node.totals_from node.find_from node.inserted node.child_split
    climb.rank_up climb.climb_up climb.first_down climb.last_down climb.next_up
    locate.descend locate.from_root
    place.make_room place.enter place.place place.divide place.climb
    refuse.opening
    calls.make calls.begun calls.insert_by calls.split_by calls.set_lengths calls.locate calls.char_index_to_entry
cursors_mean = refl

pub cursors_are : answers (entry_step base) (made_row 5 (pair 3 3)) (meant_all base start cursor_calls)
    ≡ done (no_entry ∷ []) ∷ done (1 ∷ 3 ∷ []) ∷ refused 3 ∷ refused 13 ∷ refused 14 ∷ done (2 ∷ 2 ∷ 0 ∷ []) ∷ done (2 ∷ []) ∷ done (2 ∷ 2 ∷ 0 ∷ []) ∷ refused 14 ∷ refused 13
    ∷ done (0 ∷ 0 ∷ []) ∷ done (2 ∷ []) ∷ refused 10 ∷ refused 3 ∷ []
unfolding answers entry_step row.row_move row.row_step row.before row.from row.divided row.found row.ordered row.unless lists.sum_by lists.some lists.range lists.refusal zip_with
cursors_are = ap (answers (entry_step base) (made_row 5 (pair 3 3))) cursors_mean
