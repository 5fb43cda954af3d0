-- The premises of the list theorem with seats are met by a tree of five entries with shares of 1 and 2: a seat below its share is served by the last free
-- entry, others are refused by 18 before; wrong seats are 10, and what the calls answer and charge is computed.
use Rattle.std.specs.Prelude.{◌≡◌, refl, true, false, ℕ, replicate, Ok, Some, None}
use mathlib.Core.List.{List, [], ◌∷◌, flat_map, map, zip_with}
use Rattle.std.proofs.Common.{arith}
use Rattle.model.specs.Kind.{base}
use Rattle.model.specs.Lists as lists
use Rattle.model.specs.Lists.{All}
use Rattle.model.specs.Node as node
use Rattle.model.specs.State.{State}
use Rattle.model.specs.Row as row
use Rattle.model.specs.Row.{Row, Call, done, refused, no_entry, made_row}
use Rattle.model.specs.Answer.{outcome_answer}
use Rattle.model.specs.Climb as climb
use Rattle.model.specs.Place as place
use Rattle.model.specs.Refuse as refuse
use Rattle.model.specs.Calls as calls
use Rattle.model.specs.Calls.{cursor_at}
use Rattle.model.specs.ByCursor as by
use Rattle.model.specs.ByCursor.{CursorCall}
use Rattle.model.specs.Promise.{answers, finally}
use Rattle.model.specs.Seats as seats
use Rattle.model.specs.Seats.{seats_of, no_charges, is_fair}
use Rattle.model.specs.SeatedCalls as changes
use Rattle.model.specs.SeatedCalls.{make_seated, audit_seated}
use Rattle.model.specs.SeatedList as list
use Rattle.model.specs.SeatedList.{Seated, seated, Naming, naming, seated_row, seated_tree, seated_cursor, seated_entry, seated_meant_all}
use Rattle.model.specs.SeatPromise.{NamingInWords, CursorNamingInWords, AlongSeats, SeatedDemand3}
use Rattle.model_theory.specs.ExampleById.{pair, area_words, first_words, three}
use Rattle.model_theory.specs.SeatRefused.{audit_seated_law}
use Rattle.model_theory.specs.TopSeats.{seated_lists}

-- seat 0 has a share of 1, seat 1 of 2
abbrev shares : List ℕ
shares = 1 ∷ 2 ∷ 0 ∷ 0 ∷ 0 ∷ 0 ∷ 0 ∷ 0 ∷ []

-- shares may sum to the limit less one; one more is 19, behind 2, which is behind 1
unfoldable pub make_number : ℕ → ℕ → ℕ → ℕ
make_number fan homes first = (outcome_answer (make_seated base fan 5 (first ∷ 2 ∷ 0 ∷ 0 ∷ 0 ∷ 0 ∷ 0 ∷ 0 ∷ []) (pair 3 3) area_words area_words (replicate homes 7)).answer).number

pub too_high_law : (map (make_number 4 5) (0 ∷ 2 ∷ 3 ∷ []) ≡ 0 ∷ 0 ∷ 19 ∷ []) × (make_number 4 4 3 ≡ 2) × (make_number 3 4 3 ≡ 1)
unfolding make_number make_seated lists.refusal seats.sum_from
too_high_law = (refl, refl, refl)

abbrev start_seated : Seated State
start_seated = let r = make_seated base 4 5 shares (pair 3 3) area_words area_words (replicate 5 7) in seated r.after r.seats

abbrev start_row : Seated Row
start_row = seated (made_row 5 (pair 3 3)) (seats_of true shares no_charges)

seated_given : (make_seated base 4 5 shares (pair 3 3) area_words area_words (replicate 5 7)).answer ≡ Ok tt
unfolding make_seated lists.refusal seats.sum_from
seated_given = refl

promised : SeatedDemand3 base 4 start_seated start_row
promised = (seated_lists base (omega arith)).shared 4 5 shares (pair 3 3) area_words area_words (replicate 5 7) first_words seated_given

-- seat 0 takes its share and, while three are free and two are seat 1's, one more; then it and seat 2 are over the rules. Seat 1 takes its two, the last
-- by the last free entry, and is then over the rules too. A refused call charges nobody, and a reset starts again
abbrev seated_calls : List (Naming Call)
seated_calls = naming (Some 0) (row.insert no_entry (pair 2 0)) ∷ naming (Some 0) (row.insert 0 (pair 1 1)) ∷ naming (Some 0) (row.insert 0 (pair 1 1))
    ∷ naming (Some 8) (row.insert 9 (pair 1 1)) ∷ naming None (row.split true 0 (pair 1 1)) ∷ naming (Some 1) (row.insert 9 (pair 1 1)) ∷ naming (Some 1) (row.split true 0 (pair 1 1))
    ∷ naming (Some 2) (row.insert no_entry (pair 1 1)) ∷ naming None row.count ∷ naming (Some 1) (row.insert no_entry (pair 1 1)) ∷ naming (Some 1) (row.split true 0 (pair 1 1)) ∷ []

abbrev again : List (Naming Call)
again = naming None (row.reset (pair 3 3)) ∷ naming (Some 0) (row.insert no_entry (pair 2 0)) ∷ []

in_words : All (NamingInWords base) seated_calls
unfolding All
in_words = ((omega arith, three 2 0 0 (omega arith) (omega arith) (omega arith)), ((omega arith, three 1 1 0 (omega arith) (omega arith) (omega arith)), ((omega arith, three 1 1 0 (omega arith) (omega arith) (omega arith)), ((omega arith, three 1 1 0 (omega arith) (omega arith) (omega arith)), ((omega arith, three 1 1 0 (omega arith) (omega arith) (omega arith)), ((omega arith, three 1 1 0 (omega arith) (omega arith) (omega arith)), ((omega arith, three 1 1 0 (omega arith) (omega arith) (omega arith)), ((omega arith, three 1 1 0 (omega arith) (omega arith) (omega arith)), (tt, ((omega arith, three 1 1 0 (omega arith) (omega arith) (omega arith)), ((omega arith, three 1 1 0 (omega arith) (omega arith) (omega arith)), tt)))))))))))

again_in_words : All (NamingInWords base) again
unfolding All
again_in_words = (three 3 3 0 (omega arith) (omega arith) (omega arith), ((omega arith, three 2 0 0 (omega arith) (omega arith) (omega arith)), tt))

pub seated_answered : answers (seated_tree base) start_seated seated_calls ≡ answers (seated_row base) start_row seated_calls
seated_answered = promised.answered seated_calls in_words

-- what they answer, and what is charged in the end and after a reset
pub seated_are : answers (seated_row base) start_row seated_calls
    ≡ done (1 ∷ 3 ∷ []) ∷ done (2 ∷ 0 ∷ []) ∷ refused 18 ∷ refused 10 ∷ refused 10 ∷ refused 4 ∷ done (3 ∷ []) ∷ refused 18 ∷ done (4 ∷ []) ∷ done (4 ∷ 4 ∷ []) ∷ refused 18 ∷ []
unfolding answers seated_row list.seated_row_move row.row_move row.before row.from row.divided row.unless lists.sum_by lists.some lists.range lists.refusal zip_with seats.sum_from
seated_are = refl

pub seated_charges : ((finally (seated_row base) start_row seated_calls).seats.charges ≡ 2 ∷ 2 ∷ 0 ∷ 0 ∷ 0 ∷ 0 ∷ 0 ∷ 0 ∷ [])
    × ((finally (seated_row base) (finally (seated_row base) start_row seated_calls) again).seats.charges ≡ 1 ∷ 0 ∷ 0 ∷ 0 ∷ 0 ∷ 0 ∷ 0 ∷ 0 ∷ [])
unfolding finally seated_row list.seated_row_move row.row_move row.before row.from row.divided row.unless lists.sum_by lists.some lists.range lists.refusal zip_with seats.sum_from
seated_charges = (refl, refl)

-- on cursors: a wrong seat is 10 even with a bad cursor (3); seat 0 takes two, and is then over the rules
abbrev cursor_calls : List (Naming CursorCall)
cursor_calls = naming (Some 9) (by.insert (Some (cursor_at 7 0 0)) (pair 1 1)) ∷ naming (Some 0) (by.insert (Some (cursor_at 7 0 0)) (pair 1 1))
    ∷ naming (Some 0) (by.insert (Some (cursor_at 1 0 0)) (pair 2 0)) ∷ naming (Some 0) (by.split false (cursor_at 2 0 1) (pair 1 1)) ∷ naming (Some 0) (by.insert None (pair 1 1))
    ∷ naming None (by.id (cursor_at 3 0 2)) ∷ []

cursors_in_words : All (CursorNamingInWords base) cursor_calls
unfolding All
cursors_in_words = (three 1 1 0 (omega arith) (omega arith) (omega arith), (three 1 1 0 (omega arith) (omega arith) (omega arith), (three 2 0 0 (omega arith) (omega arith) (omega arith), (three 1 1 0 (omega arith) (omega arith) (omega arith), (three 1 1 0 (omega arith) (omega arith) (omega arith), (tt, tt))))))

pub cursors_answered : answers (seated_cursor base) start_seated cursor_calls ≡ answers (seated_entry base) start_row (seated_meant_all base start_seated cursor_calls)
cursors_answered = promised.by_cursor cursor_calls cursors_in_words

pub cursors_mean : map (λ c. c.call) (seated_meant_all base start_seated cursor_calls)
    ≡ by.failed 10 ∷ by.failed 3 ∷ by.plain (row.insert 0 (pair 2 0)) ∷ by.parts false 0 (pair 1 1) ∷ by.plain (row.insert no_entry (pair 1 1)) ∷ by.self 2 ∷ []
unfolding seated_meant_all list.seated_meant by.meant by.standing by.standing_for seated_cursor list.seated_cursor_move by.cursor_step
    lists.part lists.put_at lists.sum_by lists.some lists.range lists.refusal flat_map zip_with seats.sum_from
    node.slots_from node.node_of node.words_of node.empty_slot node.plus node.minus node.totals_from node.find_from node.inserted node.child_split
    climb.rank_up climb.climb_up climb.last_down
    place.make_room place.enter place.place place.divide place.climb
    refuse.opening
    calls.begun calls.insert_by calls.split_by make_seated changes.insert_seated changes.split_seated
cursors_mean = refl

-- the tree that make leaves is sound, seats and all
pub audited : audit_seated base start_seated.of start_seated.seats ≡ Ok true
unfolding AlongSeats All
audited = (audit_seated_law base start_seated).1 (promised.each [] tt).sound

-- one entry charged that isn't there, or a share that the free entries don't cover: not fair
pub unfair : (is_fair 5 1 (seats_of true shares no_charges) ≡ true) × (is_fair 5 1 (seats_of true shares (1 ∷ 0 ∷ 0 ∷ 0 ∷ 0 ∷ 0 ∷ 0 ∷ 0 ∷ [])) ≡ false)
    × (is_fair 5 4 (seats_of true shares (0 ∷ 0 ∷ 3 ∷ 0 ∷ 0 ∷ 0 ∷ 0 ∷ 0 ∷ [])) ≡ false) × (is_fair 3 1 (seats_of true shares no_charges) ≡ false) × (is_fair 3 1 (seats_of false shares no_charges) ≡ true)
unfolding is_fair seats.sum_from
unfair = (refl, refl, refl, refl, refl)
