-- The premises of the theorems are met: a make of fan 4 and limit 5 that isn't refused, a list of calls in words with every kind in it,
-- two lists alike but for lookups, a split that is answered, and a cursor at an entry; and a lookup on a tree that is not sound.
use Rattle.std.specs.Prelude.{◌≡◌, refl, true, ℕ, ◌+◌, ◌*◌, ◌≤◌, ◌<◌, replicate, Ok, None, false}
use Rattle.std.proofs.Common.{ap, inr, arith}
use mathlib.Core.List.{List, [], ◌∷◌, ◌++◌, flat_map, zip_with}
use Rattle.model.specs.Kind.{base}
use Rattle.model.specs.Lists.{part, put_at, sum_by, some, range, All, refusal}
use Rattle.model.specs.Node.{none, node_of, words_of, empty_slot, slots_from, find_from}
use Rattle.model.specs.State.{State, state, head_of}
use Rattle.model.specs.Row as row
use Rattle.model.specs.Row.{Row, Call, Answer, refused, moved, no_entry, made_row, row_step}
use Rattle.model.specs.Locate.{descend, from_root}
use Rattle.model.specs.Refuse.{opening}
use Rattle.model.specs.ById.{tree_move, tree_step}
use Rattle.model.specs.Sound.{Sound}
use Rattle.model.specs.Calls.{begun, make, cursor, locate}
use Rattle.model.specs.Audit as check
use Rattle.model.specs.Audit.{audit}
use Rattle.model.specs.Print.{PrintsRow}
use Rattle.model.specs.Promise.{Words, InWords, Represents, NotHollow, Parts, answers, finally, others, other_answers, StandsAt}
use Rattle.model_theory.specs.CallById.{step}
use Rattle.model_theory.specs.RowSeven.{Passes, wanted, seven}
use Rattle.model_theory.specs.RowHollow.{hollow_yes}
use Rattle.model_theory.specs.TopById.{whole, alike}
use Rattle.model_theory.specs.CallPrint.{prints_row}
use Rattle.model_theory.specs.AuditExactly.{audit_exactly}
use Rattle.model_theory.specs.AuditCost.{steps, audit_steps}
use Rattle.model_theory.specs.CursorAnswered.{cursor_at_law}

-- lengths without line ends
abbrev pub pair : ℕ → ℕ → List ℕ
pair p e = p ∷ e ∷ 0 ∷ []

abbrev pub area_words : List ℕ
area_words = replicate 38 7

abbrev pub start : State
start = (make base 4 5 (pair 3 3) area_words area_words (replicate 5 7)).after

pub made : (make base 4 5 (pair 3 3) area_words area_words (replicate 5 7)).answer ≡ Ok tt
unfolding make refusal
made = refl

pub first_words : Words base (pair 3 3)
unfolding All
first_words = record { long = refl; small = omega arith }

-- three words
pub three : (p e n : ℕ) → p < 4294967296 → e < 4294967296 → n < 4294967296 → Words base (p ∷ e ∷ n ∷ [])
unfolding All
three p e n a b c = record { long = refl; small = (a, (b, (c, tt))) }

-- every kind of call, two of them with too many line ends
abbrev pub calls : List Call
calls = row.insert no_entry (pair 2 0) ∷ row.insert 0 (0 ∷ 5 ∷ 3 ∷ []) ∷ row.split true 0 (pair 1 1) ∷ row.set_lengths 1 (4 ∷ 0 ∷ 65535 ∷ []) ∷ row.update 1 (pair 2 0) ∷ row.lookup 0 3
    ∷ row.lookup 2 2 ∷ row.rank 2 1 ∷ row.next 1 ∷ row.compare 0 1 ∷ row.lengths 0 ∷ row.count ∷ row.first
    ∷ row.malformed ∷ row.update 9 (2 ∷ 0 ∷ 65536 ∷ []) ∷ row.reset (1 ∷ 1 ∷ 65536 ∷ []) ∷ row.reset (pair 1 1) ∷ []

-- the same, looked up elsewhere
abbrev calls' : List Call
calls' = row.lookup 1 9 ∷ row.insert no_entry (pair 2 0) ∷ row.insert 0 (0 ∷ 5 ∷ 3 ∷ []) ∷ row.split true 0 (pair 1 1) ∷ row.set_lengths 1 (4 ∷ 0 ∷ 65535 ∷ []) ∷ row.update 1 (pair 2 0)
    ∷ row.rank 2 1 ∷ row.next 1 ∷ row.compare 0 1 ∷ row.lengths 0 ∷ row.count ∷ row.first ∷ row.malformed
    ∷ row.update 9 (2 ∷ 0 ∷ 65536 ∷ []) ∷ row.reset (1 ∷ 1 ∷ 65536 ∷ []) ∷ row.reset (pair 1 1) ∷ []

pub in_words : All (InWords base) calls
unfolding All
in_words = ((omega arith, three 2 0 0 (omega arith) (omega arith) (omega arith)), ((omega arith, three 0 5 3 (omega arith) (omega arith) (omega arith)), ((omega arith, three 1 1 0 (omega arith) (omega arith) (omega arith)), ((omega arith, three 4 0 65535 (omega arith) (omega arith) (omega arith)), ((omega arith, three 2 0 0 (omega arith) (omega arith) (omega arith)), ((omega arith, omega arith), ((omega arith, omega arith), ((omega arith, omega arith), (omega arith, ((omega arith, omega arith), (omega arith, (tt, (tt, (tt, ((omega arith, three 2 0 65536 (omega arith) (omega arith) (omega arith)), (three 1 1 65536 (omega arith) (omega arith) (omega arith), (three 1 1 0 (omega arith) (omega arith) (omega arith), tt)))))))))))))))))

in_words' : All (InWords base) calls'
unfolding All
in_words' = ((omega arith, omega arith), ((omega arith, three 2 0 0 (omega arith) (omega arith) (omega arith)), ((omega arith, three 0 5 3 (omega arith) (omega arith) (omega arith)), ((omega arith, three 1 1 0 (omega arith) (omega arith) (omega arith)), ((omega arith, three 4 0 65535 (omega arith) (omega arith) (omega arith)), ((omega arith, three 2 0 0 (omega arith) (omega arith) (omega arith)), ((omega arith, omega arith), (omega arith, ((omega arith, omega arith), (omega arith, (tt, (tt, (tt, ((omega arith, three 2 0 65536 (omega arith) (omega arith) (omega arith)), (three 1 1 65536 (omega arith) (omega arith) (omega arith), (three 1 1 0 (omega arith) (omega arith) (omega arith), tt))))))))))))))))

-- both lists get the row's answers, and their other calls the same ones
pub answered : answers (tree_step base) start calls ≡ answers (row_step base) (made_row 5 (pair 3 3)) calls
answered = (whole base (omega arith) 4 5 (pair 3 3) area_words area_words (replicate 5 7) first_words made calls in_words).0

same_others : others calls ≡ others calls'
unfolding others
same_others = refl

pub answered_alike : other_answers (tree_step base) start calls ≡ other_answers (tree_step base) start calls'
answered_alike = alike base (omega arith) 5 (pair 3 3) first_words 4 area_words area_words (replicate 5 7) made 4 area_words area_words (replicate 5 7) made calls calls' in_words in_words' same_others

-- and on the tree that the list leaves, print writes the sheet of the row
pub printed : (page : List ℕ) → PrintsRow base (finally (tree_step base) start calls) (finally (row_step base) (made_row 5 (pair 3 3)) calls) page
printed page =
    let k = (whole base (omega arith) 4 5 (pair 3 3) area_words area_words (replicate 5 7) first_words made calls in_words).1 in
    prints_row base (omega arith) _ _ (record { sound = k.sound; entries = k.entries; limit = k.limit }) page

-- the tree that make leaves is sound, and audit says so
pub sound_start : Sound base start
unfolding finally All
sound_start = (whole base (omega arith) 4 5 (pair 3 3) area_words area_words (replicate 5 7) first_words made [] tt).1.sound

pub audited_start : audit base start ≡ Ok true
audited_start = (audit_exactly base start).1 sound_start

-- 65,535 line ends in a leaf slot are sound, one more is not
abbrev lined : ℕ → State
lined n = begun base 4 5 1 (3 ∷ 3 ∷ n ∷ []) area_words area_words (replicate 5 7)

pub audited_lines : (audit base (lined 65535) ≡ Ok true) × (audit base (lined 65536) ≡ Ok false)
unfolding begun refusal part put_at sum_by range node_of slots_from words_of empty_slot flat_map check.every check.depth check.is_filled check.is_held check.is_child check.is_inner check.is_entry check.is_leaf check.is_sound audit
audited_lines = (refl, refl)

-- where an insertion answers 7, it isn't for its line ends
abbrev large : Call
large = row.insert no_entry (4294967293 ∷ 0 ∷ 65535 ∷ [])

pub represents_start : Represents base start (made_row 5 (pair 3 3))
unfolding finally All
represents_start = let k = (whole base (omega arith) 4 5 (pair 3 3) area_words area_words (replicate 5 7) first_words made [] tt).1 in record { sound = k.sound; entries = k.entries; limit = k.limit }

large_in : InWords base large
large_in = (omega arith, three 4294967293 0 65535 (omega arith) (omega arith) (omega arith))

large_refused : (tree_step base start large).answer.number ≡ 7
unfolding row.row_move row_step row.before row.from row.unless sum_by some range refusal
large_refused = ap (λ (a : Answer). a.number) (step base (omega arith) start (made_row 5 (pair 3 3)) represents_start large large_in).same

pub large_passes : Passes (wanted (made_row 5 (pair 3 3)) large)
large_passes = seven start (made_row 5 (pair 3 3)) represents_start large large_in large_refused

-- P9's split is answered on the row that make leaves, and neither part is hollow; the same with all that the entry has is refused by 17
abbrev made_here : Row
made_here = made_row 5 (pair 3 3)

pub parts_start : (l : List ℕ) → Parts base made_here true 0 l
unfolding finally All
parts_start = (whole base (omega arith) 4 5 (pair 3 3) area_words area_words (replicate 5 7) first_words made [] tt).1.parts true 0

pub parts_filled : (let es = (row_step base made_here (row.split true 0 (pair 1 1))).after.entries in NotHollow base (row.lengths_of 1 es) × NotHollow base (row.lengths_of 0 es))
unfolding row.row_move row_step row.from row.unless some range refusal zip_with
parts_filled = ((parts_start (pair 1 1)).made refl, (parts_start (pair 1 1)).left refl)

pub all_hollow : (row_step base made_here (row.split true 0 (pair 3 3))).answer.number ≡ 17
unfolding row.from some range refusal zip_with
all_hollow = (parts_start (pair 3 3)).exactly refl (inr (hollow_yes base (pair 0 0) refl))

-- one leaf, one inner node, fan 4 and one level
pub steps_start : steps base start ≤ 23 * (2 * 4 * 1) + 3 * 4
unfolding make begun refusal
steps_start = audit_steps base start (omega arith) (omega arith) (omega arith) (omega arith)

-- and its entry has a cursor, at which next and split_entry can start
pub cursor_start : StandsAt base start (cursor base start 0) 0
unfolding make begun refusal
cursor_start = cursor_at_law base (omega arith) start sound_start.coherent 0 (omega arith)

-- a root that leads to leaf 1, which is not in use: 9, and no finger is set
abbrev pub loose : State
loose = state (head_of 4 5 0 1 1 1 1 1 None) (replicate 19 7 ++ 1 ∷ 0 ∷ 0 ∷ 0 ∷ 3 ∷ 3 ∷ 0 ∷ replicate 12 7) (1 ∷ none ∷ 0 ∷ 1 ∷ 3 ∷ 3 ∷ 0 ∷ replicate 31 7) (replicate 5 0)

pub not_followed : tree_step base loose (row.lookup 0 0) ≡ moved loose (refused 9)
unfolding tree_move tree_step locate opening refusal from_root descend node_of slots_from part find_from
not_followed = refl
