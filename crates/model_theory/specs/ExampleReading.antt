-- The premises of the agreement of the reading copy are met: two makes of fan 4 and limit 4 that aren't refused, and a list with every call of the
-- copy in it, some of them refused in both trees: by 4, 5 and 8, and by 6 for two lengths at once, the effect one among them. And the refusals that the
-- proviso leaves out exist.
use Rattle.std.specs.Prelude.{◌≡◌, refl, ◌≢◌, ◌⊎◌, true, false, ℕ, ◌*◌, ◌+◌, ◌≤◌, ◌<◌, replicate, Ok}
use Rattle.std.proofs.Common.{sym, subst, inl, inr, arith}
use mathlib.Core.List.{List, [], ◌∷◌, zip_with, map}
use Rattle.model.specs.Kind.{base, reading, stride}
use Rattle.model.specs.Lists.{All, sum_by, some, range, refusal}
use Rattle.model.specs.State.{State, shape}
use Rattle.model.specs.Row as row
use Rattle.model.specs.Row.{Row, Entry, Call, Answer, done, refused, no_entry, made_row, row_step}
use Rattle.model.specs.ById.{tree_step}
use Rattle.model.specs.Calls.{make}
use Rattle.model.specs.Sound.{entries_of}
use Rattle.model.specs.Promise.{Words, InWords, Represents, answers, finally}
use Rattle.model.specs.Reading.{Reads, effect_of, here, effect_part, Other, ProvidedOf, Provided, Agreement}
use Rattle.model_theory.specs.CallById.{step}
use Rattle.model_theory.specs.TopById.{made}
use Rattle.model_theory.specs.ExampleById.{three}
use Rattle.model_theory.specs.TopReading.{on_trees, words_here, agreement}

-- nodes of 3 + 2 × fan words
pub node_size : (fan limit : ℕ) → (shape (stride reading) fan limit).size ≡ 3 + fan * 2
node_size fan limit = refl

abbrev first : List ℕ
first = 3 ∷ 3 ∷ 0 ∷ []

-- two nodes of 19 words each there, of 11 here
abbrev full : State
full = (make base 4 4 first (replicate 38 7) (replicate 38 7) (replicate 4 7)).after

abbrev copy : State
copy = (make reading 4 4 (effect_of base first) (replicate 22 8) (replicate 22 8) (replicate 4 8)).after

made_full : (make base 4 4 first (replicate 38 7) (replicate 38 7) (replicate 4 7)).answer ≡ Ok tt
unfolding make refusal
made_full = refl

made_copy : (make reading 4 4 (effect_of base first) (replicate 22 8) (replicate 22 8) (replicate 4 8)).answer ≡ Ok tt
unfolding make refusal
made_copy = refl

first_words : Words base first
first_words = three 3 3 0 (omega arith) (omega arith) (omega arith)

agree : Agreement base full copy
agree = agreement base (omega arith) refl 4 4 first (replicate 38 7) (replicate 38 7) (replicate 4 7) (replicate 22 8) (replicate 22 8) (replicate 4 8) first_words made_full made_copy

abbrev calls : List Call
calls = row.insert no_entry (2 ∷ 0 ∷ 1 ∷ []) ∷ row.insert 0 (0 ∷ 5 ∷ 3 ∷ []) ∷ row.split true 0 (1 ∷ 1 ∷ 0 ∷ []) ∷ row.insert no_entry (1 ∷ 1 ∷ 0 ∷ []) ∷ row.split false 2 (1 ∷ 6 ∷ 0 ∷ [])
    ∷ row.set_lengths 1 (4 ∷ 2 ∷ 2 ∷ []) ∷ row.set_lengths 9 (4 ∷ 0 ∷ 2 ∷ []) ∷ row.lookup 1 6 ∷ row.lookup 1 99 ∷ row.rank 1 1 ∷ row.next 1 ∷ row.compare 0 1 ∷ row.reset (1 ∷ 1 ∷ 1 ∷ []) ∷ []

in_words : All (InWords base) calls
unfolding All
in_words = (
  (omega arith, three 2 0 1 (omega arith) (omega arith) (omega arith)),
  (
    (omega arith, three 0 5 3 (omega arith) (omega arith) (omega arith)),
    (
      (omega arith, three 1 1 0 (omega arith) (omega arith) (omega arith)),
      (
        (omega arith, three 1 1 0 (omega arith) (omega arith) (omega arith)),
        (
          (omega arith, three 1 6 0 (omega arith) (omega arith) (omega arith)),
          (
            (omega arith, three 4 2 2 (omega arith) (omega arith) (omega arith)),
            (
              (omega arith, three 4 0 2 (omega arith) (omega arith) (omega arith)),
              (
                (omega arith, omega arith),
                ((omega arith, omega arith), ((omega arith, omega arith), (omega arith, ((omega arith, omega arith), (three 1 1 1 (omega arith) (omega arith) (omega arith), tt))))),
              ),
            ),
          ),
        ),
      ),
    ),
  ),
)

reads : All (Reads base) calls
unfolding All
reads = (tt, (tt, (tt, (tt, (tt, (tt, (tt, (refl, (refl, (refl, (tt, (tt, (tt, tt)))))))))))))

-- a number of which the proviso doesn't speak, and one that isn't 17
quiet : {P : Type 0} (n m : ℕ) → n ≡ m → (m < 6) ⊎ (m ≡ 8) → ((n ≡ 10) ⊎ (((n ≡ 6) ⊎ (n ≡ 7)) × P)) → ⊥
quiet n m e (inl lt) (inl t) = omega arith
quiet n m e (inl lt) (inr (inl t, f)) = omega arith
quiet n m e (inl lt) (inr (inr t, f)) = omega arith
quiet n m e (inr q) (inl t) = omega arith
quiet n m e (inr q) (inr (inl t, f)) = omega arith
quiet n m e (inr q) (inr (inr t, f)) = omega arith

other_than : (n m : ℕ) → n ≡ m → m < 17 → n ≢ 17
other_than n m e lt q = omega arith

-- 6 for the effect length too
both_lengths : {P : Type 0} (n : ℕ) → n ≡ 6 → ((n ≡ 10) ⊎ (((n ≡ 6) ⊎ (n ≡ 7)) × P)) → P
both_lengths n e (inl t) = absurd (omega arith)
both_lengths n e (inr (p, f)) = f

provided_rows : ProvidedOf base (row_step base) (λ (r : Row). r.entries) (row_step reading) (made_row 4 first) (made_row 4 (effect_of base first)) calls
unfolding ProvidedOf row.row_move row_step row.before row.from row.divided row.found row.ordered row.unless sum_by some range refusal zip_with
provided_rows = (
  quiet _ 0 refl (inl (omega arith)),
  other_than _ 0 refl (omega arith),
  (
    quiet _ 0 refl (inl (omega arith)),
    other_than _ 0 refl (omega arith),
    (
      quiet _ 0 refl (inl (omega arith)),
      other_than _ 0 refl (omega arith),
      (
        quiet _ 8 refl (inr refl),
        other_than _ 8 refl (omega arith),
        (
          (λ o. let z : 6 ≤ 5 = both_lengths _ refl o in omega arith),
          other_than _ 6 refl (omega arith),
          (
            quiet _ 0 refl (inl (omega arith)),
            other_than _ 0 refl (omega arith),
            (
              quiet _ 4 refl (inl (omega arith)),
              other_than _ 4 refl (omega arith),
              (
                quiet _ 0 refl (inl (omega arith)),
                other_than _ 0 refl (omega arith),
                (
                  quiet _ 5 refl (inl (omega arith)),
                  other_than _ 5 refl (omega arith),
                  (
                    quiet _ 0 refl (inl (omega arith)),
                    other_than _ 0 refl (omega arith),
                    (
                      quiet _ 0 refl (inl (omega arith)),
                      other_than _ 0 refl (omega arith),
                      (
                        quiet _ 0 refl (inl (omega arith)),
                        other_than _ 0 refl (omega arith),
                        (quiet _ 0 refl (inl (omega arith)), other_than _ 0 refl (omega arith), tt),
                      ),
                    ),
                  ),
                ),
              ),
            ),
          ),
        ),
      ),
    ),
  ),
)

represents_full : Represents base full (made_row 4 first)
represents_full = made base (omega arith) 4 4 first (replicate 38 7) (replicate 38 7) (replicate 4 7) first_words made_full

provided : Provided base full copy calls
provided = on_trees base (omega arith) refl full copy (made_row 4 first) (made_row 4 (effect_of base first)) represents_full
    (made reading (omega arith) 4 4 (effect_of base first) (replicate 22 8) (replicate 22 8) (replicate 4 8) (words_here base (omega arith) refl first first_words) made_copy)
    calls in_words reads provided_rows

pub agreed : map effect_part (answers (tree_step reading) copy (map (here base) calls)) ≡ map effect_part (answers (tree_step base) full calls)
agreed = agree.agrees calls in_words reads provided

-- what they are
pub agreed_are : map effect_part (answers (row_step reading) (made_row 4 (effect_of base first)) (map (here base) calls))
    ≡ done (1 ∷ 3 ∷ []) ∷ done (2 ∷ 0 ∷ []) ∷ done (3 ∷ []) ∷ refused 8 ∷ refused 6 ∷ done [] ∷ refused 4 ∷ done (0 ∷ 0 ∷ 6 ∷ []) ∷ refused 5 ∷ done (8 ∷ []) ∷ done (no_entry ∷ []) ∷ done (0 ∷ [])
    ∷ done [] ∷ []
unfolding answers row.row_move row_step row.before row.from row.divided row.found row.ordered row.unless sum_by some range refusal zip_with
agreed_are = refl

-- refused there alone, for a prepare length, by 7 and by 6, and for line ends by 10; and here alone by 17, where only other lengths are moved
pub left_out : (answers (row_step base) (made_row 4 first) (row.insert no_entry (4294967295 ∷ 1 ∷ 0 ∷ []) ∷ row.split true 0 (4 ∷ 1 ∷ 0 ∷ []) ∷ row.set_lengths 0 (1 ∷ 3 ∷ 65536 ∷ [])
    ∷ row.split true 0 (1 ∷ 0 ∷ 0 ∷ []) ∷ [])
    ≡ refused 7 ∷ refused 6 ∷ refused 10 ∷ done (1 ∷ []) ∷ [])
    × (answers (row_step reading) (made_row 4 (effect_of base first)) (row.split true 0 (0 ∷ []) ∷ row.set_lengths 0 (3 ∷ []) ∷ row.split true 0 (1 ∷ []) ∷ row.insert no_entry (1 ∷ []) ∷ [])
    ≡ refused 17 ∷ done [] ∷ done (1 ∷ []) ∷ done (2 ∷ 3 ∷ []) ∷ [])
unfolding answers row.row_move row_step row.before row.from row.divided row.unless sum_by some range refusal zip_with
left_out = (refl, refl)

abbrev large : Call
large = row.insert no_entry (4294967295 ∷ 1 ∷ 0 ∷ [])

large_in : InWords base large
large_in = (omega arith, three 4294967295 1 0 (omega arith) (omega arith) (omega arith))

large_other : Other base (entries_of base full) large (tree_step base full large).answer.number
unfolding row.row_move row_step row.before row.from row.unless sum_by some range refusal
large_other =
    subst (λ (es : List Entry). Other base es large (tree_step base full large).answer.number) (sym represents_full.entries)
    (subst (λ (a : Answer). Other base (made_row 4 first).entries large a.number) (sym (step base (omega arith) full (made_row 4 first) represents_full large large_in).same)
    (inr (inr refl, omega arith)))

-- the first of these is shut out rightly: here the same call gets another number
pub large_differs : (tree_step reading copy (here base large)).answer.number ≢ (tree_step base full large).answer.number
unfolding finally All ProvidedOf
large_differs = agree.weakest [] tt tt tt large large_in tt large_other
