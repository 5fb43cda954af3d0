-- Files that meet the premises of what is promised: one of five edits with the lists of two differences, two whose record 1 is bad, and every number of a
-- refusal. Assumes nothing.
use Rattle.std.specs.Prelude.{◌≡◌, refl, ℕ, length, take, replicate, Ok, Err}
use Rattle.std.proofs.Common.{subst, arith, leb-true}
use mathlib.Core.List.{List, [], ◌∷◌, ◌++◌, flat_map}
use Rattle.std.proofs.lemmas.Bool.{eqb-false}
use Rattle.model.specs.Lists.{range, refusal}
use Rattle.model.specs.Record.{bytes_of}
use Rattle.calls_edits.specs.Edits.{none, third, by_right, within, picked, beyond, causes_of, record_causes, records_causes, check, difference}
use Rattle.calls_edits.specs.Promised.{Good, GoodBefore, Listed}
use Rattle.calls_edits.specs.Causes.{none_good}
use Rattle.calls_edits.specs.Answered.{checks, differs}

-- a record of two parents
abbrev edit : ℕ → ℕ → List ℕ
edit p q = bytes_of p ++ (bytes_of q ++ replicate 8 0)

-- 0 rests on nothing else, 1 and 2 on 0, 3 on both, and 4 on 1: of 2 the two parents are equal
abbrev pub file : List ℕ
file = edit none none ++ (edit 0 none ++ (edit 0 0 ++ (edit 1 2 ++ edit none 1)))

abbrev pub area : List ℕ
area = replicate 513 7

pub is_accepted : check file ≡ Ok tt
unfolding check refusal records_causes record_causes causes_of range flat_map
is_accepted = refl

-- what 3 rests on and 4 doesn't
pub its_list : beyond file 3 4 ≡ 2 ∷ 3 ∷ []
unfolding beyond picked range within
its_list = refl

pub its_reply : (difference file area 3 4).0 ≡ Ok 2
unfolding difference refusal records_causes record_causes causes_of range flat_map beyond picked within
its_reply = refl

-- so the promise speaks of it
pub its_promise : Listed file area 3 4 2 (difference file area 3 4).1
its_promise = (differs file area 3 4).listed 2 its_reply

-- what 4 rests on and 3 doesn't: itself alone
pub the_other_way : beyond file 4 3 ≡ 4 ∷ []
unfolding beyond picked range within
the_other_way = refl

-- two files whose record 1 is the first bad one: its rest isn't zero; it is a parent of itself
abbrev pub bad : List ℕ
bad = edit none none ++ (bytes_of 1 ++ replicate 12 1)

abbrev pub own : List ℕ
own = edit none none ++ edit none 1

good_before : (two : List ℕ) → length two ≡ 32 → refusal (record_causes two 0) ≡ 0 → GoodBefore two 1
good_before two l g = record {
  whole = omega (arith, l);
  few = omega (arith, l);
  inside = omega (arith, l);
  before = λ k h. let z : 0 ≡ k = omega (arith, h) in subst (λ (x : ℕ). Good two x) z (none_good two 0 g);
}

pub its_ten : check bad ≡ Err 10
unfolding refusal record_causes causes_of
its_ten = (checks bad).rest 1 (good_before bad refl refl) (λ z _. eqb-false (third bad 1) 0 refl z)

pub its_fifteen : check own ≡ Err 15
unfolding refusal record_causes causes_of
its_fifteen = (checks own).late 1 1 (good_before own refl refl) refl refl (by_right refl (λ z. omega (arith, z))) (omega arith)

-- a difference of theirs is refused by the same numbers, whichever edits are asked for
pub same_ten : (a b : ℕ) → difference bad area a b ≡ (Err 10, area)
same_ten a b = (differs bad area a b).same (leb-true 512 (length area) refl) 10 its_ten

pub same_fifteen : (a b : ℕ) → difference own area a b ≡ (Err 15, area)
same_fifteen a b = (differs own area a b).same (leb-true 512 (length area) refl) 15 its_fifteen

-- refusals, in order
pub refused : (check (take 79 file) ≡ Err 11) × (check (replicate 8208 1) ≡ Err 16)
    × (check bad ≡ Err 10) × (check (edit none none ++ (edit none 1 ++ replicate 16 1)) ≡ Err 15)
unfolding check refusal records_causes record_causes causes_of range flat_map
refused = (refl, refl, refl, refl)

pub not_listed : ((difference (take 79 file) [] 5 5).0 ≡ Err 11) × ((difference (replicate 8208 1) (replicate 511 7) 5 5).0 ≡ Err 12)
    × ((difference (replicate 8208 1) area 5 5).0 ≡ Err 16) × ((difference file area 3 5).0 ≡ Err 4) × ((difference file area 5 3).0 ≡ Err 4)
unfolding difference refusal records_causes record_causes causes_of range flat_map
not_listed = (refl, refl, refl, refl, refl)
