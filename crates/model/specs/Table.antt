-- Document 01, "A sheet of five entries": the cases P1 to P12, fan 4, limit 5. Assumes nothing.
use Rattle.std.specs.Prelude.{List, [], ◌∷◌, true, false, ℕ}
use Rattle.model.specs.Row.{Call, insert, split, lookup, next, Answer, done, refused, no_entry}

-- the first record is played as make, the others as calls of a list
pub data Play : Type 0 where
  made : List ℕ → Play
  called : Call → Play

-- what is played, the answer, the ids in order afterwards, and leaf and slot of the newest entry
pub record Case : Type 0 where
  pub play : Play
  pub answer : Answer
  pub order : List ℕ
  pub newest : List ℕ

abbrev pub case : Play → Answer → List ℕ → List ℕ → Case
case p a o n = record { play = p; answer = a; order = o; newest = n }

-- lengths without line ends
abbrev pub pair : ℕ → ℕ → List ℕ
pair p e = p ∷ e ∷ 0 ∷ []

abbrev pub p1 : Case
p1 = case (made (pair 3 3)) (done []) (0 ∷ []) (0 ∷ 0 ∷ [])

abbrev pub p2 : Case
p2 = case (called (insert no_entry (pair 2 0))) (done (1 ∷ 3 ∷ [])) (0 ∷ 1 ∷ []) (0 ∷ 1 ∷ [])

abbrev pub p3 : Case
p3 = case (called (insert 0 (pair 0 5))) (done (2 ∷ 0 ∷ [])) (2 ∷ 0 ∷ 1 ∷ []) (0 ∷ 0 ∷ [])

abbrev pub p4 : Case
p4 = case (called (lookup 0 0)) (done (0 ∷ 0 ∷ 5 ∷ 0 ∷ [])) (2 ∷ 0 ∷ 1 ∷ []) (0 ∷ 0 ∷ [])

abbrev pub p5 : Case
p5 = case (called (lookup 0 5)) (refused 5) (2 ∷ 0 ∷ 1 ∷ []) (0 ∷ 0 ∷ [])

abbrev pub p6 : Case
p6 = case (called (next 1)) (done (4294967295 ∷ [])) (2 ∷ 0 ∷ 1 ∷ []) (0 ∷ 0 ∷ [])

abbrev pub p7 : Case
p7 = case (called (lookup 1 0)) (done (2 ∷ 0 ∷ 0 ∷ 0 ∷ [])) (2 ∷ 0 ∷ 1 ∷ []) (0 ∷ 0 ∷ [])

abbrev pub p8 : Case
p8 = case (called (lookup 1 8)) (refused 5) (2 ∷ 0 ∷ 1 ∷ []) (0 ∷ 0 ∷ [])

abbrev pub p9 : Case
p9 = case (called (split true 0 (pair 1 1))) (done (3 ∷ [])) (2 ∷ 3 ∷ 0 ∷ 1 ∷ []) (0 ∷ 1 ∷ [])

-- the leaf has split: id 4 is in leaf 1, slot 1
abbrev pub p10 : Case
p10 = case (called (insert 1 (pair 1 1))) (done (4 ∷ 8 ∷ [])) (2 ∷ 3 ∷ 0 ∷ 4 ∷ 1 ∷ []) (1 ∷ 1 ∷ [])

abbrev pub p11 : Case
p11 = case (called (insert no_entry (pair 0 0))) (refused 8) (2 ∷ 3 ∷ 0 ∷ 4 ∷ 1 ∷ []) (1 ∷ 1 ∷ [])

abbrev pub p12 : Case
p12 = case (called (split false 0 (pair 3 0))) (refused 6) (2 ∷ 3 ∷ 0 ∷ 4 ∷ 1 ∷ []) (1 ∷ 1 ∷ [])

abbrev pub table : List Case
table = p1 ∷ p2 ∷ p3 ∷ p4 ∷ p5 ∷ p6 ∷ p7 ∷ p8 ∷ p9 ∷ p10 ∷ p11 ∷ p12 ∷ []
