-- Edits that name their forerunners (change request 5): a file of 16-byte records, what an edit rests on, and the two calls, each with its causes in
-- order. Assumes nothing.
use Rattle.model.specs.Numbered.{Numbered}
use Rattle.std.specs.Prelude.{◌≡◌, ◌≢◌, Bool, cond, ◌&&◌, ◌||◌, not, ℕ, zero, suc, ◌+◌, ◌*◌, ◌/◌, ◌%◌, length, ltb, leb, eqb, Ok, Err}
use mathlib.Core.List.{List, [], ◌∷◌, ◌++◌, flat_map}
use Rattle.model.specs.Lists.{range, put_at, Cause, cause}
use Rattle.model.specs.Record.{word_at}
use Rattle.model.specs.Calls.{unless}

-- the parent that says that there is none
abbrev pub none : ℕ
none = 4294967295

-- the edits of a file are numbered from 0, a record each
abbrev pub edits : List ℕ → ℕ
edits file = length file / 16

-- the four words of record e: the two parents of edit e, and the rest
abbrev pub left : List ℕ → ℕ → ℕ
left file e = word_at (16 * e) file

abbrev pub right : List ℕ → ℕ → ℕ
right file e = word_at (16 * e + 4) file

abbrev pub third : List ℕ → ℕ → ℕ
third file e = word_at (16 * e + 8) file

abbrev pub fourth : List ℕ → ℕ → ℕ
fourth file e = word_at (16 * e + 12) file

-- p is a parent of edit e
pub data Parent (file : List ℕ) : ℕ → ℕ → Type 0 where
  by_left : {e p : ℕ} → left file e ≡ p → p ≢ none → Parent file e p
  by_right : {e p : ℕ} → right file e ≡ p → p ≢ none → Parent file e p

-- every edit rests on itself; beyond that, a chain of parents leads from it to each edit that it rests on
pub data Rests (file : List ℕ) : ℕ → ℕ → Type 0 where
  itself : {e : ℕ} → Rests file e e
  through : {e p f : ℕ} → Parent file e p → Rests file p f → Rests file e f

-- the list of a difference ----------------------------------------------------------------------------------------------------------------

-- whether a chain of at most n parents leads from e to f
unfoldable pub within : List ℕ → ℕ → ℕ → ℕ → Bool
within file zero e f = eqb e f
within file (suc n) e f =
    eqb e f || (not (eqb (left file e) none) && within file n (left file e) f) || (not (eqb (right file e) none) && within file n (right file e) f)

-- whether e rests on f: in an accepted file parents are smaller, so that no chain from e has more than e of them (`exactly`, Exactly.antt)
abbrev pub rests_on : List ℕ → ℕ → ℕ → Bool
rests_on file e f = within file e e f

-- the numbers of a list of which q holds
unfoldable pub picked : (ℕ → Bool) → List ℕ → List ℕ
picked q [] = []
picked q (k ∷ ks) = cond (q k) (k ∷ picked q ks) (picked q ks)

-- the edits that a rests on and b doesn't
unfoldable pub beyond : List ℕ → ℕ → ℕ → List ℕ
beyond file a b = picked (λ k. rests_on file a k && not (rests_on file b k)) (range 0 (edits file))

-- the causes of a refusal -----------------------------------------------------------------------------------------------------------------

-- 11: a length that isn't a multiple of 16
abbrev pub cut : List ℕ → Cause
cut file = cause 11 (not (eqb (length file % 16) 0))

-- 12: a list area below 512 words
abbrev pub narrow : List ℕ → Cause
narrow area = cause 12 (ltb (length area) 512)

-- 16: more than 512 edits
abbrev pub crowded : List ℕ → Cause
crowded file = cause 16 (ltb 512 (edits file))

-- a parent other than none that isn't smaller than the edit's own number
abbrev pub late : ℕ → ℕ → Bool
late e p = not (eqb p none) && leb e p

-- 10: a rest that isn't zero; 15: a late parent
unfoldable pub causes_of : ℕ → ℕ → ℕ → ℕ → ℕ → List Cause
causes_of e p q x y = cause 10 (not (eqb x 0) || not (eqb y 0)) ∷ cause 15 (late e p || late e q) ∷ []

-- those of record e, and of the first n records in order
unfoldable pub record_causes : List ℕ → ℕ → List Cause
record_causes file e = causes_of e (left file e) (right file e) (third file e) (fourth file e)

unfoldable pub records_causes : List ℕ → ℕ → List Cause
records_causes file n = flat_map (record_causes file) (range 0 n)

-- 4: an edit asked for that isn't in the file
abbrev pub absent : List ℕ → ℕ → Cause
absent file e = cause 4 (leb (edits file) e)

-- the calls -------------------------------------------------------------------------------------------------------------------------------

abbrev pub check_causes : List ℕ → List Cause
check_causes file = cut file ∷ crowded file ∷ records_causes file (edits file)

abbrev pub difference_causes : List ℕ → List ℕ → ℕ → ℕ → List Cause
difference_causes file area a b = cut file ∷ narrow area ∷ crowded file ∷ (records_causes file (edits file) ++ (absent file a ∷ absent file b ∷ []))

unfoldable pub check : List ℕ → Numbered (Unit {0})
check file = unless (check_causes file) Err (Ok tt)

-- the count of the edits that a rests on and b doesn't, and the list area with these in front
unfoldable pub difference : List ℕ → List ℕ → ℕ → ℕ → (Numbered ℕ) × List ℕ
difference file area a b =
    unless (difference_causes file area a b) (λ n. (Err n, area)) (Ok (length (beyond file a b)), put_at 0 (beyond file a b) area)
