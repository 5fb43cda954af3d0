-- Records of kind 3, once add's (document 02, CR 6): a list with them gives, but for the kind byte, the answers of the list with 2 in its stead, and
-- the answer record of one that isn't refused has kind 3, the new id and its position. Assumes nothing.
use Rattle.model.specs.Numbered.{Numbered}
use Rattle.std.specs.Prelude.{◌≡◌, ◌≢◌, Bool, true, false, cond, ◌&&◌, List, [], ◌∷◌, ◌++◌, map, length, take, drop, set, eqb, Ok, Err}
use Rattle.std.proofs.Math.Path.{refl, sym, ap₂, subst}
use Rattle.std.proofs.Common.{ap, ◌∙◌, length-append, length-drop, length-set, length-take-le, take_at, drop_at, get_or-append-add}
use Prim.Native.Nat.{ℕ, zero, suc, ◌+◌, ◌-◌, ◌*◌, ◌%◌, ◌/◌, ◌≤◌, ◌<◌}
use Rattle.std.proofs.Math.Decide.{dec_lt}
use native.Mathlib.Omega.{arith}
use Rattle.std.proofs.Math.ListN.{get_or, get_or-append}
use Rattle.std.proofs.lemmas.Bool.{eqb-false}
use Rattle.model.specs.Kind.{base, too_many_lines}
use Rattle.model.specs.Lists.{sum_by, some, range, Cause, refusal}
use Rattle.model.specs.Row.{Entry, Row, Call, insert, Answer, done, refused, Moved, moved, row, before, from, total, unless, row_move, row_step}
use Rattle.model.specs.Record.{bytes_of, fields_of, kinds, decode, encode}
use Rattle.model.specs.Spelling.{as_two, bytes, low, top_word}
use Rattle.model.specs.Spelled.{same_call}
use Rattle.model.specs.State.{State}
use Rattle.model.specs.Calls.{make}
use Rattle.model.specs.ById.{tree_step}
use Rattle.model.specs.Promise.{answers, finally}
use Rattle.list_row.specs.Run.{records, records_of, calls_of, written, played, left, fit, Ran, ran, run_on}
use Rattle.list_row.specs.Made.{run_made, make_and_run, door_row}

-- what is said ------------------------------------------------------------------------------------------------------------------------------

-- two outputs that are alike but for the kind of an answer record, byte 1 of its sixteen
pub record ButForKind (a b : List ℕ) : Type 0 where
  pub long : length a ≡ length b
  pub bytes : (j : ℕ) → j % 16 ≢ 1 → get_or a j 0 ≡ get_or b j 0

-- and two runs that are
pub record RunAlike (a b : Ran) : Type 0 where
  pub after : a.after ≡ b.after
  pub answer : a.answer ≡ b.answer
  pub out : ButForKind a.out b.out

-- some bytes with 2 for kind 3 in their first n records, and in all
unfoldable pub twos : ℕ → List ℕ → List ℕ
twos zero bs = bs
twos (suc n) bs = as_two (take 16 bs) ++ twos n (drop 16 bs)

abbrev pub as_twos : List ℕ → List ℕ
as_twos bs = twos (length bs / 16) bs

-- lists of records --------------------------------------------------------------------------------------------------------------------------

same_calls : (rs : List (List ℕ)) → calls_of (map as_two rs) ≡ calls_of rs
same_calls [] = refl
same_calls (r ∷ rs) = ap₂ ◌∷◌ (same_call r) (same_calls rs)

pub alike : (a : List ℕ) → ButForKind a a
alike a = record { long = refl; bytes = λ j ne. refl }

-- an answer record but for its number and kind
abbrev rest : Answer → List ℕ
rest a = 0 ∷ 0 ∷ (bytes_of (get_or a.values 0 0) ++ (bytes_of (get_or a.values 1 0) ++ bytes_of (get_or a.values 2 0)))

module _ (k m : ℕ) (a : Answer) (w u : List ℕ) (h : ButForKind w u) where
  one_byte : (j : ℕ) → j % 16 ≢ 1 → get_or (encode k a ++ w) j 0 ≡ get_or (encode m a ++ u) j 0
  unfolding encode
  one_byte zero ne = refl
  one_byte (suc zero) ne = absurd (ne refl)
  one_byte (suc (suc j)) ne = go (dec_lt j 14)
    where
      go : Dec (j < 14) → get_or (rest a ++ w) j 0 ≡ get_or (rest a ++ u) j 0
      go (yes lt) = get_or-append (rest a) w 0 j lt ∙ sym (get_or-append (rest a) u 0 j lt)
      go (no ge) =
          let e : 14 + (j - 14) ≡ j = omega arith in
          subst (λ (i : ℕ). get_or (rest a ++ w) i 0 ≡ get_or (rest a ++ u) i 0) e
          (get_or-append-add (rest a) w (j - 14) 0 ∙ h.bytes (j - 14) (λ z. ne (let y : suc (suc j) ≡ 16 + (j - 14) = omega arith in omega arith)) ∙ sym (get_or-append-add (rest a) u (j - 14) 0))

  one_record : ButForKind (encode k a ++ w) (encode m a ++ u)
  unfolding encode
  one_record = record { long = (let l = h.long in omega arith); bytes = one_byte }

same_bytes : (rs : List (List ℕ)) (more : List Answer) → ButForKind (written (map as_two rs) more) (written rs more)
unfolding written
same_bytes [] more = alike []
same_bytes (r ∷ rs) [] = alike []
same_bytes (r ∷ rs) (a ∷ more) = one_record _ _ a (written (map as_two rs) more) (written rs more) (same_bytes rs more)

-- played from any state, on a tree or on the row: the same answers, the same answer records but for the kind, and the same left behind
module _ {S : Type 0} (move : S → Call → Moved S) (s : S) where
  same_answers : (rs : List (List ℕ)) → answers move s (calls_of (map as_two rs)) ≡ answers move s (calls_of rs)
  same_answers rs = ap (answers move s) (same_calls rs)

  same_left : (rs : List (List ℕ)) → left move s (map as_two rs) ≡ left move s rs
  same_left rs = ap (finally move s) (same_calls rs)

  pub kind_three : (rs : List (List ℕ)) → ButForKind (played move s (map as_two rs)) (played move s rs)
  kind_three rs =
      subst (λ (more : List Answer). ButForKind (written (map as_two rs) more) (played move s rs)) (sym (same_answers rs))
      (same_bytes rs (answers move s (calls_of rs)))

  -- a record of kind 3 is answered with kind 3, by what an insert answers
  pub answered : (r : List ℕ) (i : ℕ) (l : List ℕ) → (fields_of r).kind ≡ 3 → decode r ≡ insert i l → (rs : List (List ℕ))
      → played move s (r ∷ rs) ≡ encode 3 (move s (insert i l)).answer ++ played move (move s (insert i l)).after rs
  unfolding answers written
  answered r i l k d rs =
      ap₂ (λ (n : ℕ) (c : Call). encode n (move s c).answer ++ written rs (answers move (move s c).after (calls_of rs))) k d

unless_done : (r : Row) (cs : List Cause) (es : List Entry) (a : Answer) → (unless r cs es a).answer.number ≡ 0 → (unless r cs es a).answer ≡ a
unfolding unless
unless_done r cs es a = go (eqb (refusal cs) 0) refl
  where
    go : (b : Bool) → eqb (refusal cs) 0 ≡ b → (cond b (moved (row r.limit es) a) (moved r (refused (refusal cs)))).answer.number ≡ 0
        → (cond b (moved (row r.limit es) a) (moved r (refused (refusal cs)))).answer ≡ a
    go true e z = refl
    go false e z = absurd (eqb-false (refusal cs) 0 e z)

-- what isn't refused wasn't refused by 10
not_ten : (long : Bool) (r : Row) (m : Moved Row) (a : Answer) → (m.answer.number ≡ 0 → m.answer ≡ a) → (cond long (moved r (refused 10)) m).answer.number ≡ 0
    → (cond long (moved r (refused 10)) m).answer ≡ a
not_ten true r m a h z = absurd (omega (arith, z))
not_ten false r m a h z = h z

-- and that is, on the row and where it isn't refused: number 0, kind 3, the new id and the sum of effect lengths before the entry
pub placed : (r : Row) (i : ℕ) (l : List ℕ) → (row_step base r (insert i l)).answer.number ≡ 0
    → encode 3 (row_step base r (insert i l)).answer
    ≡ 0 ∷ 3 ∷ 0 ∷ 0 ∷ (bytes_of (length r.entries) ++ (bytes_of (total base.effect (before i r.entries)) ++ bytes_of 0))
unfolding row_step row_move encode
placed r i l z =
    ap (encode 3)
    (not_ten (too_many_lines base l) r (row_move base r (insert i l)) (done (length r.entries ∷ total base.effect (before i r.entries) ∷ [])) (unless_done r _ _ _) z)

-- two such records on the door's row, at its end: ids 1 and 2, the second behind 5 in effect
pub sample : played (row_step base) door_row (bytes 3 0 0 0 top_word (low 0) (low 5) ∷ bytes 3 0 0 0 top_word (low 1) (low 0) ∷ [])
    ≡ bytes 0 3 0 0 (low 1) (low 0) (low 0) ++ bytes 0 3 0 0 (low 2) (low 5) (low 0)
unfolding answers written fields_of kinds decode encode sum_by some range refusal before from unless row_move row_step
sample = refl

-- bytes -------------------------------------------------------------------------------------------------------------------------------------

two_long : (r : List ℕ) → length (as_two r) ≡ length r
two_long r = go (eqb (get_or r 0 0) 3)
  where
    go : (b : Bool) → length (cond b (set r 0 2) r) ≡ length r
    go true = length-set r 0 2
    go false = refl

front_long : (bs : List ℕ) → 16 ≤ length bs → length (as_two (take 16 bs)) ≡ 16
front_long bs h = two_long (take 16 bs) ∙ length-take-le 16 bs h

twos_long : (n : ℕ) (bs : List ℕ) → 16 * n ≤ length bs → length (twos n bs) ≡ length bs
unfolding twos
twos_long zero bs h = refl
twos_long (suc n) bs h =
    let d = length-drop 16 bs in
    let t = twos_long n (drop 16 bs) (omega arith) in
    let f = front_long bs (omega arith) in
    length-append (as_two (take 16 bs)) (twos n (drop 16 bs)) ∙ omega arith

twos_records : (n : ℕ) (bs : List ℕ) → 16 * n ≤ length bs → records n (twos n bs) ≡ map as_two (records n bs)
unfolding twos records
twos_records zero bs h = refl
twos_records (suc n) bs h =
    let d = length-drop 16 bs in
    let f = front_long bs (omega arith) in
    ap₂ ◌∷◌ (take_at (as_two (take 16 bs)) (twos n (drop 16 bs)) 16 f)
    (ap (records n) (drop_at (as_two (take 16 bs)) (twos n (drop 16 bs)) 16 f) ∙ twos_records n (drop 16 bs) (omega arith))

module _ (bs : List ℕ) where
  same_long : length (as_twos bs) ≡ length bs
  same_long = twos_long (length bs / 16) bs (omega arith)

  -- the records of such bytes, and whether an output fits them
  two_records : records_of (as_twos bs) ≡ map as_two (records_of bs)
  two_records = ap (λ (n : ℕ). records (n / 16) (as_twos bs)) same_long ∙ twos_records (length bs / 16) bs (omega arith)

  pub same_fit : (out : List ℕ) → fit (as_twos bs) out ≡ fit bs out
  same_fit out = ap (λ (n : ℕ). eqb n (length out) && eqb (n % 16) 0) same_long

  -- what they leave, and their answer records
  left_three : {S : Type 0} (move : S → Call → Moved S) (s : S) → left move s (records_of (as_twos bs)) ≡ left move s (records_of bs)
  left_three move s = ap (left move s) two_records ∙ same_left move s (records_of bs)

  pub played_three : {S : Type 0} (move : S → Call → Moved S) (s : S) → ButForKind (played move s (records_of (as_twos bs))) (played move s (records_of bs))
  played_three move s = subst (λ (rs : List (List ℕ)). ButForKind (played move s rs) (played move s (records_of bs))) (sym two_records) (kind_three move s (records_of bs))

-- what `run` writes, and `make_and_run`
abbrev whole_run : State → List ℕ → Ran
whole_run s bs = ran (left (tree_step base) s (records_of bs)) (Ok tt) (played (tree_step base) s (records_of bs))

pub run_three : (s : State) (bs out : List ℕ) → RunAlike (run_on s (as_twos bs) out) (run_on s bs out)
unfolding run_on
run_three s bs out =
    subst (λ (c : Bool). RunAlike (cond c (whole_run s (as_twos bs)) (ran s (Err 11) out)) (cond (fit bs out) (whole_run s bs) (ran s (Err 11) out)))
    (sym (same_fit bs out)) (go (fit bs out))
  where
    go : (b : Bool) → RunAlike (cond b (whole_run s (as_twos bs)) (ran s (Err 11) out)) (cond b (whole_run s bs) (ran s (Err 11) out))
    go true = record { after = left_three bs (tree_step base) s; answer = refl; out = played_three bs (tree_step base) s }
    go false = record { after = refl; answer = refl; out = alike out }

pub made_three : (fan limit : ℕ) (l ls xs hs bs out : List ℕ) → RunAlike (make_and_run fan limit l ls xs hs (as_twos bs) out) (make_and_run fan limit l ls xs hs bs out)
unfolding make_and_run
made_three fan limit l ls xs hs bs out = go (make base fan limit l ls xs hs).answer
  where
    s : State
    s = (make base fan limit l ls xs hs).after

    go : (a : Numbered (Unit {0})) → RunAlike (run_made a s (as_twos bs) out) (run_made a s bs out)
    go (Ok tt) = run_three s bs out
    go (Err n) = record { after = refl; answer = refl; out = alike out }
