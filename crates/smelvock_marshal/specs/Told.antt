-- What a host reads in each answer, by the names of its fields; and what it was given and hands over again is the same. Assumes nothing.
use Rattle.model.specs.declared.head.Finger.{Finger}
use Rattle.std.specs.declared.cmp.Ordering.TheVariants.{Less, Equal, Greater}
use Rattle.std.specs.Prelude.{◌≡◌, refl, List, ◌++◌, Bool, false, cond, ℕ, ◌+◌, ◌*◌, ◌/◌, ◌%◌, ◌<◌, length, Ok, Err, Some, None, Option, true}
use Rattle.std.proofs.Common.{ap, ap₂, ne_eqb, arith}
use Rattle.model.specs.State.{head_of}
use Rattle.model.specs.Answer.{outcome_answer, number_answer, verdict_answer, standing_answer, next_answer, named_answer, measured_answer, compared_answer, inserted_answer, divided_answer}
use Rattle.model.specs.Examined.{located_with}
use Rattle.model.specs.declared.number.EntryId.{EntryId}
use Rattle.model.specs.declared.head.Cursor.{Cursor}
use Rattle.model.specs.declared.head.Head.{Head}
use Rattle.model.specs.declared.length.Lengths.{Lengths}
use Rattle.model.specs.declared.length.View.TheVariants as view
use Rattle.smelvock_marshal.specs.declared.flat.FlatCursor.{FlatCursor}
use Rattle.smelvock_marshal.specs.Flat.{head_from, held_from, head_words, words_with, present_of, finger_of, bad_head, cursor_from, view_from, target_from, seat_from, number_of, measured_of, standing_of, located_of, inserted_of, divided_of}

-- answers ---------------------------------------------------------------------------------------------------------------------------------

-- a cursor as the host reads it, and the one of a refusal
abbrev at : Cursor → FlatCursor
at c = record { leaf = c.leaf.0; slot = c.slot; stamp = c.stamp }

abbrev zeros : FlatCursor
zeros = record { leaf = 0; slot = 0; stamp = 0 }

-- number 0 and the values; audit's yes is 1, and after the last entry the leaf is 4,294,967,295
pub record ToldValues (c d : Cursor) (i : EntryId) (l : Lengths) (n offset position prepare examined : ℕ) : Type 0 where
  pub reset : (outcome_answer (Ok tt)).number ≡ 0
  pub len : number_of (number_answer (Ok n)) ≡ record { number = 0; value = n }
  pub id : number_of (named_answer (Ok i)) ≡ record { number = 0; value = i.0 }
  pub yes : number_of (verdict_answer (Ok true)) ≡ record { number = 0; value = 1 }
  pub no : number_of (verdict_answer (Ok false)) ≡ record { number = 0; value = 0 }
  pub before : number_of (compared_answer (Ok Less)) ≡ record { number = 0; value = 0 }
  pub same : number_of (compared_answer (Ok Equal)) ≡ record { number = 0; value = 1 }
  pub after : number_of (compared_answer (Ok Greater)) ≡ record { number = 0; value = 2 }
  pub lengths : measured_of (measured_answer (Ok l)) ≡ record { number = 0; prepare = l.prepare; effect = l.effect; lines = l.lines }
  pub cursor : standing_of (standing_answer (Ok c)) ≡ record { number = 0; at = at c }
  pub next : standing_of (next_answer (Ok (Some c))) ≡ record { number = 0; at = at c }
  pub last : standing_of (next_answer (Ok None)) ≡ record { number = 0; at = record { leaf = 4294967295; slot = 0; stamp = 0 } }
  pub locate : located_of (located_with examined (Ok (c, offset, position, prepare))) ≡ record { number = 0; at = at c; offset = offset; position = position; prepare = prepare; examined = examined }
  pub insert : inserted_of (inserted_answer (Ok (i, position))) ≡ record { number = 0; id = i.0; position = position }
  pub split : divided_of (divided_answer (Ok (i, c, d))) ≡ record { number = 0; id = i.0; first = at c; second = at d }

pub reads : (c d : Cursor) (i : EntryId) (l : Lengths) (n offset position prepare examined : ℕ) → ToldValues c d i l n offset position prepare examined
reads c d i l n offset position prepare examined = record {
  reset = refl;
  len = refl;
  id = refl;
  yes = refl;
  no = refl;
  before = refl;
  same = refl;
  after = refl;
  lengths = refl;
  cursor = refl;
  next = refl;
  last = refl;
  locate = refl;
  insert = refl;
  split = refl;
}

-- a refusal's number, and zeros
pub record ToldRefusal (n : ℕ) : Type 0 where
  pub reset : (outcome_answer (Err n)).number ≡ n
  pub len : number_of (number_answer (Err n)) ≡ record { number = n; value = 0 }
  pub id : number_of (named_answer (Err n)) ≡ record { number = n; value = 0 }
  pub audit : number_of (verdict_answer (Err n)) ≡ record { number = n; value = 0 }
  pub cmp : number_of (compared_answer (Err n)) ≡ record { number = n; value = 0 }
  pub lengths : measured_of (measured_answer (Err n)) ≡ record { number = n; prepare = 0; effect = 0; lines = 0 }
  pub cursor : standing_of (standing_answer (Err n)) ≡ record { number = n; at = zeros }
  pub next : standing_of (next_answer (Err n)) ≡ record { number = n; at = zeros }
  pub locate : (examined : ℕ) → located_of (located_with examined (Err n)) ≡ record { number = n; at = zeros; offset = 0; position = 0; prepare = 0; examined = 0 }
  pub insert : inserted_of (inserted_answer (Err n)) ≡ record { number = n; id = 0; position = 0 }
  pub split : divided_of (divided_answer (Err n)) ≡ record { number = n; id = 0; first = zeros; second = zeros }

pub refuses : (n : ℕ) → ToldRefusal n
refuses n = record {
  reset = refl;
  len = refl;
  id = refl;
  audit = refl;
  cmp = refl;
  lengths = refl;
  cursor = refl;
  next = refl;
  locate = λ examined. refl;
  insert = refl;
  split = refl;
}

-- handed over again -----------------------------------------------------------------------------------------------------------------------

pub cursor_back : (c : Cursor) → (let r = standing_of (standing_answer (Ok c)) in cursor_from r.at.leaf r.at.slot r.at.stamp ≡ c)
cursor_back c = refl

-- the head's words, with the seats' behind them
held_back : (h : Head) (f : Option Finger) (w : List ℕ) → held_from (words_with h (present_of f) (finger_of f) ++ w) ≡ f
unfolding held_from
held_back h None w = refl
held_back h (Some f) w = refl

stamp_back : (n : ℕ) → n % 4294967296 + 4294967296 * (n / 4294967296) ≡ n
stamp_back n = omega arith

-- they are never refused, and are read as that head
pub head_back : (h : Head) (w : List ℕ) → head_from (head_words h ++ w) ≡ h
unfolding head_from head_words
head_back h w =
    ap₂ (head_of h.fan h.limit h.root.0 h.levels h.leaves h.inners h.entries) (stamp_back h.stamp) (held_back h h.finger w)

good_words : (h : Head) (f : Option Finger) (w : List ℕ) → length w ≡ 17 → bad_head (words_with h (present_of f) (finger_of f) ++ w) ≡ false
unfolding bad_head
good_words h None w e = rw e
good_words h (Some f) w e = rw e

pub head_good : (h : Head) (w : List ℕ) → length w ≡ 17 → bad_head (head_words h ++ w) ≡ false
unfolding head_words
head_good h w e = good_words h h.finger w e

-- 4,294,967,295 is nobody, any other number that seat
pub seats : (n : ℕ) → n < 8 → (seat_from 4294967295 ≡ None) × (seat_from n ≡ Some n)
unfolding seat_from
seats n h = (refl, ap (λ (t : Bool). cond t None (Some n)) (ne_eqb n 4294967295 (λ e. absurd (omega (arith, e, h)))))

-- 0 is prepare, 1 is effect, 2 is lines; 1 is at the end
pub views : (view_from 0 ≡ view.Prepare) × (view_from 1 ≡ view.Effect) × (view_from 2 ≡ view.Lines)
unfolding view_from
views = (refl, refl, refl)

pub targets : (c : Cursor) → (target_from 0 c ≡ Some c) × (target_from 1 c ≡ None)
unfolding target_from
targets c = (refl, refl)
