-- The seats' words within the lent head, lent on and given back, and what a call leaves of them. Assumes nothing.
use Rattle.model.specs.declared.number.EntryId.{EntryId}
use Rattle.model.specs.Numbered.{Numbered}
use Rattle.std.specs.Prelude.{Ok, Err, Option}
use mathlib.Core.Path.{◌≡◌, refl, sym, ap, ◌∙◌}
use mathlib.Core.Logic.{◌≢◌}
use mathlib.Core.Bool.{Bool, true, false, cond}
use mathlib.Core.List.{List, ◌++◌, append-nil}
use Prim.Native.Nat.{ℕ, ◌+◌, ◌≤◌}
use native.Mathlib.Omega.{arith}
use lib.Dec.{eqb}
use lib.ListN.{length, get_or, take, drop, length-drop, drop_of_length-le}
use lib.Seq.{length-take-le, drop_at}
use borrow.Author.Tests.{eqb-false}
use borrow.Rule.Slice.PartMut.{put_mid}
use Rattle.model.specs.Lists.{part, put_at}
use Rattle.model.specs.Row.{Answer}
use Rattle.model.specs.Kind.{base}
use Rattle.model.specs.Length.{list_of}
use Rattle.model.specs.State.{State, state}
use Rattle.model.specs.Answer.{outcome_answer, inserted_answer, divided_answer}
use Rattle.model.specs.Calls.{Reply, reset, insert_by, split_by}
use Rattle.model.specs.Seats.{bad_seat}
use Rattle.model.specs.SeatedCalls.{SeatedReply, seated_reply, space, after_reset, after_insert, after_split, reset_seated, insert_seated, split_seated}
use Rattle.model.specs.Promise.{Fixed}
use Rattle.model.specs.declared.seats.Seats.{Seats}
use Rattle.model.specs.declared.length.Lengths.{Lengths}
use Rattle.model.specs.declared.head.Head.{Head}
use Rattle.model.specs.declared.head.Cursor.{Cursor}
use Rattle.model_laws.specs.Words.{length_part, length_put, get_d_part, put_same, get_d_before, lent, lent_back}
use Rattle.model_theory.specs.AnyFixed.{insert_fixed, split_entry_fixed}
use Rattle.tree_seats.specs.Words.{seats_from, seats_words}
use Rattle.tree_seats.proofs.WriteLaws.{seats_back}
use Rattle.smelvock_marshal.specs.Flat.{head_from, head_words, head_after}
use Rattle.smelvock.specs.Changes.{seated_after}

-- the words lent: seventeen, the first of them the head's flag for seats
pub lent_length : (w : List ℕ) → length w ≡ 36 → length (take 17 (drop 19 w)) ≡ 17
lent_length w e = length-take-le 17 (drop 19 w) (let z = length-drop 19 w in omega (arith, z, e))

pub lent_flag : (w : List ℕ) → get_or (part 19 17 w) 0 0 ≡ get_or w 19 0
lent_flag w = get_d_part 19 17 0 w (omega arith)

-- given back: all other words are as they were
module _ (w ys : List ℕ) (e : length w ≡ 36) (n : length ys ≡ 17) where
  pub lent_seats : put_mid 19 17 w ys ≡ put_at 19 ys w
  lent_seats = lent_back 19 17 w ys (omega (arith, e)) (n ∙ sym (lent_length w e))

  pub sizes_there : (j : ℕ) → j ≤ 18 → get_or (put_at 19 ys w) j 0 ≡ get_or w j 0
  sizes_there j l = get_d_before 19 j ys w (omega (arith, l)) (omega (arith, e))

  behind : drop 19 (put_at 19 ys w) ≡ ys
  unfolding put_at
  behind =
      drop_at (take 19 w) (ys ++ drop (19 + length ys) w) 19 (length-take-le 19 w (omega (arith, e)))
      ∙ ap (λ (r : List ℕ). ys ++ r) (drop_of_length-le w {i = 19 + length ys} (omega (arith, e, n)))
      ∙ append-nil ys

  -- a call that leaves the seats where it is refused
  pub words_after : (number : ℕ) (h : Head) → get_or ys 0 0 ≤ 1 → get_or (part 19 17 w) 0 0 ≤ 1 → (number ≢ 0 → seats_from ys ≡ seats_from (part 19 17 w))
      → head_after number h (put_at 19 ys w) ≡ seated_after number h (seats_from ys) w
  unfolding head_after seated_after
  words_after number h f f0 kept = go (eqb number 0) refl
    where
      again : number ≢ 0 → put_at 19 ys w ≡ w
      again z =
          ap (λ (x : List ℕ). put_at 19 x w)
          (sym (seats_back ys n f) ∙ ap seats_words (kept z) ∙ seats_back (part 19 17 w) (length_part 19 17 w (omega (arith, e))) f0)
          ∙ put_same 19 17 w (omega (arith, e))

      go : (t : Bool) → eqb number 0 ≡ t → cond t (head_words h ++ drop 19 (put_at 19 ys w)) (put_at 19 ys w) ≡ cond t (head_words h ++ seats_words (seats_from ys)) w
      go true q = ap (λ (x : List ℕ). head_words h ++ x) (behind ∙ sym (seats_back ys n f))
      go false q = again (eqb-false number 0 q)

  -- the same of the words as they are given back
  pub head_length : length (put_mid 19 17 w ys) ≡ 36
  head_length = ap length lent_seats ∙ length_put 19 ys w (omega (arith, e, n)) ∙ e

  pub words_there : (j : ℕ) → j ≤ 18 → get_or (put_mid 19 17 w ys) j 0 ≡ get_or w j 0
  words_there j l = ap (λ (x : List ℕ). get_or x j 0) lent_seats ∙ sizes_there j l

  pub words_settled : (number m : ℕ) (h : Head) (v : List ℕ) → v ≡ head_after number h (put_mid 19 17 w ys) → number ≡ m → get_or w 19 0 ≤ 1 → get_or ys 0 0 ≡ get_or (take 17 (drop 19 w)) 0 0
      → (number ≢ 0 → seats_from ys ≡ seats_from (take 17 (drop 19 w))) → v ≡ seated_after m h (seats_from ys) w
  words_settled number m h v ev em f g kept =
      let same = lent 19 17 w in
      let first = g ∙ ap (λ (x : List ℕ). get_or x 0 0) same ∙ lent_flag w in
      ev ∙ ap (head_after number h) lent_seats
      ∙ words_after number h (omega (arith, first, f)) (omega (arith, lent_flag w, f)) (λ z. kept z ∙ ap seats_from same)
      ∙ ap (λ (x : ℕ). seated_after x h (seats_from ys) w) em

  pub words_made : (h : Head) (v : List ℕ) → v ≡ head_words h ++ drop 19 (put_mid 19 17 w ys) → get_or ys 0 0 ≤ 1 → v ≡ head_words h ++ seats_words (seats_from ys)
  words_made h v ev f = ev ∙ ap (λ (x : List ℕ). head_words h ++ x) (ap (drop 19) lent_seats ∙ behind ∙ sym (seats_back ys n f))

-- a refused call leaves the seats
pub kept_by : {A : Type 0} (answer : A → Answer) (y : SeatedReply A) (b : Seats) → ((answer y.answer).number ≢ 0 → y.seats ≡ b)
    → (s : State) (c : Seats) (a : A) → seated_reply s c a ≡ y → (m : ℕ) → m ≡ (answer a).number → m ≢ 0 → c ≡ b
kept_by {A} answer y b law s c a e m em h = ap (λ (q : SeatedReply A). q.seats) e ∙ law (λ z. h (em ∙ ap (λ (q : SeatedReply A). (answer q.answer).number) e ∙ z))

module _ (s : State) (b : Seats) where
  reset_by : (a : Numbered (Unit {0})) → (outcome_answer a).number ≢ 0 → after_reset b a ≡ b
  reset_by (Ok tt) h = absurd (h refl)
  reset_by (Err n) h = refl

  pub reset_kept : (l : List ℕ) → (outcome_answer (reset_seated base s b l).answer).number ≢ 0 → (reset_seated base s b l).seats ≡ b
  unfolding reset_seated
  reset_kept l h = reset_by (reset base s l).answer h

  module _ (t : Option ℕ) where
    insert_by_law : (a : Numbered (EntryId × ℕ)) → (inserted_answer a).number ≢ 0 → after_insert t b a ≡ b
    insert_by_law (Ok (i, p)) h = absurd (h refl)
    insert_by_law (Err n) h = refl

    insert_one : (bad : Bool) (r : Reply (Numbered (EntryId × ℕ))) → (let y = cond bad (seated_reply s b (Err 10)) (seated_reply r.after (after_insert t b r.answer) r.answer) in (inserted_answer y.answer).number ≢ 0 → y.seats ≡ b)
    insert_one true r h = refl
    insert_one false r h = insert_by_law r.answer h

    pub insert_kept : (to : Option Cursor) (l : List ℕ) → (inserted_answer (insert_seated base s b t to l).answer).number ≢ 0 → (insert_seated base s b t to l).seats ≡ b
    unfolding insert_seated
    insert_kept to l = insert_one (bad_seat b t) (insert_by base (space s b t) s to l)

    split_by_law : (a : Numbered (EntryId × Cursor × Cursor)) → (divided_answer a).number ≢ 0 → after_split t b a ≡ b
    split_by_law (Ok (i, p, q)) h = absurd (h refl)
    split_by_law (Err n) h = refl

    split_one : (bad : Bool) (r : Reply (Numbered (EntryId × Cursor × Cursor))) → (let y = cond bad (seated_reply s b (Err 10)) (seated_reply r.after (after_split t b r.answer) r.answer) in (divided_answer y.answer).number ≢ 0 → y.seats ≡ b)
    split_one true r h = refl
    split_one false r h = split_by_law r.answer h

    pub split_kept : (c : Cursor) (l : List ℕ) (flag : Bool) → (divided_answer (split_seated base s b t c l flag).answer).number ≢ 0 → (split_seated base s b t c l flag).seats ≡ b
    unfolding split_seated
    split_kept c l flag = split_one (bad_seat b t) (split_by base (space s b t) s c l flag)

    -- one entry more leaves fan and limit
    pub insert_sizes : (to : Option Cursor) (l : List ℕ) → Fixed s (insert_seated base s b t to l).after
    unfolding insert_seated
    insert_sizes to l = go (bad_seat b t)
      where
        r : Reply (Numbered (EntryId × ℕ))
        r = insert_by base (space s b t) s to l

        go : (bad : Bool) → Fixed s (cond bad (seated_reply s b (Err 10)) (seated_reply r.after (after_insert t b r.answer) r.answer)).after
        go true = record { fan = refl; limit = refl }
        go false = insert_fixed base s (space s b t) to l

    pub split_sizes : (c : Cursor) (l : List ℕ) (flag : Bool) → Fixed s (split_seated base s b t c l flag).after
    unfolding split_seated
    split_sizes c l flag = go (bad_seat b t)
      where
        r : Reply (Numbered (EntryId × Cursor × Cursor))
        r = split_by base (space s b t) s c l flag

        go : (bad : Bool) → Fixed s (cond bad (seated_reply s b (Err 10)) (seated_reply r.after (after_split t b r.answer) r.answer)).after
        go true = record { fan = refl; limit = refl }
        go false = split_entry_fixed base s (space s b t) c l flag

-- the same of the head h of a reply, where the call was given the head k of the words w, and the words are v since
pub sizes_since : {A : Type 0} (w v : List ℕ) → ((j : ℕ) → j ≤ 18 → get_or v j 0 ≡ get_or w j 0) → (k h : Head) (ls xs hs ls1 xs1 hs1 : List ℕ) (b : Seats) (a : A) (y : SeatedReply A)
    → k ≡ head_from w → seated_reply (state h ls1 xs1 hs1) b a ≡ y → Fixed (state k ls xs hs) y.after → (h.fan ≡ get_or v 0 0) × (h.limit ≡ get_or v 1 0)
unfolding head_from
sizes_since {A} w v there k h ls xs hs ls1 xs1 hs1 b a y ek e f = (
  ap (λ (z : SeatedReply A). z.after.head.fan) e ∙ f.fan ∙ ap (λ (x : Head). x.fan) ek ∙ sym (there 0 (omega arith)),
  ap (λ (z : SeatedReply A). z.after.head.limit) e ∙ f.limit ∙ ap (λ (x : Head). x.limit) ek ∙ sym (there 1 (omega arith)),
)

-- what the calls are given, as the conversions have it
module _ (ls xs hs : List ℕ) {h h1 : Head} {b b1 : Seats} {l l1 : Lengths} (p : h ≡ h1) (q : b ≡ b1) (r : l ≡ l1) where
  pub reset_same : reset_seated base (state h ls xs hs) b (list_of l) ≡ reset_seated base (state h1 ls xs hs) b1 (list_of l1)
  reset_same = rw (p, q, r)

  pub insert_same : {t t1 : Option ℕ} {to to1 : Option Cursor} → t ≡ t1 → to ≡ to1 → insert_seated base (state h ls xs hs) b t to (list_of l) ≡ insert_seated base (state h1 ls xs hs) b1 t1 to1 (list_of l1)
  insert_same u v = rw (p, q, r, u, v)

  pub split_same : {t t1 : Option ℕ} {c c1 : Cursor} (flag : Bool) → t ≡ t1 → c ≡ c1 → split_seated base (state h ls xs hs) b t c (list_of l) flag ≡ split_seated base (state h1 ls xs hs) b1 t1 c1 (list_of l1) flag
  split_same flag u v = rw (p, q, r, u, v)
