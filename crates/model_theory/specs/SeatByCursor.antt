-- One call of a seated list on cursors does on a tree that stands for a row with the same seats what the call of the row that it means does there: a
-- current cursor is its entry's, so that it is the seated call by id, and any other is refused by its own number.
use Rattle.model.specs.declared.number.EntryId.{EntryId}
use Rattle.model.specs.Numbered.{Numbered}
use Rattle.std.proofs.Math.Path.{◌≡◌, refl, ap, subst}
use Rattle.std.proofs.Common.{sym, ap₂, ◌∙◌}
use Rattle.std.specs.Prelude.{Bool, ◌||◌, List, ◌++◌, eqb, length, Err, Some, None, Option}
use Rattle.std.proofs.Math.Bool.{true, false, cond}
use Prim.Native.Nat.{ℕ, zero, suc, ◌<◌}
use native.Mathlib.Omega.{arith}
use borrow.Author.Tests.{ne_eqb}
use Rattle.model.specs.Kind.{too_many_lines}
use Rattle.model.specs.declared.shape.Kind.{Kind}
use Rattle.model.specs.Lists.{refusal}
use Rattle.model.specs.State.{State}
use Rattle.model.specs.Row as row
use Rattle.model.specs.Row.{Row, Call, refused, Moved, moved, no_entry, overlong, row_move, row_step}
use Rattle.model.specs.Answer.{outcome_answer, inserted_answer}
use Rattle.model.specs.Sound.{Coherent, entries_of}
use Rattle.model.specs.Refuse.{opening, stale, at_cursor, current}
use Rattle.model.specs.Calls as calls
use Rattle.model.specs.ById.{divided_id_answer}
use Rattle.model.specs.ByCursor as by
use Rattle.model.specs.ByCursor.{CursorCall, EntryCall, cursor_step, entry_step, entry_at, meant, parts_answer, with_parts}
use Rattle.model.specs.Promise.{Words, Represents, CursorInWords}
use Rattle.model.specs.Seats.{bad_seat, Fair}
use Rattle.model.specs.SeatedCalls.{seated_reply, SeatedReply, space, insert_seated, split_seated, reset_seated}
use Rattle.model.specs.SeatedList as list
use Rattle.model.specs.SeatedList.{Seated, seated, Naming, naming, deed, cursor_deed, misnamed, beside, told_seated, row_space, seated_row, seated_row_move, seated_tree, seated_tree_move, seated_cursor_move, seated_cursor, seated_entry_move, seated_entry, seated_meant}
use Rattle.model.specs.declared.head.Cursor.{Cursor}
use Rattle.model_theory.specs.CallOpen.{stopped, few_lines, many_lines_law}
use Rattle.model_theory.specs.CallSimulates.{Simulates, row_of}
use Rattle.model_theory.specs.CursorCurrent.{first_applies, is_current}
use Rattle.model_theory.specs.CursorAnswered.{current_at, split_at_by}
use Rattle.model_theory.specs.CallByCursor.{parts_read, is_clear, stops, small, word, cursor_step_law}
use Rattle.model_theory.specs.TopByCursor.{cursor_fixed}
use Rattle.model_theory.specs.SeatDeeds.{by_cursor_deed}
use Rattle.model_theory.specs.RowCount.{unless_count, other_count}
use Rattle.model_theory.specs.SeatById.{SeatedRepresents, spaces, seated_step}
use Rattle.model_theory.specs.SeatRefused.{seated_refusals}

-- calls on cursors that have nothing to do with seats -------------------------------------------------------------------------------------------

-- what they mean has nothing to do with seats either
abbrev Still : EntryCall → Type 0
Still (by.plain c) = deed c ≡ list.nothing
Still (by.parts flag i l) = ⊥
Still (by.select v x) = Unit {0}
Still (by.self i) = Unit {0}
Still by.is_empty = Unit {0}
Still (by.failed n) = Unit {0}

module _ (K : Kind) (s : State) where
  one_still : (c : Cursor) (f : ℕ → EntryCall) → ((i : ℕ) → Still (f i)) → Still (by.standing K s c f)
  unfolding by.standing
  one_still c f h = go (eqb (refusal (stale K s c)) 0)
    where
      go : (p : Bool) → Still (cond p (f (entry_at K s c)) (by.failed (refusal (stale K s c))))
      go true = h (entry_at K s c)
      go false = tt

  lines_still : (l : List ℕ) (c : Cursor) (f : ℕ → EntryCall) → ((i : ℕ) → Still (f i)) → Still (by.standing_for K s l c f)
  unfolding by.standing_for
  lines_still l c f h = go (too_many_lines K l)
    where
      go : (p : Bool) → Still (cond p (f (entry_at K s c)) (by.standing K s c f))
      go true = h (entry_at K s c)
      go false = one_still c f h

  meant_still : (c : CursorCall) → cursor_deed c ≡ list.nothing → Still (meant K s c)
  unfolding meant
  meant_still (by.reset l) e = absurd (let z : ◌≡◌ {A = ℕ} 0 1 = cc in omega arith)
  meant_still (by.insert t l) e = absurd (let z : ◌≡◌ {A = ℕ} 0 1 = cc in omega arith)
  meant_still (by.split flag c l) e = absurd (let z : ◌≡◌ {A = ℕ} 0 1 = cc in omega arith)
  meant_still (by.set_lengths c l) e = lines_still l c (λ i. by.plain (row.set_lengths i l)) (λ i. refl)
  meant_still (by.update c l) e = lines_still l c (λ i. by.plain (row.update i l)) (λ i. refl)
  meant_still (by.locate v x) e = refl
  meant_still (by.select v x) e = tt
  meant_still (by.rank v c) e = one_still c (λ i. by.plain (row.rank v i)) (λ i. refl)
  meant_still (by.next c) e = one_still c (λ i. by.plain (row.next i)) (λ i. refl)
  meant_still (by.compare a b) e = one_still a (λ i. by.standing K s b (λ j. by.plain (row.compare i j))) (λ i. one_still b (λ j. by.plain (row.compare i j)) (λ j. refl))
  meant_still (by.lengths c) e = one_still c (λ i. by.plain (row.lengths i)) (λ i. refl)
  meant_still (by.id c) e = one_still c by.self (λ i. tt)
  meant_still (by.cursor i) e = tt
  meant_still by.first e = refl
  meant_still by.len e = refl
  meant_still by.is_empty e = tt

-- the seated row does what the row does, and leaves the seats
entry_still : (K : Kind) (r : Seated Row) (x : Option ℕ) (e : EntryCall) → Still e → seated_entry_move K r x e ≡ beside r.seats (entry_step K r.of e)
unfolding seated_entry_move entry_step seated_row seated_row_move row_step
entry_still K r x (by.plain c) q = rw q (go (overlong K c))
  where
    go : (p : Bool) → cond (p || false) (moved r (refused 10)) (beside r.seats (row_move K r.of c)) ≡ beside r.seats (cond p (moved r.of (refused 10)) (row_move K r.of c))
    go true = refl
    go false = refl
entry_still K r x (by.parts flag i l) q = absurd q
entry_still K r x (by.select v y) q = refl
entry_still K r x (by.self i) q = refl
entry_still K r x by.is_empty q = refl
entry_still K r x (by.failed n) q = refl

entry_count : (K : Kind) (t : State) (w : Coherent K t) (e : EntryCall) → Still e → length (entry_step K (row_of K t) e).after.entries ≡ length (entries_of K t)
unfolding entry_step row_step row_move
entry_count K t w (by.plain c) q = go (overlong K c)
  where
    go : (p : Bool) → length (cond p (moved (row_of K t) (refused 10)) (row_move K (row_of K t) c)).after.entries ≡ length (entries_of K t)
    go true = refl
    go false = other_count K t w c q
entry_count K t w (by.parts flag i l) q = absurd q
entry_count K t w (by.select v x) q = other_count K t w (row.lookup v x) refl
entry_count K t w (by.self i) q = unless_count (row_of K t) _ _ _ (λ z. refl)
entry_count K t w by.is_empty q = refl
entry_count K t w (by.failed n) q = refl

-- a call that some cause stops, in either form of the causes for want of space -----------------------------------------------------------------------

insert_stops : (K : Kind) (s : Seated State) (x : Option ℕ) (t : Option Cursor) (l : List ℕ) → bad_seat s.seats x ≡ false → (n : ℕ) → refusal (calls.insert_causes K (space s.of s.seats x) s.of t l) ≡ suc n
    → insert_seated K s.of s.seats x t l ≡ seated_reply s.of s.seats (Err (suc n))
unfolding insert_seated calls.insert_by
insert_stops K s x t l g n e = rw (g, stopped (calls.insert_causes K (space s.of s.seats x) s.of t l) (λ m. calls.reply {A = Numbered (EntryId × ℕ)} s.of (Err m)) _ n e)

split_stops : (K : Kind) (s : Seated State) (x : Option ℕ) (c : Cursor) (l : List ℕ) (flag : Bool) → bad_seat s.seats x ≡ false → (n : ℕ) → refusal (calls.split_causes K (space s.of s.seats x) s.of c l) ≡ suc n
    → split_seated K s.of s.seats x c l flag ≡ seated_reply s.of s.seats (Err (suc n))
unfolding split_seated calls.split_by
split_stops K s x c l flag g n e = rw (g, stopped (calls.split_causes K (space s.of s.seats x) s.of c l) (λ m. calls.reply {A = Numbered (EntryId × Cursor × Cursor)} s.of (Err m)) _ n e)

overlong_row : (K : Kind) (r : Seated Row) (x : Option ℕ) (c : Call) → overlong K c ≡ true → seated_row K r (naming x c) ≡ moved r (refused 10)
unfolding seated_row
overlong_row K r x c e = rw e

-- calls that name a seat ---------------------------------------------------------------------------------------------------------------------------

module _ (K : Kind) (ok : K.effect < K.views) (s : Seated State) (r : Seated Row) (h : SeatedRepresents K s r) (x : Option ℕ) where
  abbrev t : State
  t = s.of

  w : Coherent K t
  w = h.stands.sound.coherent

  row_is : seated (row_of K t) s.seats ≡ r
  row_is = ap₂ seated (ap₂ row.row h.stands.limit h.stands.entries) h.seats

  own : SeatedRepresents K s (seated (row_of K t) s.seats)
  own = subst (SeatedRepresents K s) (sym row_is) h

  stays : (n : ℕ) → Simulates (SeatedRepresents K) (moved s (refused n)) (moved r (refused n))
  stays n = record { same = refl; kept = h }

  -- a cursor stands for its entry, or fails; where the lengths given have too many line ends, both answer 10
  with_one : (c : Cursor) (a : Moved (Seated State)) (f : ℕ → EntryCall)
      → (current K t c ≡ true → Simulates (SeatedRepresents K) a (seated_entry_move K r x (f (entry_at K t c))))
      → ((n : ℕ) → refusal (stale K t c) ≡ suc n → a ≡ moved s (refused (suc n)))
      → Simulates (SeatedRepresents K) a (seated_entry_move K r x (by.standing K t c f))
  unfolding by.standing seated_entry_move entry_step
  with_one c a f hit miss = go (refusal (stale K t c)) refl
    where
      go : (n : ℕ) → refusal (stale K t c) ≡ n → Simulates (SeatedRepresents K) a (seated_entry_move K r x (cond (eqb (refusal (stale K t c)) 0) (f (entry_at K t c)) (by.failed (refusal (stale K t c)))))
      go zero q = rw q (hit (is_clear K ok t w c q))
      go (suc n) q = rw (q, ne_eqb (suc n) 0 (λ z. omega arith)) (subst (λ (z : Moved (Seated State)). Simulates (SeatedRepresents K) z (moved r (refused (suc n)))) (sym (miss n q)) (stays (suc n)))

  with_lines : (l : List ℕ) (c : Cursor) (a : Moved (Seated State)) (f : ℕ → EntryCall)
      → (too_many_lines K l ≡ true → (a ≡ moved s (refused 10)) × (seated_entry_move K r x (f (entry_at K t c)) ≡ moved r (refused 10)))
      → (too_many_lines K l ≡ false → Simulates (SeatedRepresents K) a (seated_entry_move K r x (by.standing K t c f)))
      → Simulates (SeatedRepresents K) a (seated_entry_move K r x (by.standing_for K t l c f))
  unfolding by.standing_for
  with_lines l c a f many few = go (too_many_lines K l) refl
    where
      go : (b : Bool) → too_many_lines K l ≡ b → Simulates (SeatedRepresents K) a (seated_entry_move K r x (cond b (f (entry_at K t c)) (by.standing K t c f)))
      go true e = subst (λ (z : Moved (Seated State)). Simulates (SeatedRepresents K) z (seated_entry_move K r x (f (entry_at K t c)))) (sym (many e).0) (subst (λ (z : Moved (Seated Row)). Simulates (SeatedRepresents K) (moved s (refused 10)) z) (sym (many e).1) (stays 10))
      go false e = few e

  module _ (good : bad_seat s.seats x ≡ false) where
    inserting : (tg : Option Cursor) (l : List ℕ) → Moved (Seated State)
    inserting tg l = told_seated (insert_seated K t s.seats x tg l) inserted_answer

    insert_refused : (tg : Option Cursor) (l : List ℕ) (n : ℕ) → refusal (calls.insert_causes K (space t s.seats x) t tg l) ≡ suc n → inserting tg l ≡ moved s (refused (suc n))
    unfolding inserting
    insert_refused tg l n e = ap (λ (z : SeatedReply (Numbered (EntryId × ℕ))). told_seated z inserted_answer) (insert_stops K s x tg l good n e)

    by_insert : (c : Cursor) (l : List ℕ) → Words K l → Simulates (SeatedRepresents K) (inserting (Some c) l) (seated_entry_move K r x (meant K t (by.insert (Some c) l)))
    unfolding inserting meant seated_entry_move seated_row seated_tree seated_tree_move
    by_insert c l k = with_lines l c (inserting (Some c) l) (λ i. by.plain (row.insert i l))
        (λ o. (insert_refused (Some c) l 9 (many_lines_law K l _ o), rw o))
        (λ o. with_one c (inserting (Some c) l) (λ i. by.plain (row.insert i l))
        (λ e. subst (λ (z : Moved (Seated State)). Simulates (SeatedRepresents K) z (seated_row K r (naming x (row.insert (entry_at K t c) l))))
        (rw (o, good, ne_eqb (entry_at K t c) no_entry (λ z. let y = small K ok t w c e in omega arith), (is_current K t w c e).1))
        (seated_step K ok s r h (naming x (row.insert (entry_at K t c) l)) (word K ok t w c e, k)))
        (λ n q. insert_refused (Some c) l n (few_lines K l _ o ∙ first_applies (opening K t ++ at_cursor K t c) _ n (stops K ok t w c n q))))

    -- the end: too many line ends are 10 by id, and by the call itself
    by_end : (l : List ℕ) → Words K l → Simulates (SeatedRepresents K) (inserting None l) (seated_entry_move K r x (meant K t (by.insert None l)))
    unfolding inserting meant seated_entry_move seated_tree seated_tree_move
    by_end l k = subst (λ (z : Moved (Seated State)). Simulates (SeatedRepresents K) z (seated_row K r (naming x (row.insert no_entry l)))) (go (too_many_lines K l) refl) (seated_step K ok s r h (naming x (row.insert no_entry l)) (omega arith, k))
      where
        go : (p : Bool) → too_many_lines K l ≡ p → cond (too_many_lines K l || bad_seat s.seats x) (moved s (refused 10)) (told_seated (insert_seated K t s.seats x None l) inserted_answer) ≡ told_seated (insert_seated K t s.seats x None l) inserted_answer
        go true o = rw o (sym (insert_refused None l 9 (many_lines_law K l _ o)))
        go false o = rw (o, good)

    dividing : (flag : Bool) (c : Cursor) (l : List ℕ) → Moved (Seated State)
    dividing flag c l = let z = split_seated K t s.seats x c l flag in told_seated z (parts_answer K z.after)

    split_refused : (flag : Bool) (c : Cursor) (l : List ℕ) (n : ℕ) → refusal (calls.split_causes K (space t s.seats x) t c l) ≡ suc n → dividing flag c l ≡ moved s (refused (suc n))
    unfolding dividing
    split_refused flag c l n e = ap (λ (z : SeatedReply (Numbered (EntryId × Cursor × Cursor))). told_seated z (parts_answer K z.after)) (split_stops K s x c l flag good n e)

    -- the parts of an entry that is split by a current cursor
    parts_of_law : (flag : Bool) (c : Cursor) (l : List ℕ) → length l ≡ K.views → too_many_lines K l ≡ false → current K t c ≡ true
        → parts_answer K (split_seated K t s.seats x c l flag).after (split_seated K t s.seats x c l flag).answer ≡ with_parts flag (entry_at K t c) (seated_row K r (naming x (row.split flag (entry_at K t c) l))).answer
    unfolding split_seated seated_row seated_row_move
    parts_of_law flag c l wl o e =
        subst (λ (q : Seated Row). parts_answer K (split_seated K t s.seats x c l flag).after (split_seated K t s.seats x c l flag).answer ≡ with_parts flag (entry_at K t c) (seated_row K q (naming x (row.split flag (entry_at K t c) l))).answer) row_is
        (rw (o, good) (parts_read K flag (entry_at K t c) t.head.entries _ (calls.split_by K (space t s.seats x) t c l flag).answer _
        (split_at_by K ok t w (space t s.seats x) (row_space (row_of K t) s.seats x) (spaces K ok t h.stands.sound s.seats own.eight own.fair x good) c (entry_at K t c) (current_at K t w c e) l wl o flag)))

    by_split : (flag : Bool) (c : Cursor) (l : List ℕ) → Words K l → Simulates (SeatedRepresents K) (dividing flag c l) (seated_entry_move K r x (meant K t (by.split flag c l)))
    unfolding dividing meant seated_entry_move seated_tree seated_tree_move
    by_split flag c l k = with_lines l c (dividing flag c l) (λ i. by.parts flag i l)
        (λ o. (split_refused flag c l 9 (many_lines_law K l _ o), ap (λ (m : Moved (Seated Row)). moved m.after (with_parts flag (entry_at K t c) m.answer)) (long o)))
        (λ o. with_one c (dividing flag c l) (λ i. by.parts flag i l)
        (λ e. record { same = parts_of_law flag c l k.long o e; kept = (by_id o e).kept })
        (λ n q. split_refused flag c l n (few_lines K l _ o ∙ first_applies (opening K t ++ at_cursor K t c) _ n (stops K ok t w c n q))))
      where
        long : too_many_lines K l ≡ true → seated_row K r (naming x (row.split flag (entry_at K t c) l)) ≡ moved r (refused 10)
        long o = overlong_row K r x (row.split flag (entry_at K t c) l) o

        by_id : too_many_lines K l ≡ false → current K t c ≡ true → Simulates (SeatedRepresents K) (told_seated (split_seated K t s.seats x c l flag) divided_id_answer) (seated_row K r (naming x (row.split flag (entry_at K t c) l)))
        by_id o e = subst (λ (z : Moved (Seated State)). Simulates (SeatedRepresents K) z (seated_row K r (naming x (row.split flag (entry_at K t c) l))))
            (rw (o, good, (is_current K t w c e).1)) (seated_step K ok s r h (naming x (row.split flag (entry_at K t c) l)) (word K ok t w c e, k))

  -- the others
  by_reset : (l : List ℕ) → Words K l → Simulates (SeatedRepresents K) (told_seated (reset_seated K t s.seats l) outcome_answer) (seated_entry_move K r x (meant K t (by.reset l)))
  unfolding meant seated_entry_move seated_tree seated_tree_move reset_seated calls.reset
  by_reset l k = subst (λ (z : Moved (Seated State)). Simulates (SeatedRepresents K) z (seated_row K r (naming x (row.reset l)))) (go (too_many_lines K l) refl) (seated_step K ok s r h (naming x (row.reset l)) k)
    where
      go : (p : Bool) → too_many_lines K l ≡ p → cond (too_many_lines K l || false) (moved s (refused 10)) (told_seated (reset_seated K t s.seats l) outcome_answer) ≡ told_seated (reset_seated K t s.seats l) outcome_answer
      go true o = rw (stopped (calls.make_causes K t.head.fan t.head.limit l t.leaves t.inners t.homes) (λ m. calls.reply {A = Numbered (Unit {0})} t (Err m)) _ 9 (many_lines_law K l _ o), o)
      go false o = rw o

  by_other : (c : CursorCall) → cursor_deed c ≡ list.nothing → CursorInWords K c → Simulates (SeatedRepresents K) (beside s.seats (cursor_step K t c)) (seated_entry_move K r x (meant K t c))
  by_other c e k =
      let a : Simulates (Represents K) (cursor_step K t c) (entry_step K r.of (meant K t c)) = cursor_step_law K ok t w r.of h.stands c k in
      let n : Row = (entry_step K r.of (meant K t c)).after in
      let limit : n.limit ≡ r.of.limit = sym a.kept.limit ∙ (cursor_fixed K t c).limit ∙ h.stands.limit in
      let count : length n.entries ≡ length r.of.entries = subst (λ (q : Row). length (entry_step K q (meant K t c)).after.entries ≡ length q.entries) (ap₂ row.row h.stands.limit h.stands.entries) (entry_count K t w (meant K t c) (meant_still K t c e)) in
      subst (λ (z : Moved (Seated Row)). Simulates (SeatedRepresents K) (beside s.seats (cursor_step K t c)) z) (sym (entry_still K r x (meant K t c) (meant_still K t c e)))
      (record { same = a.same; kept = record { stands = a.kept; seats = h.seats; eight = h.eight; fair = subst (λ (m : ℕ). Fair m (length n.entries) r.seats) (sym limit) (subst (λ (m : ℕ). Fair r.of.limit m r.seats) (sym count) h.fair) } })

  -- every call: a wrong seat is 10 before any cursor is looked at
  abbrev Same : CursorCall → Type 0
  Same c = CursorInWords K c → Simulates (SeatedRepresents K) (seated_cursor_move K t s.seats x c (cursor_deed c)) (seated_entry_move K r x (cond (misnamed s.seats x (cursor_deed c)) (by.failed 10) (meant K t c)))

  insert_same : (tg : Option Cursor) (l : List ℕ) → Same (by.insert tg l)
  unfolding seated_cursor_move insert_seated inserting seated_entry_move entry_step
  insert_same tg l k = go (bad_seat s.seats x) refl tg
    where
      go : (p : Bool) → bad_seat s.seats x ≡ p → (tg : Option Cursor) → Simulates (SeatedRepresents K) (told_seated (insert_seated K t s.seats x tg l) inserted_answer) (seated_entry_move K r x (cond p (by.failed 10) (meant K t (by.insert tg l))))
      go true q tg = rw q (stays 10)
      go false q (Some c) = by_insert q c l k
      go false q None = by_end q l k

  split_same : (flag : Bool) (c : Cursor) (l : List ℕ) → Same (by.split flag c l)
  unfolding seated_cursor_move split_seated dividing seated_entry_move entry_step
  split_same flag c l k = go (bad_seat s.seats x) refl
    where
      go : (p : Bool) → bad_seat s.seats x ≡ p
          → Simulates (SeatedRepresents K) (let z = split_seated K t s.seats x c l flag in told_seated z (parts_answer K z.after)) (seated_entry_move K r x (cond p (by.failed 10) (meant K t (by.split flag c l))))
      go true q = rw q (stays 10)
      go false q = by_split q flag c l k

  move_step : (c : CursorCall) → Same c
  unfolding seated_cursor_move
  move_step = by_cursor_deed Same by_reset insert_same split_same (λ c e k. rw e (by_other c e k))

pub seated_cursor_step : (K : Kind) (ok : K.effect < K.views) (s : Seated State) (r : Seated Row) → SeatedRepresents K s r → (c : Naming CursorCall) → CursorInWords K c.call
    → Simulates (SeatedRepresents K) (seated_cursor K s c) (seated_entry K r (seated_meant K s c))
unfolding seated_cursor seated_entry seated_meant
seated_cursor_step K ok s r h c k = move_step K ok s r h c.seat c.call k

-- no call changes the fan
pub seated_cursor_fan : (K : Kind) (s : Seated State) (c : Naming CursorCall) → CursorInWords K c.call → (seated_cursor K s c).after.of.head.fan ≡ s.of.head.fan
unfolding seated_cursor seated_cursor_move
seated_cursor_fan K s c = by_cursor_deed (λ d. CursorInWords K d → (seated_cursor_move K s.of s.seats c.seat d (cursor_deed d)).after.of.head.fan ≡ s.of.head.fan)
    (λ l k. ((seated_refusals K s).reset l k).fixed.fan) (λ t l k. ((seated_refusals K s).insert c.seat t l k).fixed.fan) (λ flag at l k. ((seated_refusals K s).split c.seat at l flag k).fixed.fan)
    (λ d e k. rw e (cursor_fixed K s.of d).fan) c.call
