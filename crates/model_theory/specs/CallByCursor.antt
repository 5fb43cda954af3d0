-- Each call on cursors, whatever these are, does on a tree that stands for a row what the call of the row that it means does there: a current
-- cursor is the cursor of the entry at its slot, so that the call by id is the same call, and any other is refused by its own number.
use Rattle.model.specs.declared.number.EntryId.{EntryId}
use Rattle.std.specs.declared.cmp.Ordering.{Ordering}
use Rattle.model.specs.Numbered.{Numbered}
use Rattle.std.specs.Prelude.{◌≡◌, ◌⊎◌, Bool, cond, List, [], ◌∷◌, ◌++◌, eqb, length, Ok, Err, Some, None, Option}
use Rattle.std.proofs.Math.Path.{refl, sym, ap, subst}
use Rattle.std.proofs.Common.{ap₂, ◌∙◌, inl, inr}
use Rattle.std.proofs.Math.Bool.{true, false}
use Prim.Native.Nat.{ℕ, zero, suc, ◌<◌, ◌≤◌}
use Rattle.std.proofs.Math.Decide.{dec_lt}
use native.Mathlib.Omega.{arith}
use borrow.Author.Tests.{ne_eqb, lt-leb, le-leb}
use Rattle.model.specs.Kind.{too_many_lines}
use Rattle.model.specs.declared.shape.Kind.{Kind}
use Rattle.model.specs.Lists.{Cause, refusal}
use Rattle.model.specs.State.{State}
use Rattle.model.specs.Row as row
use Rattle.model.specs.Row.{Row, Call, Entry, Answer, done, refused, Moved, moved, no_entry, row_move, row_step}
use Rattle.model.specs.Sound.{Coherent, entries_of}
use Rattle.model.specs.Refuse.{opening, stale, overfull, at_cursor, current, bad_size, full}
use Rattle.model.specs.Calls as calls
use Rattle.model.specs.Calls.{make, cursor_at}
use Rattle.model.specs.Answer.{outcome_answer, number_answer, verdict_answer, named_answer, compared_answer, inserted_answer}
use Rattle.model.specs.ById.{told, with_cursor, id_answer, standing_id_answer, next_answer, divided_id_answer, tree_move, tree_step}
use Rattle.model.specs.ByCursor as by
use Rattle.model.specs.ByCursor.{CursorCall, EntryCall, cursor_step, entry_step, entry_at, meant}
use Rattle.model.specs.Promise.{Words, IsWord, InWords, Represents, CursorInWords, StandsAt, SelectedAt, DividedAt}
use Rattle.model.specs.declared.head.Cursor.{Cursor}
use Rattle.model_theory.specs.CallOpen.{passed, stopped, few_lines, many_lines_law, opens, fresh, good_size, entry_absent}
use Rattle.model_theory.specs.CallSimulates.{Simulates, row_passed, row_stopped, count_is}
use Rattle.model_theory.specs.CallById.{step}
use Rattle.model_theory.specs.CursorCurrent.{first_applies, Fails, which, fails_not, current_is, is_current}
use Rattle.model_theory.specs.CursorAnswered.{split_lines, current_at, cursor_at_law, select_at, split_at}

-- both parts of a split, read
pub parts_read : (K : Kind) (flag : Bool) (i n : ℕ) (s : State) (a : Numbered (EntryId × Cursor × Cursor)) (q : Answer) → DividedAt K flag i n s a q → by.parts_answer K s a ≡ by.with_parts flag i q
parts_read K flag i n s (Ok (k, a, b)) q p = rw (p.1, p.2.id, p.3.id) (sym (ap (by.with_parts flag i) p.0))
parts_read K flag i n s (Err m) q p = sym (ap (by.with_parts flag i) p)

module _ (K : Kind) (ok : K.effect < K.views) (s : State) (w : Coherent K s) where
  -- a cursor that no cause stops is current, and a current one passes
  pub is_clear : (c : Cursor) → refusal (stale K s c) ≡ 0 → current K s c ≡ true
  is_clear c e = go (which K s w c)
    where
      go : ((current K s c ≡ true) × (refusal (stale K s c) ≡ 0)) ⊎ Fails K s c (refusal (stale K s c)) → current K s c ≡ true
      go (inl q) = q.0
      go (inr f) = absurd (fails_not K s w c (refusal (stale K s c)) 0 f (omega arith) (λ z. omega arith) (sym e))

  clear : (c : Cursor) (cs : List Cause) → current K s c ≡ true → refusal (stale K s c ++ cs) ≡ refusal cs
  clear c cs e = let r = current_is K s w c e in subst (λ (m : ℕ). refusal (stale K s (cursor_at m c.leaf.0 c.slot) ++ cs) ≡ refusal cs) (sym r.0) (fresh K s w c.leaf.0 c.slot cs r.1 r.2)

  -- a cursor that fails stops its call by the same number
  pub stops : (c : Cursor) (n : ℕ) → refusal (stale K s c) ≡ suc n → refusal (opening K s ++ at_cursor K s c) ≡ suc n
  stops c n e = opens K s w (at_cursor K s c) ∙ first_applies (stale K s c) (overfull K s c ∷ []) n e

  -- the entry at a current cursor
  below : (c : Cursor) → current K s c ≡ true → entry_at K s c < s.head.entries
  below c e = (is_current K s w c e).0

  pub small : (c : Cursor) → current K s c ≡ true → entry_at K s c < 65536
  small c e = (let z = below c e in omega (arith, w.entry_count, w.limit_most))

  pub word : (c : Cursor) → current K s c ≡ true → IsWord (entry_at K s c)
  word c e = (let z = small c e in omega arith)

  found : (c : Cursor) (F : Cursor → Moved State) → current K s c ≡ true → with_cursor s (calls.cursor K s (entry_at K s c)) F ≡ F c
  found c F e = ap (λ (z : Numbered Cursor). with_cursor s z F) (is_current K s w c e).1

  unnamed : (c : Cursor) (n : ℕ) → refusal (stale K s c) ≡ suc n → calls.id K s c ≡ Err (suc n)
  unfolding calls.id
  unnamed c n q = stopped (opening K s ++ at_cursor K s c) Err _ n (stops c n q)

  module _ (r : Row) (h : Represents K s r) where
    -- a call on a cursor that the row has too
    plainly : (c : Cursor) (F : Cursor → Moved State) (k : Call) → InWords K k → tree_step K s k ≡ with_cursor s (calls.cursor K s (entry_at K s c)) F → current K s c ≡ true → Simulates (Represents K) (F c) (row_step K r k)
    plainly c F k m q e = subst (λ (z : Moved State). Simulates (Represents K) z (row_step K r k)) (q ∙ found c F e) (step K ok s r h k m)

    own_row : row.row s.head.limit (entries_of K s) ≡ r
    own_row = ap₂ row.row h.limit h.entries

    stays : (n : ℕ) → Simulates (Represents K) (moved s (refused n)) (moved r (refused n))
    stays n = record { same = refl; kept = h }

    -- a cursor stands for its entry, or fails
    with_one : (c : Cursor) (a : Moved State) (f : ℕ → EntryCall)
        → (current K s c ≡ true → Simulates (Represents K) a (entry_step K r (f (entry_at K s c))))
        → ((n : ℕ) → refusal (stale K s c) ≡ suc n → a ≡ moved s (refused (suc n)))
        → Simulates (Represents K) a (entry_step K r (by.standing K s c f))
    unfolding by.standing entry_step
    with_one c a f hit miss = go (refusal (stale K s c)) refl
      where
        go : (n : ℕ) → refusal (stale K s c) ≡ n → Simulates (Represents K) a (entry_step K r (cond (eqb (refusal (stale K s c)) 0) (f (entry_at K s c)) (by.failed (refusal (stale K s c)))))
        go zero q = rw q (hit (is_clear c q))
        go (suc n) q = rw (q, ne_eqb (suc n) 0 (λ z. omega arith)) (subst (λ (z : Moved State). Simulates (Represents K) z (moved r (refused (suc n)))) (sym (miss n q)) (stays (suc n)))

    -- one of a call that gives lengths: where these have too many line ends, both answer 10
    with_lines : (l : List ℕ) (c : Cursor) (a : Moved State) (f : ℕ → EntryCall)
        → (too_many_lines K l ≡ true → (a ≡ moved s (refused 10)) × (entry_step K r (f (entry_at K s c)) ≡ moved r (refused 10)))
        → (too_many_lines K l ≡ false → Simulates (Represents K) a (entry_step K r (by.standing K s c f)))
        → Simulates (Represents K) a (entry_step K r (by.standing_for K s l c f))
    unfolding by.standing_for
    with_lines l c a f many few = go (too_many_lines K l) refl
      where
        go : (b : Bool) → too_many_lines K l ≡ b → Simulates (Represents K) a (entry_step K r (cond b (f (entry_at K s c)) (by.standing K s c f)))
        go true e = subst (λ (z : Moved State). Simulates (Represents K) z (entry_step K r (f (entry_at K s c)))) (sym (many e).0) (subst (λ (z : Moved Row). Simulates (Represents K) (moved s (refused 10)) z) (sym (many e).1) (stays 10))
        go false e = few e

    -- a call without a cursor that answers 10 by itself
    by_itself : (b : Bool) (a : Moved State) → (b ≡ true → a ≡ moved s (refused 10)) → cond b (moved s (refused 10)) a ≡ a
    by_itself true a h = sym (h refl)
    by_itself false a h = refl

    -- the calls, one by one
    by_insert : (c : Cursor) (l : List ℕ) → Words K l → Simulates (Represents K) (cursor_step K s (by.insert (Some c) l)) (entry_step K r (meant K s (by.insert (Some c) l)))
    unfolding cursor_step meant entry_step tree_move tree_step row_step calls.insert_by
    by_insert c l k = with_lines l c (told (calls.insert K s (Some c) l) inserted_answer) (λ i. by.plain (row.insert i l))
        (λ o. (ap (λ (z : calls.Reply (Numbered (EntryId × ℕ))). told z inserted_answer) (stopped (calls.insert_causes K (full s ∷ []) s (Some c) l) (λ m. calls.reply s (Err m)) _ 9 (many_lines_law K l _ o)), rw o))
        (λ o. with_one c (told (calls.insert K s (Some c) l) inserted_answer) (λ i. by.plain (row.insert i l))
        (λ e. plainly c (λ d. told (calls.insert K s (Some d) l) inserted_answer) (row.insert (entry_at K s c) l) (word c e, k) (rw (o, ne_eqb (entry_at K s c) no_entry (λ z. let y = small c e in omega arith))) e)
        (λ n q. ap (λ (z : calls.Reply (Numbered (EntryId × ℕ))). told z inserted_answer) (stopped (calls.insert_causes K (full s ∷ []) s (Some c) l) (λ m. calls.reply s (Err m)) _ n (few_lines K l _ o ∙ first_applies (opening K s ++ at_cursor K s c) _ n (stops c n q)))))

    by_end : (l : List ℕ) → Words K l → Simulates (Represents K) (cursor_step K s (by.insert None l)) (entry_step K r (meant K s (by.insert None l)))
    unfolding cursor_step meant entry_step tree_move tree_step calls.insert_by
    by_end l k = subst (λ (z : Moved State). Simulates (Represents K) z (row_step K r (row.insert no_entry l)))
        (by_itself (too_many_lines K l) (told (calls.insert K s None l) inserted_answer)
        (λ o. ap (λ (z : calls.Reply (Numbered (EntryId × ℕ))). told z inserted_answer) (stopped (calls.insert_causes K (full s ∷ []) s None l) (λ m. calls.reply s (Err m)) _ 9 (many_lines_law K l _ o))))
        (step K ok s r h (row.insert no_entry l) (omega arith, k))

    by_reset : (l : List ℕ) → Words K l → Simulates (Represents K) (cursor_step K s (by.reset l)) (entry_step K r (meant K s (by.reset l)))
    unfolding cursor_step meant entry_step tree_move tree_step calls.reset
    by_reset l k = subst (λ (z : Moved State). Simulates (Represents K) z (row_step K r (row.reset l)))
        (by_itself (too_many_lines K l) (told (calls.reset K s l) outcome_answer)
        (λ o. ap (λ (z : calls.Reply (Numbered (Unit {0}))). told z outcome_answer) (stopped (calls.make_causes K s.head.fan s.head.limit l s.leaves s.inners s.homes) (λ m. calls.reply s (Err m)) _ 9 (many_lines_law K l _ o))))
        (step K ok s r h (row.reset l) k)

    by_rank : (v : ℕ) (c : Cursor) → v < K.views → Simulates (Represents K) (cursor_step K s (by.rank v c)) (entry_step K r (meant K s (by.rank v c)))
    unfolding cursor_step meant entry_step tree_move tree_step calls.entry_to_char_index
    by_rank v c k = with_one c (moved s (number_answer (calls.entry_to_char_index K s v c))) (λ i. by.plain (row.rank v i))
        (λ e. plainly c (λ d. moved s (number_answer (calls.entry_to_char_index K s v d))) (row.rank v (entry_at K s c)) (k, word c e) refl e)
        (λ n q. ap (λ (z : Numbered ℕ). moved s (number_answer z)) (stopped (opening K s ++ at_cursor K s c) Err _ n (stops c n q)))

    by_set : (c : Cursor) (l : List ℕ) → Words K l
        → Simulates (Represents K) (cursor_step K s (by.set_lengths c l)) (entry_step K r (meant K s (by.set_lengths c l)))
    unfolding cursor_step meant entry_step tree_move tree_step row_step calls.set_lengths
    by_set c l k = with_lines l c (told (calls.set_lengths K s c l) outcome_answer) (λ i. by.plain (row.set_lengths i l))
        (λ o. (ap (λ (z : calls.Reply (Numbered (Unit {0}))). told z outcome_answer) (stopped (calls.resize_causes K s c l) (λ m. calls.reply s (Err m)) _ 9 (many_lines_law K l _ o)), rw o))
        (λ o. with_one c (told (calls.set_lengths K s c l) outcome_answer) (λ i. by.plain (row.set_lengths i l))
        (λ e. plainly c (λ d. told (calls.set_lengths K s d l) outcome_answer) (row.set_lengths (entry_at K s c) l) (word c e, k) (rw o) e)
        (λ n q. ap (λ (z : calls.Reply (Numbered (Unit {0}))). told z outcome_answer) (stopped (calls.resize_causes K s c l) (λ m. calls.reply s (Err m)) _ n (few_lines K l _ o ∙ first_applies (opening K s ++ at_cursor K s c) _ n (stops c n q)))))

    by_update : (c : Cursor) (l : List ℕ) → Words K l → Simulates (Represents K) (cursor_step K s (by.update c l)) (entry_step K r (meant K s (by.update c l)))
    unfolding cursor_step meant entry_step tree_move tree_step row_step calls.update
    by_update c l k = with_lines l c (told (calls.update K s c l) number_answer) (λ i. by.plain (row.update i l))
        (λ o. (ap (λ (z : calls.Reply (Numbered ℕ)). told z number_answer) (stopped (calls.resize_causes K s c l) (λ m. calls.reply s (Err m)) _ 9 (many_lines_law K l _ o)), rw o))
        (λ o. with_one c (told (calls.update K s c l) number_answer) (λ i. by.plain (row.update i l))
        (λ e. plainly c (λ d. told (calls.update K s d l) number_answer) (row.update (entry_at K s c) l) (word c e, k) (rw o) e)
        (λ n q. ap (λ (z : calls.Reply (Numbered ℕ)). told z number_answer) (stopped (calls.resize_causes K s c l) (λ m. calls.reply s (Err m)) _ n (few_lines K l _ o ∙ first_applies (opening K s ++ at_cursor K s c) _ n (stops c n q)))))

    by_next : (c : Cursor) → Simulates (Represents K) (cursor_step K s (by.next c)) (entry_step K r (meant K s (by.next c)))
    unfolding cursor_step meant entry_step tree_move tree_step calls.next_after
    by_next c = with_one c (moved s (next_answer K s (calls.next_after K s c))) (λ i. by.plain (row.next i))
        (λ e. plainly c (λ d. moved s (next_answer K s (calls.next_after K s d))) (row.next (entry_at K s c)) (word c e) refl e)
        (λ n q. ap (λ (z : Numbered (Option Cursor)). moved s (next_answer K s z)) (stopped (opening K s ++ at_cursor K s c) Err _ n (stops c n q)))

    by_lengths : (c : Cursor) → Simulates (Represents K) (cursor_step K s (by.lengths c)) (entry_step K r (meant K s (by.lengths c)))
    unfolding cursor_step meant entry_step tree_move tree_step calls.entry_lengths
    by_lengths c = with_one c (moved s (calls.entry_lengths K s c)) (λ i. by.plain (row.lengths i))
        (λ e. plainly c (λ d. moved s (calls.entry_lengths K s d)) (row.lengths (entry_at K s c)) (word c e) refl e)
        (λ n q. ap (λ (z : Answer). moved s z) (stopped (opening K s ++ at_cursor K s c) refused _ n (stops c n q)))

    -- the first cursor is tested, then the second
    by_compare : (a b : Cursor) → Simulates (Represents K) (cursor_step K s (by.compare a b)) (entry_step K r (meant K s (by.compare a b)))
    unfolding cursor_step meant entry_step tree_move tree_step calls.cmp
    by_compare a b = with_one a (moved s (compared_answer (calls.cmp K s a b))) (λ i. by.standing K s b (λ j. by.plain (row.compare i j)))
        (λ e. with_one b (moved s (compared_answer (calls.cmp K s a b))) (λ j. by.plain (row.compare (entry_at K s a) j))
        (λ f. plainly b (λ d. moved s (compared_answer (calls.cmp K s a d))) (row.compare (entry_at K s a) (entry_at K s b)) (word a e, word b f) (found a (λ c. with_cursor s (calls.cursor K s (entry_at K s b)) (λ d. moved s (compared_answer (calls.cmp K s c d)))) e) f)
        (λ n q. ap (λ (z : Numbered Ordering). moved s (compared_answer z)) (stopped (opening K s ++ (stale K s a ++ stale K s b)) Err _ n (opens K s w (stale K s a ++ stale K s b) ∙ clear a (stale K s b) e ∙ q))))
        (λ n q. ap (λ (z : Numbered Ordering). moved s (compared_answer z)) (stopped (opening K s ++ (stale K s a ++ stale K s b)) Err _ n (opens K s w (stale K s a ++ stale K s b) ∙ first_applies (stale K s a) (stale K s b) n q)))

    -- the entry itself, in the row
    count : length r.entries ≡ s.head.entries
    count = sym (ap length h.entries) ∙ count_is K s w

    self_known : (i : ℕ) → i < s.head.entries → entry_step K r (by.self i) ≡ moved r (done (i ∷ []))
    unfolding entry_step refusal
    self_known i lt = row_passed r (row.no_such_id r i ∷ []) r.entries (done (i ∷ [])) (rw (lt-leb (length r.entries) i (omega (arith, count))))

    self_unknown : (i : ℕ) → s.head.entries ≤ i → entry_step K r (by.self i) ≡ moved r (refused 4)
    unfolding entry_step refusal
    self_unknown i le = row_stopped r (row.no_such_id r i ∷ []) r.entries (done (i ∷ [])) 3 (rw (le-leb (length r.entries) i (omega (arith, count))))

    told_self : (i : ℕ) (a : Answer) → i < s.head.entries → a ≡ done (i ∷ []) → Simulates (Represents K) (moved s a) (entry_step K r (by.self i))
    told_self i a lt q = rw (self_known i lt) (record { same = q; kept = h })

    by_id : (c : Cursor) → Simulates (Represents K) (cursor_step K s (by.id c)) (entry_step K r (meant K s (by.id c)))
    unfolding cursor_step meant
    by_id c = with_one c (moved s (named_answer (calls.id K s c))) by.self
        (λ e. told_self (entry_at K s c) (named_answer (calls.id K s c)) (below c e) (ap named_answer (current_at K s w c e).id))
        (λ n q. ap (λ (z : Numbered EntryId). moved s (named_answer z)) (unnamed c n q))

    by_cursor : (i : ℕ) → Simulates (Represents K) (cursor_step K s (by.cursor i)) (entry_step K r (meant K s (by.cursor i)))
    unfolding cursor_step meant
    by_cursor i = go (dec_lt i s.head.entries)
      where
        at : (lt : i < s.head.entries) (a : Numbered Cursor) → StandsAt K s a i
            → Simulates (Represents K) (moved s (standing_id_answer K s a)) (entry_step K r (by.self i))
        at lt (Ok c) p = told_self i (standing_id_answer K s (Ok c)) lt (ap (λ (z : Numbered EntryId). id_answer z []) p.id)
        at lt (Err n) p = absurd p

        go : Dec (i < s.head.entries) → Simulates (Represents K) (moved s (standing_id_answer K s (calls.cursor K s i))) (entry_step K r (by.self i))
        go (yes lt) = at lt (calls.cursor K s i) (cursor_at_law K ok s w i lt)
        go (no ge) = rw (entry_absent K s w i (omega arith), self_unknown i (omega arith)) (stays 4)

    by_len : Simulates (Represents K) (cursor_step K s by.len) (entry_step K r (meant K s by.len))
    unfolding cursor_step meant entry_step row_move row_step calls.len refusal
    by_len = record { same = ap number_answer (passed (bad_size s.head.fan s.head.limit ∷ []) Err (Ok s.head.entries) (good_size K s w [])) ∙ ap (λ (n : ℕ). done (n ∷ [])) (sym count); kept = h }

    by_empty : Simulates (Represents K) (cursor_step K s by.is_empty) (entry_step K r (meant K s by.is_empty))
    unfolding cursor_step meant entry_step calls.is_empty refusal
    by_empty = record { same = ap verdict_answer (passed (bad_size s.head.fan s.head.limit ∷ []) Err (Ok false) (good_size K s w [])); kept = h }

    by_select : (v x : ℕ) → (v < K.views) × IsWord x → Simulates (Represents K) (cursor_step K s (by.select v x)) (entry_step K r (meant K s (by.select v x)))
    unfolding cursor_step meant entry_step calls.char_index_to_entry tree_move tree_step
    by_select v x k = record {
      same = go (calls.char_index_to_entry K s v x).answer (subst (λ (q : Row). SelectedAt K (calls.locate K s v x).after (calls.char_index_to_entry K s v x).answer (row_step K q (row.lookup v x)).answer) own_row (select_at K ok s w v k.0 x));
      kept = (step K ok s r h (row.lookup v x) k).kept;
    }
      where
        go : (a : Numbered (Cursor × ℕ)) → SelectedAt K (calls.locate K s v x).after a (row_step K r (row.lookup v x)).answer
            → by.selected_id_answer K (calls.locate K s v x).after a ≡ by.less_positions (row_step K r (row.lookup v x)).answer
        go (Ok (c, offset)) p = ap (λ (z : Numbered EntryId). id_answer z (offset ∷ [])) p.4.id ∙ sym (ap by.less_positions p.3)
        go (Err n) p = sym (ap by.less_positions p)

    by_split : (flag : Bool) (c : Cursor) (l : List ℕ) → Words K l → Simulates (Represents K) (cursor_step K s (by.split flag c l)) (entry_step K r (meant K s (by.split flag c l)))
    unfolding cursor_step meant tree_move tree_step entry_step row_step calls.split_by
    by_split flag c l k = with_lines l c (let z = calls.split_entry K s c l flag in moved z.after (by.parts_answer K z.after z.answer)) (λ i. by.parts flag i l)
        (λ o. (ap (λ (z : calls.Reply (Numbered (EntryId × Cursor × Cursor))). moved z.after (by.parts_answer K z.after z.answer)) (split_lines K (full s ∷ []) s c l flag o), rw o))
        (λ o. with_one c (let z = calls.split_entry K s c l flag in moved z.after (by.parts_answer K z.after z.answer)) (λ i. by.parts flag i l)
        (λ e. record {
          same = parts_read K flag (entry_at K s c) s.head.entries _ (calls.split_entry K s c l flag).answer _ (subst (λ (q : Row). DividedAt K flag (entry_at K s c) s.head.entries (calls.split_entry K s c l flag).after (calls.split_entry K s c l flag).answer (row_step K q (row.split flag (entry_at K s c) l)).answer) own_row (split_at K ok s w c (entry_at K s c) (current_at K s w c e) l k.long flag));
          kept = (plainly c (λ d. told (calls.split_entry K s d l flag) divided_id_answer) (row.split flag (entry_at K s c) l) (word c e, k) (rw o) e).kept;
        })
        (λ n q. ap (λ (z : calls.Reply (Numbered (EntryId × Cursor × Cursor))). moved z.after (by.parts_answer K z.after z.answer)) (stopped _ (λ m. calls.reply s (Err m)) _ n (few_lines K l _ o ∙ first_applies (opening K s ++ at_cursor K s c) _ n (stops c n q)))))

    -- every call
    pub cursor_step_law : (c : CursorCall) → CursorInWords K c → Simulates (Represents K) (cursor_step K s c) (entry_step K r (meant K s c))
    unfolding cursor_step meant entry_step tree_move tree_step
    cursor_step_law (by.reset l) k = by_reset l k
    cursor_step_law (by.insert (Some c) l) k = by_insert c l k
    cursor_step_law (by.insert None l) k = by_end l k
    cursor_step_law (by.split flag c l) k = by_split flag c l k
    cursor_step_law (by.set_lengths c l) k = by_set c l k
    cursor_step_law (by.update c l) k = by_update c l k
    cursor_step_law (by.locate v x) k = step K ok s r h (row.lookup v x) k
    cursor_step_law (by.select v x) k = by_select v x k
    cursor_step_law (by.rank v c) k = by_rank v c k
    cursor_step_law (by.next c) k = by_next c
    cursor_step_law (by.compare a b) k = by_compare a b
    cursor_step_law (by.lengths c) k = by_lengths c
    cursor_step_law (by.id c) k = by_id c
    cursor_step_law (by.cursor i) k = by_cursor i
    cursor_step_law by.first k = step K ok s r h row.first tt
    cursor_step_law by.len k = by_len
    cursor_step_law by.is_empty k = by_empty
