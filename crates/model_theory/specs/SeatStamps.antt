-- The stamp counts the entries that seated calls make, on any tree: a call that names a seat makes its entry as one that names none does.
use Rattle.model.specs.declared.number.EntryId.{EntryId}
use Rattle.model.specs.Numbered.{Numbered}
use Rattle.std.specs.Prelude.{◌≡◌, refl, Bool, true, false, cond, List, [], ◌∷◌, ℕ, ◌+◌, ◌%◌, ◌^◌, ◌<◌, Err, Option}
use Rattle.std.proofs.Common.{sym, subst, arith, ne_eqb}
use Rattle.model.specs.Kind.{too_many_lines, crossed}
use Rattle.model.specs.declared.shape.Kind.{Kind}
use Rattle.model.specs.Lists.{refusal}
use Rattle.model.specs.State.{State}
use Rattle.model.specs.Answer.{inserted_answer, divided_answer}
use Rattle.model.specs.ByCursor as by
use Rattle.model.specs.ByCursor.{CursorCall, cursor_step}
use Rattle.model.specs.Sound.{Coherent}
use Rattle.model.specs.Stamp.{one, makes}
use Rattle.model.specs.Promise.{finally}
use Rattle.model.specs.Seats.{bad_seat}
use Rattle.model.specs.SeatedCalls.{seated_reply, space, reset_seated, insert_seated, after_insert, split_seated, after_split}
use Rattle.model.specs.SeatedList as list
use Rattle.model.specs.SeatedList.{Seated, Naming, cursor_deed, seated_cursor_move, seated_cursor}
use Rattle.model.specs.SeatPromise.{seated_makes, seated_makes_all, SeatedCounts}
use Rattle.model.specs.Calls as calls
use Rattle.model.specs.declared.head.Cursor.{Cursor}
use Rattle.model_theory.specs.StampCount.{After, none_made, reset_made, insert_made, split_made, made_after, below_64}
use Rattle.model_theory.specs.TopStamps.{reset_makes}
use Rattle.model_theory.specs.SeatDeeds.{by_cursor_deed}

-- a call that has nothing to do with seats makes no entry
none_made_by : (K : Kind) (s : State) (c : CursorCall) → cursor_deed c ≡ list.nothing → makes K s c ≡ 0
unfolding makes
none_made_by K s (by.reset l) e = absurd (let z : ◌≡◌ {A = ℕ} 0 1 = cc in omega arith)
none_made_by K s (by.insert t l) e = absurd (let z : ◌≡◌ {A = ℕ} 0 1 = cc in omega arith)
none_made_by K s (by.split flag c l) e = absurd (let z : ◌≡◌ {A = ℕ} 0 1 = cc in omega arith)
none_made_by K s (by.set_lengths c l) e = refl
none_made_by K s (by.update c l) e = refl
none_made_by K s (by.locate v x) e = refl
none_made_by K s (by.select v x) e = refl
none_made_by K s (by.rank v c) e = refl
none_made_by K s (by.next c) e = refl
none_made_by K s (by.compare a b) e = refl
none_made_by K s (by.lengths c) e = refl
none_made_by K s (by.id c) e = refl
none_made_by K s (by.cursor i) e = refl
none_made_by K s by.first e = refl
none_made_by K s by.len e = refl
none_made_by K s by.is_empty e = refl

module _ (K : Kind) (s : Seated State) (small : s.of.head.stamp < 2 ^ 64) (x : Option ℕ) where
  abbrev Made : CursorCall → Type 0
  Made c = After K s.of small (seated_makes K s x (cursor_deed c)) (seated_cursor_move K s.of s.seats x c (cursor_deed c)).after.of

  insert_counts : (t : Option Cursor) (l : List ℕ) → Made (by.insert t l)
  unfolding seated_makes seated_cursor_move insert_seated
  insert_counts t l = go (bad_seat s.seats x)
    where
      r : calls.Reply (Numbered (EntryId × ℕ))
      r = calls.insert_by K (space s.of s.seats x) s.of t l

      go : (p : Bool) → (let q = cond p (seated_reply s.of s.seats (Err 10)) (seated_reply r.after (after_insert x s.seats r.answer) r.answer) in After K s.of small (one (inserted_answer q.answer)) q.after)
      go true = none_made K s.of small s.of refl
      go false = insert_made K s.of small (space s.of s.seats x) t l

  split_counts : (flag : Bool) (c : Cursor) (l : List ℕ) → Made (by.split flag c l)
  unfolding seated_makes seated_cursor_move split_seated
  split_counts flag c l = go (bad_seat s.seats x)
    where
      r : calls.Reply (Numbered (EntryId × Cursor × Cursor))
      r = calls.split_by K (space s.of s.seats x) s.of c l flag

      go : (p : Bool) → (let q = cond p (seated_reply s.of s.seats (Err 10)) (seated_reply r.after (after_split x s.seats r.answer) r.answer) in After K s.of small (one (divided_answer q.answer)) q.after)
      go true = none_made K s.of small s.of refl
      go false = split_made K s.of small (space s.of s.seats x) flag c l

  call_counts : (c : CursorCall) → Made c
  unfolding seated_makes seated_cursor_move reset_seated
  call_counts = by_cursor_deed Made (reset_made K s.of small) insert_counts split_counts (λ c e. rw e (subst (λ (n : ℕ). After K s.of small n (cursor_step K s.of c).after) (none_made_by K s.of c e) (made_after K s.of small c)))

seated_by : (K : Kind) (s : Seated State) → s.of.head.stamp < 2 ^ 64 → (cs : List (Naming CursorCall)) → (finally (seated_cursor K) s cs).of.head.stamp ≡ (s.of.head.stamp + seated_makes_all K s cs) % 2 ^ 64
unfolding finally seated_makes_all seated_cursor
seated_by K s small [] = omega arith
seated_by K s small (c ∷ cs) =
    let e = call_counts K s small c.seat c.call in
    let z = seated_by K (seated_cursor K s c).after (subst (λ (n : ℕ). n < 2 ^ 64) (sym e) (below_64 (s.of.head.stamp + seated_makes K s c.seat (cursor_deed c.call)))) cs in
    omega arith

pub seated_counts : (K : Kind) (s : Seated State) → s.of.head.stamp < 2 ^ 64 → SeatedCounts K s
unfolding refusal
seated_counts K s small = record {
  stamp = seated_by K s small;
  shut = λ c issued cs more less. (let e = seated_by K s small cs in rw (ne_eqb c.stamp (finally (seated_cursor K) s cs).of.head.stamp (λ z. omega arith)));
}

pub still_small : (K : Kind) (s : Seated State) → s.of.head.stamp < 2 ^ 64 → (cs : List (Naming CursorCall)) → (finally (seated_cursor K) s cs).of.head.stamp < 2 ^ 64
still_small K s small cs = subst (λ (n : ℕ). n < 2 ^ 64) (sym (seated_by K s small cs)) (below_64 (s.of.head.stamp + seated_makes_all K s cs))

-- a reset of a sound tree makes one
pub reset_one : (K : Kind) (s : Seated State) → Coherent K s.of → (x : Option ℕ) (l : List ℕ) → too_many_lines K l ≡ false → crossed K l ≡ false → seated_makes K s x (list.resets l) ≡ 1
unfolding seated_makes reset_seated makes
reset_one K s w x l few level = reset_makes K l few level s.of w
