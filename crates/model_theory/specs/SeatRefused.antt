-- What is promised of seats on any words, sound or not: a refused call leaves the seats, no call changes shares, limit or fan, a tree without seats is
-- the tree that it was, and audit says yes exactly where the tree is sound and its seats are fair.
use Rattle.model.specs.declared.number.EntryId.{EntryId}
use Rattle.model.specs.Numbered.{Numbered}
use Rattle.std.specs.Prelude.{◌≡◌, ◌≢◌, Bool, not, ◌||◌, List, [], ◌∷◌, ◌++◌, eqb, Ok, Err, Some, None, Option}
use Rattle.std.proofs.Math.Path.{refl, ap, subst}
use Rattle.std.proofs.Common.{sym, ◌∙◌, arith, ne_eqb, ltb-true}
use Rattle.std.proofs.Math.Bool.{true, false, cond}
use Prim.Native.Nat.{ℕ, zero, suc, ◌<◌}
use Rattle.model.specs.declared.shape.Kind.{Kind}
use Rattle.model.specs.Lists.{Cause, refusal}
use Rattle.model.specs.State.{State, state, head_of}
use Rattle.model.specs.Row.{Call, refused, Moved, moved, no_entry, overlong}
use Rattle.model.specs.Answer.{outcome_answer, inserted_answer, divided_answer}
use Rattle.model.specs.Calls as calls
use Rattle.model.specs.ById as by_id
use Rattle.model.specs.ById.{told, with_cursor, with_target, at_target, tree_move, tree_step}
use Rattle.model.specs.Audit.{audit}
use Rattle.model.specs.Promise.{Words, InWords, Leaves, Fixed}
use Rattle.model.specs.Seats.{no_seats, sum, within_limit, bad_seat, too_high, charged_to, is_fair}
use Rattle.model.specs.SeatedCalls.{seated_reply, SeatedReply, make_seated, reset_seated, after_reset, space, insert_seated, after_insert, split_seated, after_split, also_fair, audit_seated}
use Rattle.model.specs.SeatedList as list
use Rattle.model.specs.SeatedList.{Seated, seated, Naming, naming, Deed, deed, misnamed, told_seated, seated_tree_move, seated_tree}
use Rattle.model.specs.SeatPromise.{SeatedLeaves, Replies, SeatedRefusals, SeatedMade, WithoutSeats, SoundSeated, SeatedDemand1}
use Rattle.model.specs.declared.seats.Seats.{Seats}
use Rattle.model.specs.declared.head.Cursor.{Cursor}
use Rattle.model_theory.specs.RowViews.{or_false}
use Rattle.model_theory.specs.CallOpen.{stopped, clear}
use Rattle.model_theory.specs.AnyFixed.{insert_fixed, split_entry_fixed, fixes}
use Rattle.model_theory.specs.AnyRefused.{unmoved, id_number, insert_leaves, split_leaves, refusals}
use Rattle.model_theory.specs.AuditExactly.{audit_exactly}
use Rattle.model_theory.specs.CursorCurrent.{first_applies}
use Rattle.model_theory.specs.SeatDeeds.{by_deed}
use Rattle.model_theory.specs.SeatRules.{fair_exactly}

-- what the answers of the three calls leave of the seats ---------------------------------------------------------------------------------------

-- the same seats, but for their charges
record Same (b d : Seats) : Type 0 where
  seated : d.seated ≡ b.seated
  shares : d.shares ≡ b.shares

same_charged : (x : Option ℕ) (b : Seats) → Same b (charged_to x b)
same_charged None b = record { seated = refl; shares = refl }
same_charged (Some i) b = record { seated = refl; shares = refl }

reset_seats : (b : Seats) (a : Numbered (Unit {0})) → ((outcome_answer a).number ≢ 0 → after_reset b a ≡ b) × Same b (after_reset b a)
reset_seats b (Ok tt) = (λ n. absurd (n refl), record { seated = refl; shares = refl })
reset_seats b (Err n) = (λ m. refl, record { seated = refl; shares = refl })

insert_seats : (x : Option ℕ) (b : Seats) (a : Numbered (EntryId × ℕ)) → ((inserted_answer a).number ≢ 0 → after_insert x b a ≡ b) × Same b (after_insert x b a)
insert_seats x b (Ok (i, p)) = (λ n. absurd (n refl), same_charged x b)
insert_seats x b (Err n) = (λ m. refl, record { seated = refl; shares = refl })

split_seats : (x : Option ℕ) (b : Seats) (a : Numbered (EntryId × Cursor × Cursor)) → ((divided_answer a).number ≢ 0 → after_split x b a ≡ b) × Same b (after_split x b a)
split_seats x b (Ok (i, c, d)) = (λ n. absurd (n refl), same_charged x b)
split_seats x b (Err n) = (λ m. refl, record { seated = refl; shares = refl })

left : (n : ℕ) (s t : Seated State) → Leaves n s.of t.of → (n ≢ 0 → t.seats ≡ s.seats) × Same s.seats t.seats → Fixed s.of t.of → SeatedLeaves n s t
left n s t l b f = record { tree = l; seats = b.0; fixed = f; seated = b.1.seated; shares = b.1.shares }

stays : (n : ℕ) (s : Seated State) → SeatedLeaves n s s
stays n s = left n s s (unmoved n s.of) (λ m. refl, record { seated = refl; shares = refl }) (record { fan = refl; limit = refl })

-- every call ------------------------------------------------------------------------------------------------------------------------------------

module _ (K : Kind) (s : Seated State) where
  reset_left : (l : List ℕ) → Words K l → Replies outcome_answer s (reset_seated K s.of s.seats l)
  unfolding reset_seated
  reset_left l w = left _ s _ ((refusals K s.of).reset l w) (reset_seats s.seats (calls.reset K s.of l).answer) ((fixes K s.of).reset l)

  insert_left : (x : Option ℕ) (t : Option Cursor) (l : List ℕ) → Words K l → Replies inserted_answer s (insert_seated K s.of s.seats x t l)
  unfolding insert_seated
  insert_left x t l w = go (bad_seat s.seats x)
    where
      r : calls.Reply (Numbered (EntryId × ℕ))
      r = calls.insert_by K (space s.of s.seats x) s.of t l

      go : (p : Bool) → Replies inserted_answer s (cond p (seated_reply s.of s.seats (Err 10)) (seated_reply r.after (after_insert x s.seats r.answer) r.answer))
      go true = stays 10 s
      go false = left _ s _ (insert_leaves K s.of (space s.of s.seats x) t l w) (insert_seats x s.seats r.answer) (insert_fixed K s.of (space s.of s.seats x) t l)

  split_left : (x : Option ℕ) (c : Cursor) (l : List ℕ) (flag : Bool) → Words K l → Replies divided_answer s (split_seated K s.of s.seats x c l flag)
  unfolding split_seated
  split_left x c l flag w = go (bad_seat s.seats x)
    where
      r : calls.Reply (Numbered (EntryId × Cursor × Cursor))
      r = calls.split_by K (space s.of s.seats x) s.of c l flag

      go : (p : Bool) → Replies divided_answer s (cond p (seated_reply s.of s.seats (Err 10)) (seated_reply r.after (after_split x s.seats r.answer) r.answer))
      go true = stays 10 s
      go false = left _ s _ (split_leaves K s.of (space s.of s.seats x) c l flag w) (split_seats x s.seats r.answer) (split_entry_fixed K s.of (space s.of s.seats x) c l flag)

  abbrev Left : Moved (Seated State) → Type 0
  Left m = SeatedLeaves m.answer.number s m.after

  at_cursor_law : (a : Numbered Cursor) (f : Cursor → Moved (Seated State)) → ((c : Cursor) → Left (f c)) → Left (with_cursor s a f)
  at_cursor_law (Ok c) f h = h c
  at_cursor_law (Err n) f h = stays n s

  at_target_law : (i : ℕ) (a : Numbered Cursor) (f : Option Cursor → Moved (Seated State)) → ((t : Option Cursor) → Left (f t)) → Left (at_target s i a f)
  at_target_law i a f h = go (eqb i no_entry)
    where
      go : (p : Bool) → Left (cond p (f None) (with_cursor s a (λ c. f (Some c))))
      go true = h None
      go false = at_cursor_law a (λ c. f (Some c)) (λ c. h (Some c))

  move_left : (x : Option ℕ) (c : Call) → overlong K c ≡ false → InWords K c → Left (seated_tree_move K s.of s.seats x c (deed c))
  unfolding seated_tree_move tree_step
  move_left x = by_deed (λ c. overlong K c ≡ false → InWords K c → Left (seated_tree_move K s.of s.seats x c (deed c)))
      (λ l o k. reset_left l k)
      (λ i l o k. at_target_law i (calls.cursor K s.of i) (λ t. told_seated (insert_seated K s.of s.seats x t l) inserted_answer) (λ t. insert_left x t l k.1))
      (λ flag i l o k. at_cursor_law (calls.cursor K s.of i) (λ c. told_seated (split_seated K s.of s.seats x c l flag) by_id.divided_id_answer)
      (λ c. rw (id_number (split_seated K s.of s.seats x c l flag).answer) (split_left x c l flag k.1)))
      (λ c e o k. rw e (left _ s (seated (tree_move K s.of c).after s.seats) (rw o at ((refusals K s.of).step c k)) (λ n. refl, record { seated = refl; shares = refl }) (rw o at ((fixes K s.of).step c))))

  step_left : (c : Naming Call) → InWords K c.call → Left (seated_tree K s c)
  unfolding seated_tree
  step_left c k = go (overlong K c.call || misnamed s.seats c.seat (deed c.call)) refl
    where
      go : (p : Bool) → (overlong K c.call || misnamed s.seats c.seat (deed c.call)) ≡ p
          → Left (cond p (moved s (refused 10)) (seated_tree_move K s.of s.seats c.seat c.call (deed c.call)))
      go true e = stays 10 s
      go false e = move_left c.seat c.call (or_false (overlong K c.call) _ e).0 k

pub seated_refusals : (K : Kind) (s : Seated State) → SeatedRefusals K s
seated_refusals K s = record { reset = reset_left K s; insert = insert_left K s; split = split_left K s; step = step_left K s }

-- make ----------------------------------------------------------------------------------------------------------------------------------------------

-- where no cause applies, none of the first ones does
none_before : (cs ds : List Cause) → refusal (cs ++ ds) ≡ 0 → refusal cs ≡ 0
none_before cs ds e = go (refusal cs) refl
  where
    go : (n : ℕ) → refusal cs ≡ n → refusal cs ≡ 0
    go zero q = q
    go (suc n) q = absurd (let z = first_applies cs ds n q in omega arith)

pub seated_made : (K : Kind) (fan limit : ℕ) (shares l ls xs hs : List ℕ) → SeatedMade K fan limit shares l ls xs hs
unfolding make_seated calls.make
seated_made K fan limit shares l ls xs hs = go (refusal (calls.make_causes K fan limit l ls xs hs ++ too_high limit shares ∷ [])) refl
  where
    go : (n : ℕ) → refusal (calls.make_causes K fan limit l ls xs hs ++ too_high limit shares ∷ []) ≡ n → SeatedMade K fan limit shares l ls xs hs
    go zero e =
        let q = none_before (calls.make_causes K fan limit l ls xs hs) (too_high limit shares ∷ []) e in
        record { refused = rw e (λ n. absurd (n refl)); done = rw (e, q) (λ d. (refl, refl)) }
    go (suc n) e = record { refused = rw (e, ne_eqb (suc n) 0 (λ z. omega arith)) (λ m. refl); done = rw (e, ne_eqb (suc n) 0 (λ z. omega arith)) (λ d. absurd (let z : ◌≡◌ {A = ℕ} 0 1 = cc in omega arith)) }

-- a make that isn't refused has shares that sum to less than the limit
pub shares_within : (K : Kind) (fan limit : ℕ) (shares l ls xs hs : List ℕ) → (make_seated K fan limit shares l ls xs hs).answer ≡ Ok tt → sum shares < limit
unfolding make_seated
shares_within K fan limit shares l ls xs hs given = go (refusal causes) refl given
  where
    causes : List Cause
    causes = calls.make_causes K fan limit l ls xs hs ++ too_high limit shares ∷ []

    within : (p : Bool) → not p ≡ false → p ≡ true
    within true e = refl
    within false e = sym e

    go : (n : ℕ) → refusal causes ≡ n → (make_seated K fan limit shares l ls xs hs).answer ≡ Ok tt → sum shares < limit
    go zero e d =
        let a = clear 10 _ _ (λ z. omega arith) e in
        let b = clear 1 _ _ (λ z. omega arith) a.1 in
        let c = clear 2 _ _ (λ z. omega arith) b.1 in
        let f = clear 20 _ _ (λ z. omega arith) c.1 in
        ltb-true (sum shares) limit (within (within_limit limit shares) (clear 19 (not (within_limit limit shares)) [] (λ z. omega arith) f.1).0)
    go (suc n) e d = absurd (let y : Err (suc n) ≡ Ok tt = sym (ap (λ (r : SeatedReply (Numbered (Unit {0}))). r.answer) (stopped causes (λ m. seated_reply (state (head_of 0 0 0 0 0 0 0 0 None) ls xs hs) no_seats (Err m)) _ n e)) ∙ d in
        let z : ◌≡◌ {A = ℕ} 0 1 = cc in omega arith)

-- a tree without seats --------------------------------------------------------------------------------------------------------------------------

module _ (K : Kind) (s : State) (b : Seats) (none : b.seated ≡ false) where
  -- the same answer, and the same tree
  abbrev Like : Moved (Seated State) → Moved State → Type 0
  Like m n = (m.answer ≡ n.answer) × (m.after.of ≡ n.after)

  insert_like : (t : Option Cursor) (l : List ℕ) → insert_seated K s b None t l ≡ seated_reply (calls.insert K s t l).after b (calls.insert K s t l).answer
  unfolding insert_seated
  insert_like t l = let r = calls.insert K s t l in ap (λ (p : Bool). cond p (seated_reply s b (Err 10)) (seated_reply r.after (after_insert None b r.answer) r.answer)) none
      ∙ (ap (λ (d : Seats). seated_reply (calls.insert K s t l).after d (calls.insert K s t l).answer) (go (calls.insert K s t l).answer))
    where
      go : (a : Numbered (EntryId × ℕ)) → after_insert None b a ≡ b
      go (Ok (i, p)) = refl
      go (Err n) = refl

  split_like : (c : Cursor) (l : List ℕ) (flag : Bool) → split_seated K s b None c l flag ≡ seated_reply (calls.split_entry K s c l flag).after b (calls.split_entry K s c l flag).answer
  unfolding split_seated
  split_like c l flag = let r = calls.split_entry K s c l flag in ap (λ (p : Bool). cond p (seated_reply s b (Err 10)) (seated_reply r.after (after_split None b r.answer) r.answer)) none
      ∙ (ap (λ (d : Seats). seated_reply (calls.split_entry K s c l flag).after d (calls.split_entry K s c l flag).answer) (go (calls.split_entry K s c l flag).answer))
    where
      go : (a : Numbered (EntryId × Cursor × Cursor)) → after_split None b a ≡ b
      go (Ok (i, c, d)) = refl
      go (Err n) = refl

  cursor_like : (a : Numbered Cursor) (F : Cursor → Moved (Seated State)) (G : Cursor → Moved State) → ((c : Cursor) → Like (F c) (G c)) → Like (with_cursor (seated s b) a F) (with_cursor s a G)
  cursor_like (Ok c) F G h = h c
  cursor_like (Err n) F G h = (refl, refl)

  target_like : (i : ℕ) (F : Option Cursor → Moved (Seated State)) (G : Option Cursor → Moved State) → ((t : Option Cursor) → Like (F t) (G t)) → Like (at_target (seated s b) i (calls.cursor K s i) F) (with_target K s i G)
  target_like i F G h = go (eqb i no_entry)
    where
      go : (p : Bool) → Like (cond p (F None) (with_cursor (seated s b) (calls.cursor K s i) (λ c. F (Some c)))) (cond p (G None) (with_cursor s (calls.cursor K s i) (λ c. G (Some c))))
      go true = h None
      go false = cursor_like (calls.cursor K s i) (λ c. F (Some c)) (λ c. G (Some c)) (λ c. h (Some c))

  move_like : (c : Call) → Like (seated_tree_move K s b None c (deed c)) (tree_move K s c)
  unfolding seated_tree_move tree_move reset_seated
  move_like = by_deed (λ c. Like (seated_tree_move K s b None c (deed c)) (tree_move K s c))
      (λ l. (refl, refl))
      (λ i l. target_like i (λ t. told_seated (insert_seated K s b None t l) inserted_answer) (λ t. told (calls.insert K s t l) inserted_answer) (λ t. rw (insert_like t l) (refl, refl)))
      (λ flag i l. cursor_like (calls.cursor K s i) (λ c. told_seated (split_seated K s b None c l flag) by_id.divided_id_answer) (λ c. told (calls.split_entry K s c l flag) by_id.divided_id_answer) (λ c. rw (split_like c l flag) (refl, refl)))
      (λ c e. rw e (refl, refl))

  step_like : (c : Call) → Like (seated_tree K (seated s b) (naming None c)) (tree_step K s c)
  unfolding seated_tree tree_step
  step_like c = subst (λ (p : Bool). Like (cond (overlong K c || p) (moved (seated s b) (refused 10)) (seated_tree_move K s b None c (deed c))) (cond (overlong K c) (moved s (refused 10)) (tree_move K s c))) (sym (unnamed (deed c))) (go (overlong K c))
    where
      unnamed : (d : Deed ℕ ℕ) → misnamed b None d ≡ false
      unnamed (list.resets l) = refl
      unnamed (list.inserts i l) = none
      unnamed (list.splits flag i l) = none
      unnamed list.nothing = refl

      go : (p : Bool) → Like (cond (p || false) (moved (seated s b) (refused 10)) (seated_tree_move K s b None c (deed c))) (cond p (moved s (refused 10)) (tree_move K s c))
      go true = (refl, refl)
      go false = move_like c

  audit_like : audit_seated K s b ≡ audit K s
  unfolding audit_seated is_fair
  audit_like = rw none (go (audit K s))
    where
      go : (v : Numbered Bool) → also_fair true v ≡ v
      go (Ok true) = refl
      go (Ok false) = refl
      go (Err n) = refl

without_seats : (K : Kind) (s : State) (b : Seats) → b.seated ≡ false → WithoutSeats K s b
without_seats K s b e = record { insert = insert_like K s b e; split = split_like K s b e; step = step_like K s b e; audit = audit_like K s b e }

-- audit -------------------------------------------------------------------------------------------------------------------------------------------

-- yes exactly where the tree is sound and its seats are fair
pub audit_seated_law : (K : Kind) (t : Seated State) → (audit_seated K t.of t.seats ≡ Ok true → SoundSeated K t) × (SoundSeated K t → audit_seated K t.of t.seats ≡ Ok true)
unfolding audit_seated
audit_seated_law K t = (
  λ e. let r = both (is_fair t.of.head.limit t.of.head.entries t.seats) (audit K t.of) e in record { sound = (audit_exactly K t.of).0 r.0; fair = (fair_exactly _ _ t.seats).0 r.1 },
  λ h. rw ((audit_exactly K t.of).1 h.sound, (fair_exactly t.of.head.limit t.of.head.entries t.seats).1 h.fair),
)
  where
    both : (f : Bool) (v : Numbered Bool) → also_fair f v ≡ Ok true → (v ≡ Ok true) × (f ≡ true)
    both true (Ok true) e = (refl, refl)
    both false (Ok true) e = absurd (let z : ◌≡◌ {A = ℕ} 0 1 = cc in omega arith)
    both f (Ok false) e = absurd (let z : ◌≡◌ {A = ℕ} 0 1 = cc in omega arith)
    both f (Err n) e = absurd (let z : ◌≡◌ {A = ℕ} 0 1 = cc in omega arith)

-- all of it
pub seated_demand1 : (K : Kind) → SeatedDemand1 K
seated_demand1 K = record { made = seated_made K; refused = seated_refusals K; without = without_seats K; audited = audit_seated_law K }
