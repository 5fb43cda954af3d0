-- One call of a seated list, by id: on a tree that stands for a row with the same seats, its answer is the row's, and what it leaves stands for what the
-- row becomes, with the same charges. A call that names a seat is the call without seats with other causes for want of space, and then a charge.
use Rattle.std.proofs.Math.Path.{◌≡◌, refl, sym, subst}
use Rattle.std.proofs.Common.{ap, ap₂, ◌∙◌, arith, length-set, ne_eqb, ltb-false}
use Rattle.std.specs.Prelude.{Bool, cond, not, ◌||◌, eqb, ltb, leb, length, Err, Some, None, Option}
use Rattle.std.proofs.Math.Bool.{true, false}
use mathlib.Core.List.{List, [], ◌∷◌}
use Prim.Native.Nat.{ℕ, zero, suc, ◌+◌, ◌<◌}
use Rattle.std.proofs.Math.Decide.{dec_lt}
use Rattle.std.proofs.lemmas.Bool.{lt-leb}
use Rattle.model.specs.Kind.{crossed}
use Rattle.model.specs.declared.shape.Kind.{Kind}
use Rattle.model.specs.Lists.{Cause, refusal}
use Rattle.model.specs.State.{State}
use Rattle.model.specs.Place.{Change, divide}
use Rattle.model.specs.Refuse.{shape_of}
use Rattle.model.specs.Row as row
use Rattle.model.specs.Row.{Row, Call, Entry, Answer, done, refused, Moved, moved, no_entry, new_entry, inserted, divided, made_row, overlong, row_move, row_step}
use Rattle.model.specs.Answer.{outcome_answer, inserted_answer}
use Rattle.model.specs.Sound.{Sound, entries_of}
use Rattle.model.specs.Calls as calls
use Rattle.model.specs.ById.{told, with_cursor, with_target, at_target, divided_id_answer, tree_move, tree_step}
use Rattle.model.specs.Promise.{InWords, Words, Represents}
use Rattle.model.specs.Seats.{bad_seat, over, charged_to, Fair}
use Rattle.model.specs.SeatedCalls.{space, after_insert, after_split, insert_seated, split_seated, reset_seated}
use Rattle.model.specs.SeatedList as list
use Rattle.model.specs.SeatedList.{Seated, seated, Naming, deed, misnamed, charging, clearing, row_space, told_seated, seated_row_move, seated_row, seated_tree_move, seated_tree}
use Rattle.model.specs.declared.seats.Seats.{Seats}
use Rattle.model.specs.declared.head.Cursor.{Cursor}
use Rattle.model_theory.specs.RowViews.{or_false}
use Rattle.model_theory.specs.CallOpen.{clear, level_bounds, crossed_bounds_law, entry_found, entry_absent}
use Rattle.model_theory.specs.CallSimulates.{Simulates, Mirrors, Space, row_of, row_passed, row_stopped, count_is, by_limit}
use Rattle.model_theory.specs.RowEach.{inserted_all}
use Rattle.model_theory.specs.RowLines.{FewIn, FewLines, divided_few, represents_few}
use Rattle.model_theory.specs.RowBounds.{Level, inserted_level, divided_level, represents_level, represents_of}
use Rattle.model_theory.specs.CallMake.{reset_is, reset_stops}
use Rattle.model_theory.specs.CallInsert.{step_insert_by}
use Rattle.model_theory.specs.CallSplit.{step_split_by}
use Rattle.model_theory.specs.CallById.{step}
use Rattle.model_theory.specs.AnyFixed.{fixes}
use Rattle.model_theory.specs.RowSeven.{one_more}
use Rattle.model_theory.specs.RowCount.{divided_count, is_there, other_count}
use Rattle.model_theory.specs.SeatDeeds.{by_deed}
use Rattle.model_theory.specs.SeatRules.{outnumber, fair_take, fair_begun}

-- a tree and a row with the same seats, whose free entries cover all unused shares
pub record SeatedRepresents (K : Kind) (s : Seated State) (r : Seated Row) : Type 0 where
  pub stands : Represents K s.of r.of
  pub seats : s.seats ≡ r.seats
  pub eight : length r.seats.charges ≡ 8
  pub fair : Fair r.of.limit (length r.of.entries) r.seats

-- a seat that may be named: nobody in a tree without seats, one of the eight in a seated one
pub nobody_in : (b : Seats) → bad_seat b None ≡ false → b.seated ≡ true → ⊥
nobody_in b e q = (let z : ◌≡◌ {A = ℕ} 0 1 = cc in omega arith)

pub number_in : (b : Seats) (i : ℕ) → bad_seat b (Some i) ≡ false → (b.seated ≡ true) × (i < 8)
number_in b i e = let r = or_false (not b.seated) (ltb 7 i) e in (go b.seated r.0, (let z = ltb-false 7 i r.1 in omega arith))
  where
    go : (a : Bool) → not a ≡ false → a ≡ true
    go true q = refl
    go false q = sym q

eight_charged : (b : Seats) (x : Option ℕ) → length b.charges ≡ 8 → length (charged_to x b).charges ≡ 8
eight_charged b None e = e
eight_charged b (Some i) e = length-set b.charges i _ ∙ e

-- a call's answer charges its seat exactly where the number is 0
charges : {A : Type 0} (f : A → Answer) (refuse : ℕ → A) (after : A → Seats) (b d : Seats) (cs : List Cause) (s : State) (r : Change) (a : A)
    → ((n : ℕ) → (f (refuse n)).number ≡ n) → (f a).number ≡ 0 → ((n : ℕ) → after (refuse n) ≡ b) → after a ≡ d
    → (let y = (calls.unless cs (λ n. calls.reply s (refuse n)) (calls.settled s r refuse a)).answer in after y ≡ cond (eqb (f y).number 0) d b)
charges f refuse after b d cs s r a refusing answering leaves takes = go (eqb (refusal cs) 0) refl (eqb r.number 0) refl
  where
    go : (p : Bool) → eqb (refusal cs) 0 ≡ p → (q : Bool) → eqb r.number 0 ≡ q
        → (let y = (calls.unless cs (λ n. calls.reply s (refuse n)) (calls.settled s r refuse a)).answer in after y ≡ cond (eqb (f y).number 0) d b)
    go false p q e = rw (p, refusing (refusal cs), p) (leaves (refusal cs))
    go true p false q = rw (p, q, refusing r.number, q) (leaves r.number)
    go true p true q = rw (p, q, answering) takes

module _ (K : Kind) (ok : K.effect < K.views) (t : State) (w : Sound K t) (b : Seats) (eight : length b.charges ≡ 8) (fair : Fair t.head.limit (length (entries_of K t)) b) where
  few : FewLines K (entries_of K t)
  few = represents_few K t (row_of K t) (record { sound = w; entries = refl; limit = refl })

  level : Level K (entries_of K t)
  level = represents_level K t (row_of K t) (record { sound = w; entries = refl; limit = refl })

  -- why one entry more has no space -----------------------------------------------------------------------------------------------------------

  pub spaces : (x : Option ℕ) → bad_seat b x ≡ false → Space t (space t b x) (row_space (row_of K t) b x)
  unfolding refusal
  spaces None e = by_limit K t w.coherent
  spaces (Some i) e =
      let q = number_in b i e in
      record {
        same = subst (λ (n : ℕ). ◌≡◌ {A = ℕ} (cond (over t.head.limit n b i).applies 18 (cond (leb t.head.limit n) 9 0)) (cond (over t.head.limit (length (entries_of K t)) b i).applies 18 0)) (count_is K t w.coherent)
            (go (over t.head.limit (length (entries_of K t)) b i).applies refl);
        free = λ z. (let y = outnumber t.head.limit (length (entries_of K t)) b (fair q.0) i q.1 (clear 18 (over t.head.limit (length (entries_of K t)) b i).applies [] (λ z. omega arith) z).0 in omega (arith, count_is K t w.coherent));
      }
    where
      go : (o : Bool) → (over t.head.limit (length (entries_of K t)) b i).applies ≡ o → ◌≡◌ {A = ℕ} (cond o 18 (cond (leb t.head.limit (length (entries_of K t))) 9 0)) (cond o 18 0)
      go true q = refl
      go false q = (let r = number_in b i e in let y = outnumber t.head.limit (length (entries_of K t)) b (fair r.0) i r.1 q in rw (lt-leb t.head.limit (length (entries_of K t)) (omega arith)))

  -- where it has, the charge is fair
  pub takes : (x : Option ℕ) → bad_seat b x ≡ false → refusal (row_space (row_of K t) b x) ≡ 0 → Fair t.head.limit (length (entries_of K t) + 1) (charged_to x b)
  takes None e z s = absurd (nobody_in b e s)
  takes (Some i) e z s =
      let q = number_in b i e in
      fair_take t.head.limit (length (entries_of K t)) b (fair q.0) i q.1 eight w.coherent.limit_most (clear 18 (over t.head.limit (length (entries_of K t)) b i).applies [] (λ z. omega arith) z).0

  -- a call that names a seat ----------------------------------------------------------------------------------------------------------------

  charged_step : (x : Option ℕ) (cs : List Cause) (es : List Entry) (vs : List ℕ) (m : Moved State) → Simulates (Mirrors K) m (row.unless (row_of K t) cs es (done vs)) → FewLines K es → (refusal cs ≡ 0 → Level K es)
      → (refusal cs ≡ 0 → Fair t.head.limit (length es) (charged_to x b)) → Simulates (SeatedRepresents K) (charging x b m) (charging x b (row.unless (row_of K t) cs es (done vs)))
  charged_step x cs es vs m a f g more = go (refusal cs) refl
    where
      go : (n : ℕ) → refusal cs ≡ n → Simulates (SeatedRepresents K) (charging x b m) (charging x b (row.unless (row_of K t) cs es (done vs)))
      go zero e =
          let n = row_passed (row_of K t) cs es (done vs) e in
          let same : m.answer ≡ done vs = a.same ∙ ap (λ (z : Moved Row). z.answer) n in
          let kept : Mirrors K m.after (row.row t.head.limit es) = subst (λ (z : Moved Row). Mirrors K m.after z.after) n a.kept in
          subst (λ (z : Moved Row). Simulates (SeatedRepresents K) (charging x b m) (charging x b z)) (sym n)
          (rw same (record { same = refl; kept = record { stands = represents_of K m.after (row.row t.head.limit es) kept f (g e); seats = refl; eight = eight_charged b x eight; fair = more e } }))
      go (suc k) e =
          let n = row_stopped (row_of K t) cs es (done vs) k e in
          let same : m.answer ≡ refused (suc k) = a.same ∙ ap (λ (z : Moved Row). z.answer) n in
          let kept : Mirrors K m.after (row_of K t) = subst (λ (z : Moved Row). Mirrors K m.after z.after) n a.kept in
          subst (λ (z : Moved Row). Simulates (SeatedRepresents K) (charging x b m) (charging x b z)) (sym n)
          (rw (same, ne_eqb (suc k) 0 (λ z. omega arith)) (record { same = refl; kept = record { stands = represents_of K m.after (row_of K t) kept few level; seats = refl; eight = eight; fair = fair } }))

  -- the calls by id: those of the library, then the charge
  one_insert : (x : Option ℕ) (l : List ℕ) → bad_seat b x ≡ false → (tg : Option Cursor) → told_seated (insert_seated K t b x tg l) inserted_answer ≡ charging x b (told (calls.insert_by K (space t b x) t tg l) inserted_answer)
  unfolding insert_seated calls.insert_by
  one_insert x l e tg = rw e (ap (λ (d : Seats). moved (seated (calls.insert_by K (space t b x) t tg l).after d) (inserted_answer (calls.insert_by K (space t b x) t tg l).answer))
      (charges inserted_answer Err (after_insert x b) b (charged_to x b) (calls.insert_causes K (space t b x) t tg l) t (calls.placed K t tg l).0 _ (λ n. refl) refl (λ n. refl) refl))

  one_split : (x : Option ℕ) (l : List ℕ) (flag : Bool) → bad_seat b x ≡ false → (c : Cursor) → told_seated (split_seated K t b x c l flag) divided_id_answer ≡ charging x b (told (calls.split_by K (space t b x) t c l flag) divided_id_answer)
  unfolding split_seated calls.split_by
  one_split x l flag e c = rw e (ap (λ (d : Seats). moved (seated (calls.split_by K (space t b x) t c l flag).after d) (divided_id_answer (calls.split_by K (space t b x) t c l flag).answer))
      (charges divided_id_answer Err (after_split x b) b (charged_to x b) (calls.split_causes K (space t b x) t c l) t (divide (shape_of K t.head) flag t c.leaf.0 c.slot l) _ (λ n. refl) refl (λ n. refl) refl))

  at_cursor_law : (x : Option ℕ) (i : ℕ) (F : Cursor → Moved (Seated State)) (G : Cursor → Moved State) → ((c : Cursor) → F c ≡ charging x b (G c))
      → with_cursor (seated t b) (calls.cursor K t i) F ≡ charging x b (with_cursor t (calls.cursor K t i) G)
  at_cursor_law x i F G h = go (dec_lt i t.head.entries)
    where
      go : Dec (i < t.head.entries) → with_cursor (seated t b) (calls.cursor K t i) F ≡ charging x b (with_cursor t (calls.cursor K t i) G)
      go (yes lt) = let c = entry_found K t w.coherent i lt in rw c.is (h (calls.cursor_at t.head.stamp c.leaf c.slot))
      go (no ge) = rw (entry_absent K t w.coherent i (omega arith))

  at_target_law : (x : Option ℕ) (i : ℕ) (F : Option Cursor → Moved (Seated State)) (G : Option Cursor → Moved State) → ((tg : Option Cursor) → F tg ≡ charging x b (G tg))
      → at_target (seated t b) i (calls.cursor K t i) F ≡ charging x b (with_target K t i G)
  at_target_law x i F G h = go (eqb i no_entry) refl
    where
      go : (p : Bool) → eqb i no_entry ≡ p → at_target (seated t b) i (calls.cursor K t i) F ≡ charging x b (with_target K t i G)
      go true e = rw e (h None)
      go false e = rw e (at_cursor_law x i (λ c. F (Some c)) (λ c. G (Some c)) (λ c. h (Some c)))

  insert_seated_law : (x : Option ℕ) (i : ℕ) (l : List ℕ) → length l ≡ K.views → overlong K (row.insert i l) ≡ false → bad_seat b x ≡ false
      → Simulates (SeatedRepresents K) (seated_tree_move K t b x (row.insert i l) (list.inserts i l)) (seated_row_move K (row_of K t) b x (row.insert i l) (list.inserts i l))
  unfolding seated_tree_move seated_row_move
  insert_seated_law x i l wl o e =
      let es : List Entry = inserted i (new_entry (row_of K t) l) (entries_of K t) in
      subst (λ (m : Moved (Seated State)). Simulates (SeatedRepresents K) m (charging x b (row.insert_by K (row_space (row_of K t) b x) (row_of K t) i l)))
      (sym (at_target_law x i (λ tg. told_seated (insert_seated K t b x tg l) inserted_answer) (λ tg. told (calls.insert_by K (space t b x) t tg l) inserted_answer) (one_insert x l e)))
      (charged_step x _ es _ _ (step_insert_by K ok t w.coherent (space t b x) (row_space (row_of K t) b x) (spaces x e) i l wl o) (inserted_all (FewIn K) i (new_entry (row_of K t) l) (entries_of K t) o few) (inserted_level K _ (row_of K t) i l level)
      (λ z. subst (λ (n : ℕ). Fair t.head.limit n (charged_to x b)) (let y = one_more i (new_entry (row_of K t) l) (entries_of K t) in omega arith)
      (takes x e (clear 7 (row.past K es).applies _ (λ z. omega arith) (clear 20 (crossed K l) _ (λ z. omega arith) (clear 4 (row.no_such_place (row_of K t) i).applies _ (λ z. omega arith) z).1).1).1)))

  split_seated_law : (x : Option ℕ) (flag : Bool) (i : ℕ) (l : List ℕ) → length l ≡ K.views → overlong K (row.split flag i l) ≡ false → bad_seat b x ≡ false
      → Simulates (SeatedRepresents K) (seated_tree_move K t b x (row.split flag i l) (list.splits flag i l)) (seated_row_move K (row_of K t) b x (row.split flag i l) (list.splits flag i l))
  unfolding seated_tree_move seated_row_move
  split_seated_law x flag i l wl o e =
      let es : List Entry = divided flag i (new_entry (row_of K t) l) (entries_of K t) in
      let ls : List ℕ = row.lengths_of i (entries_of K t) in
      subst (λ (m : Moved (Seated State)). Simulates (SeatedRepresents K) m (charging x b (row.split_by K (row_space (row_of K t) b x) (row_of K t) flag i l)))
      (sym (at_cursor_law x i (λ c. told_seated (split_seated K t b x c l flag) divided_id_answer) (λ c. told (calls.split_by K (space t b x) t c l flag) divided_id_answer) (one_split x l flag e)))
      (charged_step x _ es _ _ (step_split_by K t w.coherent (space t b x) (row_space (row_of K t) b x) (spaces x e) flag i l wl o) (divided_few K flag i (new_entry (row_of K t) l) (entries_of K t) o few) (divided_level K _ (row_of K t) flag i l level)
      (λ z. let behind = (clear 4 (row.no_such_id (row_of K t) i).applies _ (λ z. omega arith) z).1 in
      subst (λ (n : ℕ). Fair t.head.limit n (charged_to x b)) (let y = divided_count flag i (new_entry (row_of K t) l) (entries_of K t) (is_there K t w.coherent i _ z) in omega arith)
      (takes x e (clear 20 (row.crossed_parts K l ls).applies _ (λ z. omega arith) (clear 17 (row.hollow_part K l ls).applies _ (λ z. omega arith) (clear 6 (row.too_much K l ls).applies _ (λ z. omega arith) behind).1).1).1)))

  -- the others ----------------------------------------------------------------------------------------------------------------------------------

  reset_seated_law : (x : Option ℕ) (l : List ℕ) → Words K l → overlong K (row.reset l) ≡ false
      → Simulates (SeatedRepresents K) (seated_tree_move K t b x (row.reset l) (list.resets l)) (seated_row_move K (row_of K t) b x (row.reset l) (list.resets l))
  unfolding seated_tree_move seated_row_move reset_seated tree_step row_step tree_move row_move refusal
  reset_seated_law x l k o = go (crossed K l) refl
    where
      es : List Entry
      es = (made_row t.head.limit l).entries

      a : Simulates (Represents K) (tree_move K t (row.reset l)) (row_move K (row_of K t) (row.reset l))
      a = rw o at (step K ok t (row_of K t) (record { sound = w; entries = refl; limit = refl }) (row.reset l) k)

      go : (p : Bool) → crossed K l ≡ p → Simulates (SeatedRepresents K) (told_seated (reset_seated K t b l) outcome_answer) (clearing b (row.unless (row_of K t) (row.crossed_bounds K l ∷ []) es (done [])))
      go true e =
          rw (reset_stops K t w.coherent l o e, row_stopped (row_of K t) (row.crossed_bounds K l ∷ []) es (done []) 19 (crossed_bounds_law K l [] e))
          (record { same = refl; kept = record { stands = record { sound = w; entries = refl; limit = refl }; seats = refl; eight = eight; fair = fair } })
      go false e =
          let n = row_passed (row_of K t) (row.crossed_bounds K l ∷ []) es (done []) (level_bounds K l [] e) in
          rw (reset_is K t w.coherent l o e, n)
          (record { same = refl; kept = record { stands = rw (reset_is K t w.coherent l o e, n) at a.kept; seats = refl; eight = refl; fair = λ s. fair_begun t.head.limit b.seated b.shares (fair s).shares } })

  other_seated : (x : Option ℕ) (c : Call) → deed c ≡ list.nothing → overlong K c ≡ false → InWords K c → Simulates (SeatedRepresents K) (seated_tree_move K t b x c (deed c)) (seated_row_move K (row_of K t) b x c (deed c))
  unfolding seated_tree_move seated_row_move tree_step row_step
  other_seated x c e o k =
      let a : Simulates (Represents K) (tree_move K t c) (row_move K (row_of K t) c) = rw o at (step K ok t (row_of K t) (record { sound = w; entries = refl; limit = refl }) c k) in
      let l : (row_move K (row_of K t) c).after.limit ≡ t.head.limit = sym a.kept.limit ∙ rw o at ((fixes K t).step c).limit in
      rw e (record { same = a.same; kept = record { stands = a.kept; seats = refl; eight = eight; fair = subst (λ (m : ℕ). Fair m (length (row_move K (row_of K t) c).after.entries) b) (sym l) (subst (λ (n : ℕ). Fair t.head.limit n b) (sym (other_count K t w.coherent c e)) fair) } })

  move_seated : (x : Option ℕ) (c : Call) → overlong K c ≡ false → misnamed b x (deed c) ≡ false → InWords K c → Simulates (SeatedRepresents K) (seated_tree_move K t b x c (deed c)) (seated_row_move K (row_of K t) b x c (deed c))
  move_seated x c o e k = by_deed (λ c. overlong K c ≡ false → misnamed b x (deed c) ≡ false → InWords K c → Simulates (SeatedRepresents K) (seated_tree_move K t b x c (deed c)) (seated_row_move K (row_of K t) b x c (deed c)))
      (λ l o e k. reset_seated_law x l k o) (λ i l o e k. insert_seated_law x i l k.1.long o e) (λ flag i l o e k. split_seated_law x flag i l k.1.long o e) (λ c n o e k. other_seated x c n o k) c o e k

-- every call
pub seated_step : (K : Kind) (ok : K.effect < K.views) (s : Seated State) (r : Seated Row) → SeatedRepresents K s r → (c : Naming Call) → InWords K c.call → Simulates (SeatedRepresents K) (seated_tree K s c) (seated_row K r c)
unfolding seated_tree seated_row
seated_step K ok s r h c k = subst (λ (q : Seated Row). Simulates (SeatedRepresents K) (seated_tree K s c) (seated_row K q c)) row_is (go (overlong K c.call || misnamed s.seats c.seat (deed c.call)) refl)
  where
    row_is : seated (row_of K s.of) s.seats ≡ r
    row_is = ap₂ seated (ap₂ row.row h.stands.limit h.stands.entries) h.seats

    own_stands : SeatedRepresents K s (seated (row_of K s.of) s.seats)
    own_stands = subst (SeatedRepresents K s) (sym row_is) h

    go : (p : Bool) → (overlong K c.call || misnamed s.seats c.seat (deed c.call)) ≡ p
        → Simulates (SeatedRepresents K) (cond p (moved s (refused 10)) (seated_tree_move K s.of s.seats c.seat c.call (deed c.call)))
        (cond p (moved (seated (row_of K s.of) s.seats) (refused 10)) (seated_row_move K (row_of K s.of) s.seats c.seat c.call (deed c.call)))
    go true e = record { same = refl; kept = own_stands }
    go false e =
        let q = or_false (overlong K c.call) (misnamed s.seats c.seat (deed c.call)) e in
        move_seated K ok s.of h.stands.sound s.seats own_stands.eight own_stands.fair c.seat c.call q.0 q.1 k
