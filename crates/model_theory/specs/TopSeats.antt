-- The list theorem with seats, by ids and on cursors, from every make that isn't refused: the answers are those of the row that holds the charges, every
-- state is sound and its free entries cover all unused shares, and a seat below its share is never refused for space, whoever called before.
use Rattle.model.specs.Numbered.{Numbered}
use Rattle.std.specs.Prelude.{◌≡◌, ◌≢◌, Bool, cond, ℕ, ◌^◌, ◌<◌, Ok, Some, None, Option}
use Rattle.std.proofs.Math.Path.{refl, ap₂}
use Rattle.std.proofs.Common.{sym, ap, ◌∙◌, subst, arith}
use Rattle.std.proofs.Math.Bool.{true, false}
use mathlib.Core.List.{List, [], ◌∷◌}
use Rattle.model.specs.declared.shape.Kind.{Kind}
use Rattle.model.specs.Lists.{All}
use Rattle.model.specs.State.{State}
use Rattle.model.specs.Row as row
use Rattle.model.specs.Row.{Row, Call, Answer, made_row, row_move, row_step}
use Rattle.model.specs.ByCursor as by
use Rattle.model.specs.ByCursor.{CursorCall, EntryCall, entry_step, meant}
use Rattle.model.specs.Calls.{make}
use Rattle.model.specs.Sound.{Coherent}
use Rattle.model.specs.Promise.{Words, CursorInWords, earlier, answers, finally}
use Rattle.model.specs.Seats.{seats_of, no_charges, share, charge, Fair}
use Rattle.model.specs.SeatedCalls.{SeatedReply}
use Rattle.model.specs.SeatedList.{Seated, seated, Naming, naming, cursor_deed, misnamed, seated_row, seated_tree, seated_cursor, seated_entry_move, seated_entry, seated_meant, seated_meant_all}
use Rattle.model.specs.SeatPromise.{NamingInWords, CursorNamingInWords, Asks, BelowShare, SeatedInvariant, AlongSeats, AlongSeatedCursors, SeatedDemand3, SeatedLists}
use Rattle.model_theory.specs.CallSimulates.{Simulates}
use Rattle.model_theory.specs.RowNumbers.{number_is, no_cause}
use Rattle.model_theory.specs.TopById.{invariant_of, made, fan_made}
use Rattle.model_theory.specs.TopByCursor.{NotBy, meant_not}
use Rattle.model_theory.specs.TopStamps.{stamped}
use Rattle.model_theory.specs.SeatRules.{fair_begun}
use Rattle.model_theory.specs.SeatById.{SeatedRepresents, seated_step}
use Rattle.model_theory.specs.SeatNumbers.{Apart, eight_apart, nine_apart, eighteen_apart, eighteen_only, eight_not, nine_not, seated_numbers}
use Rattle.model_theory.specs.SeatRefused.{seated_refusals, seated_made, shares_within}
use Rattle.model_theory.specs.SeatByCursor.{seated_cursor_step, seated_cursor_fan}
use Rattle.model_theory.specs.SeatStamps.{seated_counts, still_small, reset_one}

-- numbers that no call on cursors answers -------------------------------------------------------------------------------------------------------

module _ (K : Kind) (r : Seated Row) (x : Option ℕ) (y : ℕ) (a : Apart y) (never : (c : Call) → (seated_row K r (naming x c)).answer.number ≢ y) where
  entry_not : (e : EntryCall) → NotBy y e → (seated_entry_move K r x e).answer.number ≢ y
  unfolding seated_entry_move entry_step row_step row_move All
  entry_not (by.plain c) k = never c
  entry_not (by.parts flag i l) k = never (row.split flag i l)
  entry_not (by.select v z) k = λ e. no_cause y (row.no_such_position r.of v z ∷ []) a.done (a.five, tt) (sym (number_is r.of _ _ _) ∙ e)
  entry_not (by.self i) k = λ e. no_cause y (row.no_such_id r.of i ∷ []) a.done (a.four, tt) (sym (number_is r.of _ _ _) ∙ e)
  entry_not by.is_empty k = λ e. a.done (sym e)
  entry_not (by.failed n) k = k

module _ (K : Kind) (ok : K.effect < K.views) (s : Seated State) (r : Seated Row) (h : SeatedRepresents K s r) (c : Naming CursorCall) (k : CursorInWords K c.call) where
  cursor_not : (y : ℕ) → Apart y → 3 ≢ y → 13 ≢ y → 14 ≢ y → ((d : Call) → (seated_row K r (naming c.seat d)).answer.number ≢ y) → (seated_cursor K s c).answer.number ≢ y
  unfolding seated_entry seated_meant
  cursor_not y a three thirteen fourteen never e =
      entry_not K r c.seat y a never (seated_meant K s c).call (fails (misnamed s.seats c.seat (cursor_deed c.call))) (ap (λ (z : Answer). z.number) (sym (seated_cursor_step K ok s r h c k).same) ∙ e)
    where
      fails : (p : Bool) → NotBy y (cond p (by.failed 10) (meant K s.of c.call))
      fails true = a.ten
      fails false = meant_not K s.of h.stands.sound.coherent y three thirteen fourteen c.call

  cursor_nine : (seated_cursor K s c).answer.number ≢ 9
  cursor_nine = cursor_not 9 nine_apart (λ z. omega arith) (λ z. omega arith) (λ z. omega arith) (nine_not K r c.seat)

  cursor_eight : r.seats.seated ≡ true → (seated_cursor K s c).answer.number ≢ 8
  cursor_eight q = cursor_not 8 eight_apart (λ z. omega arith) (λ z. omega arith) (λ z. omega arith) (λ d. eight_not K r c.seat d q)

  -- below its share
  cursor_eighteen : BelowShare r c.seat → (seated_cursor K s c).answer.number ≢ 18
  cursor_eighteen b = cursor_not 18 eighteen_apart (λ z. omega arith) (λ z. omega arith) (λ z. omega arith)
      (λ d e. let o = eighteen_only K r c.seat d e in
      let i : o.0 ≡ b.number = ap number_of (sym o.1.names ∙ b.names) in
      let lt : charge r.seats o.0 < share r.seats o.0 = subst (λ (j : ℕ). charge r.seats j < share r.seats j) (sym i) b.unused in
      let ge = o.2.0 in omega arith)
    where
      number_of : Option ℕ → ℕ
      number_of None = 0
      number_of (Some i) = i

-- lists -------------------------------------------------------------------------------------------------------------------------------------------

module _ (K : Kind) (ok : K.effect < K.views) where
  seated_kept : (fan : ℕ) (s : Seated State) (r : Seated Row) → SeatedRepresents K s r → s.of.head.fan ≡ fan → SeatedInvariant K fan s r
  seated_kept fan s r h f =
      let k = invariant_of K ok fan s.of r.of h.stands f in
      let fair : Fair s.of.head.limit s.of.head.entries r.seats = subst (λ (n : ℕ). Fair n s.of.head.entries r.seats) (sym k.limit) (subst (λ (n : ℕ). Fair r.of.limit n r.seats) (sym k.count) h.fair) in
      record { kept = k; sound = record { sound = h.stands.sound; fair = subst (Fair s.of.head.limit s.of.head.entries) (sym h.seats) fair }; seats = h.seats; numbers = seated_numbers K ok s r h }

  seated_alike : (s : Seated State) (r : Seated Row) (cs : List (Naming Call)) → SeatedRepresents K s r → All (NamingInWords K) cs
      → (answers (seated_tree K) s cs ≡ answers (seated_row K) r cs) × SeatedRepresents K (finally (seated_tree K) s cs) (finally (seated_row K) r cs)
  unfolding answers finally All
  seated_alike s r [] h k = (refl, h)
  seated_alike s r (c ∷ cs) h k =
      let a : Simulates (SeatedRepresents K) (seated_tree K s c) (seated_row K r c) = seated_step K ok s r h c k.0 in
      let i = seated_alike (seated_tree K s c).after (seated_row K r c).after cs a.kept k.1 in
      (ap₂ ◌∷◌ a.same i.0, i.1)

  along_seats : (fan : ℕ) (s : Seated State) (r : Seated Row) (cs : List (Naming Call)) → SeatedRepresents K s r → s.of.head.fan ≡ fan → All (NamingInWords K) cs → AlongSeats K fan s r cs
  unfolding AlongSeats All
  along_seats fan s r [] h f k = seated_kept fan s r h f
  along_seats fan s r (c ∷ cs) h f k =
      let a : Simulates (SeatedRepresents K) (seated_tree K s c) (seated_row K r c) = seated_step K ok s r h c k.0 in
      (seated_kept fan s r h f, a.same, along_seats fan (seated_tree K s c).after (seated_row K r c).after cs a.kept (((seated_refusals K s).step c k.0).fixed.fan ∙ f) k.1)

  cursors_alike : (s : Seated State) (r : Seated Row) (cs : List (Naming CursorCall)) → SeatedRepresents K s r → All (CursorNamingInWords K) cs → answers (seated_cursor K) s cs ≡ answers (seated_entry K) r (seated_meant_all K s cs)
  unfolding answers seated_meant_all All
  cursors_alike s r [] h k = refl
  cursors_alike s r (c ∷ cs) h k =
      let a : Simulates (SeatedRepresents K) (seated_cursor K s c) (seated_entry K r (seated_meant K s c)) = seated_cursor_step K ok s r h c k.0 in
      ap₂ ◌∷◌ a.same (cursors_alike (seated_cursor K s c).after (seated_entry K r (seated_meant K s c)).after cs a.kept k.1)

  along_cursors : (fan : ℕ) (s : Seated State) (r : Seated Row) (cs : List (Naming CursorCall)) → SeatedRepresents K s r → s.of.head.fan ≡ fan → All (CursorNamingInWords K) cs → AlongSeatedCursors K fan s r cs
  unfolding AlongSeatedCursors All
  along_cursors fan s r [] h f k = seated_kept fan s r h f
  along_cursors fan s r (c ∷ cs) h f k =
      let a : Simulates (SeatedRepresents K) (seated_cursor K s c) (seated_entry K r (seated_meant K s c)) = seated_cursor_step K ok s r h c k.0 in (
        seated_kept fan s r h f,
        a.same,
        cursor_nine K ok s r h c k.0,
        cursor_eight K ok s r h c k.0,
        cursor_eighteen K ok s r h c k.0,
        along_cursors fan (seated_cursor K s c).after (seated_entry K r (seated_meant K s c)).after cs a.kept (seated_cursor_fan K s c k.0 ∙ f) k.1,
      )

  -- whoever called before
  never_for_space : (s : Seated State) (r : Seated Row) → SeatedRepresents K s r → (cs : List (Naming Call)) → All (NamingInWords K) cs → (c : Naming Call) → NamingInWords K c → (i : ℕ)
      → (let q = finally (seated_row K) r cs in Asks q c i → charge q.seats i < share q.seats i → (seated_tree K (finally (seated_tree K) s cs) c).answer.number ≡ earlier K q.of c.call)
  never_for_space s r h cs k c j i a lt = (seated_numbers K ok (finally (seated_tree K) s cs) (finally (seated_row K) r cs) (seated_alike s r cs h k).1 c j).below i a lt

  left_by_cursors : (s : Seated State) (r : Seated Row) (cs : List (Naming CursorCall)) → SeatedRepresents K s r → All (CursorNamingInWords K) cs → Coherent K (finally (seated_cursor K) s cs).of
  unfolding finally All
  left_by_cursors s r [] h k = h.stands.sound.coherent
  left_by_cursors s r (c ∷ cs) h k = left_by_cursors (seated_cursor K s c).after (seated_entry K r (seated_meant K s c)).after cs (seated_cursor_step K ok s r h c k.0).kept k.1

  pub seated_demand3 : (fan : ℕ) (s : Seated State) (r : Seated Row) → SeatedRepresents K s r → s.of.head.fan ≡ fan → s.of.head.stamp < 2 ^ 64 → SeatedDemand3 K fan s r
  seated_demand3 fan s r h f small = record {
    answered = λ cs k. (seated_alike s r cs h k).0;
    each = λ cs k. along_seats fan s r cs h f k;
    below = never_for_space s r h;
    by_cursor = λ cs k. cursors_alike s r cs h k;
    each_by_cursor = λ cs k. along_cursors fan s r cs h f k;
    counts = λ cs. seated_counts K (finally (seated_cursor K) s cs) (still_small K s small cs);
    resets = λ cs k. reset_one K (finally (seated_cursor K) s cs) (left_by_cursors s r cs h k);
  }

  first_stamp : (fan limit : ℕ) (l ls xs hs : List ℕ) → Words K l → (make K fan limit l ls xs hs).answer ≡ Ok tt → (make K fan limit l ls xs hs).after.head.stamp < 2 ^ 64
  first_stamp fan limit l ls xs hs small given = (let z = (stamped K ok fan limit l ls xs hs small given).first in omega arith)

  -- from make: with shares, or without seats
  pub seated_lists : SeatedLists K
  seated_lists = record {
    shared = λ fan limit shares l ls xs hs small given.
        (let m = (seated_made K fan limit shares l ls xs hs).done given in
        subst (λ (r : SeatedReply (Numbered (Unit {0}))). SeatedDemand3 K fan (seated r.after r.seats) (seated (made_row limit l) (seats_of true shares no_charges))) (sym m.1)
        (seated_demand3 fan _ _ (record { stands = made K ok fan limit l ls xs hs small m.0; seats = refl; eight = refl; fair = λ q. fair_begun limit true shares (shares_within K fan limit shares l ls xs hs given) }) (fan_made K ok fan limit l ls xs hs small m.0) (first_stamp fan limit l ls xs hs small m.0)));
    without = λ fan limit l ls xs hs small given.
        seated_demand3 fan _ _ (record { stands = made K ok fan limit l ls xs hs small given; seats = refl; eight = refl; fair = λ q. absurd (let z : ◌≡◌ {A = ℕ} 0 1 = cc in omega arith) }) (fan_made K ok fan limit l ls xs hs small given) (first_stamp fan limit l ls xs hs small given);
  }
