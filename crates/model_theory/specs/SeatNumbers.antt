-- The numbers of seated calls: 18 exactly by the rules, 10 for a wrong seat, no 8 in a seated tree and never a 9; a seat below its share is refused by
-- the earlier checks alone. All of the row, and so of a tree that stands for it.
use Rattle.std.proofs.Math.Path.{◌≡◌, refl}
use Rattle.std.proofs.Common.{sym, ap, ◌∙◌, arith, le-ltb}
use Rattle.std.specs.Prelude.{◌≢◌, ◌⊎◌, Bool, ◌||◌, ℕ, zero, suc, ◌<◌, length, Some, None, Option}
use Rattle.std.proofs.Math.Logic.{inl, inr}
use Rattle.std.proofs.Math.Bool.{true, false, cond}
use mathlib.Core.List.{List, [], ◌∷◌, ◌++◌}
use Rattle.model.specs.Kind.{too_many_lines}
use Rattle.model.specs.declared.shape.Kind.{Kind}
use Rattle.model.specs.Lists.{All, Cause, cause, refusal}
use Rattle.model.specs.State.{State}
use Rattle.model.specs.Row as row
use Rattle.model.specs.Row.{Row, Call, Answer, refused, Moved, moved, overlong, row_move}
use Rattle.model.specs.Promise.{InWords, Adds, earlier}
use Rattle.model.specs.Seats.{bad_seat, over}
use Rattle.model.specs.SeatedList as list
use Rattle.model.specs.SeatedList.{Seated, seated, Naming, naming, Deed, deed, misnamed, charging, row_space, seated_row_move, seated_row, seated_tree}
use Rattle.model.specs.SeatPromise.{Asks, Over, SeatedNumbers}
use Rattle.model_laws.specs.Lists.{all_append}
use Rattle.model_theory.specs.RowNumbers.{number_is, no_cause, comes_only, comes_then}
use Rattle.model_theory.specs.CursorCurrent.{first_applies}
use Rattle.model_theory.specs.SeatDeeds.{by_deed, nothing_added}
use Rattle.model_theory.specs.SeatRules.{over_when, over_then, below_share}
use Rattle.model_theory.specs.SeatById.{SeatedRepresents, number_in, seated_step}

-- a cause at the end that doesn't apply
not_last : (cs : List Cause) (n : ℕ) → refusal (cs ++ cause n false ∷ []) ≡ refusal cs
unfolding refusal
not_last [] n = refl
not_last (c ∷ cs) n = ap (cond c.applies c.number) (not_last cs n)

-- a number that no check has but those for want of space
pub record Apart (y : ℕ) : Type 0 where
  pub done : y ≢ 0
  pub four : 4 ≢ y
  pub five : 5 ≢ y
  pub six : 6 ≢ y
  pub seven : 7 ≢ y
  pub ten : 10 ≢ y
  pub seventeen : 17 ≢ y
  pub twenty : 20 ≢ y

pub eight_apart : Apart 8
eight_apart = record { done = λ z. omega arith; four = λ z. omega arith; five = λ z. omega arith; six = λ z. omega arith; seven = λ z. omega arith; ten = λ z. omega arith; seventeen = λ z. omega arith; twenty = λ z. omega arith }

pub nine_apart : Apart 9
nine_apart = record { done = λ z. omega arith; four = λ z. omega arith; five = λ z. omega arith; six = λ z. omega arith; seven = λ z. omega arith; ten = λ z. omega arith; seventeen = λ z. omega arith; twenty = λ z. omega arith }

pub eighteen_apart : Apart 18
eighteen_apart = record { done = λ z. omega arith; four = λ z. omega arith; five = λ z. omega arith; six = λ z. omega arith; seven = λ z. omega arith; ten = λ z. omega arith; seventeen = λ z. omega arith; twenty = λ z. omega arith }

module _ (K : Kind) (r : Seated Row) (x : Option ℕ) where
  -- the causes of an insert or a split before want of space
  abbrev front : Deed ℕ ℕ → List Cause
  front (list.inserts i l) = cause 10 (too_many_lines K l) ∷ row.no_such_place r.of i ∷ row.crossed_bounds K l ∷ row.past K (row.inserted i (row.new_entry r.of l) r.of.entries) ∷ []
  front (list.splits flag i l) =
      cause 10 (too_many_lines K l) ∷ row.no_such_id r.of i ∷ row.too_much K l (row.lengths_of i r.of.entries) ∷ row.hollow_part K l (row.lengths_of i r.of.entries) ∷ row.crossed_parts K l (row.lengths_of i r.of.entries) ∷ []
  front (list.resets l) = []
  front list.nothing = []

  abbrev number_of : Call → ℕ
  number_of c = (seated_row K r (naming x c)).answer.number

  -- a call that names a seat: 10 for the seat, then its causes, then want of space
  ten_or : (m : Moved (Seated Row)) (a b : Bool) (cs : List Cause) → (b ≡ false → a ≡ false → m.answer.number ≡ refusal cs)
      → (cond (a || b) (moved r (refused 10)) m).answer.number ≡ cond b 10 (refusal (cause 10 a ∷ cs))
  unfolding refusal
  ten_or m true true cs h = refl
  ten_or m true false cs h = refl
  ten_or m false true cs h = refl
  ten_or m false false cs h = h refl refl

  named : (c : Call) → Adds c → number_of c ≡ cond (bad_seat r.seats x) 10 (refusal (front (deed c) ++ row_space r.of r.seats x))
  unfolding seated_row seated_row_move
  named = by_deed (λ c. Adds c → number_of c ≡ cond (bad_seat r.seats x) 10 (refusal (front (deed c) ++ row_space r.of r.seats x)))
      (λ l h. absurd h)
      (λ i l h. ten_or (charging x r.seats (row.insert_by K (row_space r.of r.seats x) r.of i l)) (too_many_lines K l) (bad_seat r.seats x) _ (λ p q. number_is r.of _ _ _))
      (λ flag i l h. ten_or (charging x r.seats (row.split_by K (row_space r.of r.seats x) r.of flag i l)) (too_many_lines K l) (bad_seat r.seats x) _ (λ p q. number_is r.of _ _ _))
      (λ c e h. absurd (nothing_added c e h))

  front_not : (y : ℕ) → 4 ≢ y → 6 ≢ y → 7 ≢ y → 10 ≢ y → 17 ≢ y → 20 ≢ y → (d : Deed ℕ ℕ) → All (λ z. z.number ≢ y) (front d)
  unfolding All
  front_not y f s v t e w (list.inserts i l) = (t, (f, (w, (v, tt))))
  front_not y f s v t e w (list.splits flag i l) = (t, (f, (s, (e, (w, tt)))))
  front_not y f s v t e w (list.resets l) = tt
  front_not y f s v t e w list.nothing = tt

  -- a call that names no seat has no such number
  module _ (y : ℕ) (a : Apart y) where
    move_or : (c : Call) → Adds c ⊎ ((seated_row_move K r.of r.seats x c (deed c)).answer.number ≢ y)
    unfolding seated_row_move row_move All
    move_or (row.insert i l) = inl tt
    move_or (row.split flag i l) = inl tt
    move_or (row.reset l) = inr (λ e. no_cause y _ a.done (a.twenty, tt) (sym (number_is r.of _ _ _) ∙ e))
    move_or (row.set_lengths i l) = inr (λ e. no_cause y _ a.done (a.four, (a.twenty, (a.seven, tt))) (sym (number_is r.of _ _ _) ∙ e))
    move_or (row.update i l) = inr (λ e. no_cause y _ a.done (a.four, (a.twenty, (a.seven, tt))) (sym (number_is r.of _ _ _) ∙ e))
    move_or (row.lookup v index) = inr (λ e. no_cause y _ a.done (a.five, tt) (sym (number_is r.of _ _ _) ∙ e))
    move_or (row.rank v i) = inr (λ e. no_cause y _ a.done (a.four, tt) (sym (number_is r.of _ _ _) ∙ e))
    move_or (row.next i) = inr (λ e. no_cause y _ a.done (a.four, tt) (sym (number_is r.of _ _ _) ∙ e))
    move_or (row.compare i j) = inr (λ e. no_cause y _ a.done (a.four, (a.four, tt)) (sym (number_is r.of _ _ _) ∙ e))
    move_or (row.lengths i) = inr (λ e. no_cause y _ a.done (a.four, tt) (sym (number_is r.of _ _ _) ∙ e))
    move_or row.count = inr (λ e. a.done (sym e))
    move_or row.first = inr (λ e. a.done (sym e))
    move_or row.malformed = inr a.ten

    adds_or : (c : Call) → Adds c ⊎ (number_of c ≢ y)
    unfolding seated_row
    adds_or c = go (move_or c)
      where
        ten_not : (m : Moved (Seated Row)) (p : Bool) → m.answer.number ≢ y → (cond p (moved r (refused 10)) m).answer.number ≢ y
        ten_not m true h = a.ten
        ten_not m false h = h

        go : Adds c ⊎ ((seated_row_move K r.of r.seats x c (deed c)).answer.number ≢ y) → Adds c ⊎ (number_of c ≢ y)
        go (inl h) = inl h
        go (inr n) = inr (ten_not (seated_row_move K r.of r.seats x c (deed c)) (overlong K c || misnamed r.seats x (deed c)) n)

    -- nor has one that names a seat, unless want of space has it
    space_not : (c : Call) → Adds c → (bad_seat r.seats x ≡ false → All (λ z. z.number ≢ y) (row_space r.of r.seats x)) → number_of c ≢ y
    space_not c h room e = go (bad_seat r.seats x) refl (sym (named c h) ∙ e)
      where
        go : (p : Bool) → bad_seat r.seats x ≡ p → cond p 10 (refusal (front (deed c) ++ row_space r.of r.seats x)) ≢ y
        go true q z = a.ten z
        go false q z = no_cause y _ a.done (all_append (λ z. z.number ≢ y) (front (deed c)) (row_space r.of r.seats x) (front_not y a.four a.six a.seven a.ten a.seventeen a.twenty (deed c)) (room q)) z

  -- 18 is answered only by the rules
  pub eighteen_only : (c : Call) → number_of c ≡ 18 → (i : ℕ) × Asks r (naming x c) i × Over r i
  unfolding All
  eighteen_only c e = go (adds_or 18 eighteen_apart c)
    where
      by : (y : Option ℕ) → x ≡ y → bad_seat r.seats y ≡ false → Adds c → refusal (front (deed c) ++ row_space r.of r.seats y) ≡ 18 → (i : ℕ) × Asks r (naming x c) i × Over r i
      by None q ok h z = absurd (no_cause 18 _ (λ z. omega arith) (all_append (λ z. z.number ≢ 18) (front (deed c)) _ (front_not 18 eighteen_apart.four eighteen_apart.six eighteen_apart.seven eighteen_apart.ten eighteen_apart.seventeen eighteen_apart.twenty (deed c)) ((λ z. omega arith), tt)) z)
      by (Some i) q ok h z =
          let n = number_in r.seats i ok in
          let o = comes_only 18 (front (deed c)) [] (over r.of.limit (length r.of.entries) r.seats i).applies (λ z. omega arith) (front_not 18 eighteen_apart.four eighteen_apart.six eighteen_apart.seven eighteen_apart.ten eighteen_apart.seventeen eighteen_apart.twenty (deed c)) tt z in
          (i, record { adds = h; names = q; below = n.1; seated = n.0 }, over_when r.of.limit (length r.of.entries) r.seats i o.1)

      bad : (p : Bool) → bad_seat r.seats x ≡ p → Adds c → cond p 10 (refusal (front (deed c) ++ row_space r.of r.seats x)) ≡ 18 → (i : ℕ) × Asks r (naming x c) i × Over r i
      bad true q h z = absurd (omega arith)
      bad false q h z = by x refl q h z

      go : Adds c ⊎ (number_of c ≢ 18) → (i : ℕ) × Asks r (naming x c) i × Over r i
      go (inl h) = bad (bad_seat r.seats x) refl h (sym (named c h) ∙ e)
      go (inr n) = absurd (n e)

  -- a seat of a seated tree
  module _ (c : Call) (i : ℕ) (a : Asks r (naming x c) i) where
    good : bad_seat r.seats (Some i) ≡ false
    good = rw (a.seated, le-ltb 7 i (let z = a.below in omega arith))

    asked : number_of c ≡ refusal (front (deed c) ++ over r.of.limit (length r.of.entries) r.seats i ∷ [])
    asked = named c a.adds ∙ rw (a.names, good)

    earlier_is : earlier K r.of c ≡ refusal (front (deed c))
    earlier_is = by_deed (λ c. Adds c → earlier K r.of c ≡ refusal (front (deed c))) (λ l h. absurd h) (λ i l h. refl) (λ flag i l h. refl) (λ c e h. absurd (nothing_added c e h)) c a.adds

    eighteen : refusal (front (deed c)) ≡ 0 → Over r i → number_of c ≡ 18
    eighteen z o = asked ∙ comes_then 18 (front (deed c)) [] _ (front_not 0 (λ z. omega arith) (λ z. omega arith) (λ z. omega arith) (λ z. omega arith) (λ z. omega arith) (λ z. omega arith) (deed c)) (over_then r.of.limit (length r.of.entries) r.seats i o) z

    not_made : Over r i → number_of c ≢ 0
    not_made o e = go (refusal (front (deed c))) refl
      where
        go : (n : ℕ) → refusal (front (deed c)) ≡ n → ⊥
        go zero q = (let z = eighteen q o in omega arith)
        go (suc n) q = (let z = first_applies (front (deed c)) (over r.of.limit (length r.of.entries) r.seats i ∷ []) n q in let y = asked in omega arith)

    passed_over : (over r.of.limit (length r.of.entries) r.seats i).applies ≡ false → number_of c ≡ earlier K r.of c
    passed_over q = asked ∙ ap (λ (b : Bool). refusal (front (deed c) ++ cause 18 b ∷ [])) q ∙ not_last (front (deed c)) 18 ∙ sym earlier_is

    not_over : (Over r i → ⊥) → number_of c ≡ earlier K r.of c
    not_over n = passed_over (go (over r.of.limit (length r.of.entries) r.seats i).applies refl)
      where
        go : (b : Bool) → (over r.of.limit (length r.of.entries) r.seats i).applies ≡ b → b ≡ false
        go true q = absurd (n (over_when r.of.limit (length r.of.entries) r.seats i q))
        go false q = refl

  wrong_seat : (c : Call) → Adds c → bad_seat r.seats x ≡ true → number_of c ≡ 10
  wrong_seat c h e = named c h ∙ rw e

  pub eight_not : (c : Call) → r.seats.seated ≡ true → number_of c ≢ 8
  unfolding All
  eight_not c s = go (adds_or 8 eight_apart c)
    where
      room : (y : Option ℕ) → bad_seat r.seats y ≡ false → All (λ z. z.number ≢ 8) (row_space r.of r.seats y)
      room None e = absurd (let z : ◌≡◌ {A = ℕ} 0 1 = cc in omega arith)
      room (Some i) e = ((λ z. omega arith), tt)

      go : Adds c ⊎ (number_of c ≢ 8) → number_of c ≢ 8
      go (inl h) = space_not 8 eight_apart c h (room x)
      go (inr n) = n

  pub nine_not : (c : Call) → number_of c ≢ 9
  unfolding All
  nine_not c = go (adds_or 9 nine_apart c)
    where
      room : (y : Option ℕ) → All (λ z. z.number ≢ 9) (row_space r.of r.seats y)
      room None = ((λ z. omega arith), tt)
      room (Some i) = ((λ z. omega arith), tt)

      go : Adds c ⊎ (number_of c ≢ 9) → number_of c ≢ 9
      go (inl h) = space_not 9 nine_apart c h (λ e. room x)
      go (inr n) = n

-- so it is on the tree
pub seated_numbers : (K : Kind) (ok : K.effect < K.views) (s : Seated State) (r : Seated Row) → SeatedRepresents K s r → (c : Naming Call) → InWords K c.call → SeatedNumbers K s r c
seated_numbers K ok s r h c k =
    let a : (seated_tree K s c).answer.number ≡ (seated_row K r c).answer.number = ap (λ (z : Answer). z.number) (seated_step K ok s r h c k).same in
    record {
      exactly = λ i q z o. a ∙ eighteen K r c.seat c.call i q (sym (earlier_is K r c.seat c.call i q) ∙ z) o;
      only = λ e. eighteen_only K r c.seat c.call (sym a ∙ e);
      always = λ i q o e. not_made K r c.seat c.call i q o (sym a ∙ e);
      otherwise = λ i q n. a ∙ not_over K r c.seat c.call i q n;
      below = λ i q lt. a ∙ passed_over K r c.seat c.call i q (below_share r.of.limit (length r.of.entries) r.seats i lt);
      ten = λ d e. a ∙ wrong_seat K r c.seat c.call d e;
      eight = λ q e. eight_not K r c.seat c.call q (sym a ∙ e);
      nine = λ e. nine_not K r c.seat c.call (sym a ∙ e);
    }
