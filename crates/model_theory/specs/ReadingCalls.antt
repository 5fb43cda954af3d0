-- One call on a row with several lengths and on one with the effect length alone: where the proviso holds of it, both answer the same but for a prepare
-- position, and the rows stay alike. Each cause that applies here applies there too; what applies there alone is what the proviso shuts out, and its
-- number never comes here.
use Rattle.std.specs.Prelude.{◌≡◌, ◌≢◌, Bool, cond, ◌&&◌, not, ltb, eqb, get_or}
use Rattle.std.proofs.Math.Path.{refl, ap}
use Rattle.std.proofs.Common.{sym, ap₂, ◌∙◌, inl, inr, arith, le-ltb, ltb-false}
use Rattle.std.proofs.Math.Bool.{true, false, ◌||◌}
use mathlib.Core.List.{List, [], ◌∷◌, zip_with}
use Prim.Native.Nat.{ℕ, ◌-◌, ◌≤◌, ◌<◌}
use Rattle.std.proofs.Math.Dec.{leb}
use Rattle.std.proofs.Math.ListN.{length}
use Rattle.model.specs.Kind.{reading, views_of, hollow, crossed}
use Rattle.model.specs.declared.shape.Kind.{Kind}
use Rattle.model.specs.Lists.{All, some, range, Cause, cause, refusal}
use Rattle.model.specs.Row as row
use Rattle.model.specs.Row.{Row, Entry, entry, Call, Answer, done, refused, Moved, moved, no_entry, overlong, row_move, row_step, before, after, found, ordered}
use Rattle.model.specs.Promise.{InWords}
use Rattle.model.specs.Reading.{Reads, effect_of, here, effect_part, EffectFits, Other}
use Rattle.model_theory.specs.RowViews.{none_in}
use Rattle.model_theory.specs.RowNumbers.{number_is, avoids}
use Rattle.model_theory.specs.ReadingRows.{Like, Alike, same_length, same_total_law, before_alike, after_alike, first_alike, found_alike, at_like}
use Rattle.model_theory.specs.ReadingRows.{new_like, rest_like, inserted_alike, changed_alike, divided_alike, RowsAlike, MovedAlike, unless_alike}

-- causes side by side ------------------------------------------------------------------------------------------------------------------------

-- n is the number of all causes there, m of all here; those before cs and ds don't apply
abbrev Same : ℕ → ℕ → List Cause → List Cause → Type 0
Same n m cs ds = n ≡ refusal cs → m ≡ refusal ds → n ≡ m

none_left : (n m : ℕ) → Same n m [] []
unfolding refusal
none_left n m e f = e ∙ sym f

-- a cause that applies in both or in neither
in_both : (n m k : ℕ) (a b : Bool) (cs ds : List Cause) → a ≡ b → Same n m cs ds → Same n m (cause k a ∷ cs) (cause k b ∷ ds)
unfolding refusal
in_both n m k true true cs ds p rest e f = e ∙ sym f
in_both n m k true false cs ds p rest e f = absurd (let z : ◌≡◌ {A = ℕ} 0 1 = cc in omega arith)
in_both n m k false true cs ds p rest e f = absurd (let z : ◌≡◌ {A = ℕ} 0 1 = cc in omega arith)
in_both n m k false false cs ds p rest e f = rest e f

-- one that applies there wherever it does here, and there alone never decides
more_there : (n m k : ℕ) (a b : Bool) (cs ds : List Cause) → (b ≡ true → a ≡ true) → (b ≡ false → n ≢ k) → Same n m cs ds → Same n m (cause k a ∷ cs) (cause k b ∷ ds)
unfolding refusal
more_there n m k true true cs ds up un rest e f = e ∙ sym f
more_there n m k true false cs ds up un rest e f = absurd (un refl e)
more_there n m k false true cs ds up un rest e f = absurd (let z : ◌≡◌ {A = Bool} false true = up refl in let y : ◌≡◌ {A = ℕ} 0 1 = cc in omega arith)
more_there n m k false false cs ds up un rest e f = rest e f

-- one that applies here wherever it does there, and here never decides
more_here : (n m k : ℕ) (a b : Bool) (cs ds : List Cause) → (a ≡ true → b ≡ true) → m ≢ k → Same n m cs ds → Same n m (cause k a ∷ cs) (cause k b ∷ ds)
unfolding refusal
more_here n m k a true cs ds up un rest e f = absurd (un f)
more_here n m k true false cs ds up un rest e f = absurd (let z : ◌≡◌ {A = Bool} false true = up refl in let y : ◌≡◌ {A = ℕ} 0 1 = cc in omega arith)
more_here n m k false false cs ds up un rest e f = rest e f

clash : {b : Bool} → b ≡ false → b ≡ true → ⊥
clash p q = absurd (let z : ◌≡◌ {A = Bool} false true = sym p ∙ q in let y : ◌≡◌ {A = ℕ} 0 1 = cc in omega arith)

or_none : (a : Bool) → (a || false) ≡ a
or_none true = refl
or_none false = refl

or_both : (a b c d : Bool) → (a ≡ true → c ≡ true) → (b ≡ true → d ≡ true) → (a || b) ≡ true → (c || d) ≡ true
or_both true b c d f g e = rw (f refl)
or_both false b true d f g e = refl
or_both false b false d f g e = g e

-- the numbers of which the proviso speaks
far : (K : Kind) (es : List Entry) (c : Call) (k : ℕ) → Other K es c k → (6 ≤ k) × (k ≤ 10) × (k ≢ 8)
far K es c k (inl e) = (omega arith, omega arith, λ z. omega arith)
far K es c k (inr (inl e, f)) = (omega arith, omega arith, λ z. omega arith)
far K es c k (inr (inr e, f)) = (omega arith, omega arith, λ z. omega arith)

fits : (K : Kind) (es : List Entry) (c : Call) (k : ℕ) → Other K es c k → k ≢ 10 → EffectFits K es c
fits K es c k (inl e) ne = absurd (ne e)
fits K es c k (inr (p, f)) ne = f

never_overlong : (K : Kind) (c : Call) → overlong reading (here K c) ≡ false
never_overlong K (row.reset l) = refl
never_overlong K (row.insert i l) = refl
never_overlong K (row.split flag i l) = refl
never_overlong K (row.set_lengths i l) = refl
never_overlong K (row.update i l) = refl
never_overlong K (row.lookup v x) = refl
never_overlong K (row.rank v i) = refl
never_overlong K (row.next i) = refl
never_overlong K (row.compare i j) = refl
never_overlong K (row.lengths i) = refl
never_overlong K row.count = refl
never_overlong K row.first = refl
never_overlong K row.malformed = refl

pub here_moves : (K : Kind) (q : Row) (c : Call) → row_step reading q (here K c) ≡ row_move reading q (here K c)
unfolding row_step
here_moves K q c = rw (never_overlong K c)

-- rows ---------------------------------------------------------------------------------------------------------------------------------------

module _ (K : Kind) (ok : K.effect < K.views) (plain : K.ordered ≡ false) where
  -- the one test of the reading copy, beside the tests of all views
  one_up : (p q : ℕ → Bool) → p K.effect ≡ q 0 → some q (views_of reading) ≡ true → some p (views_of K) ≡ true
  unfolding some range
  one_up p q e t = go (some p (views_of K)) refl
    where
      go : (b : Bool) → some p (views_of K) ≡ b → some p (views_of K) ≡ true
      go true s = s
      go false s = absurd (clash (sym e ∙ none_in p K.views s K.effect ok) (sym (or_none (q 0)) ∙ t))

  -- what is zero in every length is zero in the effect one
  hollow_like : (x y : Entry) → Like K ok x y → hollow K x.lengths ≡ true → hollow reading y.lengths ≡ true
  hollow_like x y h = go (some (λ v. ltb 0 (row.length_in v x)) (views_of K)) (some (λ v. ltb 0 (row.length_in v y)) (views_of reading))
      (one_up (λ v. ltb 0 (row.length_in v x)) (λ v. ltb 0 (row.length_in v y)) (ap (ltb 0) h.effect))
    where
      go : (a b : Bool) → (b ≡ true → a ≡ true) → not a ≡ true → not b ≡ true
      go a false up e = refl
      go a true up e = sym (ap not (up refl)) ∙ e

  only : (q : ℕ → Bool) → some q (views_of reading) ≡ q 0
  unfolding some range
  only q = or_none (q 0)

  -- lengths that are no bounds are never crossed, there as here
  uncrossed : (l : List ℕ) → crossed K l ≡ false
  uncrossed l = rw plain

  module _ (r q : Row) (h : RowsAlike K ok r q) where
    count : length r.entries ≡ length q.entries
    count = same_length K ok r.entries q.entries h.entries

    full_same : leb r.limit (length r.entries) ≡ leb q.limit (length q.entries)
    full_same = ap₂ leb h.limit count

    known_same : (i : ℕ) → leb (length r.entries) i ≡ leb (length q.entries) i
    known_same i = ap (λ (n : ℕ). leb n i) count

    place_same : (i : ℕ) → (leb (length r.entries) i && not (eqb i no_entry)) ≡ (leb (length q.entries) i && not (eqb i no_entry))
    place_same i = ap (λ (n : ℕ). leb n i && not (eqb i no_entry)) count

    before_total : (i : ℕ) → row.total K.effect (before i r.entries) ≡ row.total 0 (before i q.entries)
    before_total i = same_total_law K ok (before i r.entries) (before i q.entries) (before_alike K ok i r.entries q.entries h.entries)

    -- entries that a call would leave: the tests of their totals
    module _ (xs ys : List Entry) (a : Alike K ok xs ys) where
      past_same : ltb 4294967295 (row.total K.effect xs) ≡ ltb 4294967295 (row.total 0 ys)
      past_same = ap (ltb 4294967295) (same_total_law K ok xs ys a)

      past_up : (row.past reading ys).applies ≡ true → (row.past K xs).applies ≡ true
      past_up = one_up (λ v. ltb 4294967295 (row.total v xs)) (λ v. ltb 4294967295 (row.total v ys)) past_same

      -- here it doesn't pass a u32, so the effect length fits
      past_fits : (row.past reading ys).applies ≡ false → row.total K.effect xs ≤ 4294967295
      past_fits e = ltb-false 4294967295 (row.total K.effect xs) (past_same ∙ sym (only (λ v. ltb 4294967295 (row.total v ys))) ∙ e)

      fits_past : row.total K.effect xs ≤ 4294967295 → (row.past reading ys).applies ≡ false
      fits_past le = only (λ v. ltb 4294967295 (row.total v ys)) ∙ sym past_same ∙ le-ltb 4294967295 (row.total K.effect xs) le

    -- the lengths of the entry of an id
    module _ (i : ℕ) (l : List ℕ) where
      had : get_or (row.lengths_of i r.entries) K.effect 0 ≡ get_or (row.lengths_of i q.entries) 0 0
      had = (at_like K ok i r.entries q.entries h.entries).effect

      much_same : ltb (get_or (row.lengths_of i r.entries) K.effect 0) (get_or l K.effect 0) ≡ ltb (get_or (row.lengths_of i q.entries) 0 0) (get_or l K.effect 0)
      much_same = ap (λ (n : ℕ). ltb n (get_or l K.effect 0)) had

      much_up : (row.too_much reading (effect_of K l) (row.lengths_of i q.entries)).applies ≡ true → (row.too_much K l (row.lengths_of i r.entries)).applies ≡ true
      much_up = one_up (λ v. ltb (get_or (row.lengths_of i r.entries) v 0) (get_or l v 0)) (λ v. ltb (get_or (row.lengths_of i q.entries) v 0) (get_or (effect_of K l) v 0)) much_same

      much_fits : (row.too_much reading (effect_of K l) (row.lengths_of i q.entries)).applies ≡ false → get_or l K.effect 0 ≤ get_or (row.lengths_of i r.entries) K.effect 0
      much_fits e = ltb-false (get_or (row.lengths_of i r.entries) K.effect 0) (get_or l K.effect 0)
          (much_same ∙ sym (only (λ v. ltb (get_or (row.lengths_of i q.entries) v 0) (get_or (effect_of K l) v 0))) ∙ e)

      fits_much : get_or l K.effect 0 ≤ get_or (row.lengths_of i r.entries) K.effect 0 → (row.too_much reading (effect_of K l) (row.lengths_of i q.entries)).applies ≡ false
      fits_much le = only (λ v. ltb (get_or (row.lengths_of i q.entries) v 0) (get_or (effect_of K l) v 0)) ∙ sym much_same
          ∙ le-ltb (get_or (row.lengths_of i r.entries) K.effect 0) (get_or l K.effect 0) le

      hollow_down : length l ≡ K.views → (row.hollow_part K l (row.lengths_of i r.entries)).applies ≡ true → (row.hollow_part reading (effect_of K l) (row.lengths_of i q.entries)).applies ≡ true
      hollow_down w = or_both _ _ _ _ (hollow_like (entry i l) (entry i (effect_of K l)) (new_like K ok i i l refl w))
          (hollow_like (entry i (zip_with ◌-◌ (row.lengths_of i r.entries) l)) (entry i (zip_with ◌-◌ (row.lengths_of i q.entries) (effect_of K l)))
          (rest_like K ok i _ _ l (at_like K ok i r.entries q.entries h.entries) w))

    -- each call, where the proviso holds of it
    read_alike : (i : ℕ) (a b : Answer) → a ≡ b → MovedAlike K ok (row.unless r (row.no_such_id r i ∷ []) r.entries a) (row.unless q (row.no_such_id q i ∷ []) q.entries b)
    read_alike i a b e =
        unless_alike K ok r q _ _ r.entries q.entries a b h (in_both _ _ 4 _ _ [] [] (known_same i) (none_left _ _) refl refl) h.entries (ap effect_part e)

    module _ (i : ℕ) (l : List ℕ) (w : length l ≡ K.views) where
      insert_alike : ((row_move K r (row.insert i l)).answer.number ≡ 7 → EffectFits K r.entries (row.insert i l) → ⊥)
          → MovedAlike K ok (row_move K r (row.insert i l)) (row_move reading q (row.insert i (effect_of K l)))
      unfolding row_move
      insert_alike un =
          unless_alike K ok r q _ _ xs ys _ _ h
          (in_both _ _ 4 _ _ _ _ (place_same i)
          (in_both _ _ 20 _ _ _ _ (uncrossed l)
          (more_there _ _ 7 _ _ _ _ (past_up xs ys a) (λ f e. un (number_is r _ xs _ ∙ e) (past_fits xs ys a f))
          (in_both _ _ 8 _ _ [] [] full_same (none_left _ _)))) refl refl)
          a (ap effect_part (ap₂ (λ (x y : ℕ). done (x ∷ y ∷ [])) count (before_total i)))
        where
          xs : List Entry
          xs = row.inserted i (row.new_entry r l) r.entries

          ys : List Entry
          ys = row.inserted i (row.new_entry q (effect_of K l)) q.entries

          a : Alike K ok xs ys
          a = inserted_alike K ok i (length r.entries) (length q.entries) l r.entries q.entries count w h.entries

      set_alike : ((row_move K r (row.set_lengths i l)).answer.number ≡ 7 → EffectFits K r.entries (row.set_lengths i l) → ⊥)
          → MovedAlike K ok (row_move K r (row.set_lengths i l)) (row_move reading q (row.set_lengths i (effect_of K l)))
      unfolding row_move
      set_alike un =
          unless_alike K ok r q _ _ xs ys _ _ h
          (in_both _ _ 4 _ _ _ _ (known_same i)
          (in_both _ _ 20 _ _ _ _ (uncrossed l)
          (more_there _ _ 7 _ _ [] [] (past_up xs ys a) (λ f e. un (number_is r _ xs _ ∙ e) (past_fits xs ys a f)) (none_left _ _))) refl refl)
          a refl
        where
          xs : List Entry
          xs = row.changed i l r.entries

          ys : List Entry
          ys = row.changed i (effect_of K l) q.entries

          a : Alike K ok xs ys
          a = changed_alike K ok i l r.entries q.entries w h.entries

      split_alike : (flag : Bool) → ((row_move K r (row.split flag i l)).answer.number ≡ 6 → EffectFits K r.entries (row.split flag i l) → ⊥)
          → (row_move reading q (row.split flag i (effect_of K l))).answer.number ≢ 17
          → MovedAlike K ok (row_move K r (row.split flag i l)) (row_move reading q (row.split flag i (effect_of K l)))
      unfolding row_move
      split_alike flag un hol =
          unless_alike K ok r q _ _ _ _ _ _ h
          (in_both _ _ 4 _ _ _ _ (known_same i)
          (more_there _ _ 6 _ _ _ _ (much_up i l) (λ f e. un (number_is r _ _ _ ∙ e) (much_fits i l f))
          (more_here _ _ 17 _ _ _ _ (hollow_down i l w) (λ e. hol (number_is q _ _ _ ∙ e))
          (in_both _ _ 20 _ _ _ _ (ap₂ ◌||◌ (uncrossed l) (uncrossed (zip_with ◌-◌ (row.lengths_of i r.entries) l)))
          (in_both _ _ 8 _ _ [] [] full_same (none_left _ _))))) refl refl)
          (divided_alike K ok flag i (length r.entries) (length q.entries) l r.entries q.entries count w h.entries) (ap (λ (n : ℕ). effect_part (done (n ∷ []))) count)

    look_alike : (v x : ℕ) → v ≡ K.effect → MovedAlike K ok (row_move K r (row.lookup v x)) (row_move reading q (row.lookup 0 x))
    unfolding row_move
    look_alike v x e =
        unless_alike K ok r q _ _ r.entries q.entries _ _ h
        (in_both _ _ 5 _ _ [] [] (ap (λ (n : ℕ). leb n x) (ap (λ (u : ℕ). row.total u r.entries) e ∙ same_total_law K ok r.entries q.entries h.entries)) (none_left _ _) refl refl)
        h.entries
        (ap (λ (u : ℕ). effect_part (done (found K u x 0 0 0 r.entries))) e ∙ ap done (found_alike K ok x 0 0 0 0 r.entries q.entries h.entries))

    compare_alike : (i j : ℕ) → MovedAlike K ok (row_move K r (row.compare i j)) (row_move reading q (row.compare i j))
    unfolding row_move ordered
    compare_alike i j =
        let b : (k : ℕ) → length (before k r.entries) ≡ length (before k q.entries) = λ k. same_length K ok (before k r.entries) (before k q.entries)
        (before_alike K ok k r.entries q.entries h.entries) in
        unless_alike K ok r q _ _ r.entries q.entries _ _ h
        (in_both _ _ 4 _ _ _ _ (known_same i) (in_both _ _ 4 _ _ [] [] (known_same j) (none_left _ _)) refl refl) h.entries
        (ap effect_part (ap₂ (λ (m n : ℕ). done (cond (ltb m n) 0 (cond (eqb m n) 1 2) ∷ [])) (b i) (b j)))

    move_alike : (c : Call) → InWords K c → Reads K c → (Other K r.entries c (row_move K r c).answer.number → ⊥) → (row_move reading q (here K c)).answer.number ≢ 17
        → MovedAlike K ok (row_move K r c) (row_move reading q (here K c))
    unfolding row_move Alike
    move_alike (row.reset l) k d un hol =
        unless_alike K ok r q _ _ (entry 0 l ∷ []) (entry 0 (effect_of K l) ∷ []) _ _ h (in_both _ _ 20 _ _ [] [] (uncrossed l) (none_left _ _) refl refl) (new_like K ok 0 0 l refl k.long, tt) refl
    move_alike (row.insert i l) k d un hol = insert_alike i l k.1.long (λ n f. un (inr (inr n, f)))
    move_alike (row.split flag i l) k d un hol = split_alike i l k.1.long flag (λ n f. un (inr (inl n, f))) hol
    move_alike (row.set_lengths i l) k d un hol = set_alike i l k.1.long (λ n f. un (inr (inr n, f)))
    move_alike (row.lookup v x) k d un hol = look_alike v x d
    move_alike (row.rank v i) k d un hol = read_alike i _ _ (ap (λ (n : ℕ). done (n ∷ [])) (ap (λ (u : ℕ). row.total u (before i r.entries)) d ∙ before_total i))
    move_alike (row.next i) k d un hol = read_alike i _ _ (ap (λ (n : ℕ). done (n ∷ [])) (first_alike K ok (after i r.entries) (after i q.entries)
        (after_alike K ok i r.entries q.entries h.entries)))
    move_alike (row.compare i j) k d un hol = compare_alike i j
    move_alike (row.update i l) k d un hol = absurd d
    move_alike (row.lengths i) k d un hol = absurd d
    move_alike row.count k d un hol = absurd d
    move_alike row.first k d un hol = absurd d
    move_alike row.malformed k d un hol = absurd d

    pub step_alike : (c : Call) → InWords K c → Reads K c → (Other K r.entries c (row_step K r c).answer.number → ⊥) → (row_step reading q (here K c)).answer.number ≢ 17
        → MovedAlike K ok (row_step K r c) (row_step reading q (here K c))
    unfolding row_step
    step_alike c k d un hol = rw (never_overlong K c) (go (overlong K c) refl un)
      where
        go : (b : Bool) → overlong K c ≡ b → (Other K r.entries c (cond b (moved r (refused 10)) (row_move K r c)).answer.number → ⊥)
            → MovedAlike K ok (cond b (moved r (refused 10)) (row_move K r c)) (row_move reading q (here K c))
        go true o un = absurd (un (inl refl))
        go false o un = move_alike c k d un (λ e. hol (ap (λ (m : Moved Row). m.answer.number) (here_moves K q c) ∙ e))

    -- a number that another length gives there never comes here
    pub elsewhere : (c : Call) → InWords K c → Reads K c → (n : ℕ) → Other K r.entries c n → (row_move reading q (here K c)).answer.number ≢ n
    unfolding row_move All
    elsewhere (row.reset l) k d n t e = (let z = far K r.entries (row.reset l) n t in avoids n _ (λ o. omega (arith, z.0)) ((λ p o. omega (arith, z.1)), tt) (sym (number_is q _ _ _) ∙ e))
    elsewhere (row.insert i l) k d n t e =
        let z = far K r.entries (row.insert i l) n t in
        let f = inserted_alike K ok i (length r.entries) (length q.entries) l r.entries q.entries count k.1.long h.entries in
        avoids n _ (λ o. omega (arith, z.0)) (
          (λ p o. omega (arith, z.0)),
          (
            (λ p o. omega (arith, z.1)),
            (
              (λ p o. clash (fits_past (row.inserted i (row.new_entry r l) r.entries)
                  (row.inserted i (row.new_entry q (effect_of K l)) q.entries) f (fits K r.entries (row.insert i l) n t (λ y. omega arith))) p),
              ((λ p o. z.2 (sym o)), tt),
            ),
          ),
        )
        (sym (number_is q _ _ _) ∙ e)
    elsewhere (row.split flag i l) k d n t e =
        let z = far K r.entries (row.split flag i l) n t in
        avoids n _ (λ o. omega (arith, z.0)) (
          (λ p o. omega (arith, z.0)),
          (
            (λ p o. clash (fits_much i l (fits K r.entries (row.split flag i l) n t (λ y. omega arith))) p),
            ((λ p o. omega (arith, z.1)), ((λ p o. omega (arith, z.1)), ((λ p o. z.2 (sym o)), tt))),
          ),
        )
        (sym (number_is q _ _ _) ∙ e)
    elsewhere (row.set_lengths i l) k d n t e =
        let z = far K r.entries (row.set_lengths i l) n t in
        let f = changed_alike K ok i l r.entries q.entries k.1.long h.entries in
        avoids n _ (λ o. omega (arith, z.0)) (
          (λ p o. omega (arith, z.0)),
          (
            (λ p o. omega (arith, z.1)),
            (
              (λ p o. clash (fits_past (row.changed i l r.entries) (row.changed i (effect_of K l) q.entries) f
                  (fits K r.entries (row.set_lengths i l) n t (λ y. omega arith))) p),
              tt,
            ),
          ),
        )
        (sym (number_is q _ _ _) ∙ e)
    elsewhere (row.lookup v x) k d n t e = let z = far K r.entries (row.lookup v x) n t in avoids n _ (λ o. omega (arith, z.0)) ((λ p o. omega (arith, z.0)), tt) (sym (number_is q _ _ _) ∙ e)
    elsewhere (row.rank v i) k d n t e = let z = far K r.entries (row.rank v i) n t in avoids n _ (λ o. omega (arith, z.0)) ((λ p o. omega (arith, z.0)), tt) (sym (number_is q _ _ _) ∙ e)
    elsewhere (row.next i) k d n t e = let z = far K r.entries (row.next i) n t in avoids n _ (λ o. omega (arith, z.0)) ((λ p o. omega (arith, z.0)), tt) (sym (number_is q _ _ _) ∙ e)
    elsewhere (row.compare i j) k d n t e = let z = far K r.entries (row.compare i j) n t in avoids n _ (λ o. omega (arith, z.0))
        ((λ p o. omega (arith, z.0)), ((λ p o. omega (arith, z.0)), tt)) (sym (number_is q _ _ _) ∙ e)
    elsewhere (row.update i l) k d n t e = absurd d
    elsewhere (row.lengths i) k d n t e = absurd d
    elsewhere row.count k d n t e = absurd d
    elsewhere row.first k d n t e = absurd d
    elsewhere row.malformed k d n t e = absurd d
