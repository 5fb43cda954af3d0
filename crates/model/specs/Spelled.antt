-- A record says a call exactly if it has that call's fields, kind 3 being read as 2, and one with other fields is malformed; document 01's run is
-- read and written so.
-- Assumes nothing.
use Rattle.std.specs.Prelude.{◌≡◌, ◌≢◌, ◌↔◌, Bool, true, false, cond, ◌&&◌, length, get_or}
use Rattle.std.proofs.Math.Path.{refl}
use Rattle.std.proofs.Common.{sym, ap, subst, ◌∙◌, arith, lt-ltb, le-ltb, eq-eqb, ne_eqb, eqb-true, ltb-true}
use mathlib.Core.List.{List, [], ◌∷◌, map}
use Prim.Native.Nat.{ℕ, zero, suc, ◌≤◌, ◌<◌}
use Rattle.std.proofs.Math.Decide.{ℕ_discrete}
use Rattle.std.proofs.Math.Dec.{eqb}
use Rattle.model.specs.Kind.{base, too_many_lines}
use Rattle.model.specs.Lists.{All}
use Rattle.model.specs.Length.{view_number, list_of}
use Rattle.model.specs.Row.{Call, reset, insert, split, set_lengths, update, lookup, rank, next, compare, lengths, count, first, malformed, overlong}
use Rattle.model.specs.Record.{Fields, fields_of, view_of, field_lengths, only, plain, binary, viewed, no_lengths, kinds, decode, encode}
use Rattle.model.specs.Spelling.{fields, fields_for, Sayable, as_two, records, calls, given, written}

-- what some fields say
abbrev saying : Fields → Call
saying f = get_or (kinds f) f.kind malformed

three : (l : List ℕ) → length l ≡ 3 → get_or l 0 0 ∷ get_or l 1 0 ∷ get_or l 2 0 ∷ [] ≡ l
three [] e = absurd (omega arith)
three (x ∷ []) e = absurd (omega arith)
three (x ∷ y ∷ []) e = absurd (omega arith)
three (x ∷ y ∷ z ∷ []) e = refl
three (x ∷ y ∷ z ∷ u ∷ l) e = absurd (omega arith)

view_said : (v : ℕ) → v < 3 → view_number (view_of v) ≡ v
view_said zero h = refl
view_said (suc zero) h = refl
view_said (suc (suc zero)) h = refl
view_said (suc (suc (suc v))) h = absurd (omega arith)

-- a call's fields say it
said : (c : Call) → Sayable c → saying (fields_for c) ≡ c
unfolding kinds
said (reset l) h = ap reset (three l h)
said (insert i l) h = ap (insert i) (three l h)
said (split true i l) h = ap (split true i) (three l h)
said (split false i l) h = ap (split false i) (three l h)
said (set_lengths i l) h = ap (set_lengths i) (three l h)
said (update i l) h = ap (update i) (three l h)
said (lookup v x) h = rw (lt-ltb v 3 h) (ap (λ w. lookup w x) (view_said v h))
said (rank v i) h = rw (lt-ltb v 3 h) (ap (λ w. rank w i) (view_said v h))
said (next i) h = refl
said (compare i j) h = refl
said (lengths i) h = refl
said count h = refl
said first h = refl
said malformed h = elim h [ ]

both : (a b : Bool) → (a && b) ≡ true → (a ≡ true) × (b ≡ true)
both true b e = (refl, e)
both false true e = (e, refl)
both false false e = (e, e)

flag_said : (v : ℕ) → v < 2 → v ≡ cond (eqb v 1) 1 0
flag_said zero h = refl
flag_said (suc zero) h = refl
flag_said (suc (suc v)) h = absurd (omega arith)

-- and only those fields do, but for kind 3
module _ (f : Fields) (other : f.kind ≢ 3) where
  -- the fields of f, by their values
  alike : (kind flag lines a b c : ℕ) → f.kind ≡ kind → f.flag ≡ flag → f.lines ≡ lines → f.a ≡ a → f.b ≡ b → f.c ≡ c → f ≡ fields kind flag lines a b c
  alike kind flag lines a b c p q o r s t =
      ap (λ x. fields x f.flag f.lines f.a f.b f.c) p
      ∙ ap (λ x. fields kind x f.lines f.a f.b f.c) q
      ∙ ap (λ x. fields kind flag x f.a f.b f.c) o
      ∙ ap (λ x. fields kind flag lines x f.b f.c) r
      ∙ ap (λ x. fields kind flag lines a x f.c) s
      ∙ ap (fields kind flag lines a b) t

  abbrev Fits : Call → Type 0
  Fits c = (f ≡ fields_for c) × Sayable c

  fits : (b : Bool) (c : Call) → (b ≡ true → Fits c) → only b c ≢ malformed → Fits (only b c)
  fits true c h n = h refl
  fits false c h n = absurd (n refl)

  none_used : no_lengths f ≡ true → (f.b ≡ 0) × (f.c ≡ 0) × (f.lines ≡ 0)
  none_used t =
      let g = both (eqb f.b 0 && eqb f.c 0) (eqb f.lines 0) t in
      let h = both (eqb f.b 0) (eqb f.c 0) g.0 in
      (eqb-true f.b 0 h.0, eqb-true f.c 0 h.1, eqb-true f.lines 0 g.1)

  flagged : binary f ≡ true → f.flag ≡ cond (eqb f.flag 1) 1 0
  flagged t = flag_said f.flag (ltb-true f.flag 2 t)

  seen : viewed f ≡ true → f.flag ≡ view_number (view_of f.flag)
  seen t = sym (view_said f.flag (ltb-true f.flag 3 t))

  in_view : viewed f ≡ true → view_number (view_of f.flag) < 3
  in_view t = subst (λ v. v < 3) (seen t) (ltb-true f.flag 3 t)

  -- a call that gives lengths, one in a view, one of an id alone, one without
  changing : (k : ℕ) → f.kind ≡ k → plain f ≡ true → f ≡ fields k 0 f.lines f.a f.b f.c
  changing k e t = alike k 0 f.lines f.a f.b f.c e (eqb-true f.flag 0 t) refl refl refl refl

  viewing : (k : ℕ) → f.kind ≡ k → viewed f ≡ true → no_lengths f ≡ true → f ≡ fields k (view_number (view_of f.flag)) 0 f.a 0 0
  viewing k e t u = let h = none_used u in alike k (view_number (view_of f.flag)) 0 f.a 0 0 e (seen t) h.2 refl h.0 h.1

  naming : (k : ℕ) → f.kind ≡ k → (plain f && no_lengths f) ≡ true → f ≡ fields k 0 0 f.a 0 0
  naming k e t =
      let h = both (plain f) (no_lengths f) t in
      let u = none_used h.1 in
      alike k 0 0 f.a 0 0 e (eqb-true f.flag 0 h.0) u.2 refl u.0 u.1

  asking : (k : ℕ) → f.kind ≡ k → (plain f && eqb f.a 0 && no_lengths f) ≡ true → f ≡ fields k 0 0 0 0 0
  asking k e t =
      let h = both (plain f && eqb f.a 0) (no_lengths f) t in
      let g = both (plain f) (eqb f.a 0) h.0 in
      let u = none_used h.1 in
      alike k 0 0 0 0 0 e (eqb-true f.flag 0 g.0) u.2 (eqb-true f.a 0 g.1) u.0 u.1

  -- by the kind
  of_kind : (k : ℕ) → f.kind ≡ k → get_or (kinds f) k malformed ≢ malformed → Fits (get_or (kinds f) k malformed)
  unfolding kinds
  of_kind zero e n = absurd (n refl)
  of_kind (suc zero) e n =
      fits (plain f && eqb f.a 0) (reset (list_of (field_lengths f)))
      (λ t. let h = both (plain f) (eqb f.a 0) t in (alike 1 0 f.lines 0 f.b f.c e (eqb-true f.flag 0 h.0) refl (eqb-true f.a 0 h.1) refl refl, refl)) n
  of_kind (suc (suc zero)) e n = fits (plain f) (insert f.a (list_of (field_lengths f))) (λ t. (changing 2 e t, refl)) n
  of_kind (suc (suc (suc zero))) e n = absurd (other e)
  of_kind (suc (suc (suc (suc zero)))) e n =
      fits (binary f) (split (eqb f.flag 1) f.a (list_of (field_lengths f))) (λ t. (alike 4 (cond (eqb f.flag 1) 1 0) f.lines f.a f.b f.c e (flagged t) refl refl refl refl, refl)) n
  of_kind (suc (suc (suc (suc (suc zero))))) e n = fits (plain f) (set_lengths f.a (list_of (field_lengths f))) (λ t. (changing 5 e t, refl)) n
  of_kind (suc (suc (suc (suc (suc (suc zero)))))) e n = fits (plain f) (update f.a (list_of (field_lengths f))) (λ t. (changing 6 e t, refl)) n
  of_kind (suc (suc (suc (suc (suc (suc (suc zero))))))) e n =
      fits (viewed f && no_lengths f) (lookup (view_number (view_of f.flag)) f.a) (λ t. let h = both (viewed f) (no_lengths f) t in (viewing 7 e h.0 h.1, in_view h.0)) n
  of_kind (suc (suc (suc (suc (suc (suc (suc (suc zero)))))))) e n =
      fits (viewed f && no_lengths f) (rank (view_number (view_of f.flag)) f.a) (λ t. let h = both (viewed f) (no_lengths f) t in (viewing 8 e h.0 h.1, in_view h.0)) n
  of_kind (suc (suc (suc (suc (suc (suc (suc (suc (suc zero))))))))) e n = fits (plain f && no_lengths f) (next f.a) (λ t. (naming 9 e t, tt)) n
  of_kind (suc (suc (suc (suc (suc (suc (suc (suc (suc (suc zero)))))))))) e n =
      fits (plain f && eqb f.c 0 && eqb f.lines 0) (compare f.a f.b)
      (λ t. let g = both (plain f && eqb f.c 0) (eqb f.lines 0) t in let h = both (plain f) (eqb f.c 0) g.0 in (alike 10 0 0 f.a f.b 0 e (eqb-true f.flag 0 h.0) (eqb-true f.lines 0 g.1) refl refl (eqb-true f.c 0 h.1), tt)) n
  of_kind (suc (suc (suc (suc (suc (suc (suc (suc (suc (suc (suc zero))))))))))) e n = fits (plain f && no_lengths f) (lengths f.a) (λ t. (naming 11 e t, tt)) n
  of_kind (suc (suc (suc (suc (suc (suc (suc (suc (suc (suc (suc (suc zero)))))))))))) e n = fits (plain f && eqb f.a 0 && no_lengths f) count (λ t. (asking 12 e t, tt)) n
  of_kind (suc (suc (suc (suc (suc (suc (suc (suc (suc (suc (suc (suc (suc zero))))))))))))) e n = fits (plain f && eqb f.a 0 && no_lengths f) first (λ t. (asking 13 e t, tt)) n
  of_kind (suc (suc (suc (suc (suc (suc (suc (suc (suc (suc (suc (suc (suc (suc k)))))))))))))) e n = absurd (n refl)

-- fields that say anything are those of what they say
own : (f : Fields) → f.kind ≢ 3 → saying f ≢ malformed → (f ≡ fields_for (saying f)) × Sayable (saying f)
own f other n = of_kind f other f.kind refl n

-- with 2 for kind 3 a record isn't of kind 3
not_three : (bs : List ℕ) → (fields_of (as_two bs)).kind ≢ 3
unfolding fields_of
not_three [] = λ e. absurd (omega arith)
not_three (b ∷ bs) = go (ℕ_discrete b 3)
  where
    go : Dec (b ≡ 3) → get_or (as_two (b ∷ bs)) 0 0 ≢ 3
    go (yes q) = rw (eq-eqb b 3 q) (λ e. omega arith)
    go (no ne) = rw (ne_eqb b 3 ne) ne

three_is_two : (bs : List ℕ) → decode (2 ∷ bs) ≡ decode (3 ∷ bs)
unfolding fields_of kinds decode
three_is_two bs = refl

-- and it says the same
pub same_call : (bs : List ℕ) → decode (as_two bs) ≡ decode bs
same_call [] = refl
same_call (b ∷ bs) = go (ℕ_discrete b 3)
  where
    go : Dec (b ≡ 3) → decode (as_two (b ∷ bs)) ≡ decode (b ∷ bs)
    go (yes q) = rw (eq-eqb b 3 q) (three_is_two bs ∙ ap (λ k. decode (k ∷ bs)) (sym q))
    go (no ne) = rw (ne_eqb b 3 ne)

-- a record says a call exactly if it has that call's fields, with 2 for kind 3
pub says : (bs : List ℕ) (c : Call) → Sayable c → (decode bs ≡ c) ↔ (fields_of (as_two bs) ≡ fields_for c)
unfolding decode
says bs c h = (
  λ e.
      (let d = same_call bs ∙ e in
      (own (fields_of (as_two bs)) (not_three bs) (λ n. subst Sayable (sym d ∙ n) h)).0 ∙ ap fields_for d),
  λ e. sym (same_call bs) ∙ ap saying e ∙ said c h,
)

-- and what it says, if it isn't malformed, is such a call
pub nothing_else : (bs : List ℕ) → decode bs ≢ malformed → Sayable (decode bs)
unfolding decode
nothing_else bs n = subst Sayable (same_call bs) (own (fields_of (as_two bs)) (not_three bs) (λ e. n (sym (same_call bs) ∙ e))).1

-- two bytes never give too many line ends
module _ (f : Fields) (few : f.lines ≤ 65535) where
  abbrev Few : Call → Type 0
  Few c = overlong base c ≡ false

  lines_few : too_many_lines base (list_of (field_lengths f)) ≡ false
  lines_few = le-ltb 65535 f.lines few

  only_few : (b : Bool) (c : Call) → Few c → Few (only b c)
  only_few true c h = h
  only_few false c h = refl

  picked : (cs : List Call) (k : ℕ) → All Few cs → Few (get_or cs k malformed)
  unfolding All
  picked [] k h = refl
  picked (c ∷ cs) zero h = h.0
  picked (c ∷ cs) (suc k) h = picked cs k h.1

  kinds_few : All Few (kinds f)
  unfolding All kinds
  kinds_few = (refl, (only_few (plain f && eqb f.a 0) (reset (list_of (field_lengths f))) lines_few, (only_few (plain f) (insert f.a (list_of (field_lengths f))) lines_few, (only_few (plain f) (insert f.a (list_of (field_lengths f))) lines_few, (only_few (binary f) (split (eqb f.flag 1) f.a (list_of (field_lengths f))) lines_few, (only_few (plain f) (set_lengths f.a (list_of (field_lengths f))) lines_few, (only_few (plain f) (update f.a (list_of (field_lengths f))) lines_few, (only_few (viewed f && no_lengths f) (lookup (view_number (view_of f.flag)) f.a) refl, (only_few (viewed f && no_lengths f) (rank (view_number (view_of f.flag)) f.a) refl, (only_few (plain f && no_lengths f) (next f.a) refl, (only_few (plain f && eqb f.c 0 && eqb f.lines 0) (compare f.a f.b) refl, (only_few (plain f && no_lengths f) (lengths f.a) refl, (only_few (plain f && eqb f.a 0 && no_lengths f) count refl, (only_few (plain f && eqb f.a 0 && no_lengths f) first refl, tt))))))))))))))

pub few_said : (bs : List ℕ) → get_or bs 2 0 < 256 → get_or bs 3 0 < 256 → overlong base (decode bs) ≡ false
unfolding decode fields_of
few_said bs p q = picked (fields_of bs) (omega arith) (kinds (fields_of bs)) (fields_of bs).kind (kinds_few (fields_of bs) (omega arith))

-- document 01's run, and a few records more
pub spelled : (map decode records ≡ calls) × (map (λ g. encode g.kind g.answer) given ≡ written)
unfolding fields_of kinds decode encode
spelled = (refl, refl)
