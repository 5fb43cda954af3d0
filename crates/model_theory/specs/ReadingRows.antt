-- A row with several lengths beside one with the effect length alone: the same ids and the same effect lengths, entry by entry, and so the same sums,
-- places and orders. Insertion, division and other lengths keep them alike.
use Rattle.std.specs.Prelude.{◌⊎◌, ◌≡◌, Bool, cond, ◌&&◌, leb, get_or, drop}
use Rattle.std.proofs.Common.{inl, sym, ◌∙◌, not-suc-le-zero, arith}
use Rattle.std.proofs.Math.Logic.{inr}
use Rattle.std.proofs.Math.Path.{refl, ap, ap₂}
use Rattle.std.proofs.Math.Bool.{true, false}
use mathlib.Core.List.{List, [], ◌∷◌, ◌++◌, zip_with}
use Prim.Native.Nat.{ℕ, zero, suc, ◌+◌, ◌-◌, ◌<◌}
use Rattle.std.proofs.Math.Dec.{ltb, eqb}
use Rattle.std.proofs.Math.ListN.{length, take}
use Rattle.model.specs.Kind.{reading}
use Rattle.model.specs.declared.shape.Kind.{Kind}
use Rattle.model.specs.Lists.{sum_by, Cause, refusal}
use Rattle.model.specs.Row as row
use Rattle.model.specs.Row.{Row, Entry, entry, Answer, refused, Moved, moved, before, from, after, found, divided, unless, total, length_in}
use Rattle.model.specs.Reading.{effect_of, effect_part}

-- a value that two lists of lengths give by a function, value by value
get_d_zip : (f : ℕ → ℕ → ℕ) (xs ys : List ℕ) (v : ℕ) → v < length xs → v < length ys → get_or (zip_with f xs ys) v 0 ≡ f (get_or xs v 0) (get_or ys v 0)
unfolding zip_with
get_d_zip f [] ys v h k = absurd (not-suc-le-zero h)
get_d_zip f (x ∷ xs) [] v h k = absurd (not-suc-le-zero k)
get_d_zip f (x ∷ xs) (y ∷ ys) zero h k = refl
get_d_zip f (x ∷ xs) (y ∷ ys) (suc v) h k = get_d_zip f xs ys v (omega arith) (omega arith)

zip_long : (f : ℕ → ℕ → ℕ) (xs ys : List ℕ) (v : ℕ) → v < length xs → v < length ys → v < length (zip_with f xs ys)
unfolding zip_with
zip_long f [] ys v h k = absurd (not-suc-le-zero h)
zip_long f (x ∷ xs) [] v h k = absurd (not-suc-le-zero k)
zip_long f (x ∷ xs) (y ∷ ys) zero h k = omega arith
zip_long f (x ∷ xs) (y ∷ ys) (suc v) h k = (let z = zip_long f xs ys v (omega arith) (omega arith) in omega arith)

module _ (K : Kind) (ok : K.effect < K.views) where
  pub record Like (x y : Entry) : Type 0 where
    pub id : x.id ≡ y.id
    pub effect : length_in K.effect x ≡ length_in 0 y
    -- both have the effect length, or neither has any: the entry that stands for an id that a row doesn't have
    pub wide : ((K.effect < length x.lengths) × (0 < length y.lengths)) ⊎ ((x.lengths ≡ []) × (y.lengths ≡ []))

  unfoldable pub Alike : List Entry → List Entry → Type 0
  Alike [] [] = Unit {0}
  Alike [] (y ∷ ys) = ⊥
  Alike (x ∷ xs) [] = ⊥
  Alike (x ∷ xs) (y ∷ ys) = Like x y × Alike xs ys

  pub same_length : (xs ys : List Entry) → Alike xs ys → length xs ≡ length ys
  unfolding Alike
  same_length [] [] h = refl
  same_length [] (y ∷ ys) h = absurd h
  same_length (x ∷ xs) [] h = absurd h
  same_length (x ∷ xs) (y ∷ ys) h = ap suc (same_length xs ys h.1)

  pub same_total_law : (xs ys : List Entry) → Alike xs ys → total K.effect xs ≡ total 0 ys
  unfolding Alike sum_by
  same_total_law [] [] h = refl
  same_total_law [] (y ∷ ys) h = absurd h
  same_total_law (x ∷ xs) [] h = absurd h
  same_total_law (x ∷ xs) (y ∷ ys) h = ap₂ ◌+◌ h.0.effect (same_total_law xs ys h.1)

  join : (xs ys us vs : List Entry) → Alike xs ys → Alike us vs → Alike (xs ++ us) (ys ++ vs)
  unfolding Alike
  join [] [] us vs h k = k
  join [] (y ∷ ys) us vs h k = absurd h
  join (x ∷ xs) [] us vs h k = absurd h
  join (x ∷ xs) (y ∷ ys) us vs h k = (h.0, join xs ys us vs h.1 k)

  less_one : (xs ys : List Entry) → Alike xs ys → Alike (drop 1 xs) (drop 1 ys)
  unfolding Alike
  less_one [] [] h = h
  less_one [] (y ∷ ys) h = absurd h
  less_one (x ∷ xs) [] h = absurd h
  less_one (x ∷ xs) (y ∷ ys) h = h.1

  pub before_alike : (i : ℕ) (xs ys : List Entry) → Alike xs ys → Alike (before i xs) (before i ys)
  unfolding Alike before
  before_alike i [] [] h = h
  before_alike i [] (y ∷ ys) h = absurd h
  before_alike i (x ∷ xs) [] h = absurd h
  before_alike i (x ∷ xs) (y ∷ ys) h = go (eqb x.id i) (ap (λ (k : ℕ). eqb k i) (sym h.0.id)) (before_alike i xs ys h.1)
    where
      go : (b : Bool) → eqb y.id i ≡ b → Alike (before i xs) (before i ys) → Alike (cond b [] (x ∷ before i xs)) (cond (eqb y.id i) [] (y ∷ before i ys))
      go true e k = rw e tt
      go false e k = rw e (h.0, k)

  from_alike : (i : ℕ) (xs ys : List Entry) → Alike xs ys → Alike (from i xs) (from i ys)
  unfolding Alike from
  from_alike i [] [] h = h
  from_alike i [] (y ∷ ys) h = absurd h
  from_alike i (x ∷ xs) [] h = absurd h
  from_alike i (x ∷ xs) (y ∷ ys) h = go (eqb x.id i) (ap (λ (k : ℕ). eqb k i) (sym h.0.id)) (from_alike i xs ys h.1)
    where
      go : (b : Bool) → eqb y.id i ≡ b → Alike (from i xs) (from i ys) → Alike (cond b (x ∷ xs) (from i xs)) (cond (eqb y.id i) (y ∷ ys) (from i ys))
      go true e k = rw e h
      go false e k = rw e k

  pub after_alike : (i : ℕ) (xs ys : List Entry) → Alike xs ys → Alike (after i xs) (after i ys)
  after_alike i xs ys h = less_one (from i xs) (from i ys) (from_alike i xs ys h)

  pub first_alike : (xs ys : List Entry) → Alike xs ys → row.first_id xs ≡ row.first_id ys
  unfolding Alike
  first_alike [] [] h = refl
  first_alike [] (y ∷ ys) h = absurd h
  first_alike (x ∷ xs) [] h = absurd h
  first_alike (x ∷ xs) (y ∷ ys) h = h.0.id

  -- the entry that holds a position in the effect view, the offset into it and its effect position; its prepare position is left out
  pub found_alike : (x s f p o : ℕ) (es ys : List Entry) → Alike es ys → take 3 (found K K.effect x s f p es) ≡ take 3 (found reading 0 x s f o ys)
  unfolding Alike found
  found_alike x s f p o [] [] h = refl
  found_alike x s f p o [] (y ∷ ys) h = absurd h
  found_alike x s f p o (e ∷ es) [] h = absurd h
  found_alike x s f p o (e ∷ es) (y ∷ ys) h =
      rw (h.0.effect, h.0.id)
      (go (leb s x && ltb x (s + length_in 0 y)) (found_alike x (s + length_in 0 y) (f + length_in 0 y) (p + length_in 0 e) (o + length_in 0 y) es ys h.1))
    where
      go : (b : Bool)
          → take 3 (found K K.effect x (s + length_in 0 y) (f + length_in 0 y) (p + length_in 0 e) es) ≡ take 3 (found reading 0 x (s + length_in 0 y) (f + length_in 0 y) (o + length_in 0 y) ys)
          → take 3 (cond b (y.id ∷ (x - s) ∷ f ∷ p ∷ []) (found K K.effect x (s + length_in 0 y) (f + length_in 0 y) (p + length_in 0 e) es))
          ≡ take 3 (cond b (y.id ∷ (x - s) ∷ f ∷ o ∷ []) (found reading 0 x (s + length_in 0 y) (f + length_in 0 y) (o + length_in 0 y) ys))
      go true i = refl
      go false i = i

  head_like : (i : ℕ) (xs ys : List Entry) → Alike xs ys → Like (get_or xs 0 (entry i [])) (get_or ys 0 (entry i []))
  unfolding Alike
  head_like i [] [] h = record { id = refl; effect = refl; wide = inr (refl, refl) }
  head_like i [] (y ∷ ys) h = absurd h
  head_like i (x ∷ xs) [] h = absurd h
  head_like i (x ∷ xs) (y ∷ ys) h = h.0

  -- the entry of an id
  pub at_like : (i : ℕ) (xs ys : List Entry) → Alike xs ys → Like (get_or (from i xs) 0 (entry i [])) (get_or (from i ys) 0 (entry i []))
  at_like i xs ys h = head_like i (from i xs) (from i ys) (from_alike i xs ys h)

  -- a new entry, and what a split leaves of an old one
  pub new_like : (i j : ℕ) (l : List ℕ) → i ≡ j → length l ≡ K.views → Like (entry i l) (entry j (effect_of K l))
  new_like i j l e w = record { id = e; effect = refl; wide = inl (let z = ok in omega arith, omega arith) }

  pub rest_like : (i : ℕ) (x y : Entry) (l : List ℕ) → Like x y → length l ≡ K.views → Like (entry i (zip_with ◌-◌ x.lengths l)) (entry i (zip_with ◌-◌ y.lengths (effect_of K l)))
  unfolding zip_with
  rest_like i x y l h w = go h.wide
    where
      le : K.effect < length l
      le = (let z = ok in omega arith)

      go : ((K.effect < length x.lengths) × (0 < length y.lengths)) ⊎ ((x.lengths ≡ []) × (y.lengths ≡ []))
          → Like (entry i (zip_with ◌-◌ x.lengths l)) (entry i (zip_with ◌-◌ y.lengths (effect_of K l)))
      go (inl q) = record {
        id = refl;
        effect = get_d_zip ◌-◌ x.lengths l K.effect q.0 le ∙ ap (λ (n : ℕ). n - get_or l K.effect 0) h.effect ∙ sym (get_d_zip ◌-◌ y.lengths (effect_of K l) 0 q.1 (omega arith));
        wide = inl (zip_long ◌-◌ x.lengths l K.effect q.0 le, zip_long ◌-◌ y.lengths (effect_of K l) 0 q.1 (omega arith));
      }
      go (inr q) = rw (q.0, q.1) (record { id = refl; effect = refl; wide = inr (refl, refl) })

  pub inserted_alike : (i n m : ℕ) (l : List ℕ) (xs ys : List Entry) → n ≡ m → length l ≡ K.views → Alike xs ys → Alike (row.inserted i (entry n l) xs) (row.inserted i (entry m (effect_of K l)) ys)
  unfolding Alike
  inserted_alike i n m l xs ys e w h =
      join (before i xs) (before i ys) (entry n l ∷ from i xs) (entry m (effect_of K l) ∷ from i ys) (before_alike i xs ys h) (new_like n m l e w, from_alike i xs ys h)

  pub changed_alike : (i : ℕ) (l : List ℕ) (xs ys : List Entry) → length l ≡ K.views → Alike xs ys → Alike (row.changed i l xs) (row.changed i (effect_of K l) ys)
  unfolding Alike
  changed_alike i l xs ys w h =
      join (before i xs) (before i ys) (entry i l ∷ after i xs) (entry i (effect_of K l) ∷ after i ys) (before_alike i xs ys h) (new_like i i l refl w, after_alike i xs ys h)

  pub divided_alike : (flag : Bool) (i n m : ℕ) (l : List ℕ) (xs ys : List Entry) → n ≡ m → length l ≡ K.views → Alike xs ys
      → Alike (divided flag i (entry n l) xs) (divided flag i (entry m (effect_of K l)) ys)
  unfolding Alike divided
  divided_alike flag i n m l xs ys e w h =
      join (before i xs) (before i ys) (cond flag (entry n l ∷ rx ∷ after i xs) (rx ∷ entry n l ∷ after i xs))
      (cond flag (entry m (effect_of K l) ∷ ry ∷ after i ys) (ry ∷ entry m (effect_of K l) ∷ after i ys)) (before_alike i xs ys h) (go flag)
    where
      rx : Entry
      rx = entry i (zip_with ◌-◌ (row.lengths_of i xs) l)

      ry : Entry
      ry = entry i (zip_with ◌-◌ (row.lengths_of i ys) (effect_of K l))

      rl : Like rx ry
      rl = rest_like i (get_or (from i xs) 0 (entry i [])) (get_or (from i ys) 0 (entry i [])) l (at_like i xs ys h) w

      go : (b : Bool) → Alike (cond b (entry n l ∷ rx ∷ after i xs) (rx ∷ entry n l ∷ after i xs)) (cond b (entry m (effect_of K l) ∷ ry ∷ after i ys) (ry ∷ entry m (effect_of K l) ∷ after i ys))
      go true = (new_like n m l e w, (rl, after_alike i xs ys h))
      go false = (rl, (new_like n m l e w, after_alike i xs ys h))

  -- rows, and a call on them
  pub record RowsAlike (r q : Row) : Type 0 where
    pub limit : r.limit ≡ q.limit
    pub entries : Alike r.entries q.entries

  pub record MovedAlike (m n : Moved Row) : Type 0 where
    pub answer : effect_part m.answer ≡ effect_part n.answer
    pub after : RowsAlike m.after n.after

  pub unless_alike : (r q : Row) (cs ds : List Cause) (es us : List Entry) (a b : Answer) → RowsAlike r q → refusal cs ≡ refusal ds → Alike es us → effect_part a ≡ effect_part b
      → MovedAlike (unless r cs es a) (unless q ds us b)
  unfolding unless
  unless_alike r q cs ds es us a b h e k p = rw e (go (eqb (refusal ds) 0))
    where
      go : (c : Bool) → MovedAlike (cond c (moved (row.row r.limit es) a) (moved r (refused (refusal ds)))) (cond c (moved (row.row q.limit us) b) (moved q (refused (refusal ds))))
      go true = record { answer = p; after = record { limit = h.limit; entries = k } }
      go false = record { answer = refl; after = h }
