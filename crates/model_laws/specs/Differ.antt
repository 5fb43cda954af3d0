-- How many words of an area differ from before, and how a writer counts them: word by word, each written once. Assumes nothing.
use Rattle.std.specs.Prelude.{◌≡◌, refl, ◌⊎◌, Bool, true, false, cond, List, [], ◌∷◌, ℕ, zero, suc, ◌+◌, ◌<◌, length, get_or, set, eqb}
use Rattle.std.proofs.Common.{inl, inr, arith, eq-eqb, eqb-true}
use Rattle.model.specs.Repair.{apart, differ}

pub differ_none : (xs : List ℕ) → differ xs xs ≡ 0
unfolding differ
differ_none [] = refl
differ_none (x ∷ xs) =
    let r : differ xs xs ≡ 0 = differ_none xs in
    rw (eq-eqb x x refl) (omega arith)

-- none differ exactly where the two are the same
apart_same : (x y n : ℕ) → apart x y + n ≡ 0 → (x ≡ y) × (n ≡ 0)
apart_same x y n e = go (eqb x y) refl e
  where
    go : (b : Bool) → eqb x y ≡ b → cond b 0 1 + n ≡ 0 → (x ≡ y) × (n ≡ 0)
    go true q e = (eqb-true x y q, omega arith)
    go false q e = absurd (omega arith)

pub differ_same : (xs ys : List ℕ) → length xs ≡ length ys → differ xs ys ≡ 0 → xs ≡ ys
unfolding differ
differ_same [] [] l e = refl
differ_same [] (y ∷ ys) l e = absurd (omega arith)
differ_same (x ∷ xs) [] l e = absurd (omega arith)
differ_same (x ∷ xs) (y ∷ ys) l e =
    let r = apart_same x y (differ xs ys) e in
    rw (r.0, differ_same xs ys (omega arith) r.1)

-- one word written that was as before: the count grows by that word alone
pub differ_set : (old now : List ℕ) (p v : ℕ) → length old ≡ length now → p < length now → get_or now p 0 ≡ get_or old p 0 → differ old (set now p v) ≡ differ old now + apart (get_or now p 0) v
unfolding differ
differ_set [] [] p v l h e = absurd (omega arith)
differ_set [] (y ∷ now) p v l h e = absurd (omega arith)
differ_set (x ∷ old) [] p v l h e = absurd (omega arith)
differ_set (x ∷ old) (y ∷ now) zero v l h e = rw (e, eq-eqb x x refl) (omega arith)
differ_set (x ∷ old) (y ∷ now) (suc p) v l h e =
    let r : differ old (set now p v) ≡ differ old now + apart (get_or now p 0) v = differ_set old now p v (omega arith) (omega arith) e in
    omega (arith, r)

-- two passes that write different words: their counts add up
pub differ_add : (xs ys zs : List ℕ) → length xs ≡ length ys → length ys ≡ length zs → ((p : ℕ) → p < length xs → (get_or xs p 0 ≡ get_or ys p 0) ⊎ (get_or ys p 0 ≡ get_or zs p 0)) → differ xs zs ≡ differ xs ys + differ ys zs
unfolding differ
differ_add [] [] [] l m f = refl
differ_add [] [] (z ∷ zs) l m f = absurd (omega arith)
differ_add [] (y ∷ ys) zs l m f = absurd (omega arith)
differ_add (x ∷ xs) [] zs l m f = absurd (omega arith)
differ_add (x ∷ xs) (y ∷ ys) [] l m f = absurd (omega arith)
differ_add (x ∷ xs) (y ∷ ys) (z ∷ zs) l m f =
    let r : differ xs zs ≡ differ xs ys + differ ys zs = differ_add xs ys zs (omega arith) (omega arith) (λ p h. f (suc p) (omega arith)) in
    go (f 0 (omega arith)) r
  where
    go : (x ≡ y) ⊎ (y ≡ z) → differ xs zs ≡ differ xs ys + differ ys zs → apart x z + differ xs zs ≡ (apart x y + differ xs ys) + (apart y z + differ ys zs)
    go (inl e) r = rw (e, eq-eqb y y refl) (omega (arith, r))
    go (inr e) r = rw (e, eq-eqb z z refl) (omega (arith, r))
