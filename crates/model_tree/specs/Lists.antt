-- Lists: concatenation over a list, where an element of it stands, sums, no duplicates.
use Rattle.std.specs.Prelude.{◌≡◌, ◌⊎◌, ◌≢◌, ℕ, zero, suc, ◌+◌, length, take}
use Rattle.std.proofs.Math.Path.{refl, sym, ap₂}
use Rattle.std.proofs.Common.{ap, ◌∙◌, inl, inr, zero-add, arith, length-append}
use mathlib.Core.List.{List, [], ◌∷◌, ◌++◌, map, append_assoc, nil≢cons, cons≢nil, head-eq_of_cons-eq, tail-eq_of_cons-eq}
use Rattle.model.specs.Lists.{sum_by, All}

module _ {A B : Type 0} where
  abbrev pub cat : (A → List B) → List A → List B
  cat f [] = []
  cat f (x ∷ xs) = f x ++ cat f xs

  pub cat_append : (f : A → List B) (s t : List A) → cat f (s ++ t) ≡ cat f s ++ cat f t
  cat_append f [] t = refl
  cat_append f (x ∷ s) t = rw (cat_append f s t, append_assoc)

  pub map_append : (f : A → B) (s t : List A) → map f (s ++ t) ≡ map f s ++ map f t
  map_append f [] t = refl
  map_append f (x ∷ s) t = rw (map_append f s t)

module _ {A : Type 0} where
  -- an element of a concatenation of two lists stands in the first or in the second
  pub append_split : (u v X : List A) (y : A) (Z : List A) → u ++ v ≡ X ++ y ∷ Z
      → ((F : List A) × (u ≡ X ++ y ∷ F) × (Z ≡ F ++ v)) ⊎ ((Y : List A) × (X ≡ u ++ Y) × (v ≡ Y ++ y ∷ Z))
  append_split [] v X y Z e = inr (X, refl, e)
  append_split (x ∷ u) v [] y Z e = inl (u, ap₂ ◌∷◌ (head-eq_of_cons-eq e) refl, sym (tail-eq_of_cons-eq e))
  append_split (x ∷ u) v (x' ∷ X) y Z e = go (append_split u v X y Z (tail-eq_of_cons-eq e))
    where
      go : ((F : List A) × (u ≡ X ++ y ∷ F) × (Z ≡ F ++ v)) ⊎ ((Y : List A) × (X ≡ u ++ Y) × (v ≡ Y ++ y ∷ Z))
          → ((F : List A) × (x ∷ u ≡ x' ∷ X ++ y ∷ F) × (Z ≡ F ++ v)) ⊎ ((Y : List A) × (x' ∷ X ≡ x ∷ u ++ Y) × (v ≡ Y ++ y ∷ Z))
      go (inl r) = inl (r.0, ap₂ ◌∷◌ (head-eq_of_cons-eq e) r.1, r.2)
      go (inr r) = inr (r.0, ap₂ ◌∷◌ (sym (head-eq_of_cons-eq e)) r.1, r.2)

-- where the element y of `cat f P` stands: in `f p`, for one p of P
pub record InCat {A B : Type 0} (f : A → List B) (P : List A) (X : List B) (y : B) (Z : List B) : Type 0 where
  pub P₁ : List A
  pub p : A
  pub P₂ : List A
  pub F₁ : List B
  pub F₂ : List B
  pub row : P ≡ P₁ ++ p ∷ P₂
  pub own : f p ≡ F₁ ++ y ∷ F₂
  pub before : X ≡ cat f P₁ ++ F₁
  pub after : Z ≡ F₂ ++ cat f P₂

pub cat_split : {A B : Type 0} (f : A → List B) (P : List A) (X : List B) (y : B) (Z : List B) → cat f P ≡ X ++ y ∷ Z → InCat f P X y Z
cat_split f [] [] y Z e = absurd (nil≢cons e)
cat_split f [] (x ∷ X) y Z e = absurd (nil≢cons e)
cat_split {A} {B} f (p ∷ P) X y Z e = go (λ Y. cat_split f P Y y Z) (append_split (f p) (cat f P) X y Z e)
  where
    more : (Y : List B) → X ≡ f p ++ Y → InCat f P Y y Z → InCat f (p ∷ P) X y Z
    more Y x r = record {
      P₁ = p ∷ r.P₁;
      p = r.p;
      P₂ = r.P₂;
      F₁ = r.F₁;
      F₂ = r.F₂;
      row = ap {B = List A} (λ l. p ∷ l) r.row;
      own = r.own;
      before = x ∙ ap {B = List B} (λ l. f p ++ l) r.before ∙ sym (append_assoc (f p) (cat f r.P₁) r.F₁);
      after = r.after;
    }

    go : ((Y : List B) → cat f P ≡ Y ++ y ∷ Z → InCat f P Y y Z) → ((F : List B) × (f p ≡ X ++ y ∷ F) × (Z ≡ F ++ cat f P)) ⊎ ((Y : List B) × (X ≡ f p ++ Y) × (cat f P ≡ Y ++ y ∷ Z)) → InCat f (p ∷ P) X y Z
    go ih (inl r) = record { P₁ = []; p = p; P₂ = P; F₁ = X; F₂ = r.0; row = refl; own = r.1; before = refl; after = r.2 }
    go ih (inr r) = more r.0 r.1 (ih r.0 r.2)

-- sums
module _ {A : Type 0} where
  pub sum_by_append : (w : A → ℕ) (s t : List A) → sum_by w (s ++ t) ≡ sum_by w s + sum_by w t
  unfolding sum_by
  sum_by_append w [] t = sym (zero-add (sum_by w t))
  sum_by_append w (x ∷ s) t = rw (sum_by_append w s t) (omega arith)

pub sum_by_cat : {A B : Type 0} (w : B → ℕ) (f : A → List B) (P : List A) → sum_by w (cat f P) ≡ sum_by (λ p. sum_by w (f p)) P
unfolding sum_by
sum_by_cat w f [] = refl
sum_by_cat w f (p ∷ P) = rw (sum_by_append, sum_by_cat w f P)

pub sum_by_map : {A B : Type 0} (w : B → ℕ) (g : A → B) (P : List A) → sum_by w (map g P) ≡ sum_by (λ p. w (g p)) P
unfolding sum_by
sum_by_map w g [] = refl
sum_by_map w g (p ∷ P) = rw (sum_by_map w g P)

pub length_cat : {A B : Type 0} (f : A → List B) (P : List A) → length (cat f P) ≡ sum_by (λ p. length (f p)) P
unfolding sum_by
length_cat f [] = refl
length_cat f (p ∷ P) = rw (length-append, length_cat f P)

pub take_map : {A B : Type 0} (f : A → B) (n : ℕ) (l : List A) → take n (map f l) ≡ map f (take n l)
take_map f zero l = refl
take_map f (suc n) [] = refl
take_map f (suc n) (x ∷ l) = ap₂ ◌∷◌ refl (take_map f n l)

pub single_split : {A : Type 0} (X : List A) (y : A) (Z : List A) (r : A) → X ++ y ∷ Z ≡ r ∷ [] → (X ≡ []) × (y ≡ r) × (Z ≡ [])
single_split [] y Z r e = (refl, head-eq_of_cons-eq e, tail-eq_of_cons-eq e)
single_split (x ∷ []) y Z r e = absurd (cons≢nil (tail-eq_of_cons-eq e))
single_split (x ∷ x' ∷ X) y Z r e = absurd (cons≢nil (tail-eq_of_cons-eq e))

-- an element of a mapped list
pub record MapAt {A B : Type 0} (f : A → B) (C : List A) (X : List B) (y : B) (Z : List B) : Type 0 where
  pub A₁ : List A
  pub c : A
  pub A₂ : List A
  pub row : C ≡ A₁ ++ c ∷ A₂
  pub before : map f A₁ ≡ X
  pub own : f c ≡ y
  pub after : map f A₂ ≡ Z

pub map_split : {A B : Type 0} (f : A → B) (C : List A) (X : List B) (y : B) (Z : List B) → map f C ≡ X ++ y ∷ Z → MapAt f C X y Z
map_split f [] [] y Z e = absurd (nil≢cons e)
map_split f [] (x ∷ X) y Z e = absurd (nil≢cons e)
map_split f (c ∷ C) [] y Z e = record { A₁ = []; c = c; A₂ = C; row = refl; before = refl; own = head-eq_of_cons-eq e; after = tail-eq_of_cons-eq e }
map_split {A} {B} f (c ∷ C) (x ∷ X) y Z e = go (map_split f C X y Z (tail-eq_of_cons-eq e))
  where
    go : MapAt f C X y Z → MapAt f (c ∷ C) (x ∷ X) y Z
    go r = record {
      A₁ = c ∷ r.A₁;
      c = r.c;
      A₂ = r.A₂;
      row = ap {B = List A} (λ l. c ∷ l) r.row;
      before = ap₂ ◌∷◌ (head-eq_of_cons-eq e) r.before;
      own = r.own;
      after = r.after;
    }

-- all and pairwise
module _ {A : Type 0} where
  abbrev pub Pairs : (A → A → Type 0) → List A → Type 0
  Pairs R [] = Unit {0}
  Pairs R (x ∷ xs) = All (R x) xs × Pairs R xs

  pub all_map : (Q Q' : A → Type 0) → ((x : A) → Q x → Q' x) → (l : List A) → All Q l → All Q' l
  unfolding All
  all_map Q Q' f [] h = tt
  all_map Q Q' f (x ∷ l) h = (f x h.0, all_map Q Q' f l h.1)

  pub all_map₂ : (Q Q' Q'' : A → Type 0) → ((x : A) → Q x → Q' x → Q'' x) → (l : List A) → All Q l → All Q' l → All Q'' l
  unfolding All
  all_map₂ Q Q' Q'' f [] h k = tt
  all_map₂ Q Q' Q'' f (x ∷ l) h k = (f x h.0 k.0, all_map₂ Q Q' Q'' f l h.1 k.1)

  pub all_every : (Q : A → Type 0) → ((x : A) → Q x) → (l : List A) → All Q l
  unfolding All
  all_every Q f [] = tt
  all_every Q f (x ∷ l) = (f x, all_every Q f l)

  pub all_append : (Q : A → Type 0) (s t : List A) → All Q s → All Q t → All Q (s ++ t)
  unfolding All
  all_append Q [] t h k = k
  all_append Q (x ∷ s) t h k = (h.0, all_append Q s t h.1 k)

  pub all_left_at : (Q : A → Type 0) (s t : List A) → All Q (s ++ t) → All Q s
  unfolding All
  all_left_at Q [] t h = tt
  all_left_at Q (x ∷ s) t h = (h.0, all_left_at Q s t h.1)

  pub all_right : (Q : A → Type 0) (s t : List A) → All Q (s ++ t) → All Q t
  unfolding All
  all_right Q [] t h = h
  all_right Q (x ∷ s) t h = all_right Q s t h.1

  pub pairs_append : (R : A → A → Type 0) (s t : List A) → Pairs R s → Pairs R t → All (λ x. All (R x) t) s → Pairs R (s ++ t)
  unfolding All
  pairs_append R [] t h k c = k
  pairs_append R (x ∷ s) t h k c = (all_append (R x) s t h.0 c.0, pairs_append R s t h.1 k c.1)

  -- the element in the middle differs from all before it and all after it
  pub pairs_before : (R : A → A → Type 0) (s : List A) (x : A) (t : List A) → Pairs R (s ++ x ∷ t) → All (λ y. R y x) s
  unfolding All
  pairs_before R [] x t h = tt
  pairs_before R (y ∷ s) x t h = ((all_right (R y) s (x ∷ t) h.0).0, pairs_before R s x t h.1)

  pub pairs_after : (R : A → A → Type 0) (s : List A) (x : A) (t : List A) → Pairs R (s ++ x ∷ t) → All (R x) t
  pairs_after R [] x t h = h.0
  pairs_after R (y ∷ s) x t h = pairs_after R s x t h.1

module _ {A B : Type 0} where
  pub map_cong : (f g : A → B) (l : List A) → All (λ x. f x ≡ g x) l → map f l ≡ map g l
  unfolding All
  map_cong f g [] h = refl
  map_cong f g (x ∷ l) h = ap₂ ◌∷◌ h.0 (map_cong f g l h.1)

  pub cat_cong : (f g : A → List B) (l : List A) → All (λ x. f x ≡ g x) l → cat f l ≡ cat g l
  unfolding All
  cat_cong f g [] h = refl
  cat_cong f g (x ∷ l) h = ap₂ ◌++◌ h.0 (cat_cong f g l h.1)

  pub all_of_map : (Q : B → Type 0) (f : A → B) (l : List A) → All Q (map f l) → All (λ x. Q (f x)) l
  unfolding All
  all_of_map Q f [] h = tt
  all_of_map Q f (x ∷ l) h = (h.0, all_of_map Q f l h.1)

  pub all_cat : (Q : B → Type 0) (f : A → List B) (l : List A) → All (λ x. All Q (f x)) l → All Q (cat f l)
  unfolding All
  all_cat Q f [] h = tt
  all_cat Q f (x ∷ l) h = all_append Q (f x) (cat f l) h.0 (all_cat Q f l h.1)

  pub uncat : (Q : B → Type 0) (f : A → List B) (l : List A) → All Q (cat f l) → All (λ x. All Q (f x)) l
  unfolding All
  uncat Q f [] h = tt
  uncat Q f (x ∷ l) h = (all_left_at Q (f x) (cat f l) h, uncat Q f l (all_right Q (f x) (cat f l) h))

  pub pairs_of_map : (R : B → B → Type 0) (R' : A → A → Type 0) (f : A → B) → ((x y : A) → R (f x) (f y) → R' x y) → (l : List A) → Pairs R (map f l) → Pairs R' l
  pairs_of_map R R' f k [] h = tt
  pairs_of_map R R' f k (x ∷ l) h = (all_map (λ y. R (f x) (f y)) (R' x) (k x) l (all_of_map (R (f x)) f l h.0), pairs_of_map R R' f k l h.1)

  pub pairs_cat : (R : B → B → Type 0) (R' : A → A → Type 0) (f : A → List B) → ((p : A) → Pairs R (f p)) → ((p q : A) → R' p q → All (λ x. All (R x) (f q)) (f p)) → (l : List A) → Pairs R' l → Pairs R (cat f l)
  unfolding All
  pairs_cat R R' f own cross [] h = tt
  pairs_cat R R' f own cross (p ∷ l) h = pairs_append R (f p) (cat f l) (own p) (pairs_cat R R' f own cross l h.1) (far l h.0)
    where
      far : (t : List A) → All (R' p) t → All (λ x. All (R x) (cat f t)) (f p)
      far [] k = all_every (λ x. Unit {0}) (λ x. tt) (f p)
      far (q ∷ t) k = all_map₂ (λ x. All (R x) (f q)) (λ x. All (R x) (cat f t)) (λ x. All (R x) (f q ++ cat f t)) (λ x a b. all_append (R x) (f q) (cat f t) a b) (f p) (cross p q k.0) (far t k.1)

abbrev pub NoDup : List ℕ → Type 0
NoDup l = Pairs (λ x y. x ≢ y) l

pub all_swap : {A B : Type 0} (R : A → B → Type 0) (l : List A) (m : List B) → All (λ x. All (R x) m) l → All (λ y. All (λ x. R x y) l) m
unfolding All
all_swap R [] m h = all_every (λ y. Unit {0}) (λ y. tt) m
all_swap R (x ∷ l) m h = all_map₂ (R x) (λ y. All (λ x. R x y) l) (λ y. R x y × All (λ x. R x y) l) (λ y a b. (a, b)) m h.0 (all_swap R l m h.1)
