-- Lists: elements that stand in a list, and lists made of parts. Assumes nothing.
use Rattle.std.specs.Prelude.{◌≡◌, refl, ◌⊎◌, Bool, true, false, cond, ℕ, zero, suc, ◌+◌, ◌<◌, ◌≤◌, length, get_or, take, eqb}
use Rattle.std.proofs.Common.{sym, ap, subst, ◌∙◌, inl, inr, ⊎_elim, arith, eqb-true}
use mathlib.Core.List.{List, [], ◌∷◌, ◌++◌, map, flat_map, nil≢cons, append_assoc}
use Rattle.std.proofs.lemmas.Bool.{eqb-false}
use Rattle.model.specs.Lists.{All, times, range}
use Rattle.model.specs.Node.{child}

-- x stands in a list
pub data In {A : Type 0} (x : A) : List A → Type 0 where
  here : {l : List A} → In x (x ∷ l)
  later : {y : A} {l : List A} → In x l → In x (y ∷ l)

pub all_in : {A : Type 0} (Q : A → Type 0) {x : A} {l : List A} → In x l → All Q l → Q x
unfolding All
all_in Q here h = h.0
all_in Q (later i) h = all_in Q i h.1

pub in_all : {A : Type 0} (Q : A → Type 0) (l : List A) → ((x : A) → In x l → Q x) → All Q l
unfolding All
in_all Q [] f = tt
in_all Q (x ∷ l) f = (f x here, in_all Q l (λ y i. f y (later i)))

pub in_left : {A : Type 0} {x : A} {l : List A} (m : List A) → In x l → In x (l ++ m)
in_left m here = here
in_left m (later i) = later (in_left m i)

pub in_right : {A : Type 0} {x : A} (l : List A) {m : List A} → In x m → In x (l ++ m)
in_right [] i = i
in_right (y ∷ l) i = later (in_right l i)

-- an element of a part stands in the whole
pub in_flat : {A B : Type 0} (f : A → List B) {p : A} {ps : List A} {x : B} → In p ps → In x (f p) → In x (flat_map f ps)
unfolding flat_map
in_flat f {ps = []} j i = elim j [ ]
in_flat f {ps = p ∷ ps} here i = in_left (flat_map f ps) i
in_flat f {ps = q ∷ ps} (later j) i = in_right (f q) (in_flat f j i)

pub in_range : (i n k : ℕ) → i ≤ k → k < i + n → In k (range i n)
unfolding range
in_range i zero k h g = absurd (omega arith)
in_range i (suc n) k h g = go (eqb i k) refl (λ (l : suc i ≤ k). in_range (suc i) n k l (omega arith))
  where
    go : (b : Bool) → eqb i k ≡ b → (suc i ≤ k → In k (range (suc i) n)) → In k (i ∷ range (suc i) n)
    go true e f = subst (λ (x : ℕ). In x (i ∷ range (suc i) n)) (eqb-true i k e) here
    go false e f = let d : i ≡ k → ⊥ = eqb-false i k e in later (f (omega arith))

-- an element of a list of parts stands in one of them
pub record Of {A B : Type 0} (f : A → List B) (ps : List A) (x : B) : Type 0 where
  pub part : A
  pub outer : In part ps
  pub inner : In x (f part)

pub in_cons : {A : Type 0} {x y : A} {l : List A} → In x (y ∷ l) → (x ≡ y) ⊎ In x l
in_cons here = inl refl
in_cons (later i) = inr i

append_in : {A : Type 0} {x : A} (l m : List A) → In x (l ++ m) → In x l ⊎ In x m
append_in [] m i = inr i
append_in (y ∷ l) m here = inl here
append_in (y ∷ l) m (later i) = ⊎_elim (λ j. inl (later j)) (λ j. inr j) (append_in l m i)

pub no_nil : {A : Type 0} {x : A} {l : List A} → In x l → l ≡ [] → ⊥
no_nil here e = nil≢cons (sym e)
no_nil (later i) e = nil≢cons (sym e)

pub flat_in : {A B : Type 0} (f : A → List B) (ps : List A) {x : B} → In x (flat_map f ps) → Of f ps x
unfolding flat_map
flat_in f [] i = absurd (no_nil i refl)
flat_in f (p ∷ ps) {x} i = ⊎_elim (λ j. record { part = p; outer = here; inner = j }) (λ j. go (flat_in f ps j)) (append_in (f p) (flat_map f ps) i)
  where
    go : Of f ps x → Of f (p ∷ ps) x
    go r = record { part = r.part; outer = later r.outer; inner = r.inner }

pub in_range_below : (i n : ℕ) {k : ℕ} → In k (range i n) → (i ≤ k) × (k < i + n)
unfolding range
in_range_below i zero j = absurd (no_nil j refl)
in_range_below i (suc n) {k} j = go (in_cons j) (λ q. in_range_below (suc i) n q)
  where
    go : (k ≡ i) ⊎ In k (range (suc i) n) → (In k (range (suc i) n) → (suc i ≤ k) × (k < suc i + n)) → (i ≤ k) × (k < i + suc n)
    go (inl e) f = (omega arith, omega arith)
    go (inr q) f = (omega (arith, (f q).0), omega (arith, (f q).1))

-- parts that are the same give the same whole
pub flat_same : {A B : Type 0} (f g : A → List B) (ps : List A) → All (λ p. f p ≡ g p) ps → flat_map f ps ≡ flat_map g ps
unfolding flat_map All
flat_same f g [] h = refl
flat_same f g (p ∷ ps) h = rw (h.0, flat_same f g ps h.1)

-- the place of a child among the slots in use
pub record ChildPlace (c n : ℕ) (slots : List (List ℕ)) : Type 0 where
  pub i : ℕ
  pub below : i < n
  pub inside : i < length slots
  pub is : child (get_or slots i []) ≡ c

pub child_in_law : (c n : ℕ) (slots : List (List ℕ)) → In c (map child (take n slots)) → ChildPlace c n slots
child_in_law c zero slots i = absurd (no_nil i refl)
child_in_law c (suc n) [] i = absurd (no_nil i refl)
child_in_law c (suc n) (x ∷ slots) i = go (in_cons i) (λ j. child_in_law c n slots j)
  where
    go : (c ≡ child x) ⊎ In c (map child (take n slots)) → (In c (map child (take n slots)) → ChildPlace c n slots) → ChildPlace c (suc n) (x ∷ slots)
    go (inl e) f = record { i = 0; below = omega arith; inside = omega arith; is = sym e }
    go (inr j) f = let r = f j in record { i = suc r.i; below = omega (arith, r.below); inside = omega (arith, r.inside); is = r.is }

-- a number that stands in a list at least once
pub times_in : (k : ℕ) (l : List ℕ) → 0 < times k l → In k l
unfolding times
times_in k [] h = absurd (omega arith)
times_in k (x ∷ l) h = go (eqb x k) refl h (times_in k l)
  where
    go : (b : Bool) → eqb x k ≡ b → 0 < cond b 1 0 + times k l → (0 < times k l → In k l) → In k (x ∷ l)
    go true e h f = subst (λ (y : ℕ). In y (x ∷ l)) (eqb-true x k e) here
    go false e h f = later (f (omega arith))

pub in_children : (n i : ℕ) (slots : List (List ℕ)) → i < n → i < length slots → In (child (get_or slots i [])) (map child (take n slots))
in_children zero i slots h g = absurd (omega arith)
in_children (suc n) i [] h g = absurd (omega arith)
in_children (suc n) zero (x ∷ slots) h g = here
in_children (suc n) (suc i) (x ∷ slots) h g = later (in_children n i slots (omega arith) (omega arith))

pub only : {A : Type 0} (x y : A) → In x (y ∷ []) → x ≡ y
only x y i = ⊎_elim (λ e. e) (λ j. absurd (no_nil j refl)) (in_cons i)

pub in_map : {A B : Type 0} (f : A → B) {x : A} {l : List A} → In x l → In (f x) (map f l)
in_map f here = here
in_map f (later i) = later (in_map f i)

pub record Image {A B : Type 0} (f : A → B) (l : List A) (y : B) : Type 0 where
  pub of : A
  pub inside : In of l
  pub is : f of ≡ y

pub map_in : {A B : Type 0} (f : A → B) (l : List A) {y : B} → In y (map f l) → Image f l y
map_in f [] i = absurd (no_nil i refl)
map_in f (x ∷ l) {y} i = go (in_cons i) (λ j. map_in f l j)
  where
    go : (y ≡ f x) ⊎ In y (map f l) → (In y (map f l) → Image f l y) → Image f (x ∷ l) y
    go (inl e) g = record { of = x; inside = here; is = sym e }
    go (inr j) g = let r = g j in record { of = r.of; inside = later r.inside; is = r.is }

-- the numbers of a range, and a mapped list, place by place
pub range_at : (i n k : ℕ) → k < n → get_or (range i n) k 0 ≡ i + k
unfolding range
range_at i zero k h = absurd (omega arith)
range_at i (suc n) zero h = omega arith
range_at i (suc n) (suc k) h = range_at (suc i) n k (omega arith) ∙ omega arith

pub length_range : (i n : ℕ) → length (range i n) ≡ n
unfolding range
length_range i zero = refl
length_range i (suc n) = ap suc (length_range (suc i) n)

pub map_at : (f : ℕ → ℕ) (l : List ℕ) (k : ℕ) → k < length l → get_or (map f l) k 0 ≡ f (get_or l k 0)
map_at f [] k h = absurd (omega arith)
map_at f (x ∷ l) zero h = refl
map_at f (x ∷ l) (suc k) h = map_at f l k (omega arith)

pub get_d_in : (l : List ℕ) (i : ℕ) → i < length l → In (get_or l i 0) l
get_d_in [] i h = absurd (omega arith)
get_d_in (x ∷ l) zero h = here
get_d_in (x ∷ l) (suc i) h = later (get_d_in l i (omega arith))

-- parts of parts, and levels counted from the next on
pub flat_append : {A B : Type 0} (f : A → List B) (l m : List A) → flat_map f (l ++ m) ≡ flat_map f l ++ flat_map f m
unfolding flat_map
flat_append f [] m = refl
flat_append f (x ∷ l) m = rw (flat_append f l m) (sym (append_assoc (f x) (flat_map f l) (flat_map f m)))

pub flat_flat : {A B C : Type 0} (f : B → List C) (g : A → List B) (l : List A) → flat_map f (flat_map g l) ≡ flat_map (λ x. flat_map f (g x)) l
unfolding flat_map
flat_flat f g [] = refl
flat_flat f g (x ∷ l) = flat_append f (g x) (flat_map g l) ∙ rw (flat_flat f g l)

pub flat_next : {B : Type 0} (f : ℕ → List B) (i n : ℕ) → flat_map (λ d. f (suc d)) (range i n) ≡ flat_map f (range (suc i) n)
unfolding flat_map range
flat_next f i zero = refl
flat_next f i (suc n) = rw (flat_next f (suc i) n)
