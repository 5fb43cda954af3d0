-- The first cause that applies gives the number, and none gives the sizes: laws of any list of causes. Assumes nothing.
use Rattle.model.specs.Numbered.{Numbered, refusal_number}
use Rattle.model.specs.declared.refusal.Refusal.{Refusal}
use Rattle.std.specs.Prelude.{Ok, Err}
use mathlib.Core.Path.{◌≡◌, refl, sym, ap, ◌∙◌}
use mathlib.Core.Bool.{Bool, true, false, cond}
use mathlib.Core.List.{List, [], ◌∷◌, ◌++◌}
use Prim.Native.Nat.{ℕ, zero, suc, ◌<◌}
use native.Mathlib.Omega.{arith}
use lib.Dec.{eqb, eqb-suc-zero}
use Rattle.model.specs.Lists.{Cause, cause, refusal, All}
use Rattle.model.specs.Calls.{unless}
use Rattle.model.specs.declared.shape.Shape.{Shape}
use Rattle.tree_open.specs.Open.{opened_by}
use Rattle.tree_open.proofs.Refusals.{some_number}

pub opened_first : (n : ℕ) (b : Bool) (cs : List Cause) (g : Shape) → b ≡ true → opened_by (cause (suc n) b ∷ cs) g ≡ Err (suc n)
unfolding refusal
opened_first n b cs g e = rw (e, eqb-suc-zero)

pub opened_next : (n : ℕ) (b : Bool) (cs : List Cause) (g : Shape) → b ≡ false → opened_by (cause n b ∷ cs) g ≡ opened_by cs g
unfolding refusal
opened_next n b cs g e = rw e

pub opened_none : (g : Shape) → opened_by [] g ≡ Ok g
unfolding refusal
opened_none g = refl

-- a cause of any number
pub one_cause : (n : ℕ) → refusal (cause n true ∷ []) ≡ n
unfolding refusal
one_cause n = refl

-- the answer of a number
pub opened_number : (cs : List Cause) (g : Shape) (n : ℕ) → refusal cs ≡ n → (n ≡ 0 → ⊥) → opened_by cs g ≡ Err n
opened_number cs g zero e h = absurd (h refl)
opened_number cs g (suc n) e h = rw (e, eqb-suc-zero)

-- the answer of a refusal
pub opened_why : (cs : List Cause) (g : Shape) (r : Refusal) → refusal_number r ≡ refusal cs → opened_by cs g ≡ Err (refusal_number r)
opened_why cs g r e = opened_number cs g (refusal_number r) (sym e) (some_number r)

pub opened_zero : (cs : List Cause) (g : Shape) → refusal cs ≡ 0 → opened_by cs g ≡ Ok g
opened_zero cs g e = rw e

-- what the answer says of the number
answered : (n : ℕ) (g g' : Shape) → cond (eqb n 0) (Ok g) (Err n) ≡ Ok g' → (n ≡ 0) × (g ≡ g')
answered zero g g' e = (refl, cc)
answered (suc n) g g' e = let z : ◌≡◌ {A = ℕ} 0 1 = cc (eqb-suc-zero n) in absurd (omega arith)

pub good_number : (cs : List Cause) (g g' : Shape) → opened_by cs g ≡ Ok g' → refusal cs ≡ 0
good_number cs g g' e = (answered (refusal cs) g g' e).0

pub good_shape : (cs : List Cause) (g g' : Shape) → opened_by cs g ≡ Ok g' → g ≡ g'
good_shape cs g g' e = (answered (refusal cs) g g' e).1

-- where none of more causes applies, none of those behind the first does
pub good_tail : (n : ℕ) (b : Bool) (cs : List Cause) (g g' : Shape) → opened_by (cause (suc n) b ∷ cs) g ≡ Ok g' → opened_by cs g ≡ Ok g'
good_tail n true cs g g' e = let z : ◌≡◌ {A = ℕ} 0 1 = cc (opened_first n true cs g refl) in absurd (omega arith)
good_tail n false cs g g' e = sym (opened_next (suc n) false cs g refl) ∙ e

numbered : (n m : ℕ) (g : Shape) → cond (eqb n 0) (Ok g) (Err n) ≡ Err m → (n ≡ m) × (0 < m)
numbered zero m g e = let z : ◌≡◌ {A = ℕ} 0 1 = cc in absurd (omega arith)
numbered (suc n) m g e = let z : suc n ≡ m = cc (eqb-suc-zero n) in (z, omega arith)

pub refused_number : (cs : List Cause) (g : Shape) (n : ℕ) → opened_by cs g ≡ Err n → (refusal cs ≡ n) × (0 < n)
refused_number cs g n e = numbered (refusal cs) n g e

-- what a call answers, from what the tests answered; the answer is made with the sizes
module _ {A : Type 0} (f : ℕ → A) (a : Shape → A) (cs : List Cause) (g : Shape) (o : Numbered Shape) (e : o ≡ opened_by cs g) where
  pub call_refused : (n : ℕ) → o ≡ Err n → f n ≡ unless cs f (a g)
  call_refused n d =
      let r = refused_number cs g n (sym e ∙ d) in
      go n r.1 r.0
    where
      go : (n : ℕ) → 0 < n → refusal cs ≡ n → f n ≡ unless cs f (a g)
      go zero h q = absurd (omega arith)
      go (suc n) h q = rw (q, eqb-suc-zero)

  pub call_good : (g' : Shape) → o ≡ Ok g' → (b : A) → b ≡ a g' → b ≡ unless cs f (a g)
  call_good g' d b q = rw (good_number cs g g' (sym e ∙ d)) (q ∙ ap a (sym (good_shape cs g g' (sym e ∙ d))))

-- the same where one cause is tested
module _ {A : Type 0} (f : ℕ → A) (a : A) (n : ℕ) (b : Bool) where
  pub one_refused : b ≡ true → f (suc n) ≡ unless (cause (suc n) b ∷ []) f a
  unfolding refusal
  one_refused e = rw (e, eqb-suc-zero)

  pub one_good : b ≡ false → a ≡ unless (cause (suc n) b ∷ []) f a
  unfolding refusal
  one_good e = rw e

-- the number of a longer list
abbrev pub Positive : List Cause → Type 0
Positive cs = All (λ c. 0 < c.number) cs

first_step : (b : Bool) (n r t : ℕ) → (0 < r → t ≡ r) → 0 < cond b n r → cond b n t ≡ cond b n r
first_step true n r t f h = refl
first_step false n r t f h = f h

refusal_first : (xs ys : List Cause) → 0 < refusal xs → refusal (xs ++ ys) ≡ refusal xs
unfolding refusal
refusal_first [] ys h = absurd (omega arith)
refusal_first (x ∷ xs) ys h = first_step x.applies x.number (refusal xs) (refusal (xs ++ ys)) (refusal_first xs ys) h

more_step : (b : Bool) (n r t u : ℕ) → 0 < n → (r ≡ 0 → t ≡ u) → cond b n r ≡ 0 → cond b n t ≡ u
more_step true n r t u p f h = absurd (omega arith)
more_step false n r t u p f h = f h

refusal_more : (xs ys : List Cause) → Positive xs → refusal xs ≡ 0 → refusal (xs ++ ys) ≡ refusal ys
unfolding refusal All
refusal_more [] ys p h = refl
refusal_more (x ∷ xs) ys p h = more_step x.applies x.number (refusal xs) (refusal (xs ++ ys)) (refusal ys) p.0 (refusal_more xs ys p.1) h

none_step : (b : Bool) (n r : ℕ) → 0 < n → cond b n r ≡ 0 → (b ≡ false) × (r ≡ 0)
none_step true n r p h = absurd (omega arith)
none_step false n r p h = (refl, h)

-- no number: none of the causes applies
pub none_applies : (cs : List Cause) → Positive cs → refusal cs ≡ 0 → All (λ c. c.applies ≡ false) cs
unfolding refusal All
none_applies [] p h = tt
none_applies (x ∷ xs) p h = let n = none_step x.applies x.number (refusal xs) p.0 h in (n.0, none_applies xs p.1 n.1)

pub opened_stop : (xs ys : List Cause) (g : Shape) (n : ℕ) → opened_by xs g ≡ Err n → opened_by (xs ++ ys) g ≡ Err n
opened_stop xs ys g n e =
    let r = refused_number xs g n e in
    rw (refusal_first xs ys (omega (arith, r.0, r.1))) e

pub opened_more : (xs ys : List Cause) (g g' : Shape) → Positive xs → opened_by xs g ≡ Ok g' → opened_by (xs ++ ys) g ≡ opened_by ys g
opened_more xs ys g g' p e = rw (refusal_more xs ys p (good_number xs g g' e))

-- a longer list that gives no number: its front gives none, nor do the others
front_step : (b : Bool) (n r t : ℕ) → (t ≡ 0 → r ≡ 0) → cond b n t ≡ 0 → cond b n r ≡ 0
front_step true n r t f h = h
front_step false n r t f h = f h

refusal_front : (xs ys : List Cause) → refusal (xs ++ ys) ≡ 0 → refusal xs ≡ 0
unfolding refusal
refusal_front [] ys h = refl
refusal_front (x ∷ xs) ys h = front_step x.applies x.number (refusal xs) (refusal (xs ++ ys)) (refusal_front xs ys) h

module _ (xs ys : List Cause) (g g' : Shape) (e : opened_by (xs ++ ys) g ≡ Ok g') where
  front_none : refusal xs ≡ 0
  front_none = refusal_front xs ys (good_number (xs ++ ys) g g' e)

  pub good_front : opened_by xs g ≡ Ok g'
  good_front = rw front_none (ap Ok (good_shape (xs ++ ys) g g' e))

  pub good_rest : Positive xs → Positive ys → All (λ c. c.applies ≡ false) ys
  good_rest p q = none_applies ys q (sym (refusal_more xs ys p front_none) ∙ good_number (xs ++ ys) g g' e)
