-- What a host has after a call: refused by 10 where something is bad, else the words of what the call answered. Assumes nothing.
use Rattle.model.specs.Numbered.{Numbered}
use mathlib.Core.Path.{◌≡◌, sym, ap, ap₂, ◌∙◌}
use mathlib.Core.Bool.{Bool, true, false}
use mathlib.Core.List.{List}
use Prim.Native.Nat.{ℕ}
use Rattle.model.specs.Row.{Answer, refused}
use Rattle.model.specs.State.{state}
use Rattle.model.specs.Calls.{Reply, reply}
use Rattle.model.specs.SeatedCalls.{SeatedReply, seated_reply}
use Rattle.model.specs.declared.seats.Seats.{Seats}
use Rattle.model.specs.declared.head.Head.{Head}
use Rattle.model.specs.Answer.{number_answer}
use Rattle.smelvock_marshal.specs.Flat.{head_after, number_of}
use Rattle.smelvock_marshal.specs.Lent.{Given, left}
use Rattle.smelvock_marshal.specs.declared.flat.FlatNumber.{FlatNumber}
use Rattle.smelvock.specs.Changes.{left_by, left_seated}
use Rattle.smelvock.specs.Prints.{printed_by}
use Rattle.smelvock.specs.Edits.{listed_by}

pub ap₃ : {A : Type 0} {B : Type 0} {C : Type 0} {D : Type 0} (f : A → B → C → D) {a a' : A} {b b' : B} {c c' : C} → a ≡ a' → b ≡ b' → c ≡ c' → f a b c ≡ f a' b' c'
ap₃ {B = B} {C = C} f {a' = a'} {b = b} {c = c} p q r = ap (λ x. f x b c) p ∙ ap₂ (f a') q r

module _ {A : Type 0} {R : Type 0} (flat : Answer → R) (answer : A → Answer) (words : ℕ → Head → List ℕ → List ℕ) (bad : Bool) (g : Given) (r : R) (y : Reply A) where
  pub reply_refused : bad ≡ true → r ≡ flat (refused 10) → left r g.head g.leaves g.inners g.homes ≡ left_by flat answer words bad g y
  unfolding left_by
  reply_refused b e =
      ap (λ (q : R). left q g.head g.leaves g.inners g.homes) e ∙ ap (λ (t : Bool). left_by flat answer words t g y) (sym b)

  pub reply_good : (h : Head) (a : A) (w ls xs hs : List ℕ) → bad ≡ false → r ≡ flat (answer a) → w ≡ words (answer a).number h g.head
      → reply (state h ls xs hs) a ≡ y → left r w ls xs hs ≡ left_by flat answer words bad g y
  unfolding left_by
  reply_good h a w ls xs hs b e f d =
      ap₂ (λ (q : R) (v : List ℕ). left q v ls xs hs) e f ∙ ap (left_by flat answer words false g) d ∙ ap (λ (t : Bool). left_by flat answer words t g y) (sym b)

-- settled by the number in the reply's words
module _ {A : Type 0} {R : Type 0} (flat : Answer → R) (answer : A → Answer) (number : R → ℕ) (alike : (x : Answer) → number (flat x) ≡ x.number) (bad : Bool) (g : Given) (r : R) (y : Reply A) where
  pub reply_settled : (h : Head) (a : A) (w ls xs hs : List ℕ) → bad ≡ false → r ≡ flat (answer a) → w ≡ head_after (number r) h g.head
      → reply (state h ls xs hs) a ≡ y → left r w ls xs hs ≡ left_by flat answer head_after bad g y
  reply_settled h a w ls xs hs b e f d =
      reply_good flat answer head_after bad g r y h a w ls xs hs b e (f ∙ ap (λ (n : ℕ). head_after n h g.head) (ap number e ∙ alike (answer a))) d

-- the same with the seats
module _ {A : Type 0} {R : Type 0} (flat : Answer → R) (answer : A → Answer) (words : ℕ → Head → Seats → List ℕ → List ℕ) (bad : Bool) (g : Given) (r : R) (y : SeatedReply A) where
  pub seated_refused : bad ≡ true → r ≡ flat (refused 10) → left r g.head g.leaves g.inners g.homes ≡ left_seated flat answer words bad g y
  unfolding left_seated
  seated_refused b e =
      ap (λ (q : R). left q g.head g.leaves g.inners g.homes) e ∙ ap (λ (t : Bool). left_seated flat answer words t g y) (sym b)

  pub seated_good : (h : Head) (c : Seats) (a : A) (w ls xs hs : List ℕ) → bad ≡ false → r ≡ flat (answer a) → w ≡ words (answer a).number h c g.head
      → seated_reply (state h ls xs hs) c a ≡ y → left r w ls xs hs ≡ left_seated flat answer words bad g y
  unfolding left_seated
  seated_good h c a w ls xs hs b e f d =
      ap₂ (λ (q : R) (v : List ℕ). left q v ls xs hs) e f ∙ ap (left_seated flat answer words false g) d ∙ ap (λ (t : Bool). left_seated flat answer words t g y) (sym b)

-- what print leaves of the lent buffer
module _ (bad : Bool) (f : FlatNumber) (page : List ℕ) (r : Numbered ℕ × List ℕ) where
  pub print_refused : bad ≡ true → f ≡ number_of (refused 10) → (f, page) ≡ printed_by bad page r
  unfolding printed_by
  print_refused b e = ap (λ (q : FlatNumber). (q, page)) e ∙ ap (λ (t : Bool). printed_by t page r) (sym b)

  pub print_good : (a : Numbered ℕ) (new : List ℕ) → bad ≡ false → f ≡ number_of (number_answer a) → (a, new) ≡ r → (f, new) ≡ printed_by bad page r
  unfolding printed_by
  print_good a new b e d = ap (λ (q : FlatNumber). (q, new)) e ∙ ap (printed_by false page) d ∙ ap (λ (t : Bool). printed_by t page r) (sym b)

-- what a difference leaves of the lent area
pub difference_listed : (f : FlatNumber) (a : Numbered ℕ) (new : List ℕ) (r : Numbered ℕ × List ℕ) → f ≡ number_of (number_answer a) → (a, new) ≡ r → (f, new) ≡ listed_by r
unfolding listed_by
difference_listed f a new r e d = ap (λ (q : FlatNumber). (q, new)) e ∙ ap listed_by d
