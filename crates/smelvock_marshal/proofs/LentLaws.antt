-- What a host has after a call by id: refused by 10 where something is bad, else the words of what the call answered. Assumes nothing.
use Rattle.model.specs.Numbered.{Numbered}
use mathlib.Core.Path.{◌≡◌, refl, sym, ap, ap₂, ◌∙◌}
use mathlib.Core.Logic.{◌≢◌}
use mathlib.Core.Bool.{Bool, true, false, not}
use mathlib.Core.List.{List}
use Prim.Native.Nat.{ℕ}
use lib.ListN.{length}
use borrow.Author.Tests.{eq-eqb, ne_eqb}
use Rattle.model.specs.Row.{Answer, refused, Moved, moved}
use Rattle.model.specs.State.{State, state}
use Rattle.model.specs.Answer.{outcome_answer}
use Rattle.model.specs.Calls as calls
use Rattle.model.specs.Calls.{Reply, reply}
use Rattle.model.specs.ById.{told}
use Rattle.model.specs.declared.shape.Kind.{Kind}
use Rattle.model.specs.declared.head.Head.{Head}
use Rattle.smelvock_marshal.specs.Flat.{head_after}
use Rattle.smelvock_marshal.specs.Lent.{Given, left, number_alone, unless_bad, left_by, unseated_words, unseated_make}

-- a call that leaves head and areas
module _ {R : Type 0} (flat : Answer → R) (bad : Bool) (r : R) where
  pub answer_refused : (a : Answer) → bad ≡ true → r ≡ flat (refused 10) → r ≡ flat (unless_bad bad a)
  answer_refused a b e = e ∙ ap (λ (t : Bool). flat (unless_bad t a)) (sym b)

  pub answer_good : (a a' : Answer) → bad ≡ false → r ≡ flat a → a ≡ a' → r ≡ flat (unless_bad bad a')
  answer_good a a' b e d = e ∙ ap flat d ∙ ap (λ (t : Bool). flat (unless_bad t a')) (sym b)

  -- by what the call did to the tree
  pub step_good : (s : State) (a : Answer) (m : Moved State) → bad ≡ false → r ≡ flat a → moved s a ≡ m → r ≡ flat (unless_bad bad m.answer)
  step_good s a m b e d = answer_good a m.answer b e (ap (λ (x : Moved State). x.answer) d)

-- any call
module _ {R : Type 0} (flat : Answer → R) (words : ℕ → Head → List ℕ → List ℕ) (bad : Bool) (g : Given) (r : R) (m : Moved State) where
  pub left_refused : bad ≡ true → r ≡ flat (refused 10) → left r g.head g.leaves g.inners g.homes ≡ left_by flat words bad g m
  unfolding left_by
  left_refused b e = ap (λ (q : R). left q g.head g.leaves g.inners g.homes) e ∙ ap (λ (t : Bool). left_by flat words t g m) (sym b)

  pub left_good : (h : Head) (a : Answer) (w ls xs hs : List ℕ) → bad ≡ false → r ≡ flat a → w ≡ words a.number h g.head
      → moved (state h ls xs hs) a ≡ m → left r w ls xs hs ≡ left_by flat words bad g m
  unfolding left_by
  left_good h a w ls xs hs b e f d =
      ap₂ (λ (q : R) (v : List ℕ). left q v ls xs hs) e f ∙ ap (left_by flat words false g) d ∙ ap (λ (t : Bool). left_by flat words t g m) (sym b)

-- settled by the number in the reply's words
module _ {R : Type 0} (flat : Answer → R) (number : R → ℕ) (alike : (x : Answer) → number (flat x) ≡ x.number) (bad : Bool) (g : Given) (r : R) (m : Moved State) where
  pub left_settled : (h : Head) (a : Answer) (w ls xs hs : List ℕ) → bad ≡ false → r ≡ flat a → w ≡ head_after (number r) h g.head
      → moved (state h ls xs hs) a ≡ m → left r w ls xs hs ≡ left_by flat head_after bad g m
  left_settled h a w ls xs hs b e f d =
      left_good flat head_after bad g r m h a w ls xs hs b e (f ∙ ap (λ (n : ℕ). head_after n h g.head) (ap number e ∙ alike a)) d

-- a make of a tree without seats
module _ (K : Kind) (fan limit : ℕ) (l : List ℕ) (g : Given) where
  pub make_refused : length g.head ≢ 36 → left 10 g.head g.leaves g.inners g.homes ≡ unseated_make K fan limit l g
  make_refused h = left_refused number_alone unseated_words _ g 10 _ (ap not (ne_eqb (length g.head) 36 h)) refl

  pub make_good : (h : Head) (a : Numbered (Unit {0})) (n : ℕ) (w ls xs hs : List ℕ) → length g.head ≡ 36 → n ≡ (outcome_answer a).number → w ≡ unseated_words n h g.head
      → reply (state h ls xs hs) a ≡ calls.make K fan limit l g.leaves g.inners g.homes → left n w ls xs hs ≡ unseated_make K fan limit l g
  make_good h a n w ls xs hs e f v d =
      left_good number_alone unseated_words _ g n _ h (outcome_answer a) w ls xs hs (ap not (eq-eqb (length g.head) 36 e)) f v (ap (λ (r : Reply (Numbered (Unit {0}))). told r outcome_answer) d)
