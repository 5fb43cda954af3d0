-- What print's tests answer, in the order of its causes, and what is known where none of them gives a number. Assumes nothing.
use Rattle.std.specs.Prelude.{Ok, Err}
use Rattle.std.proofs.Common.{◌≡◌, ℕ, ◌*◌, ◌<◌, ◌≤◌, Bool, true, false, List, [], ◌∷◌, sym, ap, ◌∙◌, arith, ltb-false, le-ltb, lt-ltb}
use Rattle.model.specs.Numbered.{Numbered}
use Rattle.model.specs.Lists.{Cause, All}
use Rattle.model.specs.State.{State}
use Rattle.model.specs.Refuse.{shape_of, astray}
use Rattle.model.specs.Sheet.{pages_for}
use Rattle.model.specs.Print.{small_buffer, print_causes}
use Rattle.model.specs.declared.shape.Kind.{Kind}
use Rattle.model.specs.declared.shape.Shape.{Shape}
use Rattle.tree_open.proofs.Causes.{opened_first, opened_next, opened_none, opened_stop, opened_more, good_number, good_shape, none_applies, Positive}
use Rattle.tree_open.proofs.OpenLaws.{areas_of, areas_numbered}
use Rattle.tree_open.proofs.ReadyLaws.{ready_here}
use Rattle.tree_open.specs.Open.{opened_by}
use Rattle.tree_open.specs.Ready.{Ready}

module _ (K : Kind) (s : State) (bytes : ℕ) where
  abbrev late : List Cause
  late = small_buffer s.head.entries bytes ∷ astray (shape_of K s.head) s.head ∷ []

  module _ (o : Numbered Shape) (e : o ≡ opened_by (areas_of K s) (shape_of K s.head)) where
    pub areas_refused : (n : ℕ) → o ≡ Err n → Err n ≡ opened_by (print_causes K s bytes) (shape_of K s.head)
    unfolding print_causes
    areas_refused n d = sym (opened_stop (areas_of K s) late _ n (sym e ∙ d))

    module _ (g : Shape) (d : o ≡ Ok g) (pages : ℕ) (ep : pages ≡ pages_for s.head.entries) where
      later : opened_by (print_causes K s bytes) (shape_of K s.head) ≡ opened_by late (shape_of K s.head)
      unfolding print_causes
      later = opened_more (areas_of K s) late _ g (areas_numbered K s) (sym e ∙ d)

      pub small : bytes < 2750 * pages → Err 12 ≡ opened_by (print_causes K s bytes) (shape_of K s.head)
      small h = sym (later ∙ opened_first 11 _ _ _ (rw (← ep) (lt-ltb bytes (2750 * pages) h)))

      module _ (h : 2750 * pages ≤ bytes) (t : Bool) (et : t ≡ (astray g s.head).applies) where
        same : shape_of K s.head ≡ g
        same = good_shape (areas_of K s) _ g (sym e ∙ d)

        last : opened_by (print_causes K s bytes) (shape_of K s.head) ≡ opened_by (astray (shape_of K s.head) s.head ∷ []) (shape_of K s.head)
        last = later ∙ opened_next 12 _ _ _ (rw (← ep) (le-ltb bytes (2750 * pages) h))

        here : t ≡ (astray (shape_of K s.head) s.head).applies
        here = et ∙ ap (λ (x : Shape). (astray x s.head).applies) (sym same)

        pub outside : t ≡ true → Err 9 ≡ opened_by (print_causes K s bytes) (shape_of K s.head)
        outside q = sym (last ∙ opened_first 8 _ [] _ (sym here ∙ q))

        pub good : t ≡ false → Ok g ≡ opened_by (print_causes K s bytes) (shape_of K s.head)
        good q = sym (last ∙ opened_next 9 _ [] _ (sym here ∙ q) ∙ opened_none _ ∙ ap Ok same)

  print_numbered : Positive (print_causes K s bytes)
  unfolding print_causes All
  print_numbered = (omega arith, (omega arith, (omega arith, (omega arith, tt))))

  pub print_ready : (1 ≤ K.views) × (K.views ≤ 3) → (g : Shape) (o : Numbered Shape) → o ≡ opened_by (print_causes K s bytes) (shape_of K s.head) → o ≡ Ok g → Ready K s g × (2750 * pages_for s.head.entries ≤ bytes)
  unfolding print_causes All
  print_ready w g o e d =
      let n = none_applies (print_causes K s bytes) print_numbered (good_number (print_causes K s bytes) (shape_of K s.head) g (sym e ∙ d)) in
      (rw (← good_shape (print_causes K s bytes) (shape_of K s.head) g (sym e ∙ d)) (ready_here K w s n.0 n.1.0 n.1.1.1.0), ltb-false _ _ n.1.1.0)
