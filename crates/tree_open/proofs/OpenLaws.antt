-- What the first tests of a call answer. Assumes nothing.
use Rattle.model.specs.Numbered.{Numbered}
use Rattle.std.specs.Prelude.{Ok, Err}
use mathlib.Core.Path.{◌≡◌, refl, sym, ap, ◌∙◌}
use mathlib.Core.Bool.{Bool, true, false}
use mathlib.Core.List.{List, [], ◌∷◌}
use Prim.Native.Nat.{ℕ, suc, ◌≤◌}
use native.Mathlib.Omega.{arith}
use borrow.Author.Tests.{ltb-false}
use Rattle.model.specs.Kind.{stride}
use Rattle.model.specs.Lists.{Cause, All}
use Rattle.model.specs.State.{State, shape, shape_for, nodes_for}
use Rattle.model.specs.Refuse.{bad_size, too_short, astray, shape_of, opening}
use Rattle.model.specs.Calls.{area_causes}
use Rattle.model.specs.declared.shape.Kind.{Kind}
use Rattle.model.specs.declared.shape.Shape.{Shape}
use Rattle.tree_node.specs.Shaped.{Shaped}
use Rattle.tree_open.proofs.Bools.{or_false}
use Rattle.tree_open.proofs.Causes.{opened_first, opened_next, opened_none, opened_stop, opened_more, good_shape, Positive}
use Rattle.tree_open.specs.Open.{opened_by}

pub record Sized (fan limit : ℕ) : Type 0 where
  pub fan_least : 4 ≤ fan
  pub fan_most : fan ≤ 32
  pub limit_least : 1 ≤ limit
  pub limit_most : limit ≤ 65536

pub sized : (fan limit : ℕ) → (bad_size fan limit).applies ≡ false → Sized fan limit
sized fan limit e =
    let o = or_false _ _ e in
    let p = or_false _ _ o.0 in
    let q = or_false _ _ p.0 in
    record { fan_least = ltb-false fan 4 q.0; fan_most = ltb-false 32 fan q.1; limit_least = ltb-false limit 1 p.1; limit_most = ltb-false 65536 limit o.1 }

-- the sizes of everything, from the nodes of a good fan and limit
pub made : (views fan limit nodes : ℕ) (r : Shape) → r ≡ shape_for views fan nodes → (nodes ≡ nodes_for fan limit) × (nodes ≤ 65536)
    → (1 ≤ views) × (views ≤ 3) × (4 ≤ fan) × (fan ≤ 32) × (limit ≤ 65536) → (r ≡ shape (suc views) fan limit) × Shaped r
made views fan limit nodes r e n p = (
  e ∙ ap (shape_for views fan) n.0,
  rw e (record { columns = omega (arith, p.0); narrow = omega (arith, p.1); slots = p.2; few = p.3; words = refl; areas = n.1 }),
)

-- what `open_areas` answers
module _ (K : Kind) (fan limit : ℕ) (ls xs hs : List ℕ) (g : Shape) (b t : Bool) (eb : b ≡ (bad_size fan limit).applies) (nb : b ≡ false)
    (eg : g ≡ shape (stride K) fan limit) (et : t ≡ (too_short g limit ls xs hs).applies) where
  pub short_areas : t ≡ true → Err 2 ≡ opened_by (area_causes K fan limit ls xs hs) (shape (stride K) fan limit)
  short_areas e =
      sym (opened_next 1 _ _ _ (sym eb ∙ nb) ∙ opened_first 1 _ [] _ (ap (λ (x : Shape). (too_short x limit ls xs hs).applies) (sym eg) ∙ sym et ∙ e))

  pub long_areas : t ≡ false → Ok g ≡ opened_by (area_causes K fan limit ls xs hs) (shape (stride K) fan limit)
  long_areas e =
      ap Ok eg
      ∙ sym (opened_next 1 _ _ _ (sym eb ∙ nb) ∙ opened_next 2 _ [] _ (ap (λ (x : Shape). (too_short x limit ls xs hs).applies) (sym eg) ∙ sym et ∙ e) ∙ opened_none _)

-- the causes that the areas give, in every call that reads them
abbrev pub areas_of : Kind → State → List Cause
areas_of K s = area_causes K s.head.fan s.head.limit s.leaves s.inners s.homes

pub areas_numbered : (K : Kind) (s : State) → Positive (areas_of K s)
unfolding All
areas_numbered K s = (omega arith, (omega arith, tt))

pub opening_numbered : (K : Kind) (s : State) → Positive (opening K s)
unfolding opening All
opening_numbered K s = (omega arith, (omega arith, (omega arith, tt)))

-- what `open` answers, from what `open_areas` answered
module _ (K : Kind) (s : State) (o : Numbered Shape) (e : o ≡ opened_by (areas_of K s) (shape_of K s.head)) where
  pub open_refused : (n : ℕ) → o ≡ Err n → Err n ≡ opened_by (opening K s) (shape_of K s.head)
  unfolding opening
  open_refused n d = sym (opened_stop (areas_of K s) (astray (shape_of K s.head) s.head ∷ []) _ n (sym e ∙ d))

  module _ (g : Shape) (d : o ≡ Ok g) (t : Bool) (et : t ≡ (astray g s.head).applies) where
    last : opened_by (opening K s) (shape_of K s.head) ≡ opened_by (astray (shape_of K s.head) s.head ∷ []) (shape_of K s.head)
    unfolding opening
    last = opened_more (areas_of K s) (astray (shape_of K s.head) s.head ∷ []) _ g (areas_numbered K s) (sym e ∙ d)

    same : shape_of K s.head ≡ g
    same = good_shape (areas_of K s) _ g (sym e ∙ d)

    here : t ≡ (astray (shape_of K s.head) s.head).applies
    here = et ∙ ap (λ (x : Shape). (astray x s.head).applies) (sym same)

    pub open_astray : t ≡ true → Err 9 ≡ opened_by (opening K s) (shape_of K s.head)
    open_astray h = sym (last ∙ opened_first 8 _ [] _ (sym here ∙ h))

    pub open_good : t ≡ false → Ok g ≡ opened_by (opening K s) (shape_of K s.head)
    open_good h = sym (last ∙ opened_next 9 _ [] _ (sym here ∙ h) ∙ opened_none _ ∙ ap Ok same)
