-- The tests of lengths as the code answers them, over the views that a slot has. Assumes nothing.
use Rattle.std.specs.Prelude.{◌≡◌, Bool, true, cond, List, ℕ, ◌+◌, ◌-◌, ◌<◌, ◌≤◌, ltb, length, get_or}
use Rattle.model.specs.Lists.{some, range}
use Rattle.model.specs.Kind.{kind}
use Rattle.model.specs.Node.{Node, total, used}
use Rattle.model.specs.State.{node_at}
use Rattle.model.specs.Refuse.{hollow_part}
use Rattle.model.specs.declared.shape.Shape.{Shape}

-- `too_much` of a tree with so many views
abbrev pub more_in : ℕ → List ℕ → List ℕ → Bool
more_in views given own = some (λ v. ltb (get_or own v 0) (get_or given v 0)) (range 0 views)

-- `hollow_part` of a tree with so many views
abbrev pub hollow_in : ℕ → List ℕ → List ℕ → Bool
hollow_in views given own = (hollow_part (kind views 0) given own).applies

-- `past` of a tree of these sizes and this root
abbrev pub past_in : Shape → ℕ → List ℕ → List ℕ → List ℕ → Bool
past_in g root xs old new =
    some (λ v. ltb (4294967295 + get_or old v 0) (total v (used (node_at g root xs)) + get_or new v 0)) (range 0 (g.stride - 1))

-- each of these words is below n
abbrev pub below : ℕ → List ℕ → Type 0
below n ws = (j : ℕ) → j < length ws → get_or ws j 0 < n

-- a test that says yes only where each is below 2 ^ 26
abbrev pub Low : Bool → List ℕ → Type 0
Low b ws = b ≡ true → below 67108864 ws

-- the totals of a node's slots in use in the views that a slot has, and 0 for the others: at most 32 words each
pub record TotalsIn (g : Shape) (n : Node) (a b c : ℕ) : Type 0 where
  pub first : a ≡ total 0 (used n)
  pub second : b ≡ cond (ltb 2 g.stride) (total 1 (used n)) 0
  pub third : c ≡ cond (ltb 3 g.stride) (total 2 (used n)) 0
  pub first_most : a ≤ 137438953440
  pub second_most : b ≤ 137438953440
  pub third_most : c ≤ 137438953440
