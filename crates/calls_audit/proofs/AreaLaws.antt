-- One node of an area, by what the parts of its tests answer. Assumes nothing.
use mathlib.Core.Path.{◌≡◌, refl, sym, ap, ◌∙◌}
use mathlib.Core.Bool.{Bool, true, false}
use mathlib.Core.List.{List}
use Prim.Native.Nat.{ℕ, ◌-◌, ◌*◌, ◌<◌, ◌≤◌, min}
use native.Mathlib.Omega.{arith}
use lib.Dec.{eqb, leb}
use lib.Seq.{take_all}
use borrow.Author.Tests.{leb-true, leb-false, eq-eqb}
use Rattle.model.specs.Kind.{stride}
use Rattle.model.specs.Lists.{part}
use Rattle.model.specs.Node.{none, child, length_in, node_of, start, total}
use Rattle.model.specs.State.{node_at}
use Rattle.model.specs.Refuse.{shape_of}
use Rattle.model.specs.Audit.{every, is_empty_slot}
use Rattle.model.specs.declared.shape.Kind.{Kind}
use Rattle.model.specs.declared.shape.Shape.{Shape}
use Rattle.model.specs.declared.head.Head.{Head}
use Rattle.model_laws.specs.Slots.{slots_length}
use Rattle.model_laws.specs.Nodes.{start_all}

-- past the last slot nothing more is summed
start_over : (g : Shape) (v k i : ℕ) (ws : List ℕ) → g.fan ≤ i → start v g.fan (node_at g k ws) ≡ start v i (node_at g k ws)
unfolding node_of
start_over g v k i ws h =
    let ws' = part (k * g.size) g.size ws in
    start_all g.stride g.fan v ws' ∙ ap (total v) (sym (take_all i (node_of g.stride g.fan ws').slots (rw (slots_length g.stride g.fan 3 ws') h)))

pub start_least : (g : Shape) (v k i : ℕ) (ws : List ℕ) → start v (min i g.fan) (node_at g k ws) ≡ start v i (node_at g k ws)
start_least g v k i ws = go (leb g.fan i) refl
  where
    go : (b : Bool) → leb g.fan i ≡ b → start v (min i g.fan) (node_at g k ws) ≡ start v i (node_at g k ws)
    go true e = let h : g.fan ≤ i = leb-true g.fan i e in let m : min i g.fan ≡ g.fan = omega arith in rw m (start_over g v k i ws h)
    go false e = let h : i < g.fan = leb-false g.fan i e in let m : min i g.fan ≡ i = omega arith in rw m

-- slot x has length 0 in view v
abbrev pub no_length : List ℕ → ℕ → Bool
no_length x v = eqb (length_in v x) 0

-- a slot of s words, by its child and all its views
module _ (K : Kind) (s : ℕ) (e : s ≡ stride K) (x : List ℕ) (c : ℕ) (ec : c ≡ child x) where
  pub slot_views : c ≡ none → (b : Bool) → b ≡ every (no_length x) 0 (s - 1) → b ≡ is_empty_slot K x
  slot_views q b eb =
      let views : s - 1 ≡ K.views = omega (arith, e) in
      rw (← ec, eq-eqb c none q, ← views) eb

-- the fan among the sizes is the head's
pub fan : (K : Kind) (h : Head) (g : Shape) → g ≡ shape_of K h → h.fan ≡ g.fan
fan K h g e = ap (λ (x : Shape). x.fan) (sym e)
