-- What is known where none of the first tests gives a number. Assumes nothing.
use Rattle.model.specs.Numbered.{Numbered}
use Rattle.std.specs.Prelude.{Ok}
use mathlib.Core.Path.{◌≡◌, refl, sym, ap, ◌∙◌}
use mathlib.Core.Bool.{Bool, true, false, cond}
use Prim.Native.Nat.{ℕ, suc, ◌+◌, ◌-◌, ◌/◌, ◌≤◌, ◌<◌}
use native.Mathlib.Omega.{arith}
use native.Mathlib.Nat.{div-le_self}
use lib.ListN.{length}
use lib.Dec.{ltb}
use borrow.Author.Tests.{ltb-false, leb-false}
use Rattle.model.specs.Lists.{All}
use Rattle.model.specs.Kind.{kind, kind_of}
use Rattle.model.specs.Length.{view_number}
use Rattle.model.specs.State.{State, shape}
use Rattle.model.specs.Refuse.{bad_size, too_short, astray, shape_of, opening}
use Rattle.model.specs.declared.shape.Kind.{Kind}
use Rattle.model.specs.declared.shape.Shape.{Shape}
use Rattle.model.specs.declared.length.View.{View}
use Rattle.model.specs.declared.length.View.TheVariants.{Prepare, Effect, Lines}
use Rattle.tree_node.specs.Shaped.{Shaped}
use Rattle.tree_area.specs.Area.{AreaHolds}
use Rattle.tree_open.proofs.Bools.{or_false}
use Rattle.tree_open.proofs.Causes.{good_number, good_shape, none_applies}
use Rattle.tree_open.proofs.OpenLaws.{Sized, sized, opening_numbered}
use Rattle.tree_open.specs.Open.{opened_by}
use Rattle.tree_open.specs.Ready.{Ready}

few_nodes : (b : Bool) (n : ℕ) → n ≤ 65536 → cond b 1 n ≤ 65536
few_nodes true n h = omega arith
few_nodes false n h = h

-- a good fan and limit give a shape that every function takes
pub shaped : (views fan limit : ℕ) → (1 ≤ views) × (views ≤ 3) → Sized fan limit → Shaped (shape (suc views) fan limit)
shaped views fan limit w z =
    record {
      columns = omega (arith, w.0);
      narrow = omega (arith, w.1);
      slots = z.fan_least;
      few = z.fan_most;
      words = refl;
      areas = few_nodes (ltb (limit / (fan / 2)) 1) (limit / (fan / 2)) (omega (arith, z.limit_most, div-le_self limit (fan / 2)));
    }

module _ (K : Kind) (w : (1 ≤ K.views) × (K.views ≤ 3)) (s : State) where
  pub ready_here : ((bad_size s.head.fan s.head.limit).applies ≡ false)
      → ((too_short (shape_of K s.head) s.head.limit s.leaves s.inners s.homes).applies ≡ false)
      → ((astray (shape_of K s.head) s.head).applies ≡ false)
      → Ready K s (shape_of K s.head)
  ready_here p q r =
      let z = sized s.head.fan s.head.limit p in
      let short = or_false _ _ q in
      let areas = or_false _ _ short.0 in
      let a = or_false _ _ r in
      let b = or_false _ _ a.0 in
      let c = or_false _ _ b.0 in
      let d = or_false _ _ c.0 in
      let e = or_false _ _ d.0 in
      record {
        same = refl;
        shaped = shaped K.views s.head.fan s.head.limit w z;
        limit_most = z.limit_most;
        leaf_area = ltb-false _ _ areas.0;
        inner_area = ltb-false _ _ areas.1;
        home_area = ltb-false _ _ short.1;
        root = leb-false _ _ e.0;
        levels_least = ltb-false _ _ e.1;
        levels_most = ltb-false _ _ d.1;
        leaves = ltb-false _ _ c.1;
        inners = ltb-false _ _ b.1;
        entries = ltb-false _ _ a.1;
      }

  pub ready : (g : Shape) (o : Numbered Shape) → o ≡ opened_by (opening K s) (shape_of K s.head) → o ≡ Ok g → Ready K s g
  unfolding opening All
  ready g o e d =
      let n = none_applies (opening K s) (opening_numbered K s) (good_number (opening K s) (shape_of K s.head) g (sym e ∙ d)) in
      rw (← good_shape (opening K s) (shape_of K s.head) g (sym e ∙ d)) (ready_here n.0 n.1.0 n.1.1.0)

-- an area of a ready tree
pub leaf_area : {K : Kind} (s : State) (g : Shape) → Ready K s g → AreaHolds g (length s.leaves)
leaf_area s g h = record { shaped = h.shaped; room = h.leaf_area }

pub inner_area : {K : Kind} (s : State) (g : Shape) → Ready K s g → AreaHolds g (length s.inners)
inner_area s g h = record { shaped = h.shaped; room = h.inner_area }

-- a view is a column of every slot
pub view_in : {K : Kind} (s : State) (g : Shape) (v : ℕ) → Ready K s g → v < K.views → v + 1 < g.stride
view_in s g v h hv = rw (ap (λ (x : Shape). x.stride) h.same) (omega arith)

-- a slot has one word more than there are views
pub views_are : {K : Kind} (s : State) (g : Shape) → Ready K s g → g.stride - 1 ≡ K.views
views_are s g h = ap (λ (x : Shape). x.stride - 1) h.same ∙ omega arith

pub view_few : (v : View) → view_number v < 3
view_few Prepare = omega arith
view_few Effect = omega arith
view_few Lines = omega arith

-- a tree is ready whether or not its lengths are ordered
pub ready_plain : (views effect : ℕ) (ordered : Bool) (s : State) (g : Shape) → Ready (kind_of views effect ordered) s g → Ready (kind views effect) s g
ready_plain views effect ordered s g h =
    record {
      same = h.same;
      shaped = h.shaped;
      limit_most = h.limit_most;
      leaf_area = h.leaf_area;
      inner_area = h.inner_area;
      home_area = h.home_area;
      root = h.root;
      levels_least = h.levels_least;
      levels_most = h.levels_most;
      leaves = h.leaves;
      inners = h.inners;
      entries = h.entries;
    }
