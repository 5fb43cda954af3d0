-- `tree_links::split::divide`: the halves are written in the other order than the model says, and lie apart.
use Prim.Native.Nat.{ℕ}
use mathlib.Core.Path.{◌≡◌, ap, ◌∙◌}
use native.Mathlib.Omega.{arith}
use lib.ListN.{length}
use Rattle.model.specs.State.{shape_for}
use Rattle.model.specs.Grow.{Areas, Linked, adopt_all}
use Rattle.model.specs.declared.shape.Shape.{Shape}
use Rattle.model_laws.specs.AreaRead.{node_end}
use Rattle.model_laws.specs.Grow.{divide_as}
use Rattle.tree_links.proofs.split.divide.Goals as goal

-- the children are told by the shape that was made anew
anew : (w g : Shape) (level m n : ℕ) (r : Linked) (a : Areas) → g ≡ w → r ≡ adopt_all g level m n 0 a → r ≡ adopt_all w level m n 0 a
anew w g level m n r a e q = q ∙ ap (λ (h : Shape). adopt_all h level m n 0 a) e

pub returns : goal.returns
returns c =
    let args = c.args in
    let pre = c.requires in
    let split_off = c.split_off in
    let shape-for = c.shape_for-g in
    let adopt_all_law = c.adopt_all in
    let a = args in
    let g = shape_for a.views a.fan a.nodes in
    divide_as g _ _ _ _ _ _ _ pre.0.shaped.words (omega (arith, pre.0.shaped.columns)) pre.1
    (node_end g a.m.0 (length a.inners.now) pre.2 pre.0.inners) split_off.ensures
    (anew _ _ _ _ _ _ _ shape-for.ensures adopt_all_law.ensures)
