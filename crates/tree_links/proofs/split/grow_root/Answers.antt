-- `tree_links::split::grow_root`: the next unused number is the root's, its slots are summed up from both nodes, and these learn it.
use mathlib.Core.Path.{◌≡◌, refl, ap, ◌∙◌}
use mathlib.Core.List.{List, [], ◌∷◌}
use Prim.Native.Nat.{ℕ, ◌+◌, ◌<◌}
use lib.ListN.{length, get_or, set, take, length-set}
use Rattle.model.specs.Node.{none, slot_for, new_node}
use Rattle.model.specs.State.{shape_for, node_at, put_node}
use Rattle.model.specs.Grow.{areas, linked, grown, grow_root, adopt_all}
use Rattle.model.specs.declared.shape.Shape.{Shape}
use Rattle.model_laws.specs.Grow.{root_none, root_as}
use Rattle.tree_links.specs.Tops.{top_in, grown_in, top_grown}
use Rattle.tree_links.proofs.split.grow_root.Goals as goal

-- a new root as the model has it: g is the shape w that the sizes make
risen : (w g : Shape) (k m : ℕ) (t ls xs x y zs : List ℕ) (n : ℕ) (ls₁ xs₁ : List ℕ) → g ≡ w → length t ≡ 3 → get_or t 0 0 < w.nodes → take g.stride x ≡ slot_for g.stride k (node_at g k xs) → take g.stride y ≡ slot_for g.stride m (node_at g m xs) → zs ≡ put_node g (get_or t 0 0) (new_node g.stride g.fan none (take g.stride x ∷ take g.stride y ∷ [])) xs → linked n (areas ls₁ xs₁) ≡ adopt_all g 2 (get_or t 0 0) 2 0 (areas ls zs) → grown_in n (set (set (set t 0 (get_or t 0 0 + 1)) 1 (get_or t 0 0)) 2 (get_or (set (set t 0 (get_or t 0 0 + 1)) 1 (get_or t 0 0)) 2 0 + 1)) ls₁ xs₁ ≡ grow_root w (top_in t) k m (areas ls xs)
risen w g k m t ls xs x y zs n ls₁ xs₁ e l h ex ey ez er =
    ap (λ u. grown n u (areas ls₁ xs₁)) (top_grown t (get_or t 0 0 + 1) (get_or t 0 0) l)
    ∙ root_as g (top_in t) k m ls xs (take g.stride x) (take g.stride y) _ _ zs n (areas ls₁ xs₁) (rw e h) ex ey refl refl ez er
    ∙ ap (λ s. grow_root s (top_in t) k m (areas ls xs)) e

pub returns-then-used-nodes : goal.returns-then-used-nodes
returns-then-used-nodes c =
    let args = c.args in
    let pre = c.requires in
    (root_none (shape_for args.views args.fan args.nodes) (top_in args.top.now) args.k.0 args.m.0 _ _ c.if-used-nodes.true, pre.5)

pub returns : goal.returns
returns c =
    let args = c.args in
    let shape-for = c.shape_for-g in
    let pre = c.requires in
    let if1 = c.if-used-nodes in
    let sum-node = c.sum_node in
    let sum-node2 = c.sum_node-2 in
    let new_two = c.new_two in
    let adopt_all_law = c.adopt_all-adopted in (
      risen (shape_for args.views args.fan args.nodes) _ args.k.0 args.m.0 args.top.now _ _ _ _ _ _ _ _ shape-for.ensures pre.5 if1.false
          sum-node.ensures.0 sum-node2.ensures.0 new_two.ensures adopt_all_law.ensures,
      simp length-set pre.5,
    )
