-- An area whose nodes in use are tidy, and a tidy node written into it. Assumes nothing.
use Rattle.std.specs.Prelude.{◌≡◌, refl, ◌≢◌, List, ℕ, suc, ◌*◌, ◌<◌, ◌≤◌, length}
use Rattle.std.proofs.Common.{sym, ap, ◌∙◌, subst, arith}
use Rattle.std.proofs.Math.Decide.{ℕ_discrete}
use Rattle.model.specs.Node.{Node}
use Rattle.model.specs.State.{State, node_at, put_node}
use Rattle.model.specs.Sound.{shape_in}
use Rattle.model.specs.declared.shape.Shape.{Shape}
use Rattle.model_laws.specs.Nodes.{Formed}
use Rattle.model_laws.specs.Areas.{length_put_node, node_same, node_other}
use Rattle.model_theory.specs.WordFits.{NodeSized, NodeFits, fits}
use Rattle.model_tree.specs.Update.{upd, upd_same, upd_other, set_slots}
use Rattle.model_theory.specs.WordTidy.{Tidy, tidy_formed}
use Rattle.model_theory.specs.LiftTree.{slots_of, area_of, put_area, area_put, area_ext}
use Rattle.model_theory.specs.WordNeat.{Neat}

-- the first count nodes of an area are tidy
pub record Keeps (g : Shape) (count : ℕ) (xs : List ℕ) : Type 0 where
  pub long : g.nodes * g.size ≤ length xs
  pub few : count ≤ g.nodes
  pub tidy : (k : ℕ) → k < count → Tidy g.stride g.fan (node_at g k xs)

pub leaf_keeps : (s : ℕ) (t : State) → Neat s t → Keeps (shape_in s t) t.head.leaves t.leaves
leaf_keeps s t n = record { long = n.leaf_area; few = n.leaf_count; tidy = n.leaf_tidy }

pub inner_keeps : (s : ℕ) (t : State) → Neat s t → Keeps (shape_in s t) t.head.inners t.inners
inner_keeps s t n = record { long = n.inner_area; few = n.inner_count; tidy = n.inner_tidy }

pub upd_own : {A : Type 0} (f : ℕ → A) (k : ℕ) (v : A) → f k ≡ v → (j : ℕ) → upd f k v j ≡ f j
upd_own f k v e j = go (ℕ_discrete j k)
  where
    go : Dec (j ≡ k) → upd f k v j ≡ f j
    go (yes q) = ap (upd f k v) q ∙ upd_same f k v ∙ sym e ∙ ap f (sym q)
    go (no ne) = upd_other f k v j ne

module _ (g : Shape) (sized : NodeSized g) (pos : 0 < g.stride) where
  put_fits : (count k : ℕ) (xs : List ℕ) → k < g.nodes → Keeps g count xs → NodeFits g k xs
  put_fits count k xs lt h = fits g k xs lt h.long

  -- node k of the area anew; one more may then be in use
  pub put_keeps : (count k : ℕ) (n : Node) (xs : List ℕ) → k < g.nodes → Tidy g.stride g.fan n → Keeps g count xs
      → (m : ℕ) → m ≤ g.nodes → ((j : ℕ) → j < m → j ≢ k → j < count) → Keeps g m (put_node g k n xs)
  put_keeps count k n xs lt td h m le more =
      let f : Formed g.stride g.fan n = tidy_formed g.stride g.fan n td pos in
      let ft : NodeFits g k xs = put_fits count k xs lt h in
      record {
        long = rw (length_put_node g k xs sized ft n f) h.long;
        few = le;
        tidy = λ j lj. pick f ft j lj (ℕ_discrete j k);
      }
    where
      pick : Formed g.stride g.fan n → NodeFits g k xs → (j : ℕ) → j < m → Dec (j ≡ k) → Tidy g.stride g.fan (node_at g j (put_node g k n xs))
      pick f ft j lj (yes q) = subst (λ (i : ℕ). Tidy g.stride g.fan (node_at g i (put_node g k n xs))) (sym q) (subst (Tidy g.stride g.fan) (sym (node_same g k xs sized ft n f)) td)
      pick f ft j lj (no ne) = subst (Tidy g.stride g.fan) (sym (node_other g k xs sized ft n f j ne)) (h.tidy j (more j lj ne))

  -- a node in use anew
  pub put_same : (count k : ℕ) (n : Node) (xs : List ℕ) → k < count → Tidy g.stride g.fan n → Keeps g count xs → Keeps g count (put_node g k n xs)
  put_same count k n xs lt td h = put_keeps count k n xs (omega (arith, h.few)) td h count h.few (λ j lj ne. lj)

  -- the next node
  pub put_next : (count : ℕ) (n : Node) (xs : List ℕ) → count < g.nodes → Tidy g.stride g.fan n → Keeps g count xs → Keeps g (suc count) (put_node g count n xs)
  put_next count n xs lt td h = put_keeps count count n xs lt td h (suc count) lt (λ j lj ne. omega arith)

  -- as a change of the abstract area
  pub put_area_law : (count k : ℕ) (n : Node) (xs : List ℕ) → k < g.nodes → Tidy g.stride g.fan n → Keeps g count xs → area_of g (put_node g k n xs) ≡ put_area (area_of g xs) k n
  put_area_law count k n xs lt td h = area_put g sized k n xs (tidy_formed g.stride g.fan n td pos) (put_fits count k xs lt h)

  -- a node that keeps its parent and its place
  pub put_slots : (count k : ℕ) (n : Node) (xs : List ℕ) → k < g.nodes → Tidy g.stride g.fan n → Keeps g count xs → (node_at g k xs).parent ≡ n.parent → (node_at g k xs).at ≡ n.at
      → area_of g (put_node g k n xs) ≡ set_slots (area_of g xs) k (slots_of n)
  put_slots count k n xs lt td h p a =
      put_area_law count k n xs lt td h
      ∙ area_ext (put_area (area_of g xs) k n) (set_slots (area_of g xs) k (slots_of n)) (λ j. refl) (upd_own (area_of g xs).parent k n.parent p) (upd_own (area_of g xs).place k n.at a)
