-- A state's words read as an abstract tree, and what a node that is written changes of it. Assumes nothing.
use Rattle.std.specs.Prelude.{◌≡◌, refl, ◌≢◌, List, [], ◌∷◌, map, ℕ, ◌+◌, get_or}
use Rattle.std.proofs.Common.{sym, ap, ◌∙◌}
use Rattle.std.proofs.Math.Path.{fun_ext}
use Rattle.std.proofs.Math.Decide.{ℕ_discrete}
use Rattle.model.specs.Lists.{sum_by}
use Rattle.model.specs.Node as node
use Rattle.model.specs.Node.{Node, child, length_in, used}
use Rattle.model.specs.State.{State, shape, node_at, put_node}
use Rattle.model.specs.declared.shape.Shape.{Shape}
use Rattle.model_laws.specs.Nodes.{Formed}
use Rattle.model_laws.specs.Areas.{node_same, node_other}
use Rattle.model_theory.specs.WordFits.{NodeSized, NodeFits}
use Rattle.model_tree.specs.Levels.{Slot, Area, len}
use Rattle.model_tree.specs.Update.{upd, upd_same, upd_other}
use Rattle.model_tree.specs.Tree.{Tree}

abbrev pub slot_of : List ℕ → Slot
slot_of x = record { child = child x; lens = λ v. length_in v x }

abbrev pub slots_of : Node → List Slot
slots_of n = map slot_of (used n)

abbrev pub area_of : Shape → List ℕ → Area
area_of g xs = record { slots = λ k. slots_of (node_at g k xs); parent = λ k. (node_at g k xs).parent; place = λ k. (node_at g k xs).at }

abbrev pub tree_of : ℕ → State → Tree
tree_of s t =
    let h = t.head in
    let g = shape s h.fan h.limit in
    record {
      body = record { leaf = area_of g t.leaves; inner = area_of g t.inners; root = h.root.0; next = h.inners; levels = h.levels };
      homes = λ i. get_or t.homes i 0;
      leaves = h.leaves;
      entries = h.entries;
      fan = h.fan;
      limit = h.limit;
      finger = h.finger;
    }

-- areas that agree at each number
pub area_ext : (a b : Area) → ((k : ℕ) → a.slots k ≡ b.slots k) → ((k : ℕ) → a.parent k ≡ b.parent k) → ((k : ℕ) → a.place k ≡ b.place k) → a ≡ b
area_ext a b p q r = λ i. record { slots = fun_ext p i; parent = fun_ext q i; place = fun_ext r i }

-- node k anew
abbrev pub put_area : Area → ℕ → Node → Area
put_area a k n = record { slots = upd a.slots k (slots_of n); parent = upd a.parent k n.parent; place = upd a.place k n.at }

upd_is : {A : Type 0} (f g : ℕ → A) (k : ℕ) (v : A) → g k ≡ v → ((j : ℕ) → j ≢ k → g j ≡ f j) → (j : ℕ) → g j ≡ upd f k v j
upd_is f g k v e h j = go (ℕ_discrete j k)
  where
    go : Dec (j ≡ k) → g j ≡ upd f k v j
    go (yes q) = ap g q ∙ e ∙ sym (upd_same f k v) ∙ ap (upd f k v) (sym q)
    go (no ne) = h j ne ∙ sym (upd_other f k v j ne)

pub area_put : (g : Shape) → NodeSized g → (k : ℕ) (n : Node) (xs : List ℕ) → Formed g.stride g.fan n → NodeFits g k xs → area_of g (put_node g k n xs) ≡ put_area (area_of g xs) k n
area_put g sz k n xs f h =
    let same : node_at g k (put_node g k n xs) ≡ n = node_same g k xs sz h n f in
    let other : (j : ℕ) → j ≢ k → node_at g j (put_node g k n xs) ≡ node_at g j xs = λ j ne. node_other g k xs sz h n f j ne in
    area_ext (area_of g (put_node g k n xs)) (put_area (area_of g xs) k n)
    (upd_is (area_of g xs).slots (area_of g (put_node g k n xs)).slots k (slots_of n) (ap slots_of same) (λ j ne. ap slots_of (other j ne)))
    (upd_is (area_of g xs).parent (area_of g (put_node g k n xs)).parent k n.parent (ap (λ (m : Node). m.parent) same) (λ j ne. ap (λ (m : Node). m.parent) (other j ne)))
    (upd_is (area_of g xs).place (area_of g (put_node g k n xs)).place k n.at (ap (λ (m : Node). m.at) same) (λ j ne. ap (λ (m : Node). m.at) (other j ne)))

-- sums over slots, by their words
pub sum_slots : (v : ℕ) (xs : List (List ℕ)) → sum_by (len v) (map slot_of xs) ≡ node.total v xs
unfolding sum_by
sum_slots v [] = refl
sum_slots v (x ∷ xs) = ap (λ (m : ℕ). length_in v x + m) (sum_slots v xs)
