-- One entry more in a leaf: the state that `enter` leaves, as a tree and in its words; and the leaf with the entry in it.
use Rattle.std.specs.Prelude.{◌≡◌, refl, List, ◌∷◌, ◌++◌, map, ℕ, suc, ◌-◌, ◌<◌, ◌≤◌, take, set}
use Rattle.std.proofs.Common.{sym, ap, ap₂, ◌∙◌, add-one, arith, length-append, length-drop, length-set, length-take-le, take_at}
use Rattle.std.proofs.Math.Path.{subst}
use Rattle.std.proofs.Math.ListN.{length, drop}
use Rattle.std.proofs.lemmas.List.{take-append-le}
use Rattle.model.specs.Lists.{All}
use Rattle.model.specs.Node as node
use Rattle.model.specs.Node.{Node, used, start, inserted, empty_slots}
use Rattle.model.specs.State.{State, state, node_at, put_node}
use Rattle.model.specs.Locate.{changing}
use Rattle.model.specs.Place.{with_entry}
use Rattle.model.specs.Sound.{shape_in, leaf_in}
use Rattle.model_laws.specs.Lists.{all_take, all_drop, all_append}
use Rattle.model_laws.specs.Areas.{node_same}
use Rattle.model_theory.specs.WordFits.{fits}
use Rattle.model_tree.specs.Lists.{map_append, take_map}
use Rattle.model_tree.specs.Levels.{Slot, Area}
use Rattle.model_tree.specs.Update.{upd}
use Rattle.model_tree.specs.Change.{with_leaf}
use Rattle.model_theory.specs.WordTidy.{Tidy, made, tidy_made, tidy_formed, used_made, inserted_made}
use Rattle.model_theory.specs.LiftTree.{slot_of, slots_of, area_of, tree_of}
use Rattle.model_theory.specs.WordNeat.{Neat}
use Rattle.model_theory.specs.WordPut.{Keeps, leaf_keeps, put_same, put_slots}
use Rattle.model_theory.specs.ChangeSlot.{drop_map}
use Rattle.model_theory.specs.CallResize.{viewed_changing}
use Rattle.model_theory.specs.ChangeSplitLeaf.{homes_set}

-- leaf k written anew as m, with the inner words xs, and one entry more whose home it is
abbrev pub entered : ℕ → State → ℕ → ℕ → Node → List ℕ → State
entered s t k j m xs = state (with_entry (changing k j t.head.finger) t.head) (put_node (shape_in s t) k m t.leaves) xs (set t.homes t.head.entries k)

module _ (s : ℕ) (pos : 0 < s) (t : State) (nt : Neat s t) (k j : ℕ) (lk : k < t.head.leaves) (m : Node) (td : Tidy s t.head.fan m) (pa : (leaf_in s t k).parent ≡ m.parent) (at : (leaf_in s t k).at ≡ m.at) (few : t.head.entries < t.head.limit) where
  pub entered_read : node_at (shape_in s t) k (put_node (shape_in s t) k m t.leaves) ≡ m
  entered_read = node_same (shape_in s t) k t.leaves refl (fits (shape_in s t) k t.leaves (let z = nt.leaf_count in omega arith) nt.leaf_area) m (tidy_formed s t.head.fan m td pos)

  pub entered_neat : (xs : List ℕ) → Keeps (shape_in s t) t.head.inners xs → Neat s (entered s t k j m xs)
  entered_neat xs h =
      let q : Keeps (shape_in s t) t.head.leaves (put_node (shape_in s t) k m t.leaves) = put_same (shape_in s t) refl pos t.head.leaves k m t.leaves lk td (leaf_keeps s t nt) in
      record {
        leaf_area = q.long;
        inner_area = h.long;
        home_area = rw (length-set t.homes t.head.entries k) nt.home_area;
        leaf_count = nt.leaf_count;
        inner_count = nt.inner_count;
        leaf_tidy = q.tidy;
        inner_tidy = h.tidy;
        view = viewed_changing s k j t.head.finger nt.view;
      }

  pub entered_tree : (xs : List ℕ) → tree_of s (entered s t k j m xs) ≡ with_leaf (tree_of s t) k (slots_of m) (area_of (shape_in s t) xs) (upd (tree_of s t).homes t.head.entries k) (suc t.head.entries) (changing k j t.head.finger)
  entered_tree xs =
      ap₂ (λ (z : Area) (y : (ℕ → ℕ) × ℕ). record {
        body = record { leaf = z; inner = area_of (shape_in s t) xs; root = t.head.root.0; next = t.head.inners; levels = t.head.levels };
        homes = y.0;
        leaves = t.head.leaves;
        entries = y.1;
        fan = t.head.fan;
        limit = t.head.limit;
        finger = changing k j t.head.finger;
      })
      (put_slots (shape_in s t) refl pos t.head.leaves k m t.leaves (let z = nt.leaf_count in omega arith) td (leaf_keeps s t nt) pa at)
      (ap₂ (λ (y : ℕ → ℕ) (n : ℕ). (y, n)) (homes_set t.homes t.head.entries k (let z = nt.home_area in omega arith)) (add-one t.head.entries))

-- the entry put before slot j of a leaf with room
module _ (s fan : ℕ) (pos : 0 < s) (n : Node) (t : Tidy s fan n) (j : ℕ) (x : List ℕ) (lj : j ≤ length (used n)) (room : length (used n) < fan) (wx : length x ≡ s) where
  abbrev rows : List (List ℕ)
  rows = take j (used n) ++ x ∷ drop j (used n)

  pub put_is : inserted j x n ≡ made s fan n.parent n.at rows
  put_is = ap (inserted j x) t.is ∙ inserted_made s fan n.parent n.at (used n) j x lj room

  rows_length : length rows ≡ suc (length (used n))
  rows_length = (let a = length-append (take j (used n)) (x ∷ drop j (used n)) in let b = length-take-le j (used n) lj in let d = length-drop j (used n) in omega arith)

  pub put_tidy : Tidy s fan (inserted j x n)
  unfolding All
  put_tidy = subst (Tidy s fan) (sym put_is) (tidy_made s fan n.parent n.at rows (omega (arith, rows_length))
      (all_append (λ y. length y ≡ s) (take j (used n)) (x ∷ drop j (used n)) (all_take (λ y. length y ≡ s) j (used n) t.wide) (wx, all_drop (λ y. length y ≡ s) j (used n) t.wide)))

  pub put_slots_are : slots_of (inserted j x n) ≡ take j (slots_of n) ++ slot_of x ∷ drop j (slots_of n)
  put_slots_are = ap slots_of put_is ∙ ap (map slot_of) (used_made s fan n.parent n.at rows) ∙ map_append slot_of (take j (used n)) (x ∷ drop j (used n))
      ∙ ap₂ (λ (a b : List Slot). a ++ slot_of x ∷ b) (sym (take_map slot_of j (used n))) (sym (drop_map slot_of j (used n)))

  -- what stands before the entry stays
  pub put_start : (v : ℕ) → start v j (inserted j x n) ≡ start v j n
  put_start v =
      let lt : length (take j (used n)) ≡ j = length-take-le j (used n) lj in
      ap (λ (m : Node). node.total v (take j m.slots)) put_is
      ∙ ap (node.total v) (take-append-le j rows (empty_slots s (fan - length rows)) (omega (arith, rows_length)) ∙ take_at (take j (used n)) (x ∷ drop j (used n)) j lt)
      ∙ sym (ap (λ (m : Node). node.total v (take j m.slots)) t.is ∙ ap (node.total v) (take-append-le j (used n) (empty_slots s (fan - length (used n))) lj))
