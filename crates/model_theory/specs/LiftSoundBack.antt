-- A state whose words are neat and whose abstract tree is sound is sound.
use Rattle.model.specs.declared.head.Finger.{Finger}
use Rattle.std.specs.Prelude.{◌≡◌, refl, ◌≢◌, Bool, true, false, cond, eqb, length, get_or, Some, None, Option}
use Rattle.std.proofs.Common.{sym, ap, ◌∙◌, zero-add, not-suc-le-zero, arith, eq-eqb, ne_eqb, eqb-true}
use Rattle.std.proofs.Math.Path.{subst}
use mathlib.Core.List.{List, [], ◌∷◌, map, flat_map}
use Prim.Native.Nat.{ℕ, zero, suc, ◌+◌, ◌≤◌, ◌<◌}
use Rattle.std.proofs.Math.Decide.{ℕ_discrete}
use Rattle.std.proofs.lemmas.List.{length-map}
use Rattle.std.proofs.lemmas.Bool.{eqb-false}
use Rattle.model.specs.Lists.{All, sum_by, range}
use Rattle.model.specs.Node as node
use Rattle.model.specs.Node.{Node, child, used, half}
use Rattle.model.specs.State.{State}
use Rattle.model.specs.Sound.{leaf_in, inner_in, level, inners_reached, leaves_reached, slots_in, below, Child, Filled, least_leaf, least_inner, CoherentAt, FingerRight, Once, until}
use Rattle.model_tree.specs.Lists.{cat, NoDup, all_map, all_map₂, pairs_append, all_cat}
use Rattle.model_tree.specs.Levels.{Slot, Area, Links, total, len, climb}
use Rattle.model_tree.specs.Apart.{links_nodup}
use Rattle.model_tree.specs.Insert.{out_of}
use Rattle.model_tree.specs.Sound.{lvl, stack, Local}
use Rattle.model_tree.specs.Pigeon.{Absent, In, is_in, each_in}
use Rattle.model_tree.specs.Tree as tree
use Rattle.model_tree.specs.Tree.{order, above, row, id_of, Body}
use Rattle.model_tree.specs.Follows.{reals}
use Rattle.model_tree.specs.Change.{order_nodup}
use Rattle.model_tree.specs.Edit.{all_mapped}
use Rattle.model_tree.specs.CheckBack.{all_in_at, local_of, level_links, level_in_law, stack_in}
use Rattle.model_theory.specs.LiftCount.{once_of}
use Rattle.model_theory.specs.WordTidy.{Tidy, len_used, slot_used, slot_unused}
use Rattle.model_theory.specs.LiftTree.{slot_of, slots_of, tree_of}
use Rattle.model_theory.specs.LiftLevels.{map_child, level_lvl, leaves_order, slots_row, total_in_law, reached, reached_more, all_above, inners_above, above_inners, start_at}
use Rattle.model_theory.specs.LiftMarks.{area_from, Marked, of_marks}
use Rattle.model_theory.specs.WordNeat.{Neat, Viewed, size_is}
use Rattle.model_theory.specs.LiftSound.{sum_take}

pub slots_all : (Q : Slot → Type 0) (xs : List (List ℕ)) → All Q (map slot_of xs) → (j : ℕ) → j < length xs → Q (slot_of (get_or xs j []))
unfolding All
slots_all Q [] h j lt = absurd (not-suc-le-zero lt)
slots_all Q (x ∷ xs) h zero lt = h.0
slots_all Q (x ∷ xs) h (suc j) lt = slots_all Q xs h.1 j (omega arith)

module _ (s : ℕ) (t : State) (e : ℕ) (n : Neat s t) (b : Body (tree_of s t)) where
  -- no inner node is reached twice
  reached_nodup : (d : ℕ) → d ≤ t.head.levels → NoDup (reached s t d)
  unfolding All reached range flat_map
  reached_nodup zero le = tt
  reached_nodup (suc d) le =
      let up : Area = (tree_of s t).body.inner in
      let r : ℕ = t.head.root.0 in
      let l : Links (total up) up up r (lvl up r d) (stack up r d) = level_links (tree_of s t) b d le in
      let rs = reals t.head.inners b.few (lvl up r d ∷ stack up r d) (stack_in (tree_of s t) b (suc d) le) in
      let cross : All (λ m. All (λ c. c ≢ m) (lvl up r d)) (reached s t d) = all_above s t (λ m. All (λ c. c ≢ m) (lvl up r d)) d (out_of (total up) up r (lvl up r d) (stack up r d) l rs.0 rs.1) in
      subst NoDup (sym (reached_more s t d))
      (pairs_append (λ x y. x ≢ y) (reached s t d) (level s t d) (reached_nodup d (omega arith)) (subst NoDup (sym (level_lvl s t d)) (links_nodup (total up) up up r (lvl up r d) (stack up r d) l))
      (all_map (λ m. All (λ c. c ≢ m) (lvl up r d)) (λ m. All (λ c. m ≢ c) (level s t d))
      (λ m h. subst (All (λ c. m ≢ c)) (sym (level_lvl s t d)) (all_map (λ c. c ≢ m) (λ c. m ≢ c) (λ c ne q. ne (sym q)) (lvl up r d) h)) (reached s t d) cross))

  inners_once : Once t.head.inners (inners_reached s t)
  unfolding reached
  inners_once =
      once_of t.head.inners (inners_reached s t) (reached_nodup t.head.levels (omega arith)) (above_inners s t (λ k. k < t.head.inners) b.inner_in_law)
      (λ k lt a. b.inner_all k lt (inners_above s t (λ m. m ≢ k) a))

  leaves_once : Once t.head.leaves (leaves_reached s t)
  leaves_once = subst (Once t.head.leaves) (sym (leaves_order s t))
      (once_of t.head.leaves (order (tree_of s t)) (order_nodup (tree_of s t) (order (tree_of s t)) (above (tree_of s t)) b) b.leaf_in_law b.leaf_all)

  leaf_size : (k : ℕ) → k < t.head.leaves → length (slots_of (leaf_in s t k)) ≡ (leaf_in s t k).len
  leaf_size k lt = size_is s t.head.fan (leaf_in s t k) (n.leaf_tidy k lt)

  inner_size : (k : ℕ) → k < t.head.inners → length (slots_of (inner_in s t k)) ≡ (inner_in s t k).len
  inner_size k lt = size_is s t.head.fan (inner_in s t k) (n.inner_tidy k lt)

  leaf_filled : (k : ℕ) → k < t.head.leaves → Filled s t (least_leaf s t) (leaf_in s t k)
  leaf_filled k lt = record {
    low = least (eqb t.head.leaves 1) refl;
    high = omega (arith, leaf_size k lt, b.leaf_most k lt);
    unused = slot_unused s t.head.fan (leaf_in s t k) (n.leaf_tidy k lt);
  }
    where
      least : (q : Bool) → eqb t.head.leaves 1 ≡ q → cond q 1 (half t.head.fan) ≤ (leaf_in s t k).len
      least true q = omega (arith, leaf_size k lt, b.leaf_one k lt)
      least false q = let z : t.head.leaves ≢ 1 = eqb-false t.head.leaves 1 q in omega (arith, leaf_size k lt, b.leaf_least k lt (omega arith))

  inner_filled : (k : ℕ) → k < t.head.inners → Filled s t (least_inner s t k) (inner_in s t k)
  inner_filled k lt = record {
    low = least (eqb k t.head.root.0) refl (eqb t.head.levels 1) refl;
    high = omega (arith, inner_size k lt, b.fit.most k lt);
    unused = slot_unused s t.head.fan (inner_in s t k) (n.inner_tidy k lt);
  }
    where
      own : k ≡ t.head.root.0 → (m : ℕ) → m ≤ length (slots_of (inner_in s t t.head.root.0)) → m ≤ (inner_in s t k).len
      own q m h = let z : length (slots_of (inner_in s t k)) ≡ length (slots_of (inner_in s t t.head.root.0)) = ap (λ (i : ℕ). length (slots_of (inner_in s t i))) q in omega (arith, inner_size k lt)

      least : (q : Bool) → eqb k t.head.root.0 ≡ q → (p : Bool) → eqb t.head.levels 1 ≡ p → cond q (cond p 1 2) (half t.head.fan) ≤ (inner_in s t k).len
      least true q true p = own (eqb-true k t.head.root.0 q) 1 b.fit.two
      least true q false p = own (eqb-true k t.head.root.0 q) 2 (b.two (let z : t.head.levels ≢ 1 = eqb-false t.head.levels 1 p in let y = b.some in omega arith))
      least false q p x = omega (arith, inner_size k lt, b.fit.least k lt (eqb-false k t.head.root.0 q))

  child_of : (N : ℕ → Node) (d p i : ℕ) (x : List ℕ) → ((k : ℕ) → N k ≡ below s t d k) → Marked N p i x → Child s t d p i x
  child_of N d p i x is m = record {
    parent = ap (λ (m : Node). m.parent) (sym (is (child x))) ∙ m.parent;
    at = ap (λ (m : Node). m.at) (sym (is (child x))) ∙ m.at;
    sums = λ v lv. m.sums v ∙ ap (λ (m : Node). node.total v (used m)) (is (child x));
  }

  childs : (N : ℕ → Node) (d : ℕ) → d < t.head.levels → ((k : ℕ) → N k ≡ below s t d k)
      → All (Local (total (area_from N)) (area_from N) (tree_of s t).body.inner) (lvl (tree_of s t).body.inner t.head.root.0 d)
      → All (λ p. (i : ℕ) → i < (inner_in s t p).len → Child s t d p i (get_or (inner_in s t p).slots i [])) (level s t d)
  childs N d lt is h = subst (All D) (sym (level_lvl s t d))
      (all_map₂ (λ p. p < t.head.inners) (Local (total (area_from N)) (area_from N) (tree_of s t).body.inner) D one (lvl (tree_of s t).body.inner t.head.root.0 d) (level_in_law (tree_of s t) b d lt) h)
    where
      D : ℕ → Type 0
      D p = (i : ℕ) → i < (inner_in s t p).len → Child s t d p i (get_or (inner_in s t p).slots i [])

      one : (p : ℕ) → p < t.head.inners → Local (total (area_from N)) (area_from N) (tree_of s t).body.inner p → (i : ℕ) → i < (inner_in s t p).len → Child s t d p i (get_or (inner_in s t p).slots i [])
      one p lp l i li =
          let td : Tidy s t.head.fan (inner_in s t p) = n.inner_tidy p lp in
          let lu : i < length (used (inner_in s t p)) = rw (len_used s t.head.fan (inner_in s t p) td) at li in
          child_of N d p i (get_or (inner_in s t p).slots i []) is
          (subst (λ (k : ℕ). Marked N p k (get_or (inner_in s t p).slots i [])) (zero-add i)
          (subst (Marked N p (0 + i)) (sym (slot_used s t.head.fan (inner_in s t p) td i [] lu)) (of_marks N p 0 (used (inner_in s t p)) l i lu)))

  children : (d : ℕ) → d < t.head.levels → All (λ p. (i : ℕ) → i < (inner_in s t p).len → Child s t d p i (get_or (inner_in s t p).slots i [])) (level s t d)
  children d lt = go (ℕ_discrete (suc d) t.head.levels)
    where
      go : Dec (suc d ≡ t.head.levels) → All (λ p. (i : ℕ) → i < (inner_in s t p).len → Child s t d p i (get_or (inner_in s t p).slots i [])) (level s t d)
      go (yes q) = childs (leaf_in s t) d lt (λ k. rw (eq-eqb (suc d) t.head.levels q))
          (local_of (total (tree_of s t).body.leaf) (tree_of s t).body.leaf (tree_of s t).body.inner t.head.root.0 d
          (subst (λ (m : ℕ). Links (total (tree_of s t).body.leaf) (tree_of s t).body.leaf (tree_of s t).body.inner t.head.root.0 (lvl (tree_of s t).body.inner t.head.root.0 m) (stack (tree_of s t).body.inner t.head.root.0 m)) (sym q) b.links))
      go (no ne) = childs (inner_in s t) d lt (λ k. rw (ne_eqb (suc d) t.head.levels ne))
          (local_of (total (tree_of s t).body.inner) (tree_of s t).body.inner (tree_of s t).body.inner t.head.root.0 d (level_links (tree_of s t) b (suc d) (omega arith)))

  ids : map id_of (row (tree_of s t)) ≡ map child (slots_in s t (leaves_reached s t))
  ids = ap (map id_of) (sym (slots_row s t)) ∙ map_child (slots_in s t (leaves_reached s t))

  ids_below : All (λ k. k < t.head.entries) (map id_of (row (tree_of s t)))
  ids_below = all_mapped (λ k. k < t.head.entries) id_of (row (tree_of s t)) (all_cat' (order (tree_of s t)) b.leaf_in_law)
    where
      all_cat' : (C : List ℕ) → All (λ k. k < t.head.leaves) C → All (λ (x : Slot). x.child < t.head.entries) (cat (tree_of s t).body.leaf.slots C)
      all_cat' C h = all_cat (λ (x : Slot). x.child < t.head.entries) (tree_of s t).body.leaf.slots C
          (all_map (λ k. k < t.head.leaves) (λ k. All (λ (x : Slot). x.child < t.head.entries) (slots_of (leaf_in s t k))) (λ k lt. b.below k lt) C h)

  ids_once : Once t.head.entries (map child (slots_in s t (leaves_reached s t)))
  ids_once = subst (Once t.head.entries) ids
      (once_of t.head.entries (map id_of (row (tree_of s t))) b.once ids_below
      (λ k lt a. absent k (each_in (map id_of (row (tree_of s t))) t.head.entries b.once ids_below (length-map (row (tree_of s t)) id_of ∙ b.count) k lt) a))
    where
      absent : (k : ℕ) → In k (map id_of (row (tree_of s t))) → Absent k (map id_of (row (tree_of s t))) → ⊥
      absent k i a = all_in_at (λ m. m ≢ k) k (map id_of (row (tree_of s t))) i a refl

  start_is : (k : ℕ) → k < t.head.leaves → (v : ℕ)
      → climb v (tree_of s t).body.leaf (tree_of s t).body.inner t.head.levels k ≡ node.total v (slots_in s t (until k (leaves_reached s t)))
  start_is k lt v = sym (start_at s t b k (is_in k (order (tree_of s t)) (b.leaf_all k lt)) v)

  finger_right : (f : Option Finger) → Viewed s f → tree.Right e (tree_of s t) f → FingerRight s t e f
  finger_right None v r = tt
  finger_right (Some f) v r = record {
    view = v;
    leaf = r.leaf_in_law;
    slot = omega (arith, r.slot_in_law, leaf_size f.leaf r.leaf_in_law);
    start = r.start ∙ start_is f.leaf r.leaf_in_law f.view;
    effect = r.effect ∙ start_is f.leaf r.leaf_in_law e;
    within = r.within ∙ sym (sum_take f.view f.slot (used (leaf_in s t f.leaf)));
    within_effect = r.within_effect ∙ sym (sum_take e f.slot (used (leaf_in s t f.leaf)));
    prepare_start = r.prepare_start ∙ start_is f.leaf r.leaf_in_law 0;
    within_prepare = r.within_prepare ∙ sym (sum_take 0 f.slot (used (leaf_in s t f.leaf)));
  }

pub sound_up : (s : ℕ) (t : State) (e : ℕ) → Neat s t → tree.Sound e (tree_of s t) → CoherentAt s t e
sound_up s t e n so =
    let b : Body (tree_of s t) = so.body in
    record {
      fan_least = b.fan_low;
      fan_most = b.fan_high;
      limit_least = b.limit_low;
      limit_most = b.limit_high;
      leaf_area = n.leaf_area;
      inner_area = n.inner_area;
      home_area = n.home_area;
      entry_count = b.room;
      leaf_count = n.leaf_count;
      inner_count = n.inner_count;
      levels_least = b.some;
      inners_once = inners_once s t e n b;
      leaves_once = leaves_once s t e n b;
      leaf_filled = leaf_filled s t e n b;
      inner_filled = inner_filled s t e n b;
      root_parent = (level_links (tree_of s t) b 0 b.some).1;
      root_at = (level_links (tree_of s t) b 0 b.some).2;
      children = children s t e n b;
      homes = λ k i lk li. (let td = n.leaf_tidy k lk in let lu : i < length (used (leaf_in s t k)) = rw (len_used s t.head.fan (leaf_in s t k) td) at li in
          subst (λ (x : List ℕ). get_or t.homes (child x) 0 ≡ k) (sym (slot_used s t.head.fan (leaf_in s t k) td i [] lu)) (slots_all (λ x. get_or t.homes x.child 0 ≡ k) (used (leaf_in s t k)) (b.homed k lk) i lu));
      ids = ids_once s t e n b;
      totals = λ v lv. (let z : node.total v (slots_in s t (leaves_reached s t)) ≡ sum_by (len v) (row (tree_of s t)) = total_in_law s t v (leaves_reached s t) ∙ ap (λ (C : List ℕ). sum_by (len v) (cat (tree_of s t).body.leaf.slots C)) (leaves_order s t) in
          omega (arith, b.totals v));
      finger = finger_right s t e n b t.head.finger n.view so.finger;
    }
