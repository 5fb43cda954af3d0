-- A sound state's abstract tree is sound.
use Rattle.model.specs.declared.head.Finger.{Finger}
use Rattle.std.specs.Prelude.{◌≡◌, ◌≢◌, Bool, true, false, cond, List, [], ◌∷◌, map, eqb, length, get_or, take, Some, None, Option}
use Rattle.std.proofs.Math.Path.{refl}
use Rattle.std.proofs.Common.{sym, ap, ◌∙◌, subst, zero-add, not-suc-le-zero, arith, eq-eqb, ne_eqb}
use Prim.Native.Nat.{ℕ, zero, suc, ◌+◌, ◌≤◌, ◌<◌}
use Rattle.std.proofs.Math.Decide.{dec_lt}
use Rattle.std.proofs.lemmas.List.{length-map}
use Rattle.model.specs.Lists.{All, sum_by}
use Rattle.model.specs.Node as node
use Rattle.model.specs.Node.{Node, child, used, half}
use Rattle.model.specs.State.{State}
use Rattle.model.specs.Sound.{leaf_in, inner_in, inners_reached, leaves_reached, slots_in, below, Child, least_inner, CoherentAt, FingerRight, until}
use Rattle.model_laws.specs.Lists.{all_at_at}
use Rattle.model_laws.specs.Slots.{Wide}
use Rattle.model_tree.specs.Lists.{cat, sum_by_cat, take_map, NoDup, all_map, all_map₂, uncat}
use Rattle.model_tree.specs.Levels.{Slot, Area, Links, total, len, climb}
use Rattle.model_tree.specs.Sound.{kids_of, lvl, stack, Local, Locals, links_of}
use Rattle.model_tree.specs.Fit.{Fit}
use Rattle.model_tree.specs.Pigeon.{Absent, is_in}
use Rattle.model_tree.specs.Tree as tree
use Rattle.model_tree.specs.Tree.{order, above, row, id_of, Body}
use Rattle.model_tree.specs.Check.{level_at}
use Rattle.model_tree.specs.CheckBack.{all_in_at}
use Rattle.model_theory.specs.LiftCount.{once_nodup, once_in, once_length}
use Rattle.model_theory.specs.WordTidy.{Tidy, len_used, slot_used}
use Rattle.model_theory.specs.LiftTree.{slot_of, slots_of, tree_of, sum_slots}
use Rattle.model_theory.specs.LiftLevels.{map_child, stack_length, level_lvl, leaves_order, slots_row, total_in_law, inners_above, above_inners, start_at}
use Rattle.model_theory.specs.LiftMarks.{area_from, Marked, total_past, every_view, marks_of}
use Rattle.model_theory.specs.WordNeat.{nodes_most, size_is, neat_of}

-- a property of slots, place by place
pub all_slots : (Q : Slot → Type 0) (xs : List (List ℕ)) → ((j : ℕ) → j < length xs → Q (slot_of (get_or xs j []))) → All Q (map slot_of xs)
unfolding All
all_slots Q [] h = tt
all_slots Q (x ∷ xs) h = (h 0 (omega arith), all_slots Q xs (λ j lt. h (suc j) (omega arith)))

pub kid_at : (Q : ℕ → Type 0) (xs : List (List ℕ)) → All Q (map (λ (x : Slot). x.child) (map slot_of xs)) → (j : ℕ) → j < length xs → Q (child (get_or xs j []))
unfolding All
kid_at Q [] h j lt = absurd (not-suc-le-zero lt)
kid_at Q (x ∷ xs) h zero lt = h.0
kid_at Q (x ∷ xs) h (suc j) lt = kid_at Q xs h.1 j (omega arith)

pub all_ids : (Q : ℕ → Type 0) (xs : List (List ℕ)) → All Q (map child xs) → All (λ (x : Slot). Q x.child) (map slot_of xs)
unfolding All
all_ids Q [] h = tt
all_ids Q (x ∷ xs) h = (h.0, all_ids Q xs h.1)

pub none_sum : {A : Type 0} (f : A → ℕ) (l : List A) → All (λ x. f x ≡ 0) l → sum_by f l ≡ 0
unfolding All sum_by
none_sum f [] h = refl
none_sum f (x ∷ l) h = omega (arith, h.0, none_sum f l h.1)

-- sums before a slot
pub sum_take : (v i : ℕ) (xs : List (List ℕ)) → node.total v (take i xs) ≡ sum_by (len v) (take i (map slot_of xs))
sum_take v i xs = sym (sum_slots v (take i xs)) ∙ ap (sum_by (len v)) (sym (take_map slot_of i xs))

module _ (s : ℕ) (t : State) (e : ℕ) (w : CoherentAt s t e) where
  leaf_in_law : All (λ k. k < t.head.leaves) (order (tree_of s t))
  leaf_in_law = subst (All (λ k. k < t.head.leaves)) (leaves_order s t) w.leaves_once.below

  inner_in_law : All (All (λ k. k < t.head.inners)) (above (tree_of s t))
  inner_in_law = inners_above s t (λ k. k < t.head.inners) w.inners_once.below

  -- a slot of inner node p and the child below it, whose node is N
  marked : (N : ℕ → Node) (n d p : ℕ) → ((k : ℕ) → below s t d k ≡ N k) → ((k : ℕ) → k < n → Wide s (used (N k)))
      → p < t.head.inners → All (λ k. k < n) (kids_of (tree_of s t).body.inner p) → ((i : ℕ) → i < (inner_in s t p).len → Child s t d p i (get_or (inner_in s t p).slots i []))
      → Local (total (area_from N)) (area_from N) (tree_of s t).body.inner p
  marked N n d p is wide lt kids ch = marks_of N p 0 (used (inner_in s t p)) one
    where
      td : Tidy s t.head.fan (inner_in s t p)
      td = (neat_of s t e w).inner_tidy p lt

      one : (j : ℕ) → j < length (used (inner_in s t p)) → Marked N p (0 + j) (get_or (used (inner_in s t p)) j [])
      one j lj =
          let x : List ℕ = get_or (used (inner_in s t p)) j [] in
          let c : Child s t d p j x = subst (Child s t d p j) (slot_used s t.head.fan (inner_in s t p) td j [] lj) (ch j (rw (len_used s t.head.fan (inner_in s t p) td) lj)) in
          record {
            parent = ap (λ (m : Node). m.parent) (sym (is (child x))) ∙ c.parent;
            at = ap (λ (m : Node). m.at) (sym (is (child x))) ∙ c.at ∙ sym (zero-add j);
            sums = every_view s x (used (N (child x))) (all_at_at (λ y. length y ≡ s) j [] (used (inner_in s t p)) lj td.wide) (wide (child x) (kid_at (λ k. k < n) (used (inner_in s t p)) kids j lj))
                (λ v lv. c.sums v lv ∙ ap (λ (m : Node). node.total v (used m)) (is (child x)));
          }

  locals : (N : ℕ → Node) (n d : ℕ) → d < t.head.levels → ((k : ℕ) → below s t d k ≡ N k) → ((k : ℕ) → k < n → Wide s (used (N k)))
      → All (λ k. k < n) (lvl (tree_of s t).body.inner t.head.root.0 (suc d)) → All (Local (total (area_from N)) (area_from N) (tree_of s t).body.inner) (lvl (tree_of s t).body.inner t.head.root.0 d)
  locals N n d lt is wide kids =
      let up : Area = (tree_of s t).body.inner in
      let r : ℕ = t.head.root.0 in
      let D : ℕ → Type 0 = λ p. (i : ℕ) → i < (inner_in s t p).len → Child s t d p i (get_or (inner_in s t p).slots i []) in
      let K : ℕ → Type 0 = λ p. All (λ k. k < n) (kids_of up p) in
      all_map₂ (λ p. p < t.head.inners) (λ p. K p × D p) (Local (total (area_from N)) (area_from N) up) (λ p lp h. marked N n d p is wide lp h.0 h.1) (lvl up r d)
      (level_at up r (All (λ k. k < t.head.inners)) t.head.levels d lt inner_in_law)
      (all_map₂ K D (λ p. K p × D p) (λ p a b. (a, b)) (lvl up r d) (uncat (λ k. k < n) (kids_of up) (lvl up r d) kids) (subst (All D) (level_lvl s t d) (w.children d lt)))

  leaf_below : (d : ℕ) → suc d ≡ t.head.levels → (k : ℕ) → below s t d k ≡ leaf_in s t k
  leaf_below d q k = rw (eq-eqb (suc d) t.head.levels q)

  inner_below : (d : ℕ) → suc d ≢ t.head.levels → (k : ℕ) → below s t d k ≡ inner_in s t k
  inner_below d ne k = rw (ne_eqb (suc d) t.head.levels ne)

  inner_locals : (d : ℕ) → d < t.head.levels → Locals (total (tree_of s t).body.inner) (tree_of s t).body.inner (tree_of s t).body.inner t.head.root.0 d
  inner_locals zero lt = (w.root_parent, w.root_at)
  inner_locals (suc d) lt = (
    locals (inner_in s t) t.head.inners d (omega arith) (inner_below d (λ q. omega arith)) (λ k lk. ((neat_of s t e w).inner_tidy k lk).wide)
        (level_at (tree_of s t).body.inner t.head.root.0 (All (λ k. k < t.head.inners)) t.head.levels (suc d) lt inner_in_law),
    inner_locals d (omega arith),
  )

  links : Links (total (tree_of s t).body.leaf) (tree_of s t).body.leaf (tree_of s t).body.inner t.head.root.0 (order (tree_of s t)) (above (tree_of s t))
  links = go t.head.levels refl
    where
      go : (n : ℕ) → t.head.levels ≡ n → Links (total (tree_of s t).body.leaf) (tree_of s t).body.leaf (tree_of s t).body.inner t.head.root.0 (order (tree_of s t)) (above (tree_of s t))
      go zero q = absurd (omega (arith, w.levels_least))
      go (suc n) q =
          subst (λ (m : ℕ). Links (total (tree_of s t).body.leaf) (tree_of s t).body.leaf (tree_of s t).body.inner t.head.root.0 (lvl (tree_of s t).body.inner t.head.root.0 m) (stack (tree_of s t).body.inner t.head.root.0 m)) (sym q)
          (links_of (total (tree_of s t).body.leaf) (tree_of s t).body.leaf (tree_of s t).body.inner t.head.root.0 (suc n) (
            locals (leaf_in s t) t.head.leaves n (omega arith) (leaf_below n (sym q)) (λ k lk. ((neat_of s t e w).leaf_tidy k lk).wide)
                (subst (λ (m : ℕ). All (λ k. k < t.head.leaves) (lvl (tree_of s t).body.inner t.head.root.0 m)) q leaf_in_law),
            inner_locals n (omega arith),
          ))

  leaf_all : (k : ℕ) → k < t.head.leaves → Absent k (order (tree_of s t)) → ⊥
  leaf_all k lt a = once_in t.head.leaves (leaves_reached s t) w.leaves_once k lt (subst (Absent k) (sym (leaves_order s t)) a)

  -- what holds of the row's slots holds of each leaf's
  each_leaf : (Q : Slot → Type 0) → All Q (row (tree_of s t)) → (k : ℕ) → k < t.head.leaves → All Q (slots_of (leaf_in s t k))
  each_leaf Q h k lt =
      all_in_at (λ p. All Q (slots_of (leaf_in s t p))) k (order (tree_of s t)) (is_in k (order (tree_of s t)) (leaf_all k lt))
      (uncat Q (tree_of s t).body.leaf.slots (order (tree_of s t)) h)

  ids : map id_of (row (tree_of s t)) ≡ map child (slots_in s t (leaves_reached s t))
  ids = ap (map id_of) (sym (slots_row s t)) ∙ map_child (slots_in s t (leaves_reached s t))

  row_below : All (λ (x : Slot). x.child < t.head.entries) (row (tree_of s t))
  row_below = subst (All (λ (x : Slot). x.child < t.head.entries)) (slots_row s t) (all_ids (λ k. k < t.head.entries) (slots_in s t (leaves_reached s t)) w.ids.below)

  totals : (v : ℕ) → sum_by (len v) (row (tree_of s t)) < 4294967296
  totals v = go (dec_lt (suc v) s)
    where
      sums : node.total v (slots_in s t (leaves_reached s t)) ≡ sum_by (len v) (row (tree_of s t))
      sums = total_in_law s t v (leaves_reached s t) ∙ ap (λ (C : List ℕ). sum_by (len v) (cat (tree_of s t).body.leaf.slots C)) (leaves_order s t)

      zeros : (C : List ℕ) → s ≤ suc v → All (λ k. k < t.head.leaves) C → sum_by (len v) (cat (tree_of s t).body.leaf.slots C) ≡ 0
      zeros C h b = sum_by_zero (tree_of s t).body.leaf.slots C
          (all_map (λ k. k < t.head.leaves) (λ k. sum_by (len v) (slots_of (leaf_in s t k)) ≡ 0) (λ k lk. sum_slots v (used (leaf_in s t k)) ∙ total_past s (used (leaf_in s t k)) v ((neat_of s t e w).leaf_tidy k lk).wide h) C b)
        where
          sum_by_zero : (f : ℕ → List Slot) (C : List ℕ) → All (λ k. sum_by (len v) (f k) ≡ 0) C → sum_by (len v) (cat f C) ≡ 0
          sum_by_zero f C a = sum_by_cat (len v) f C ∙ none_sum (λ k. sum_by (len v) (f k)) C a

      go : Dec (suc v < s) → sum_by (len v) (row (tree_of s t)) < 4294967296
      go (yes lt) = omega (arith, sums, w.totals v lt)
      go (no ge) = omega (arith, zeros (order (tree_of s t)) (omega arith) leaf_in_law)

  leaf_least : (k : ℕ) → k < t.head.leaves → 2 ≤ t.head.leaves → half t.head.fan ≤ length (slots_of (leaf_in s t k))
  leaf_least k lt h =
      let a : cond (eqb t.head.leaves 1) 1 (half t.head.fan) ≤ (leaf_in s t k).len = (w.leaf_filled k lt).low in
      let b : half t.head.fan ≤ (leaf_in s t k).len = rw (ne_eqb t.head.leaves 1 (λ q. omega arith)) at a in
      omega (arith, size_is s t.head.fan (leaf_in s t k) ((neat_of s t e w).leaf_tidy k lt))

  leaf_one : (k : ℕ) → k < t.head.leaves → 1 ≤ length (slots_of (leaf_in s t k))
  leaf_one k lt = go (eqb t.head.leaves 1) (w.leaf_filled k lt).low
    where
      go : (b : Bool) → cond b 1 (half t.head.fan) ≤ (leaf_in s t k).len → 1 ≤ length (slots_of (leaf_in s t k))
      go true h = omega (arith, size_is s t.head.fan (leaf_in s t k) ((neat_of s t e w).leaf_tidy k lt))
      go false h = omega (arith, w.fan_least, size_is s t.head.fan (leaf_in s t k) ((neat_of s t e w).leaf_tidy k lt))

  root_in : t.head.root.0 < t.head.inners
  unfolding All
  root_in = go t.head.levels refl
    where
      go : (n : ℕ) → t.head.levels ≡ n → t.head.root.0 < t.head.inners
      go zero q = absurd (omega (arith, w.levels_least))
      go (suc n) q = (level_at (tree_of s t).body.inner t.head.root.0 (All (λ k. k < t.head.inners)) t.head.levels 0 (omega (arith, w.levels_least)) inner_in_law).0

  inner_size : (k : ℕ) → k < t.head.inners → length (slots_of (inner_in s t k)) ≡ (inner_in s t k).len
  inner_size k lt = size_is s t.head.fan (inner_in s t k) ((neat_of s t e w).inner_tidy k lt)

  root_size : (m : ℕ) → m ≤ cond (eqb t.head.levels 1) 1 2 → m ≤ length (slots_of (inner_in s t t.head.root.0))
  root_size m h =
      let r : ℕ = t.head.root.0 in
      let a : least_inner s t r ≤ (inner_in s t r).len = (w.inner_filled r root_in).low in
      let b : cond (eqb t.head.levels 1) 1 2 ≤ (inner_in s t r).len = rw (eq-eqb r r refl) at a in
      omega (arith, inner_size r root_in)

  fit : Fit 1 t.head.fan (half t.head.fan) (tree_of s t).body
  fit = record {
    most = λ k lt. omega (arith, inner_size k lt, (w.inner_filled k lt).high);
    least = λ k lt ne.
        (let a : least_inner s t k ≤ (inner_in s t k).len = (w.inner_filled k lt).low in
        let b : half t.head.fan ≤ (inner_in s t k).len = rw (ne_eqb k t.head.root.0 ne) at a in
        omega (arith, inner_size k lt));
    two = root_size 1 (one (eqb t.head.levels 1));
    root_in = root_in;
  }
    where
      one : (b : Bool) → 1 ≤ cond b 1 2
      one true = omega arith
      one false = omega arith

  pub body_of : Body (tree_of s t)
  body_of = record {
    fan_low = w.fan_least;
    fan_high = w.fan_most;
    limit_low = w.limit_least;
    limit_high = w.limit_most;
    some = w.levels_least;
    room = w.entry_count;
    few = omega (arith, w.inner_count, nodes_most t.head.fan t.head.limit w.limit_least, w.limit_most);
    deep = stack_length (tree_of s t).body.inner t.head.root.0 t.head.levels;
    links = links;
    leaf_in_law = leaf_in_law;
    leaf_all = leaf_all;
    inner_in_law = inner_in_law;
    inner_all = λ k lt a. once_in t.head.inners (inners_reached s t) w.inners_once k lt (above_inners s t (λ m. m ≢ k) a);
    leaf_most = λ k lt. omega (arith, size_is s t.head.fan (leaf_in s t k) ((neat_of s t e w).leaf_tidy k lt), (w.leaf_filled k lt).high);
    leaf_least = leaf_least;
    leaf_one = leaf_one;
    fit = fit;
    two = λ h. root_size 2 (rw (ne_eqb t.head.levels 1 (λ q. omega arith)) (omega arith));
    homed = λ k lt. all_slots (λ x. get_or t.homes x.child 0 ≡ k) (used (leaf_in s t k))
        (λ j lj. (let td = (neat_of s t e w).leaf_tidy k lt in subst (λ (x : List ℕ). get_or t.homes (child x) 0 ≡ k) (slot_used s t.head.fan (leaf_in s t k) td j [] lj) (w.homes k j lt (rw (len_used s t.head.fan (leaf_in s t k) td) lj))));
    below = each_leaf (λ x. x.child < t.head.entries) row_below;
    once = subst NoDup (sym ids) (once_nodup t.head.entries (map child (slots_in s t (leaves_reached s t))) w.ids);
    count = sym (length-map (row (tree_of s t)) id_of) ∙ ap length ids ∙ once_length t.head.entries (map child (slots_in s t (leaves_reached s t))) w.ids;
    totals = totals;
  }

  start_of : (k : ℕ) → k < t.head.leaves → (v : ℕ)
      → node.total v (slots_in s t (until k (leaves_reached s t))) ≡ climb v (tree_of s t).body.leaf (tree_of s t).body.inner t.head.levels k
  start_of k lt v = start_at s t body_of k (is_in k (order (tree_of s t)) (leaf_all k lt)) v

  pub finger_of_law : (f : Option Finger) → FingerRight s t e f → tree.Right e (tree_of s t) f
  finger_of_law None r = tt
  finger_of_law (Some f) r =
      let k : ℕ = f.leaf in
      let td : Tidy s t.head.fan (leaf_in s t k) = (neat_of s t e w).leaf_tidy k r.leaf in
      record {
        leaf_in_law = r.leaf;
        slot_in_law = omega (arith, r.slot, size_is s t.head.fan (leaf_in s t k) td);
        start = r.start ∙ start_of k r.leaf f.view;
        effect = r.effect ∙ start_of k r.leaf e;
        within = r.within ∙ sum_take f.view f.slot (used (leaf_in s t k));
        within_effect = r.within_effect ∙ sum_take e f.slot (used (leaf_in s t k));
        prepare_start = r.prepare_start ∙ start_of k r.leaf 0;
        within_prepare = r.within_prepare ∙ sum_take 0 f.slot (used (leaf_in s t k));
      }

  -- a sound state's tree is sound
  pub sound_of : tree.Sound e (tree_of s t)
  sound_of = record { body = body_of; finger = finger_of_law t.head.finger w.finger }
