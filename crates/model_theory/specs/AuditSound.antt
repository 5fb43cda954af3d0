-- A state of which audit's facts hold is sound.
use Rattle.model.specs.declared.way.Broken.{Broken}
use Rattle.model.specs.declared.head.Finger.{Finger}
use Rattle.std.specs.Prelude.{◌≡◌, refl, Bool, true, false, cond, List, [], ℕ, ◌+◌, ◌≤◌, ◌<◌, eqb, length, get_or, take, Ok, Some, None, Option, Result}
use Rattle.std.proofs.Common.{sym, ap, ◌∙◌, subst, zero-add, arith, eq-eqb, ne_eqb}
use Rattle.std.proofs.Math.Decide.{dec_lt}
use Rattle.std.proofs.lemmas.List.{length-map}
use Rattle.model.specs.Kind.{stride}
use Rattle.model.specs.declared.shape.Kind.{Kind}
use Rattle.model.specs.Lists.{sum_by, range}
use Rattle.model.specs.Node as node
use Rattle.model.specs.Node.{Node, none, child, used, half}
use Rattle.model.specs.State.{State}
use Rattle.model.specs.Sound.{shape_in, leaf_in, inner_in, least_inner, Coherent}
use Rattle.model.specs.Climb.{rank_up}
use Rattle.model.specs.Audit.{depth_of}
use Rattle.model_laws.specs.Lists.{all_at_at}
use Rattle.model_laws.specs.Slots.{Wide}
use Rattle.model_laws.specs.Nodes.{Formed}
use Rattle.model_laws.specs.Areas.{formed_at}
use Rattle.model_theory.specs.WordFits.{fits}
use Rattle.model_tree.specs.Lists.{all_map}
use Rattle.model_tree.specs.Levels.{no_slot, Slot, Links, total, len, climb}
use Rattle.model_tree.specs.Reach.{Kids}
use Rattle.model_tree.specs.Pigeon.{In, is_in}
use Rattle.model_tree.specs.Fit.{Fit}
use Rattle.model_tree.specs.Tree as tree
use Rattle.model_tree.specs.Tree.{Tree, order, above, Body}
use Rattle.model_tree.specs.Finger.{sum_by_cong}
use Rattle.model_tree.specs.Cursor.{index_of}
use Rattle.model_tree.specs.Check as check
use Rattle.model_tree.specs.Check.{TreeChecks, checks_body}
use Rattle.model_theory.specs.WordTidy.{Tidy, tidy_filled, len_used, slot_used, slots_before_law}
use Rattle.model_theory.specs.LiftTree.{slot_of, slots_of, tree_of, sum_slots}
use Rattle.model_theory.specs.LiftMarks.{area_from, Marked, total_past, every_view, marks_of, get_d_slot}
use Rattle.model_theory.specs.WordNeat.{Neat, Viewed, size_is, nodes_most}
use Rattle.model_theory.specs.LiftSound.{all_slots, sum_take}
use Rattle.model_theory.specs.LiftSoundBack.{sound_up}
use Rattle.model_theory.specs.WalkUp.{WayUp, way, rank_up_law}
use Rattle.model_theory.specs.CallMake.{Sizes}
use Rattle.model_theory.specs.AuditFacts.{HeldBy, ChildBy, area_by, count_by, EntryBy, HandBy, SoundBy}
use Rattle.model_theory.specs.AuditDepth.{depth_dep, index_first, range_below, all_kids}

pub start_at : (s fan v i : ℕ) (n : Node) → Tidy s fan n → i ≤ length (slots_of n) → node.start v i n ≡ sum_by (len v) (take i (slots_of n))
start_at s fan v i n td h =
    ap (node.total v) (slots_before_law s fan n td i (let z : length (slots_of n) ≡ length (used n) = length-map (used n) slot_of in omega arith)) ∙ sum_take v i (used n)

-- what the links above a leaf sum up to
pub climb_of : (s : ℕ) (t : State) (nt : Neat s t) → Body (tree_of s t) → (k : ℕ) → k < t.head.leaves → (v : ℕ)
    → rank_up (shape_in s t) v t.head.levels (leaf_in s t k).parent (leaf_in s t k).at 0 t.inners ≡ Ok (0 + climb v (tree_of s t).body.leaf (tree_of s t).body.inner t.head.levels k)
climb_of s t nt b k lk v = go (is_in k (order (tree_of s t)) (b.leaf_all k lk))
  where
    go : In k (order (tree_of s t)) → rank_up (shape_in s t) v t.head.levels (leaf_in s t k).parent (leaf_in s t k).at 0 t.inners ≡ Ok (0 + climb v (tree_of s t).body.leaf (tree_of s t).body.inner t.head.levels k)
    go i =
        let T : Tree = tree_of s t in
        rank_up_law s t nt v t.head.levels T.body.leaf k 0
        (subst (λ (d : ℕ). WayUp T.body.leaf T.body.inner t.head.inners d k) b.deep
        (way (total T.body.leaf) T.body.leaf T.body.inner T.body.root t.head.inners i.before k i.after (above T) (subst (λ (C : List ℕ). Links (total T.body.leaf) T.body.leaf T.body.inner T.body.root C (above T)) i.row b.links) b.inner_in_law))

module _ (K : Kind) (t : State) (z : Sizes K t.head.fan t.head.limit t.leaves t.inners t.homes) (f : SoundBy K t) where
  abbrev T : Tree
  T = tree_of (stride K) t

  leaf_formed : (k : ℕ) → k < t.head.leaves → Formed (stride K) t.head.fan (leaf_in (stride K) t k)
  leaf_formed k lt = formed_at (shape_in (stride K) t) k t.leaves refl (fits (shape_in (stride K) t) k t.leaves (let y = f.leaf_count in omega arith) z.leaf_area)

  inner_formed : (k : ℕ) → k < t.head.inners → Formed (stride K) t.head.fan (inner_in (stride K) t k)
  inner_formed k lt = formed_at (shape_in (stride K) t) k t.inners refl (fits (shape_in (stride K) t) k t.inners (let y = f.inner_count in omega arith) z.inner_area)

  hand_view : (h : Option Finger) → HandBy K t h → Viewed (stride K) h
  hand_view None r = tt
  hand_view (Some g) r = (let y = r.view in omega arith)

  neat : Neat (stride K) t
  neat = record {
    leaf_area = z.leaf_area;
    inner_area = z.inner_area;
    home_area = z.home_area;
    leaf_count = f.leaf_count;
    inner_count = f.inner_count;
    leaf_tidy = λ k lt. tidy_filled (stride K) t.head.fan (leaf_in (stride K) t k) (leaf_formed k lt) (f.leaf k lt).filled.high (f.leaf k lt).filled.unused;
    inner_tidy = λ k lt. tidy_filled (stride K) t.head.fan (inner_in (stride K) t k) (inner_formed k lt) (f.inner k lt).filled.high (f.inner k lt).filled.unused;
    view = hand_view t.head.finger f.finger;
  }

  leaf_size : (k : ℕ) → k < t.head.leaves → length (slots_of (leaf_in (stride K) t k)) ≡ (leaf_in (stride K) t k).len
  leaf_size k lt = size_is (stride K) t.head.fan (leaf_in (stride K) t k) (neat.leaf_tidy k lt)

  inner_size : (k : ℕ) → k < t.head.inners → length (slots_of (inner_in (stride K) t k)) ≡ (inner_in (stride K) t k).len
  inner_size k lt = size_is (stride K) t.head.fan (inner_in (stride K) t k) (neat.inner_tidy k lt)

  few : t.head.inners ≤ none
  few = (let y = f.inner_count in let x = nodes_most t.head.fan t.head.limit z.limit_low in let w = z.limit_high in omega arith)

  depth_is : (k : ℕ) → depth_of K t k ≤ t.head.levels → check.depth T k ≡ depth_of K t k
  depth_is k h = depth_dep K t t.head.levels k h 17 (let y = f.shallow in omega arith)

  -- the children of node k, whose nodes are N
  kids : (N : ℕ → Node) (n k : ℕ) → k < t.head.inners → ((j : ℕ) → j < n → Wide (stride K) (used (N j))) → ((i : ℕ) → i < (inner_in (stride K) t k).len → ChildBy K t N n k i (get_or (inner_in (stride K) t k).slots i []))
      → Kids (total (area_from N)) (area_from N) n T.body.inner k
  kids N n k lk wide h =
      (marks_of N k 0 (used (inner_in (stride K) t k)) one, all_kids (λ c. c < n) (used (inner_in (stride K) t k)) (λ j lj. (child_at j lj).below))
    where
      td : Tidy (stride K) t.head.fan (inner_in (stride K) t k)
      td = neat.inner_tidy k lk

      child_at : (j : ℕ) → j < length (used (inner_in (stride K) t k)) → ChildBy K t N n k j (get_or (used (inner_in (stride K) t k)) j [])
      child_at j lj = subst (ChildBy K t N n k j) (slot_used (stride K) t.head.fan (inner_in (stride K) t k) td j [] lj) (h j (rw (len_used (stride K) t.head.fan (inner_in (stride K) t k) td) lj))

      one : (j : ℕ) → j < length (used (inner_in (stride K) t k)) → Marked N k (0 + j) (get_or (used (inner_in (stride K) t k)) j [])
      one j lj =
          let c = child_at j lj in
          let x : List ℕ = get_or (used (inner_in (stride K) t k)) j [] in
          record {
            parent = c.parent;
            at = c.at ∙ sym (zero-add j);
            sums = every_view (stride K) x (used (N (child x))) (all_at_at (λ y. length y ≡ stride K) j [] (used (inner_in (stride K) t k)) lj td.wide) (wide (child x) c.below) (λ v lv. c.sums v (omega arith));
          }

  -- where a node says that it stands
  stands : (k : ℕ) (n : Node) → HeldBy K t k n → (n.at < length (T.body.inner.slots n.parent)) × ((get_or (T.body.inner.slots n.parent) n.at no_slot).child ≡ k)
  stands k n h =
      let p : Node = inner_in (stride K) t n.parent in
      let td : Tidy (stride K) t.head.fan p = neat.inner_tidy n.parent h.parent in
      let lu : n.at < length (used p) = rw (len_used (stride K) t.head.fan p td) at h.at in
      ((let y = inner_size n.parent h.parent in let x = h.at in omega arith), ap (λ (y : Slot). y.child) (get_d_slot (used p) n.at lu) ∙ ap child (sym (slot_used (stride K) t.head.fan p td n.at [] lu)) ∙ h.child)

  fit : Fit 1 t.head.fan (half t.head.fan) T.body
  fit = record {
    most = λ k lt. (let y = inner_size k lt in let x = (f.inner k lt).filled.high in omega arith);
    least = λ k lt ne.
        (let a : least_inner (stride K) t k ≤ (inner_in (stride K) t k).len = (f.inner k lt).filled.low in
        let b : half t.head.fan ≤ (inner_in (stride K) t k).len = rw (ne_eqb k t.head.root.0 ne) at a in
        let y = inner_size k lt in omega arith);
    two = root_size 1 (one (eqb t.head.levels 1));
    root_in = f.root_in;
  }
    where
      one : (b : Bool) → 1 ≤ cond b 1 2
      one true = omega arith
      one false = omega arith

      root_size : (m : ℕ) → m ≤ cond (eqb t.head.levels 1) 1 2 → m ≤ length (slots_of (inner_in (stride K) t t.head.root.0))
      root_size m h =
          let r : ℕ = t.head.root.0 in
          let a : least_inner (stride K) t r ≤ (inner_in (stride K) t r).len = (f.inner r f.root_in).filled.low in
          let b : cond (eqb t.head.levels 1) 1 2 ≤ (inner_in (stride K) t r).len = rw (eq-eqb r r refl) at a in
          let y = inner_size r f.root_in in omega arith

  two_of : 2 ≤ t.head.levels → 2 ≤ length (slots_of (inner_in (stride K) t t.head.root.0))
  two_of h =
      let r : ℕ = t.head.root.0 in
      let a : least_inner (stride K) t r ≤ (inner_in (stride K) t r).len = (f.inner r f.root_in).filled.low in
      let b : 2 ≤ (inner_in (stride K) t r).len = rw (eq-eqb r r refl, ne_eqb t.head.levels 1 (λ q. omega arith)) at a in
      let y = inner_size r f.root_in in omega arith

  leaf_low : (k : ℕ) → k < t.head.leaves → cond (eqb t.head.leaves 1) 1 (half t.head.fan) ≤ length (slots_of (leaf_in (stride K) t k))
  leaf_low k lt = (let a = (f.leaf k lt).filled.low in let y = leaf_size k lt in omega arith)

  leaf_one : (k : ℕ) → k < t.head.leaves → 1 ≤ length (slots_of (leaf_in (stride K) t k))
  leaf_one k lt = go (eqb t.head.leaves 1) (leaf_low k lt)
    where
      go : (b : Bool) → cond b 1 (half t.head.fan) ≤ length (slots_of (leaf_in (stride K) t k)) → 1 ≤ length (slots_of (leaf_in (stride K) t k))
      go true h = h
      go false h = (let y = z.fan_low in omega arith)

  entry_at : (k : ℕ) (lt : k < t.head.leaves) (j : ℕ) → j < length (used (leaf_in (stride K) t k)) → EntryBy K t k (leaf_in (stride K) t k) j
  entry_at k lt j lj = (f.leaf k lt).entries j (rw (len_used (stride K) t.head.fan (leaf_in (stride K) t k) (neat.leaf_tidy k lt)) lj)

  entry_slot : (k : ℕ) (lt : k < t.head.leaves) (j : ℕ) → j < length (used (leaf_in (stride K) t k)) → child (get_or (leaf_in (stride K) t k).slots j []) ≡ child (get_or (used (leaf_in (stride K) t k)) j [])
  entry_slot k lt j lj = ap child (slot_used (stride K) t.head.fan (leaf_in (stride K) t k) (neat.leaf_tidy k lt) j [] lj)

  checks : TreeChecks T
  checks = record {
    fan_low = z.fan_low;
    fan_high = z.fan_high;
    limit_low = z.limit_low;
    limit_high = z.limit_high;
    some = f.some;
    shallow = f.shallow;
    room = f.entry_count;
    few = few;
    root_parent = ((f.inner t.head.root.0 f.root_in).root refl).0;
    root_place = ((f.inner t.head.root.0 f.root_in).root refl).1;
    fit = fit;
    two = two_of;
    upper = λ k lk h.
        (let d = depth_is k (f.inner k lk).deep in
        let e : eqb (depth_of K t k) t.head.levels ≡ false = ne_eqb (depth_of K t k) t.head.levels (λ q. omega arith) in
        kids (inner_in (stride K) t) t.head.inners k lk (λ j lj. (neat.inner_tidy j lj).wide) (λ i li. subst (λ (b : Bool). ChildBy K t (area_by K t b) (count_by K t b) k i (get_or (inner_in (stride K) t k).slots i [])) e ((f.inner k lk).kids i li)));
    lowest = λ k lk h.
        (let d = depth_is k (f.inner k lk).deep in
        let e : eqb (depth_of K t k) t.head.levels ≡ true = eq-eqb (depth_of K t k) t.head.levels (sym d ∙ h) in
        kids (leaf_in (stride K) t) t.head.leaves k lk (λ j lj. (neat.leaf_tidy j lj).wide) (λ i li. subst (λ (b : Bool). ChildBy K t (area_by K t b) (count_by K t b) k i (get_or (inner_in (stride K) t k).slots i [])) e ((f.inner k lk).kids i li)));
    deep = λ k lk. (let d = depth_is k (f.inner k lk).deep in let y = (f.inner k lk).deep in omega arith);
    parent = λ k lk ne. ((f.inner k lk).held ne).parent;
    held = λ k lk ne. stands k (inner_in (stride K) t k) ((f.inner k lk).held ne);
    leaf_parent = λ k lk. (f.leaf k lk).held.parent;
    leaf_deep = λ k lk. depth_is (leaf_in (stride K) t k).parent (let y = (f.leaf k lk).deep in omega arith) ∙ (f.leaf k lk).deep;
    leaf_held = λ k lk. stands k (leaf_in (stride K) t k) (f.leaf k lk).held;
    leaf_most = λ k lt. (let y = leaf_size k lt in let x = (f.leaf k lt).filled.high in omega arith);
    leaf_least = λ k lt h. rw (ne_eqb t.head.leaves 1 (λ q. omega arith)) at (leaf_low k lt);
    leaf_one = leaf_one;
    homed = λ k lt. all_slots (λ x. get_or t.homes x.child 0 ≡ k) (used (leaf_in (stride K) t k)) (λ j lj. subst (λ (c : ℕ). get_or t.homes c 0 ≡ k) (entry_slot k lt j lj) (entry_at k lt j lj).home);
    below = λ k lt. all_slots (λ x. x.child < t.head.entries) (used (leaf_in (stride K) t k)) (λ j lj. subst (λ (c : ℕ). c < t.head.entries) (entry_slot k lt j lj) (entry_at k lt j lj).below);
    firsts = λ k lt j lj.
        (let lu : j < length (used (leaf_in (stride K) t k)) = (let y : length (slots_of (leaf_in (stride K) t k)) ≡ length (used (leaf_in (stride K) t k)) = length-map (used (leaf_in (stride K) t k)) slot_of in omega arith) in
        let c : ℕ = child (get_or (used (leaf_in (stride K) t k)) j []) in
        ap (λ (y : Slot). index_of y.child (slots_of (leaf_in (stride K) t k))) (get_d_slot (used (leaf_in (stride K) t k)) j lu)
        ∙ index_first c j (used (leaf_in (stride K) t k)) lu refl (λ i li e. (entry_at k lt j lu).alone i li (entry_slot k lt i (omega arith) ∙ e ∙ sym (entry_slot k lt j lu))));
    count = sum_by_cong (λ k. length (slots_of (leaf_in (stride K) t k))) (λ k. (leaf_in (stride K) t k).len) (range 0 t.head.leaves)
        (all_map (λ k. k < t.head.leaves) (λ k. length (slots_of (leaf_in (stride K) t k)) ≡ (leaf_in (stride K) t k).len) leaf_size (range 0 t.head.leaves) (range_below 0 t.head.leaves t.head.leaves (omega arith))) ∙ f.count;
    totals = λ v. total_small v (dec_lt v K.views);
  }
    where
      total_small : (v : ℕ) → Dec (v < K.views) → sum_by (len v) (slots_of (inner_in (stride K) t t.head.root.0)) < 4294967296
      total_small v (yes lv) = (let y = f.totals v lv in let x = sum_slots v (used (inner_in (stride K) t t.head.root.0)) in omega arith)
      total_small v (no ge) = (let x = sum_slots v (used (inner_in (stride K) t t.head.root.0)) in let y = total_past (stride K) (used (inner_in (stride K) t t.head.root.0)) v (neat.inner_tidy t.head.root.0 f.root_in).wide (omega arith) in omega arith)

  body : Body T
  body = checks_body T checks

  -- the finger
  leaf_sum : (k v : ℕ) → k < t.head.leaves → (n : ℕ) → rank_up (shape_in (stride K) t) v t.head.levels (leaf_in (stride K) t k).parent (leaf_in (stride K) t k).at 0 t.inners ≡ Ok n → n ≡ climb v T.body.leaf T.body.inner t.head.levels k
  leaf_sum k v lk n e = sum_inj (sym e ∙ climb_of (stride K) t neat body k lk v) ∙ zero-add (climb v T.body.leaf T.body.inner t.head.levels k)
    where
      sum_inj : {a b : ℕ} → ◌≡◌ {A = Result ℕ Broken} (Ok a) (Ok b) → a ≡ b
      sum_inj q = cc

  right : (h : Option Finger) → HandBy K t h → tree.Right K.effect T h
  right None r = tt
  right (Some g) r =
      let k : ℕ = g.leaf in
      let td : Tidy (stride K) t.head.fan (leaf_in (stride K) t k) = neat.leaf_tidy k r.leaf in
      let sl : g.slot < length (slots_of (leaf_in (stride K) t k)) = (let y = leaf_size k r.leaf in let x = r.slot in omega arith) in
      record {
        leaf_in_law = r.leaf;
        slot_in_law = sl;
        start = leaf_sum k g.view r.leaf g.start r.start;
        effect = leaf_sum k K.effect r.leaf g.effect r.effect;
        within = r.within ∙ start_at (stride K) t.head.fan g.view g.slot (leaf_in (stride K) t k) td (omega arith);
        within_effect = r.within_effect ∙ start_at (stride K) t.head.fan K.effect g.slot (leaf_in (stride K) t k) td (omega arith);
        prepare_start = leaf_sum k 0 r.leaf g.prepare r.prepare_start;
        within_prepare = r.within_prepare ∙ start_at (stride K) t.head.fan 0 g.slot (leaf_in (stride K) t k) td (omega arith);
      }

  pub facts_sound : Coherent K t
  facts_sound = sound_up (stride K) t K.effect neat (record { body = body; finger = right t.head.finger f.finger })
