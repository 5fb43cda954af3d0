-- What each test of audit says, and that the tests say exactly that, on any state whose areas are long enough.
use Rattle.model.specs.declared.way.Broken.{Broken}
use Rattle.std.specs.Prelude.{◌≡◌, ◌≢◌, false, ◌&&◌, Ok, Err, Some, None, Option, Result}
use Rattle.std.proofs.Math.Path.{refl}
use Rattle.std.proofs.Common.{sym, ap, arith}
use Rattle.std.proofs.Math.Bool.{Bool, true, cond, not}
use mathlib.Core.List.{List, []}
use Prim.Native.Nat.{ℕ, ◌≤◌, ◌<◌}
use Rattle.std.proofs.Math.Decide.{ℕ_discrete}
use Rattle.std.proofs.Math.Dec.{ltb, leb, eqb}
use Rattle.std.proofs.Math.ListN.{get_or}
use borrow.Author.Tests.{eqb-true, eq-eqb, ne_eqb, le-leb, leb-true, lt-ltb, ltb-true}
use Rattle.model.specs.Kind.{stride, too_many_lines, crossed}
use Rattle.model.specs.declared.shape.Kind.{Kind}
use Rattle.model.specs.Lists.{sum_by, range}
use Rattle.model.specs.Node.{Node, none, child, lengths, length_in, total, used}
use Rattle.model.specs.Node as node
use Rattle.model.specs.State.{State}
use Rattle.model.specs.Sound.{shape_in, leaf_in, inner_in, least_leaf, least_inner}
use Rattle.model.specs.Refuse.{total_of}
use Rattle.model.specs.Audit.{every, is_other, is_sum, depth_of, is_filled, is_held, is_child, is_inner, is_entry, is_leaf, leaf_start, is_finger, is_held_finger, is_sound}
use Rattle.model.specs.declared.head.Finger.{Finger}
use Rattle.model_laws.specs.Nodes.{Formed}
use Rattle.model_theory.specs.AuditTests.{both, join, every_at, every_of, FilledBy, filled_by, filled_test}

-- each of n views
views_at : (n : ℕ) (q : ℕ → Bool) → every q 0 n ≡ true → (v : ℕ) → v < n → q v ≡ true
views_at n q e v lv = every_at q 0 n e v (omega arith) (omega arith)

views_of_law : (n : ℕ) (q : ℕ → Bool) → ((v : ℕ) → v < n → q v ≡ true) → every q 0 n ≡ true
views_of_law n q h = every_of q 0 n (λ v lo hi. h v (omega arith))

-- a child that no earlier slot holds
new_at : (n : Node) (i c : ℕ) → every (is_other n c) 0 i ≡ true → (j : ℕ) → j < i → child (get_or n.slots j []) ≢ c
new_at n i c e j lt q =
    let z : is_other n c j ≡ true = every_at (is_other n c) 0 i e j (omega arith) (omega arith) in
    let y : ◌≡◌ {A = Bool} false true = rw (eq-eqb (child (get_or n.slots j [])) c q) at z in
    absurd (let x : ◌≡◌ {A = ℕ} 0 1 = cc in omega arith)

new_of : (n : Node) (i c : ℕ) → ((j : ℕ) → j < i → child (get_or n.slots j []) ≢ c) → every (is_other n c) 0 i ≡ true
new_of n i c h = every_of (is_other n c) 0 i (λ j lo hi. rw (ne_eqb (child (get_or n.slots j [])) c (h j (omega arith))))

not_so : (b : Bool) → not b ≡ true → b ≡ false
not_so true e = absurd (let z : ◌≡◌ {A = ℕ} 0 1 = cc in omega arith)
not_so false e = refl

is_sum_law : (n : ℕ) (s : Result ℕ Broken) → is_sum n s ≡ true → s ≡ Ok n
is_sum_law n (Ok m) e = ap Ok (sym (eqb-true n m e))
is_sum_law n (Err _) e = absurd (let z : ◌≡◌ {A = ℕ} 0 1 = cc in omega arith)

module _ (K : Kind) (t : State) where
  pub record HeldBy (k : ℕ) (n : Node) : Type 0 where
    pub parent : n.parent < t.head.inners
    pub at : n.at < (inner_in (stride K) t n.parent).len
    pub most : (inner_in (stride K) t n.parent).len ≤ t.head.fan
    pub child : child (get_or (inner_in (stride K) t n.parent).slots n.at []) ≡ k

  pub record ChildBy (area : ℕ → Node) (count k i : ℕ) (x : List ℕ) : Type 0 where
    pub below : child x < count
    pub parent : (area (child x)).parent ≡ k
    pub at : (area (child x)).at ≡ i
    pub sums : (v : ℕ) → v < K.views → length_in v x ≡ total v (used (area (child x)))

  abbrev pub area_by : Bool → ℕ → Node
  area_by lowest = cond lowest (leaf_in (stride K) t) (inner_in (stride K) t)

  abbrev pub count_by : Bool → ℕ
  count_by lowest = cond lowest t.head.leaves t.head.inners

  pub record InnerBy (k : ℕ) : Type 0 where
    pub some : 1 ≤ depth_of K t k
    pub deep : depth_of K t k ≤ t.head.levels
    pub filled : FilledBy K t (least_inner (stride K) t k) (inner_in (stride K) t k)
    pub root : k ≡ t.head.root.0 → ((inner_in (stride K) t k).parent ≡ none) × ((inner_in (stride K) t k).at ≡ 0)
    pub held : k ≢ t.head.root.0 → HeldBy k (inner_in (stride K) t k)
    pub kids : (i : ℕ) → i < (inner_in (stride K) t k).len → ChildBy (area_by (eqb (depth_of K t k) t.head.levels)) (count_by (eqb (depth_of K t k) t.head.levels)) k i (get_or (inner_in (stride K) t k).slots i [])

  pub record EntryBy (k : ℕ) (n : Node) (i : ℕ) : Type 0 where
    pub below : child (get_or n.slots i []) < t.head.entries
    pub home : get_or t.homes (child (get_or n.slots i [])) 0 ≡ k
    pub few : too_many_lines K (lengths (get_or n.slots i [])) ≡ false
    pub level : crossed K (lengths (get_or n.slots i [])) ≡ false
    pub alone : (j : ℕ) → j < i → child (get_or n.slots j []) ≢ child (get_or n.slots i [])

  pub record LeafBy (k : ℕ) : Type 0 where
    pub filled : FilledBy K t (least_leaf (stride K) t) (leaf_in (stride K) t k)
    pub held : HeldBy k (leaf_in (stride K) t k)
    pub deep : depth_of K t (leaf_in (stride K) t k).parent ≡ t.head.levels
    pub entries : (i : ℕ) → i < (leaf_in (stride K) t k).len → EntryBy k (leaf_in (stride K) t k) i

  pub record FingerBy (f : Finger) : Type 0 where
    pub view : f.view < K.views
    pub leaf : f.leaf < t.head.leaves
    pub slot : f.slot < (leaf_in (stride K) t f.leaf).len
    pub start : leaf_start K t f.view (leaf_in (stride K) t f.leaf) ≡ Ok f.start
    pub effect : leaf_start K t K.effect (leaf_in (stride K) t f.leaf) ≡ Ok f.effect
    pub within : f.within ≡ node.start f.view f.slot (leaf_in (stride K) t f.leaf)
    pub within_effect : f.effect_within ≡ node.start K.effect f.slot (leaf_in (stride K) t f.leaf)
    pub prepare_start : leaf_start K t 0 (leaf_in (stride K) t f.leaf) ≡ Ok f.prepare
    pub within_prepare : f.prepare_within ≡ node.start 0 f.slot (leaf_in (stride K) t f.leaf)

  abbrev pub HandBy : Option Finger → Type 0
  HandBy None = Unit {0}
  HandBy (Some f) = FingerBy f

  pub record SoundBy : Type 0 where
    pub entry_count : t.head.entries ≤ t.head.limit
    pub leaf_count : t.head.leaves ≤ (shape_in (stride K) t).nodes
    pub inner_count : t.head.inners ≤ (shape_in (stride K) t).nodes
    pub some : 1 ≤ t.head.levels
    pub shallow : t.head.levels ≤ 15
    pub root_in : t.head.root.0 < t.head.inners
    pub inner : (k : ℕ) → k < t.head.inners → InnerBy k
    pub leaf : (k : ℕ) → k < t.head.leaves → LeafBy k
    pub count : sum_by (λ k. (leaf_in (stride K) t k).len) (range 0 t.head.leaves) ≡ t.head.entries
    pub totals : (v : ℕ) → v < K.views → total_of K t v ≤ 4294967295
    pub finger : HandBy t.head.finger

  held_by_law : (k : ℕ) (n : Node) → is_held K t k n ≡ true → HeldBy k n
  unfolding is_held
  held_by_law k n e =
      let p : Node = inner_in (stride K) t n.parent in
      let a : Bool = ltb n.parent t.head.inners in
      let b : Bool = ltb n.at p.len in
      let c : Bool = leb p.len t.head.fan in
      let r = both (a && b && c) (eqb (child (get_or p.slots n.at [])) k) e in
      let s = both (a && b) c r.0 in
      let u = both a b s.0 in
      record { parent = ltb-true n.parent t.head.inners u.0; at = ltb-true n.at p.len u.1; most = leb-true p.len t.head.fan s.1; child = eqb-true (child (get_or p.slots n.at [])) k r.1 }

  held_test : (k : ℕ) (n : Node) → HeldBy k n → is_held K t k n ≡ true
  unfolding is_held
  held_test k n h = rw (lt-ltb n.parent t.head.inners h.parent, lt-ltb n.at (inner_in (stride K) t n.parent).len h.at, le-leb (inner_in (stride K) t n.parent).len t.head.fan h.most, eq-eqb (child (get_or (inner_in (stride K) t n.parent).slots n.at [])) k h.child)

  child_by_law : (area : ℕ → Node) (count k i : ℕ) (x : List ℕ) → is_child K t area count k i x ≡ true → ChildBy area count k i x
  unfolding is_child
  child_by_law area count k i x e =
      let n : Node = area (child x) in
      let q : ℕ → Bool = λ v. eqb (length_in v x) (total v (used n)) in
      let r = both (ltb (child x) count && eqb n.parent k && eqb n.at i) (every q 0 K.views) e in
      let s = both (ltb (child x) count && eqb n.parent k) (eqb n.at i) r.0 in
      let u = both (ltb (child x) count) (eqb n.parent k) s.0 in
      record { below = ltb-true (child x) count u.0; parent = eqb-true n.parent k u.1; at = eqb-true n.at i s.1; sums = λ v lv. eqb-true (length_in v x) (total v (used n)) (views_at K.views q r.1 v lv) }

  child_test : (area : ℕ → Node) (count k i : ℕ) (x : List ℕ) → ChildBy area count k i x → is_child K t area count k i x ≡ true
  unfolding is_child
  child_test area count k i x h =
      let n : Node = area (child x) in
      let q : ℕ → Bool = λ v. eqb (length_in v x) (total v (used n)) in
      rw (lt-ltb (child x) count h.below, eq-eqb n.parent k h.parent, eq-eqb n.at i h.at) (views_of_law K.views q (λ v lv. eq-eqb (length_in v x) (total v (used n)) (h.sums v lv)))

  inner_by_law : (k : ℕ) → Formed (stride K) t.head.fan (inner_in (stride K) t k) → is_inner K t k ≡ true → InnerBy k
  unfolding is_inner
  inner_by_law k f e =
      let n : Node = inner_in (stride K) t k in
      let d : ℕ = depth_of K t k in
      let low : Bool = eqb d t.head.levels in
      let root : Bool = cond (eqb k t.head.root.0) (eqb n.parent none && eqb n.at 0) (is_held K t k n) in
      let q : ℕ → Bool = λ i. is_child K t (area_by low) (count_by low) k i (get_or n.slots i []) in
      let a : Bool = leb 1 d in
      let b : Bool = leb d t.head.levels in
      let c : Bool = is_filled K t (least_inner (stride K) t k) n in
      let r = both (a && b && c && root) (every q 0 n.len) e in
      let s = both (a && b && c) root r.0 in
      let u = both (a && b) c s.0 in
      let w = both a b u.0 in
      record {
        some = leb-true 1 d w.0;
        deep = leb-true d t.head.levels w.1;
        filled = filled_by K t (least_inner (stride K) t k) n f u.1;
        root = λ p. (let z = both (eqb n.parent none) (eqb n.at 0) (rw (eq-eqb k t.head.root.0 p) at s.1) in (eqb-true n.parent none z.0, eqb-true n.at 0 z.1));
        held = λ ne. held_by_law k n (rw (ne_eqb k t.head.root.0 ne) at s.1);
        kids = λ i li. child_by_law (area_by low) (count_by low) k i (get_or n.slots i []) (every_at q 0 n.len r.1 i (omega arith) (omega arith));
      }

  inner_test : (k : ℕ) → InnerBy k → is_inner K t k ≡ true
  unfolding is_inner
  inner_test k h =
      let n : Node = inner_in (stride K) t k in
      let d : ℕ = depth_of K t k in
      let low : Bool = eqb d t.head.levels in
      let q : ℕ → Bool = λ i. is_child K t (area_by low) (count_by low) k i (get_or n.slots i []) in
      rw (le-leb 1 d h.some, le-leb d t.head.levels h.deep, filled_test K t (least_inner (stride K) t k) n h.filled)
      (join (cond (eqb k t.head.root.0) (eqb n.parent none && eqb n.at 0) (is_held K t k n)) (every q 0 n.len) (rooted (ℕ_discrete k t.head.root.0))
      (every_of q 0 n.len (λ i lo hi. child_test (area_by low) (count_by low) k i (get_or n.slots i []) (h.kids i (omega arith)))))
    where
      rooted : Dec (k ≡ t.head.root.0) → cond (eqb k t.head.root.0) (eqb (inner_in (stride K) t k).parent none && eqb (inner_in (stride K) t k).at 0) (is_held K t k (inner_in (stride K) t k)) ≡ true
      rooted (yes p) = rw (eq-eqb k t.head.root.0 p, eq-eqb (inner_in (stride K) t k).parent none (h.root p).0, eq-eqb (inner_in (stride K) t k).at 0 (h.root p).1)
      rooted (no ne) = rw (ne_eqb k t.head.root.0 ne) (held_test k (inner_in (stride K) t k) (h.held ne))

  entry_by_law : (k : ℕ) (n : Node) (i : ℕ) → is_entry K t k n i ≡ true → EntryBy k n i
  unfolding is_entry
  entry_by_law k n i e =
      let x : List ℕ = get_or n.slots i [] in
      let id : ℕ = child x in
      let a : Bool = ltb id t.head.entries in
      let b : Bool = eqb (get_or t.homes id 0) k in
      let c : Bool = not (too_many_lines K (lengths x)) in
      let d : Bool = not (crossed K (lengths x)) in
      let r = both (a && b && c && d) (every (is_other n id) 0 i) e in
      let q = both (a && b && c) d r.0 in
      let s = both (a && b) c q.0 in
      let u = both a b s.0 in
      record { below = ltb-true id t.head.entries u.0; home = eqb-true (get_or t.homes id 0) k u.1; few = not_so (too_many_lines K (lengths x)) s.1; level = not_so (crossed K (lengths x)) q.1; alone = new_at n i id r.1 }

  entry_test : (k : ℕ) (n : Node) (i : ℕ) → EntryBy k n i → is_entry K t k n i ≡ true
  unfolding is_entry
  entry_test k n i h =
      let id : ℕ = child (get_or n.slots i []) in
      rw (lt-ltb id t.head.entries h.below, eq-eqb (get_or t.homes id 0) k h.home, h.few, h.level) (new_of n i id h.alone)

  leaf_by_law : (k : ℕ) → Formed (stride K) t.head.fan (leaf_in (stride K) t k) → is_leaf K t k ≡ true → LeafBy k
  unfolding is_leaf
  leaf_by_law k f e =
      let n : Node = leaf_in (stride K) t k in
      let a : Bool = is_filled K t (least_leaf (stride K) t) n in
      let b : Bool = is_held K t k n in
      let c : Bool = eqb (depth_of K t n.parent) t.head.levels in
      let r = both (a && b && c) (every (is_entry K t k n) 0 n.len) e in
      let s = both (a && b) c r.0 in
      let u = both a b s.0 in
      record {
        filled = filled_by K t (least_leaf (stride K) t) n f u.0;
        held = held_by_law k n u.1;
        deep = eqb-true (depth_of K t n.parent) t.head.levels s.1;
        entries = λ i li. entry_by_law k n i (every_at (is_entry K t k n) 0 n.len r.1 i (omega arith) (omega arith));
      }

  leaf_test : (k : ℕ) → LeafBy k → is_leaf K t k ≡ true
  unfolding is_leaf
  leaf_test k h =
      let n : Node = leaf_in (stride K) t k in
      rw (filled_test K t (least_leaf (stride K) t) n h.filled, held_test k n h.held, eq-eqb (depth_of K t n.parent) t.head.levels h.deep)
      (every_of (is_entry K t k n) 0 n.len (λ i lo hi. entry_test k n i (h.entries i (omega arith))))

  finger_by_law : (f : Finger) → is_finger K t f ≡ true → FingerBy f
  unfolding is_finger
  finger_by_law f e =
      let n : Node = leaf_in (stride K) t f.leaf in
      let a : Bool = ltb f.view K.views in
      let b : Bool = ltb f.leaf t.head.leaves in
      let c : Bool = ltb f.slot n.len in
      let d : Bool = is_sum f.start (leaf_start K t f.view n) in
      let g : Bool = is_sum f.effect (leaf_start K t K.effect n) in
      let h : Bool = eqb f.within (node.start f.view f.slot n) in
      let i : Bool = eqb f.effect_within (node.start K.effect f.slot n) in
      let j : Bool = is_sum f.prepare (leaf_start K t 0 n) in
      let k : Bool = eqb f.prepare_within (node.start 0 f.slot n) in
      let q1 = both (a && b && c && d && g && h && i && j) k e in
      let q2 = both (a && b && c && d && g && h && i) j q1.0 in
      let r1 = both (a && b && c && d && g && h) i q2.0 in
      let r2 = both (a && b && c && d && g) h r1.0 in
      let r3 = both (a && b && c && d) g r2.0 in
      let r4 = both (a && b && c) d r3.0 in
      let r5 = both (a && b) c r4.0 in
      let r6 = both a b r5.0 in
      record {
        view = ltb-true f.view K.views r6.0;
        leaf = ltb-true f.leaf t.head.leaves r6.1;
        slot = ltb-true f.slot n.len r5.1;
        start = is_sum_law f.start (leaf_start K t f.view n) r4.1;
        effect = is_sum_law f.effect (leaf_start K t K.effect n) r3.1;
        within = eqb-true f.within (node.start f.view f.slot n) r2.1;
        within_effect = eqb-true f.effect_within (node.start K.effect f.slot n) r1.1;
        prepare_start = is_sum_law f.prepare (leaf_start K t 0 n) q2.1;
        within_prepare = eqb-true f.prepare_within (node.start 0 f.slot n) q1.1;
      }

  finger_test : (f : Finger) → FingerBy f → is_finger K t f ≡ true
  unfolding is_finger
  finger_test f h =
      let n : Node = leaf_in (stride K) t f.leaf in
      rw (
        lt-ltb f.view K.views h.view,
        lt-ltb f.leaf t.head.leaves h.leaf,
        lt-ltb f.slot n.len h.slot,
        h.start,
        h.effect,
        h.prepare_start,
        eq-eqb f.start f.start refl,
        eq-eqb f.effect f.effect refl,
        eq-eqb f.prepare f.prepare refl,
        eq-eqb f.within (node.start f.view f.slot n) h.within,
        eq-eqb f.effect_within (node.start K.effect f.slot n) h.within_effect,
        eq-eqb f.prepare_within (node.start 0 f.slot n) h.within_prepare,
      )

  hand_by : (h : Option Finger) → is_held_finger K t h ≡ true → HandBy h
  hand_by None e = tt
  hand_by (Some f) e = finger_by_law f e

  hand_test : (h : Option Finger) → HandBy h → is_held_finger K t h ≡ true
  hand_test None h = refl
  hand_test (Some f) h = finger_test f h

  module _ (inners : (k : ℕ) → k < (shape_in (stride K) t).nodes → Formed (stride K) t.head.fan (inner_in (stride K) t k)) (leaves : (k : ℕ) → k < (shape_in (stride K) t).nodes → Formed (stride K) t.head.fan (leaf_in (stride K) t k)) where
    pub sound_by_law : is_sound K t ≡ true → SoundBy
    unfolding is_sound
    sound_by_law e =
        let h = t.head in
        let g = shape_in (stride K) t in
        let a1 : Bool = leb h.entries h.limit in
        let a2 : Bool = leb h.leaves g.nodes in
        let a3 : Bool = leb h.inners g.nodes in
        let a4 : Bool = leb 1 h.levels in
        let a5 : Bool = leb h.levels 15 in
        let a6 : Bool = ltb h.root.0 h.inners in
        let a7 : Bool = every (is_inner K t) 0 h.inners in
        let a8 : Bool = every (is_leaf K t) 0 h.leaves in
        let a9 : Bool = eqb (sum_by (λ k. (leaf_in (stride K) t k).len) (range 0 h.leaves)) h.entries in
        let q : ℕ → Bool = λ v. leb (total_of K t v) 4294967295 in
        let b10 = both (a1 && a2 && a3 && a4 && a5 && a6 && a7 && a8 && a9 && every q 0 K.views) (is_held_finger K t h.finger) e in
        let b9 = both (a1 && a2 && a3 && a4 && a5 && a6 && a7 && a8 && a9) (every q 0 K.views) b10.0 in
        let b8 = both (a1 && a2 && a3 && a4 && a5 && a6 && a7 && a8) a9 b9.0 in
        let b7 = both (a1 && a2 && a3 && a4 && a5 && a6 && a7) a8 b8.0 in
        let b6 = both (a1 && a2 && a3 && a4 && a5 && a6) a7 b7.0 in
        let b5 = both (a1 && a2 && a3 && a4 && a5) a6 b6.0 in
        let b4 = both (a1 && a2 && a3 && a4) a5 b5.0 in
        let b3 = both (a1 && a2 && a3) a4 b4.0 in
        let b2 = both (a1 && a2) a3 b3.0 in
        let b1 = both a1 a2 b2.0 in
        let lc : h.leaves ≤ g.nodes = leb-true h.leaves g.nodes b1.1 in
        let ic : h.inners ≤ g.nodes = leb-true h.inners g.nodes b2.1 in
        record {
          entry_count = leb-true h.entries h.limit b1.0;
          leaf_count = lc;
          inner_count = ic;
          some = leb-true 1 h.levels b3.1;
          shallow = leb-true h.levels 15 b4.1;
          root_in = ltb-true h.root.0 h.inners b5.1;
          inner = λ k lt. inner_by_law k (inners k (omega arith)) (every_at (is_inner K t) 0 h.inners b6.1 k (omega arith) (omega arith));
          leaf = λ k lt. leaf_by_law k (leaves k (omega arith)) (every_at (is_leaf K t) 0 h.leaves b7.1 k (omega arith) (omega arith));
          count = eqb-true (sum_by (λ k. (leaf_in (stride K) t k).len) (range 0 h.leaves)) h.entries b8.1;
          totals = λ v lv. leb-true (total_of K t v) 4294967295 (views_at K.views q b9.1 v lv);
          finger = hand_by h.finger b10.1;
        }

  pub sound_test : SoundBy → is_sound K t ≡ true
  unfolding is_sound
  sound_test s =
      let h = t.head in
      let g = shape_in (stride K) t in
      let q : ℕ → Bool = λ v. leb (total_of K t v) 4294967295 in
      rw (
        le-leb h.entries h.limit s.entry_count,
        le-leb h.leaves g.nodes s.leaf_count,
        le-leb h.inners g.nodes s.inner_count,
        le-leb 1 h.levels s.some,
        le-leb h.levels 15 s.shallow,
        lt-ltb h.root.0 h.inners s.root_in,
        every_of (is_inner K t) 0 h.inners (λ k lo hi. inner_test k (s.inner k (omega arith))),
        every_of (is_leaf K t) 0 h.leaves (λ k lo hi. leaf_test k (s.leaf k (omega arith))),
        eq-eqb (sum_by (λ k. (leaf_in (stride K) t k).len) (range 0 h.leaves)) h.entries s.count,
        views_of_law K.views q (λ v lv. le-leb (total_of K t v) 4294967295 (s.totals v lv)),
      )
      (hand_test h.finger s.finger)
