-- Audit's theorem: on any state, audit says yes exactly when the state is sound.
use Rattle.model.specs.Numbered.{Numbered}
use Rattle.model.specs.declared.head.Finger.{Finger}
use Rattle.std.specs.Prelude.{◌≡◌, refl, Bool, true, false, cond, List, [], ℕ, zero, suc, ◌+◌, ◌≤◌, ◌<◌, eqb, length, get_or, Ok, Err, Some, None, Option}
use Rattle.std.proofs.Common.{sym, ap, ◌∙◌, subst, zero-add, arith, eq-eqb, ne_eqb}
use Rattle.std.proofs.Math.Decide.{ℕ_discrete}
use Rattle.std.proofs.lemmas.List.{length-map}
use Rattle.model.specs.Kind.{stride}
use Rattle.model.specs.declared.shape.Kind.{Kind}
use Rattle.model.specs.Lists.{range, refusal}
use Rattle.model.specs.Node.{Node, child, used}
use Rattle.model.specs.State.{State}
use Rattle.model.specs.Climb.{rank_up}
use Rattle.model.specs.Sound.{shape_in, leaf_in, inner_in, Coherent, Sound, FingerRight}
use Rattle.model.specs.Calls.{area_causes}
use Rattle.model.specs.Audit.{depth_of, is_sound, audit}
use Rattle.model_laws.specs.Areas.{formed_at}
use Rattle.model_theory.specs.WordFits.{fits}
use Rattle.model_tree.specs.Lists.{all_map}
use Rattle.model_tree.specs.Levels.{no_slot, Slot, total, climb}
use Rattle.model_tree.specs.Reach.{Kids}
use Rattle.model_tree.specs.Tree.{Tree, Body}
use Rattle.model_tree.specs.Follows.{levels_most}
use Rattle.model_tree.specs.Finger.{sum_by_cong}
use Rattle.model_tree.specs.Cursor.{index_of}
use Rattle.model_tree.specs.Apart.{dep, dep_step}
use Rattle.model_tree.specs.Check as check
use Rattle.model_tree.specs.Check.{TreeChecks}
use Rattle.model_tree.specs.CheckBack.{body_checks}
use Rattle.model_theory.specs.WordTidy.{Tidy, len_used, slot_used}
use Rattle.model_theory.specs.LiftTree.{slot_of, slots_of, tree_of, sum_slots}
use Rattle.model_theory.specs.LiftMarks.{area_from, Marked, of_marks, get_d_slot}
use Rattle.model_theory.specs.WordNeat.{Neat, size_is, neat_of}
use Rattle.model_theory.specs.LiftSound.{body_of, finger_of_law, kid_at}
use Rattle.model_theory.specs.LiftSoundBack.{slots_all}
use Rattle.model_theory.specs.CallOpen.{passed, stopped, good_areas}
use Rattle.model_theory.specs.CallMake.{Sizes, sizes_of}
use Rattle.model_theory.specs.AuditFacts.{HeldBy, ChildBy, area_by, count_by, InnerBy, LeafBy, HandBy, SoundBy, sound_by_law, sound_test}
use Rattle.model_theory.specs.AuditDepth.{dep_depth, index_before, range_below}
use Rattle.model_theory.specs.AuditSound.{start_at, climb_of, facts_sound}

module _ (K : Kind) (t : State) (s : Sound K t) where
  w : Coherent K t
  w = s.coherent

  abbrev T : Tree
  T = tree_of (stride K) t

  nt : Neat (stride K) t
  nt = neat_of (stride K) t K.effect w

  b : Body T
  b = body_of (stride K) t K.effect w

  ck : TreeChecks T
  ck = body_checks T b

  leaf_size : (k : ℕ) → k < t.head.leaves → length (slots_of (leaf_in (stride K) t k)) ≡ (leaf_in (stride K) t k).len
  leaf_size k lt = size_is (stride K) t.head.fan (leaf_in (stride K) t k) (nt.leaf_tidy k lt)

  -- how deep a node stands
  depth_is : (k : ℕ) → k < t.head.inners → depth_of K t k ≡ check.depth T k
  depth_is k lk = dep_depth K t t.head.root.0 b.few ck.root_parent ck.parent t.head.levels 17 k (let z = ck.shallow in omega arith) lk (ck.deep k lk)

  -- a slot in the middle of a node in use
  slot_back : (p i : ℕ) → p < t.head.inners → i < length (slots_of (inner_in (stride K) t p)) → child (get_or (inner_in (stride K) t p).slots i []) ≡ (get_or (slots_of (inner_in (stride K) t p)) i no_slot).child
  slot_back p i lp li =
      let lu : i < length (used (inner_in (stride K) t p)) = (let z : length (slots_of (inner_in (stride K) t p)) ≡ length (used (inner_in (stride K) t p)) = length-map (used (inner_in (stride K) t p)) slot_of in omega arith) in
      ap child (slot_used (stride K) t.head.fan (inner_in (stride K) t p) (nt.inner_tidy p lp) i [] lu) ∙ ap (λ (y : Slot). y.child) (sym (get_d_slot (used (inner_in (stride K) t p)) i lu))

  held_of : (k : ℕ) (n : Node) → n.parent < t.head.inners → (n.at < length (T.body.inner.slots n.parent)) × ((get_or (T.body.inner.slots n.parent) n.at no_slot).child ≡ k) → HeldBy K t k n
  held_of k n lp h =
      let sz = size_is (stride K) t.head.fan (inner_in (stride K) t n.parent) (nt.inner_tidy n.parent lp) in
      record { parent = lp; at = (let z = h.0 in omega arith); most = (w.inner_filled n.parent lp).high; child = slot_back n.parent n.at lp h.0 ∙ h.1 }

  -- children by the equation between levels
  kids_of_law : (N : ℕ → Node) (n k : ℕ) → k < t.head.inners → Kids (total (area_from N)) (area_from N) n T.body.inner k → (i : ℕ) → i < (inner_in (stride K) t k).len → ChildBy K t N n k i (get_or (inner_in (stride K) t k).slots i [])
  kids_of_law N n k lk h i li =
      let td : Tidy (stride K) t.head.fan (inner_in (stride K) t k) = nt.inner_tidy k lk in
      let lu : i < length (used (inner_in (stride K) t k)) = rw (len_used (stride K) t.head.fan (inner_in (stride K) t k) td) at li in
      let m : Marked N k (0 + i) (get_or (used (inner_in (stride K) t k)) i []) = of_marks N k 0 (used (inner_in (stride K) t k)) h.0 i lu in
      subst (ChildBy K t N n k i) (sym (slot_used (stride K) t.head.fan (inner_in (stride K) t k) td i [] lu))
      (record { below = kid_at (λ c. c < n) (used (inner_in (stride K) t k)) h.1 i lu; parent = m.parent; at = m.at ∙ zero-add i; sums = λ v lv. m.sums v })

  inner_by_law : (k : ℕ) → k < t.head.inners → InnerBy K t k
  inner_by_law k lk =
      let d = depth_is k lk in
      record {
        some = (let s : check.depth T k ≡ suc (dep T.body.inner 16 (inner_in (stride K) t k).parent) = dep_step T.body.inner 16 k (λ e. let z = b.few in omega arith) in omega arith);
        deep = (let z = ck.deep k lk in omega arith);
        filled = record { low = (w.inner_filled k lk).low; high = (w.inner_filled k lk).high; unused = (w.inner_filled k lk).unused };
        root = λ e. (ap (λ (j : ℕ). (inner_in (stride K) t j).parent) e ∙ ck.root_parent, ap (λ (j : ℕ). (inner_in (stride K) t j).at) e ∙ ck.root_place);
        held = λ ne. held_of k (inner_in (stride K) t k) (ck.parent k lk ne) (ck.held k lk ne);
        kids = λ i li. pick i li (ℕ_discrete (depth_of K t k) t.head.levels);
      }
    where
      pick : (i : ℕ) → i < (inner_in (stride K) t k).len → Dec (depth_of K t k ≡ t.head.levels) → ChildBy K t (area_by K t (eqb (depth_of K t k) t.head.levels)) (count_by K t (eqb (depth_of K t k) t.head.levels)) k i (get_or (inner_in (stride K) t k).slots i [])
      pick i li (yes e) = subst (λ (q : Bool). ChildBy K t (area_by K t q) (count_by K t q) k i (get_or (inner_in (stride K) t k).slots i [])) (sym (eq-eqb (depth_of K t k) t.head.levels e))
          (kids_of_law (leaf_in (stride K) t) t.head.leaves k lk (ck.lowest k lk (sym (depth_is k lk) ∙ e)) i li)
      pick i li (no ne) = subst (λ (q : Bool). ChildBy K t (area_by K t q) (count_by K t q) k i (get_or (inner_in (stride K) t k).slots i [])) (sym (ne_eqb (depth_of K t k) t.head.levels ne))
          (kids_of_law (inner_in (stride K) t) t.head.inners k lk (ck.upper k lk (let z = ck.deep k lk in let y = depth_is k lk in omega arith)) i li)

  leaf_by_law : (k : ℕ) → k < t.head.leaves → LeafBy K t k
  leaf_by_law k lk =
      let n : Node = leaf_in (stride K) t k in
      let td : Tidy (stride K) t.head.fan n = nt.leaf_tidy k lk in
      record {
        filled = record { low = (w.leaf_filled k lk).low; high = (w.leaf_filled k lk).high; unused = (w.leaf_filled k lk).unused };
        held = held_of k n (ck.leaf_parent k lk) (ck.leaf_held k lk);
        deep = depth_is n.parent (ck.leaf_parent k lk) ∙ ck.leaf_deep k lk;
        entries = λ i li.
            (let lu : i < length (used n) = rw (len_used (stride K) t.head.fan n td) at li in
            let e : get_or n.slots i [] ≡ get_or (used n) i [] = slot_used (stride K) t.head.fan n td i [] lu in
            let ls : i < length (slots_of n) = (let z = length-map (used n) slot_of in omega arith) in
            let ix : index_of (child (get_or (used n) i [])) (slots_of n) ≡ i = ap (λ (y : Slot). index_of y.child (slots_of n)) (sym (get_d_slot (used n) i lu)) ∙ ck.firsts k lk i ls in
            record {
              below = subst (λ (x : List ℕ). child x < t.head.entries) (sym e) (slots_all (λ x. x.child < t.head.entries) (used n) (b.below k lk) i lu);
              few = s.lines k i lk li;
              level = s.bounds k i lk li;
              home = subst (λ (x : List ℕ). get_or t.homes (child x) 0 ≡ k) (sym e) (slots_all (λ x. get_or t.homes x.child 0 ≡ k) (used n) (b.homed k lk) i lu);
              alone = λ j lj q. index_before (child (get_or (used n) i [])) j (used n) (omega (arith, ix)) (ap child (sym (slot_used (stride K) t.head.fan n td j [] (omega arith))) ∙ q ∙ ap child e);
            });
      }

  hand_by : (h : Option Finger) → FingerRight (stride K) t K.effect h → HandBy K t h
  hand_by None r = tt
  hand_by (Some f) r =
      let k : ℕ = f.leaf in
      let q = finger_of_law (stride K) t K.effect w (Some f) r in
      let td : Tidy (stride K) t.head.fan (leaf_in (stride K) t k) = nt.leaf_tidy k r.leaf in
      let sl : f.slot ≤ length (slots_of (leaf_in (stride K) t k)) = (let y = q.slot_in_law in omega arith) in
      let st : (v n : ℕ) → n ≡ climb v T.body.leaf T.body.inner t.head.levels k → rank_up (shape_in (stride K) t) v t.head.levels (leaf_in (stride K) t k).parent (leaf_in (stride K) t k).at 0 t.inners ≡ Ok n =
      λ v n e. climb_of (stride K) t nt b k r.leaf v ∙ ap Ok (zero-add (climb v T.body.leaf T.body.inner t.head.levels k) ∙ sym e) in
      record {
        view = (let y = r.view in omega arith);
        leaf = r.leaf;
        slot = r.slot;
        start = st f.view f.start q.start;
        effect = st K.effect f.effect q.effect;
        within = q.within ∙ sym (start_at (stride K) t.head.fan f.view f.slot (leaf_in (stride K) t k) td sl);
        within_effect = q.within_effect ∙ sym (start_at (stride K) t.head.fan K.effect f.slot (leaf_in (stride K) t k) td sl);
        prepare_start = st 0 f.prepare q.prepare_start;
        within_prepare = q.within_prepare ∙ sym (start_at (stride K) t.head.fan 0 f.slot (leaf_in (stride K) t k) td sl);
      }

  sound_facts : SoundBy K t
  sound_facts = record {
    entry_count = w.entry_count;
    leaf_count = w.leaf_count;
    inner_count = w.inner_count;
    some = w.levels_least;
    shallow = levels_most T b;
    root_in = b.fit.root_in;
    inner = inner_by_law;
    leaf = leaf_by_law;
    count = sym (sum_by_cong (λ k. length (slots_of (leaf_in (stride K) t k))) (λ k. (leaf_in (stride K) t k).len) (range 0 t.head.leaves)
        (all_map (λ k. k < t.head.leaves) (λ k. length (slots_of (leaf_in (stride K) t k)) ≡ (leaf_in (stride K) t k).len) leaf_size (range 0 t.head.leaves) (range_below 0 t.head.leaves t.head.leaves (omega arith)))) ∙ ck.count;
    totals = λ v lv. (let y = ck.totals v in let x = sum_slots v (used (inner_in (stride K) t t.head.root.0)) in omega arith);
    finger = hand_by t.head.finger w.finger;
  }

-- yes on every sound state
audit_sound : (K : Kind) (t : State) → Sound K t → audit K t ≡ Ok true
unfolding audit refusal
audit_sound K t w =
    let h = t.head in
    passed (area_causes K h.fan h.limit t.leaves t.inners t.homes) Err (cond (is_sound K t) (Ok true) (Ok false))
    (good_areas K t w.coherent []) ∙ rw (sound_test K t (sound_facts K t w))

-- and on no other
audit_yes : (K : Kind) (t : State) → audit K t ≡ Ok true → Sound K t
unfolding audit
audit_yes K t e = go (refusal (area_causes K t.head.fan t.head.limit t.leaves t.inners t.homes)) refl
  where
    true_of : (b : Bool) → ◌≡◌ {A = Numbered Bool} (cond b (Ok true) (Ok false)) (Ok true) → b ≡ true
    true_of true q = refl
    true_of false q = absurd (let z : ◌≡◌ {A = ℕ} 0 1 = cc in omega arith)

    go : (n : ℕ) → refusal (area_causes K t.head.fan t.head.limit t.leaves t.inners t.homes) ≡ n → Sound K t
    go zero q =
        let z : Sizes K t.head.fan t.head.limit t.leaves t.inners t.homes = sizes_of K t.head.fan t.head.limit t.leaves t.inners t.homes q in
        let s : is_sound K t ≡ true = true_of (is_sound K t) (sym (passed (area_causes K t.head.fan t.head.limit t.leaves t.inners t.homes) Err (cond (is_sound K t) (Ok true) (Ok false)) q) ∙ e) in
        let f : SoundBy K t = sound_by_law K t (λ k lt. formed_at (shape_in (stride K) t) k t.inners refl (fits (shape_in (stride K) t) k t.inners lt z.inner_area)) (λ k lt. formed_at (shape_in (stride K) t) k t.leaves refl (fits (shape_in (stride K) t) k t.leaves lt z.leaf_area)) s in
        record { coherent = facts_sound K t z f; lines = λ k i lk li. ((f.leaf k lk).entries i li).few; bounds = λ k i lk li. ((f.leaf k lk).entries i li).level }
    go (suc n) q = absurd (let r : ◌≡◌ {A = Numbered Bool} (Err (suc n)) (Ok true) = sym (stopped (area_causes K t.head.fan t.head.limit t.leaves t.inners t.homes) Err (cond (is_sound K t) (Ok true) (Ok false)) n q) ∙ e in
        let z : ◌≡◌ {A = ℕ} 0 1 = cc in omega arith)

pub audit_exactly : (K : Kind) (t : State) → (audit K t ≡ Ok true → Sound K t) × (Sound K t → audit K t ≡ Ok true)
audit_exactly K t = (audit_yes K t, audit_sound K t)
