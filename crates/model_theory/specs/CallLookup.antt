-- The call `lookup` on a sound state answers what the row answers; the finger that it leaves is right.
use Rattle.model.specs.declared.number.EntryId.{EntryId}
use Rattle.model.specs.declared.head.Cursor.{Cursor}
use Rattle.model.specs.Numbered.{Numbered}
use Rattle.std.specs.Prelude.{◌≡◌, ◌⊎◌, ℕ, suc, ◌+◌, ◌%◌, ◌^◌, ◌≤◌, ◌<◌, Ok, Err, Some, None}
use Rattle.std.proofs.Math.Path.{refl, sym, ap, ap₂, subst}
use Rattle.std.proofs.Common.{◌∙◌, inl, inr, le-leb}
use mathlib.Core.List.{List, [], ◌∷◌, ◌++◌, map}
use Rattle.std.proofs.Math.Decide.{dec_lt}
use native.Mathlib.Omega.{arith}
use Rattle.std.proofs.lemmas.Bool.{lt-leb}
use Rattle.model.specs.Kind.{stride}
use Rattle.model.specs.declared.shape.Kind.{Kind}
use Rattle.model.specs.Lists.{sum_by, refusal}
use Rattle.model.specs.State.{State, state}
use Rattle.model.specs.Locate.{effect_at, prepare_at, served_by, from_root}
use Rattle.model.specs.Place.{with_finger}
use Rattle.model.specs.Row as row
use Rattle.model.specs.Row.{Entry, done, refused, moved, found, row_move}
use Rattle.model.specs.Sound.{leaf_in, shape_in, Coherent, entries_of}
use Rattle.model.specs.Refuse.{opening}
use Rattle.model.specs.Calls as calls
use Rattle.model.specs.ById.{id_answer, located_answer, tree_move}
use Rattle.model.specs.declared.head.Finger.{Finger}
use Rattle.model.specs.Locate.{Search}
use Rattle.model_tree.specs.Lists.{sum_by_append}
use Rattle.model_tree.specs.Levels.{Slot, len}
use Rattle.model_tree.specs.Tree as tree
use Rattle.model_tree.specs.Tree.{Tree, Body}
use Rattle.model_tree.specs.Row.{found_at}
use Rattle.model_tree.specs.Calls.{slot_at}
use Rattle.model_tree.specs.Look.{LooksAt}
use Rattle.model_theory.specs.LiftTree.{tree_of}
use Rattle.model_theory.specs.WordNeat.{Neat, size_is, neat_of}
use Rattle.model_theory.specs.LiftSound.{body_of, sound_of}
use Rattle.model_theory.specs.LiftSoundBack.{sound_up}
use Rattle.model_theory.specs.LiftEntries.{get_d_firsts, entry_from, total_entries, split_entries}
use Rattle.model_theory.specs.CallOpen.{passed, opens}
use Rattle.model_theory.specs.CallRead.{id_at}
use Rattle.model_theory.specs.CallSimulates.{Simulates, Mirrors, row_of, own, entries_are, row_passed, row_stopped}
use Rattle.model_theory.specs.WalkLookup.{Got, served_by_is, searched, root_hit, root_miss}

-- the state with another finger
abbrev pub fingered : State → Finger → State
fingered t f = state (with_finger (Some f) t.head) t.leaves t.inners t.homes

module _ (K : Kind) (ok : K.effect < K.views) (t : State) (w : Coherent K t) where
  body_fingered : (f : Finger) → Body (tree_of (stride K) (fingered t f))
  body_fingered f =
      let b : Body (tree_of (stride K) t) = body_of (stride K) t K.effect w in
      record {
        fan_low = b.fan_low;
        fan_high = b.fan_high;
        limit_low = b.limit_low;
        limit_high = b.limit_high;
        some = b.some;
        room = b.room;
        few = b.few;
        deep = b.deep;
        links = b.links;
        leaf_in_law = b.leaf_in_law;
        leaf_all = b.leaf_all;
        inner_in_law = b.inner_in_law;
        inner_all = b.inner_all;
        leaf_most = b.leaf_most;
        leaf_least = b.leaf_least;
        leaf_one = b.leaf_one;
        fit = record { most = b.fit.most; least = b.fit.least; two = b.fit.two; root_in = b.fit.root_in };
        two = b.two;
        homed = b.homed;
        below = b.below;
        once = b.once;
        count = b.count;
        totals = b.totals;
      }

  pub sound_fingered : (f : Finger) → suc f.view < stride K → tree.FingerRight K.effect (tree_of (stride K) t) f → Coherent K (fingered t f)
  sound_fingered f lv r =
      let n : Neat (stride K) t = neat_of (stride K) t K.effect w in
      sound_up (stride K) (fingered t f) K.effect
      (record {
        leaf_area = n.leaf_area;
        inner_area = n.inner_area;
        home_area = n.home_area;
        leaf_count = n.leaf_count;
        inner_count = n.inner_count;
        leaf_tidy = n.leaf_tidy;
        inner_tidy = n.inner_tidy;
        view = lv;
      })
      (record {
        body = body_fingered f;
        finger = record { leaf_in_law = r.leaf_in_law; slot_in_law = r.slot_in_law; start = r.start; effect = r.effect; within = r.within; within_effect = r.within_effect; prepare_start = r.prepare_start; within_prepare = r.within_prepare };
      })

  pub total_is : (v : ℕ) → v < K.views → row.total v (entries_of K t) ≡ sum_by (len v) (tree.row (tree_of (stride K) t))
  total_is v lv = ap (row.total v) (entries_are K t w) ∙ total_entries K.views v (tree.row (tree_of (stride K) t)) lv

  pub below_total : (v : ℕ) (lv : v < K.views) (x : ℕ) (f : Finger) (offset : ℕ) → LooksAt K.effect (tree_of (stride K) t) v x f offset → x < row.total v (entries_of K t)
  unfolding sum_by
  below_total v lv x f offset k =
      let e : Slot = slot_at (tree_of (stride K) t) f.leaf f.slot in
      let all : sum_by (len v) (tree.row (tree_of (stride K) t)) ≡ sum_by (len v) k.front + (e.lens v + sum_by (len v) k.behind) = ap (sum_by (len v)) k.row ∙ sum_by_append (len v) k.front (e ∷ k.behind) in
      omega (arith, total_is v lv, k.sums, k.inside)

  -- a lookup that found an entry
  found_step : (v : ℕ) (lv : v < K.views) (x : ℕ) (f : Finger) (offset : ℕ) → f.view ≡ v → LooksAt K.effect (tree_of (stride K) t) v x f offset
      → Simulates (Mirrors K) (let r = calls.hit t f offset in moved r.after (located_answer K r.after r.answer)) (row_move K (row_of K t) (row.lookup v x))
  unfolding row_move refusal
  found_step v lv x f offset vw k =
      let T : Tree = tree_of (stride K) t in
      let t' : State = fingered t f in
      let w' : Coherent K t' = sound_fingered f (let z = lv in omega arith) k.right in
      let lf : f.slot < (leaf_in (stride K) t f.leaf).len = (let y = size_is (stride K) t.head.fan (leaf_in (stride K) t f.leaf) ((neat_of (stride K) t K.effect w).leaf_tidy f.leaf k.right.leaf_in_law) in let z = k.right.slot_in_law in omega arith) in
      let e : Slot = slot_at T f.leaf f.slot in
      let es : entries_of K t ≡ map (entry_from K.views) k.front ++ entry_from K.views e ∷ map (entry_from K.views) k.behind = entries_are K t w ∙ ap (map (entry_from K.views)) k.row ∙ split_entries K.views k.front e k.behind in
      let all : sum_by (len K.effect) (tree.row T) ≡ sum_by (len K.effect) k.front + sum_by (len K.effect) (e ∷ k.behind) = ap (sum_by (len K.effect)) k.row ∙ sum_by_append (len K.effect) k.front (e ∷ k.behind) in
      let pos : (f.effect + f.effect_within) % 2 ^ 32 ≡ sum_by (len K.effect) k.front = omega (arith, k.effect, (body_of (stride K) t K.effect w).totals K.effect) in
      let all0 : sum_by (len 0) (tree.row T) ≡ sum_by (len 0) k.front + sum_by (len 0) (e ∷ k.behind) = ap (sum_by (len 0)) k.row ∙ sum_by_append (len 0) k.front (e ∷ k.behind) in
      let pre : (f.prepare + f.prepare_within) % 2 ^ 32 ≡ sum_by (len 0) k.front = omega (arith, k.prepare, (body_of (stride K) t K.effect w).totals 0) in
      let tp : row.total 0 (map (entry_from K.views) k.front) ≡ sum_by (len 0) k.front = total_entries K.views 0 k.front (let z = lv in omega arith) in
      let tv : row.total v (map (entry_from K.views) k.front) ≡ sum_by (len v) k.front = total_entries K.views v k.front lv in
      let te : row.total K.effect (map (entry_from K.views) k.front) ≡ sum_by (len K.effect) k.front = total_entries K.views K.effect k.front (ok) in
      rw (row_passed (row_of K t) (row.no_such_position (row_of K t) v x ∷ []) (entries_of K t) (done (found K v x 0 0 0 (entries_of K t))) (rw (lt-leb (row.total v (entries_of K t)) x (below_total v lv x f offset k)))) (record {
        same = ap (λ (n : Numbered EntryId). id_answer n (offset ∷ effect_at f ∷ prepare_at f ∷ [])) (id_at K t' w' f.leaf f.slot k.right.leaf_in_law lf)
            ∙ ap₂ (λ (p q : ℕ). done (e.child ∷ offset ∷ p ∷ q ∷ [])) (pos ∙ (let z : sum_by (len K.effect) k.front ≡ 0 + row.total K.effect (map (entry_from K.views) k.front) = omega arith in z))
            (pre ∙ (let z : sum_by (len 0) k.front ≡ 0 + row.total 0 (map (entry_from K.views) k.front) = omega arith in z))
            ∙ sym (ap (λ (l : List Entry). done (found K v x 0 0 0 l)) es ∙ ap done (found_at K v x 0 0 0 (map (entry_from K.views) k.front) (entry_from K.views e) (map (entry_from K.views) k.behind) offset (omega (arith, k.sums))
            (subst (λ (n : ℕ). offset < n) (sym (get_d_firsts K.views e.lens v lv)) k.inside)));
        kept = record { coherent = w'; entries = entries_are K t' w' ∙ sym (entries_are K t w); limit = refl };
      })

  -- a lookup past the total
  lost_step : (v : ℕ) (lv : v < K.views) (x : ℕ) → sum_by (len v) (tree.row (tree_of (stride K) t)) ≤ x → Simulates (Mirrors K) (moved t (refused 5)) (row_move K (row_of K t) (row.lookup v x))
  unfolding row_move refusal
  lost_step v lv x le =
      rw (row_stopped (row_of K t) (row.no_such_position (row_of K t) v x ∷ []) (entries_of K t) (done (found K v x 0 0 0 (entries_of K t))) 4 (rw (le-leb (row.total v (entries_of K t)) x (omega (arith, total_is v lv, le)))))
      (record { same = refl; kept = own K t w })

  by_search_law : (v : ℕ) (lv : v < K.views) (x : ℕ) (a b : Search) → (Got (stride K) K.effect t v x a) ⊎ (a ≡ Ok None)
      → (x < sum_by (len v) (tree.row (tree_of (stride K) t)) → Got (stride K) K.effect t v x b) → (sum_by (len v) (tree.row (tree_of (stride K) t)) ≤ x → b ≡ Ok None)
      → Simulates (Mirrors K) (let r = calls.by_finger t a b in moved r.after (located_answer K r.after r.answer)) (row_move K (row_of K t) (row.lookup v x))
  by_search_law v lv x a b (inl g) hit miss = rw g.is (found_step v lv x g.finger g.offset g.view g.looked)
  by_search_law v lv x a b (inr q) hit miss = go (dec_lt x (sum_by (len v) (tree.row (tree_of (stride K) t))))
    where
      go : Dec (x < sum_by (len v) (tree.row (tree_of (stride K) t))) → Simulates (Mirrors K) (let r = calls.by_finger t a b in moved r.after (located_answer K r.after r.answer)) (row_move K (row_of K t) (row.lookup v x))
      go (yes lt) = let g = hit lt in rw (q, g.is) (found_step v lv x g.finger g.offset g.view g.looked)
      go (no ge) = rw (q, miss (omega arith)) (lost_step v lv x (omega arith))

  pub step_lookup : (v : ℕ) (lv : v < K.views) (x : ℕ) → Simulates (Mirrors K) (tree_move K t (row.lookup v x)) (row_move K (row_of K t) (row.lookup v x))
  unfolding tree_move calls.locate opening searched refusal
  step_lookup v lv x =
      let a : Search = served_by v K.effect (shape_in (stride K) t) t.head.finger t.head.leaves x t.leaves in
      let b : Search = from_root v K.effect (shape_in (stride K) t) t.head.levels t.head.root.0 t.head.leaves x t.leaves t.inners in
      subst (λ (r : calls.Reply (Numbered (Cursor × ℕ × ℕ × ℕ))). Simulates (Mirrors K) (moved r.after (located_answer K r.after r.answer)) (row_move K (row_of K t) (row.lookup v x)))
      (sym (passed (opening K t) (λ n. calls.reply t (Err n)) (calls.by_finger t a b) (opens K t w [])))
      (by_search_law v lv x a b (served_by_is (stride K) K.effect t w v t.head.finger (sound_of (stride K) t K.effect w).finger x) (root_hit (stride K) K.effect t w v x) (root_miss (stride K) K.effect t w v x))
