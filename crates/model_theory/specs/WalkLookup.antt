-- A lookup on a sound state, by the finger or from the root: it finds the row's entry and leaves a sound state, or both refuse.
use Rattle.std.specs.Prelude.{◌≡◌, ◌⊎◌, true, ◌&&◌, List, [], ◌∷◌, ◌++◌, ℕ, zero, suc, ◌+◌, ◌-◌, ◌%◌, ◌^◌, ◌≤◌, ◌<◌, ltb, leb, get_or, take, Ok, Some, None, Option}
use Rattle.std.proofs.Math.Path.{refl}
use Rattle.std.proofs.Common.{sym, ap, ap₂, ◌∙◌, subst, inl, inr, zero-add, arith, length-append, eq-eqb, ne_eqb, lt-ltb, le-leb}
use Rattle.std.proofs.Math.Decide.{ℕ_discrete, dec_lt}
use Rattle.std.proofs.Math.ListN.{length}
use Rattle.std.proofs.lemmas.List.{length-map}
use Rattle.std.proofs.Math.Seq.{take-append_seam, get_or-append_seam}
use Rattle.std.proofs.lemmas.Bool.{lt-leb}
use Rattle.model.specs.Lists.{sum_by}
use Rattle.model.specs.Node as node
use Rattle.model.specs.Node.{length_in, used}
use Rattle.model.specs.State.{State}
use Rattle.model.specs.Locate.{finger, served, served_by, descend, leaf_of, from_root}
use Rattle.model.specs.Sound.{leaf_in, inner_in, shape_in, CoherentAt}
use Rattle.model.specs.declared.head.Finger.{Finger}
use Rattle.model.specs.Locate.{Search}
use Rattle.model_tree.specs.Lists.{cat, cat_append, sum_by_append, sum_by_cat}
use Rattle.model_tree.specs.Levels.{Slot, Area, total, len, climb}
use Rattle.model_tree.specs.Pigeon.{In, is_in}
use Rattle.model_tree.specs.Tree as tree
use Rattle.model_tree.specs.Tree.{order, above, BodyAt}
use Rattle.model_tree.specs.Finger.{climb_at}
use Rattle.model_tree.specs.Edit.{leaf_here}
use Rattle.model_tree.specs.Place.{total_is}
use Rattle.model_tree.specs.Look.{LooksAt, at_finger}
use Rattle.model_theory.specs.LiftTree.{slot_of, slots_of, tree_of, sum_slots}
use Rattle.model_theory.specs.LiftMarks.{get_d_slot}
use Rattle.model_theory.specs.WordNeat.{size_is, neat_of}
use Rattle.model_theory.specs.LiftSound.{body_of, sum_take}
use Rattle.model_theory.specs.WalkDown.{Hit, find_hit, find_miss, Arrived, arrive, node_ok}
use Rattle.model_theory.specs.WalkFinger.{WalkReached, walk_hit, walk_miss, total_split}

-- what a search comes to
pub record Got (s ε : ℕ) (t : State) (v x : ℕ) (r : Search) : Type 0 where
  pub finger : Finger
  pub offset : ℕ
  pub is : r ≡ Ok (Some (finger, offset))
  pub view : finger.view ≡ v
  pub looked : LooksAt ε (tree_of s t) v x finger offset

module _ (s ε : ℕ) (t : State) (w : CoherentAt s t ε) (v : ℕ) where
  -- a leaf's totals are within u32
  pub leaf_small : (u k : ℕ) → k < t.head.leaves → node.total u (used (leaf_in s t k)) < 4294967296
  leaf_small u k lk = go (is_in k (order (tree_of s t)) ((body_of s t ε w).leaf_all k lk))
    where
      go : In k (order (tree_of s t)) → node.total u (used (leaf_in s t k)) < 4294967296
      go i =
          let f : ℕ → List Slot = (tree_of s t).body.leaf.slots in
          let e : sum_by (len u) (tree.row (tree_of s t)) ≡ sum_by (len u) (cat f i.before) + sum_by (len u) (f k ++ cat f i.after) = ap (λ (C : List ℕ). sum_by (len u) (cat f C)) i.row ∙ ap (sum_by (len u)) (cat_append f i.before (k ∷ i.after)) ∙ sum_by_append (len u) (cat f i.before) (f k ++ cat f i.after) in
          let h : sum_by (len u) (f k ++ cat f i.after) ≡ sum_by (len u) (f k) + sum_by (len u) (cat f i.after) = sum_by_append (len u) (f k) (cat f i.after) in
          omega (arith, (body_of s t ε w).totals u, sum_slots u (used (leaf_in s t k)))

  leaf_ok : (k : ℕ) → k < t.head.leaves → (ltb k t.head.leaves && leb (leaf_in s t k).len t.head.fan) ≡ true
  leaf_ok k lk = rw (lt-ltb k t.head.leaves lk, le-leb (leaf_in s t k).len t.head.fan (w.leaf_filled k lk).high)

  used_size : (k : ℕ) → length (slots_of (leaf_in s t k)) ≡ length (used (leaf_in s t k))
  used_size k = length-map (used (leaf_in s t k)) slot_of

  -- the finger serves, or the search goes on from the root
  served_is : (f : Finger) → tree.FingerRight ε (tree_of s t) f → (x : ℕ) → Got s ε t v x (served v ε (shape_in s t) f t.head.leaves x t.leaves) ⊎ (served v ε (shape_in s t) f t.head.leaves x t.leaves ≡ Ok None)
  unfolding served
  served_is f r x = go (ℕ_discrete f.view v) (dec_lt x f.start)
    where
      sz : length (slots_of (leaf_in s t f.leaf)) ≡ (leaf_in s t f.leaf).len
      sz = size_is s t.head.fan (leaf_in s t f.leaf) ((neat_of s t ε w).leaf_tidy f.leaf r.leaf_in_law)

      wi : f.view ≡ v → f.within ≡ node.total v (take f.slot (used (leaf_in s t f.leaf)))
      wi e = r.within ∙ sym (sum_take f.view f.slot (used (leaf_in s t f.leaf))) ∙ ap (λ (u : ℕ). node.total u (take f.slot (used (leaf_in s t f.leaf)))) e

      ew : f.effect_within ≡ node.total ε (take f.slot (used (leaf_in s t f.leaf)))
      ew = r.within_effect ∙ sym (sum_take ε f.slot (used (leaf_in s t f.leaf)))

      pw : f.prepare_within ≡ node.total 0 (take f.slot (used (leaf_in s t f.leaf)))
      pw = r.within_prepare ∙ sym (sum_take 0 f.slot (used (leaf_in s t f.leaf)))

      hit : f.view ≡ v → f.start ≤ x → (q : WalkReached v ε (used (leaf_in s t f.leaf)) f (x - f.start)) → LooksAt ε (tree_of s t) v x (finger f.view f.leaf f.start f.effect q.slot (x - f.start - q.offset) q.within_effect f.prepare q.within_prepare) q.offset
      hit e le q =
          at_finger ε (tree_of s t) (body_of s t ε w) v x (finger f.view f.leaf f.start f.effect q.slot (x - f.start - q.offset) q.within_effect f.prepare q.within_prepare) q.offset
          (record {
            leaf_in_law = r.leaf_in_law;
            slot_in_law = omega (arith, q.slot_in_law, used_size f.leaf);
            start = r.start;
            effect = r.effect;
            within = (let z : x - f.start - q.offset ≡ node.total v (take q.slot (used (leaf_in s t f.leaf))) = omega (arith, q.sums) in z) ∙ ap (λ (u : ℕ). node.total u (take q.slot (used (leaf_in s t f.leaf)))) (sym e) ∙ sum_take f.view q.slot (used (leaf_in s t f.leaf));
            within_effect = q.effect ∙ sum_take ε q.slot (used (leaf_in s t f.leaf));
            prepare_start = r.prepare_start;
            within_prepare = q.prepare ∙ sum_take 0 q.slot (used (leaf_in s t f.leaf));
          })
          e (omega (arith, q.sums)) (subst (λ (y : Slot). q.offset < len v y) (sym (get_d_slot (used (leaf_in s t f.leaf)) q.slot q.slot_in_law)) q.inside)

      go : Dec (f.view ≡ v) → Dec (x < f.start) → Got s ε t v x (served v ε (shape_in s t) f t.head.leaves x t.leaves) ⊎ (served v ε (shape_in s t) f t.head.leaves x t.leaves ≡ Ok None)
      go (no ne) d = inr (rw (ne_eqb f.view v ne))
      go (yes e) (yes lt) = inr (rw (eq-eqb f.view v e, lt-leb f.start x lt))
      go (yes e) (no ge) = walk (dec_lt (x - f.start) (node.total v (used (leaf_in s t f.leaf))))
        where
          fits : f.slot ≤ length (used (leaf_in s t f.leaf))
          fits = omega (arith, r.slot_in_law, used_size f.leaf)

          walk : Dec (x - f.start < node.total v (used (leaf_in s t f.leaf))) → Got s ε t v x (served v ε (shape_in s t) f t.head.leaves x t.leaves) ⊎ (served v ε (shape_in s t) f t.head.leaves x t.leaves ≡ Ok None)
          walk (yes lt) =
              let q : WalkReached v ε (used (leaf_in s t f.leaf)) f (x - f.start) = walk_hit v ε (used (leaf_in s t f.leaf)) (leaf_small v f.leaf r.leaf_in_law) (leaf_small ε f.leaf r.leaf_in_law) (leaf_small 0 f.leaf r.leaf_in_law) f (x - f.start) fits (wi e) ew pw lt in
              inl (record {
                finger = finger f.view f.leaf f.start f.effect q.slot (x - f.start - q.offset) q.within_effect f.prepare q.within_prepare;
                offset = q.offset;
                is = rw (eq-eqb f.view v e, le-leb f.start x (omega arith), lt-ltb f.leaf t.head.leaves r.leaf_in_law, le-leb (leaf_in s t f.leaf).len t.head.fan (w.leaf_filled f.leaf r.leaf_in_law).high, lt-ltb f.slot (leaf_in s t f.leaf).len (omega (arith, r.slot_in_law, sz))) q.is;
                view = e;
                looked = hit e (omega arith) q;
              })
          walk (no le) = inr (rw (eq-eqb f.view v e, le-leb f.start x (omega arith), lt-ltb f.leaf t.head.leaves r.leaf_in_law, le-leb (leaf_in s t f.leaf).len t.head.fan (w.leaf_filled f.leaf r.leaf_in_law).high, lt-ltb f.slot (leaf_in s t f.leaf).len (omega (arith, r.slot_in_law, sz)))
              (walk_miss v ε (used (leaf_in s t f.leaf)) (leaf_small v f.leaf r.leaf_in_law) (leaf_small ε f.leaf r.leaf_in_law) (leaf_small 0 f.leaf r.leaf_in_law) f (x - f.start) fits (wi e) ew pw (omega arith)))

  pub served_by_is : (h : Option Finger) → tree.Right ε (tree_of s t) h → (x : ℕ) → Got s ε t v x (served_by v ε (shape_in s t) h t.head.leaves x t.leaves) ⊎ (served_by v ε (shape_in s t) h t.head.leaves x t.leaves ≡ Ok None)
  served_by_is None r x = inr refl
  served_by_is (Some f) r x = served_is f r x

  -- from the root
  unfoldable pub searched : ℕ → Search
  searched x = from_root v ε (shape_in s t) t.head.levels t.head.root.0 t.head.leaves x t.leaves t.inners

  pub root_hit : (x : ℕ) → x < sum_by (len v) (tree.row (tree_of s t)) → Got s ε t v x (searched x)
  unfolding searched from_root
  root_hit x lt = go (subst (λ (d : ℕ). Arrived s t v ε (total low) t.head.root.0 (order (tree_of s t)) d x) (body_of s t ε w).deep
      (arrive s t (neat_of s t ε w) v ε (total low) low t.head.root.0 (order (tree_of s t)) (above (tree_of s t)) x (body_of s t ε w).links (body_of s t ε w).inner_in_law (subst (λ (n : ℕ). x < n) (sum_by_cat (len v) low.slots (order (tree_of s t))) lt)))
    where
      low : Area
      low = (tree_of s t).body.leaf

      go : Arrived s t v ε (total (tree_of s t).body.leaf) t.head.root.0 (order (tree_of s t)) t.head.levels x → Got s ε t v x (from_root v ε (shape_in s t) t.head.levels t.head.root.0 t.head.leaves x t.leaves t.inners)
      go q = there (find_hit v ε 0 q.r 0 0 (used (leaf_in s t q.c)) (let z = sum_slots v (used (leaf_in s t q.c)) in let y = q.inside in omega arith))
        where
          lc : q.c < t.head.leaves
          lc = leaf_here (tree_of s t) q.A q.c q.B (above (tree_of s t)) (subst (λ (C : List ℕ). BodyAt (tree_of s t) C (above (tree_of s t))) q.row (body_of s t ε w))

          cl : (u : ℕ) → climb u (tree_of s t).body.leaf (tree_of s t).body.inner t.head.levels q.c ≡ sum_by (λ c. total (tree_of s t).body.leaf c u) q.A
          cl u = climb_at (tree_of s t) q.A q.c q.B (above (tree_of s t)) (subst (λ (C : List ℕ). BodyAt (tree_of s t) C (above (tree_of s t))) q.row (body_of s t ε w)) u ∙ sum_by_cat (len u) (tree_of s t).body.leaf.slots q.A

          there : Hit v ε 0 q.r 0 0 (used (leaf_in s t q.c)) → Got s ε t v x (from_root v ε (shape_in s t) t.head.levels t.head.root.0 t.head.leaves x t.leaves t.inners)
          there h =
              let xs : List (List ℕ) = used (leaf_in s t q.c) in
              let j : ℕ = length h.front in
              let lj : j < length xs = (let y : length xs ≡ j + suc (length h.behind) = ap length h.row ∙ length-append h.front (h.here ∷ h.behind) in omega arith) in
              let tk : take j xs ≡ h.front = ap (take j) h.row ∙ take-append_seam h.front (h.here ∷ h.behind) in
              let gd : get_or xs j [] ≡ h.here = ap (λ (l : List (List ℕ)). get_or l j []) h.row ∙ get_or-append_seam h.front h.here h.behind [] in
              let tot : sum_by (len ε) (tree.row (tree_of s t)) ≡ sum_by (λ c. total (tree_of s t).body.leaf c ε) q.A + sum_by (len ε) (cat (tree_of s t).body.leaf.slots (q.c ∷ q.B)) =
              ap (λ (C : List ℕ). sum_by (len ε) (cat (tree_of s t).body.leaf.slots C)) q.row ∙ ap (sum_by (len ε)) (cat_append (tree_of s t).body.leaf.slots q.A (q.c ∷ q.B)) ∙ sum_by_append (len ε) (cat (tree_of s t).body.leaf.slots q.A) (cat (tree_of s t).body.leaf.slots (q.c ∷ q.B))
              ∙ ap (λ (n : ℕ). n + sum_by (len ε) (cat (tree_of s t).body.leaf.slots (q.c ∷ q.B))) (sum_by_cat (len ε) (tree_of s t).body.leaf.slots q.A) in
              let tot0 : sum_by (len 0) (tree.row (tree_of s t)) ≡ sum_by (λ c. total (tree_of s t).body.leaf c 0) q.A + sum_by (len 0) (cat (tree_of s t).body.leaf.slots (q.c ∷ q.B)) =
              ap (λ (C : List ℕ). sum_by (len 0) (cat (tree_of s t).body.leaf.slots C)) q.row ∙ ap (sum_by (len 0)) (cat_append (tree_of s t).body.leaf.slots q.A (q.c ∷ q.B)) ∙ sum_by_append (len 0) (cat (tree_of s t).body.leaf.slots q.A) (cat (tree_of s t).body.leaf.slots (q.c ∷ q.B))
              ∙ ap (λ (n : ℕ). n + sum_by (len 0) (cat (tree_of s t).body.leaf.slots (q.c ∷ q.B))) (sum_by_cat (len 0) (tree_of s t).body.leaf.slots q.A) in
              let pf : node.total 0 (take j xs) ≡ node.total 0 h.front = ap (node.total 0) tk in
              let sm0 : node.total 0 h.front < 4294967296 = (let z = leaf_small 0 q.c lc in let y = total_split 0 j xs in omega arith) in
              let rp : q.p % 2 ^ 32 ≡ q.p = omega (arith, q.prepare, (body_of s t ε w).totals 0) in
              let rq : (0 + node.total 0 h.front) % 2 ^ 32 ≡ node.total 0 h.front = omega arith in
              let ef : node.total ε (take j xs) ≡ node.total ε h.front = ap (node.total ε) tk in
              let sm : node.total ε h.front < 4294967296 = (let z = leaf_small ε q.c lc in let y = total_split ε j xs in omega arith) in
              let ra : q.a % 2 ^ 32 ≡ q.a = omega (arith, q.effect, (body_of s t ε w).totals ε) in
              let re : (0 + node.total ε h.front) % 2 ^ 32 ≡ node.total ε h.front = omega arith in
              let f : Finger = finger v q.c (x - q.r) q.a j (q.r - h.offset) (node.total ε h.front) q.p (node.total 0 h.front) in
              record {
                finger = f;
                offset = h.offset;
                is = ap (leaf_of v ε (shape_in s t) t.head.leaves x t.leaves) q.got ∙ rw (leaf_ok q.c lc, h.got) (ap₂ (λ (a b : ℕ). Ok (Some (finger v q.c (x - q.r) a (0 + j) (q.r - h.offset) b (q.p % 2 ^ 32) ((0 + node.total 0 h.front) % 2 ^ 32), h.offset))) ra re
                    ∙ ap₂ (λ (a b : ℕ). Ok (Some (finger v q.c (x - q.r) q.a (0 + j) (q.r - h.offset) (node.total ε h.front) a b, h.offset))) rp rq
                    ∙ ap (λ (i : ℕ). Ok (Some (finger v q.c (x - q.r) q.a i (q.r - h.offset) (node.total ε h.front) q.p (node.total 0 h.front), h.offset))) (zero-add j));
                view = refl;
                looked = at_finger ε (tree_of s t) (body_of s t ε w) v x f h.offset
                    (record {
                      leaf_in_law = lc;
                      slot_in_law = omega (arith, used_size q.c);
                      start = omega (arith, cl v, q.sums);
                      effect = omega (arith, cl ε, q.effect);
                      within = (let z : q.r - h.offset ≡ node.total v (take j xs) = (let y : node.total v (take j xs) ≡ node.total v h.front = ap (node.total v) tk in omega (arith, h.sums)) in z) ∙ sum_take v j xs;
                      within_effect = sym ef ∙ sum_take ε j xs;
                      prepare_start = omega (arith, cl 0, q.prepare);
                      within_prepare = sym pf ∙ sum_take 0 j xs;
                    })
                    refl (omega (arith, q.sums, h.sums)) (subst (λ (y : Slot). h.offset < len v y) (sym (get_d_slot xs j lj)) (subst (λ (y : List ℕ). h.offset < length_in v y) (sym gd) h.inside));
              }

  pub root_miss : (x : ℕ) → sum_by (len v) (tree.row (tree_of s t)) ≤ x → searched x ≡ Ok None
  unfolding searched from_root descend
  root_miss x le = go t.head.levels refl
    where
      lr : t.head.root.0 < t.head.inners
      lr = (body_of s t ε w).fit.root_in

      go : (n : ℕ) → t.head.levels ≡ n → leaf_of v ε (shape_in s t) t.head.leaves x t.leaves (descend v ε (shape_in s t) (Ok None) t.head.levels t.head.root.0 x 0 0 t.inners) ≡ Ok None
      go zero q = absurd (omega (arith, w.levels_least))
      go (suc n) q =
          let m : ℕ = node.total v (used (inner_in s t t.head.root.0)) in
          let e : m ≡ sum_by (len v) (tree.row (tree_of s t)) = sym (sum_slots v (used (inner_in s t t.head.root.0))) ∙ total_is (tree_of s t) (body_of s t ε w) v in
          rw (q, node_ok s t (neat_of s t ε w) v ε t.head.root.0 lr, find_miss v ε 0 x 0 0 (used (inner_in s t t.head.root.0)) (omega arith))
