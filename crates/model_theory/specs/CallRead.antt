-- The calls that only read, on a sound state: count, lengths, rank, first and next answer what the row answers.
use Rattle.model.specs.declared.number.EntryId.{EntryId}
use Rattle.model.specs.Numbered.{Numbered}
use Rattle.std.specs.Prelude.{◌≡◌, Bool, true, false, cond, ltb, drop, Ok, Err, Some}
use Rattle.std.proofs.Math.Path.{refl, sym, ap}
use Rattle.std.proofs.Common.{◌∙◌, subst, add-one, arith, lt-ltb, le-ltb, ltb-true, ltb-false}
use mathlib.Core.List.{List, [], ◌∷◌, ◌++◌, map}
use Prim.Native.Nat.{ℕ, suc, ◌+◌, ◌%◌, ◌^◌, ◌≤◌, ◌<◌}
use Rattle.std.proofs.Math.ListN.{length, length-map}
use Rattle.model.specs.Kind.{stride}
use Rattle.model.specs.declared.shape.Kind.{Kind}
use Rattle.model.specs.Lists.{All, sum_by, Cause, refusal}
use Rattle.model.specs.Node.{Node, child, used, start}
use Rattle.model.specs.State.{State}
use Rattle.model.specs.Climb.{leaf_no, rank_up, next_up}
use Rattle.model.specs.Row as row
use Rattle.model.specs.Row.{Entry, done, refused, moved, before, after, first_id, row_move}
use Rattle.model.specs.Sound.{leaf_in, shape_in, Coherent, entries_of}
use Rattle.model.specs.Refuse.{opening, at_cursor, bad_size}
use Rattle.model.specs.Calls as calls
use Rattle.model.specs.Calls.{area_causes, cursor_at, entry_id}
use Rattle.model.specs.ById.{id_answer, standing_id_answer, next_answer, tree_move}
use Rattle.model.specs.Answer.{number_answer}
use Rattle.model_tree.specs.Lists.{sum_by_append, all_right}
use Rattle.model_tree.specs.Levels.{Slot, total, len, climb}
use Rattle.model_tree.specs.Next as follow
use Rattle.model_tree.specs.Next.{next_is}
use Rattle.model_tree.specs.Tree as tree
use Rattle.model_tree.specs.Tree.{Tree, order, above}
use Rattle.model_tree.specs.Cursor.{first_at, first_of_law}
use Rattle.model_tree.specs.Calls.{slot_at}
use Rattle.model_tree.specs.Place.{front, behind, full, first_child, leaf_first, next_in, next_in_law, first_in_law}
use Rattle.model_theory.specs.WordTidy.{Tidy, slot_used}
use Rattle.model_theory.specs.LiftTree.{slot_of, slots_of, tree_of}
use Rattle.model_theory.specs.LiftMarks.{get_d_slot}
use Rattle.model_theory.specs.WordNeat.{size_is, neat_of}
use Rattle.model_theory.specs.LiftSound.{body_of}
use Rattle.model_theory.specs.LiftEntries.{firsts, entry_from}
use Rattle.model_theory.specs.CallOpen.{good_size, good_areas, passed, opens, fresh_at, EntryFound}
use Rattle.model_theory.specs.WalkUp.{WayUp, way, start_leaf, rank_up_law}
use Rattle.model_theory.specs.WalkNext.{first_top, first_down_law, leaf_head, next_leaf}
use Rattle.model_theory.specs.CallSimulates.{Simulates, Mirrors, row_of, row_passed, own, entries_are, count_is, by_id, from_is, slot_lengths, total_before}

pub first_entry : (n : ℕ) (R : List Slot) → first_id (map (entry_from n) R) ≡ first_child R
first_entry n [] = refl
first_entry n (x ∷ R) = refl

all_head : (Q : ℕ → Type 0) (q : ℕ) (B : List ℕ) → All Q (q ∷ B) → Q q
unfolding All
all_head Q q B h = h.0

first_all : (Q : ℕ → Type 0) (q : ℕ) (B C : List ℕ) → C ≡ q ∷ B → All Q C → Q q
first_all Q q B C e h = all_head Q q B (subst (All Q) e h)

behind_all : (Q : ℕ → Type 0) (A : List ℕ) (k : ℕ) (B : List ℕ) → All Q (A ++ k ∷ B) → All Q B
unfolding All
behind_all Q A k B h = (all_right Q A (k ∷ B) h).1

module _ (K : Kind) (t : State) (w : Coherent K t) where
  -- the id at a slot in use
  pub id_at : (k j : ℕ) → k < t.head.leaves → j < (leaf_in (stride K) t k).len → calls.id K t (cursor_at t.head.stamp k j) ≡ Ok (entry_id (slot_at (tree_of (stride K) t) k j).child)
  unfolding calls.id refusal
  id_at k j lk lj =
      let n : Node = leaf_in (stride K) t k in
      let td : Tidy (stride K) t.head.fan n = (neat_of (stride K) t K.effect w).leaf_tidy k lk in
      let lu : j < length (used n) = (let y : length (slots_of n) ≡ n.len = size_is (stride K) t.head.fan n td in let z : length (slots_of n) ≡ length (used n) = length-map (used n) slot_of in omega arith) in
      passed (opening K t ++ at_cursor K t (cursor_at t.head.stamp k j)) Err _ (opens K t w (at_cursor K t (cursor_at t.head.stamp k j)) ∙ fresh_at K t w k j [] lk lj)
      ∙ ap (λ (x : ℕ). Ok (entry_id x)) (ap child (slot_used (stride K) t.head.fan n td j [] lu) ∙ ap (λ (x : Slot). x.child) (sym (get_d_slot (used n) j lu)))

  pub step_count : Simulates (Mirrors K) (tree_move K t row.count) (row_move K (row_of K t) row.count)
  unfolding tree_move row_move calls.len refusal
  step_count = record {
    same = ap number_answer (passed (area_causes K t.head.fan t.head.limit t.leaves t.inners t.homes) Err _ (good_areas K t w [])
        ∙ passed (bad_size t.head.fan t.head.limit ∷ []) Err (Ok t.head.entries) (good_size K t w []))
        ∙ ap (λ (n : ℕ). done (n ∷ [])) (sym (count_is K t w));
    kept = own K t w;
  }

  lengths_at_law : (i : ℕ) (c : EntryFound K t w i)
      → calls.entry_lengths K t (cursor_at t.head.stamp c.leaf c.slot) ≡ done (row.lengths_of i (entries_of K t))
  unfolding calls.entry_lengths refusal firsts
  lengths_at_law i c =
      let cs : List Cause = at_cursor K t (cursor_at t.head.stamp c.leaf c.slot) in
      passed (opening K t ++ cs) refused _ (opens K t w cs ∙ fresh_at K t w c.leaf c.slot [] c.leaf_in_law c.slot_in_law)
      ∙ ap done (slot_lengths K t w i c)

  pub step_lengths : (i : ℕ) → Simulates (Mirrors K) (tree_move K t (row.lengths i)) (row_move K (row_of K t) (row.lengths i))
  unfolding tree_move row_move refusal
  step_lengths i = by_id K t w i (λ c. moved t (calls.entry_lengths K t c)) [] (entries_of K t) (done (row.lengths_of i (entries_of K t)))
      (λ c. rw (row_passed (row_of K t) [] (entries_of K t) (done (row.lengths_of i (entries_of K t))) refl) (record { same = lengths_at_law i c; kept = own K t w }))

  -- the sum before a seat is within u32
  pub front_small : (i : ℕ) (c : EntryFound K t w i) (v : ℕ) → sum_by (len v) (front c.cur) < 4294967296
  front_small i c v =
      let a : sum_by (len v) (tree.row (tree_of (stride K) t)) ≡ sum_by (len v) (front c.cur) + sum_by (len v) (c.cur.e ∷ behind c.cur) = ap (sum_by (len v)) c.cur.row ∙ sum_by_append (len v) (front c.cur) (c.cur.e ∷ behind c.cur) in
      omega (arith, (body_of (stride K) t K.effect w).totals v)

  -- the way up from a seat
  pub rank_is : (i : ℕ) (c : EntryFound K t w i) (v : ℕ)
      → rank_up (shape_in (stride K) t) v t.head.levels (leaf_in (stride K) t c.leaf).parent (leaf_in (stride K) t c.leaf).at (start v c.slot (leaf_in (stride K) t c.leaf)) t.inners ≡ Ok (sum_by (len v) (front c.cur))
  rank_is i c v =
      let T : Tree = tree_of (stride K) t in
      let k : ℕ = c.leaf in
      let b = c.cur.body in
      let st = start_leaf (stride K) t (neat_of (stride K) t K.effect w) v c.slot k c.leaf_in_law (let z = c.cur.inside in omega arith) in
      let u = subst (λ (d : ℕ). WayUp T.body.leaf T.body.inner t.head.inners d k) b.deep (way (total T.body.leaf) T.body.leaf T.body.inner T.body.root t.head.inners c.cur.A k c.cur.B (above T) b.links b.inner_in_law) in
      rank_up_law (stride K) t (neat_of (stride K) t K.effect w) v t.head.levels T.body.leaf k (start v c.slot (leaf_in (stride K) t k)) u
      ∙ ap Ok (ap (λ (n : ℕ). n + climb v T.body.leaf T.body.inner t.head.levels k) st ∙ c.cur.rank v)

  pub step_rank : (v : ℕ) (lv : v < K.views) (i : ℕ) → Simulates (Mirrors K) (tree_move K t (row.rank v i)) (row_move K (row_of K t) (row.rank v i))
  unfolding tree_move row_move refusal calls.entry_to_char_index
  step_rank v lv i = by_id K t w i (λ c. moved t (number_answer (calls.entry_to_char_index K t v c))) [] (entries_of K t) (done (row.total v (before i (entries_of K t)) ∷ []))
      (λ c. rw (row_passed (row_of K t) [] (entries_of K t) (done (row.total v (before i (entries_of K t)) ∷ [])) refl) (record { same = at c; kept = own K t w }))
    where
      at : (c : EntryFound K t w i) → number_answer (calls.entry_to_char_index K t v (cursor_at t.head.stamp c.leaf c.slot)) ≡ done (row.total v (before i (entries_of K t)) ∷ [])
      at c =
          let cs : List Cause = at_cursor K t (cursor_at t.head.stamp c.leaf c.slot) in
          let n : ℕ = sum_by (len v) (front c.cur) in
          let small : n % 2 ^ 32 ≡ n = (let z : n < 4294967296 = front_small i c v in omega arith) in
          ap number_answer (passed (opening K t ++ cs) Err _ (opens K t w cs ∙ fresh_at K t w c.leaf c.slot [] c.leaf_in_law c.slot_in_law) ∙ ap calls.rank_of (rank_is i c v))
          ∙ ap (λ (m : ℕ). done (m ∷ [])) (small ∙ sym (total_before K t w i c v lv))

  pub step_first : Simulates (Mirrors K) (tree_move K t row.first) (row_move K (row_of K t) row.first)
  unfolding tree_move row_move refusal calls.first opening
  step_first = record { same = whole; kept = own K t w }
    where
      lq : first_at (tree_of (stride K) t).body.inner t.head.root.0 t.head.levels < t.head.leaves
      lq = (let r = first_of_law (tree_of (stride K) t).body.inner t.head.root.0 t.head.levels (full (tree_of (stride K) t) (body_of (stride K) t K.effect w)) in
          first_all (λ k. k < t.head.leaves) (first_at (tree_of (stride K) t).body.inner t.head.root.0 t.head.levels) r.0 (order (tree_of (stride K) t)) r.1 (body_of (stride K) t K.effect w).leaf_in_law)

      lj : 0 < (leaf_in (stride K) t (first_at (tree_of (stride K) t).body.inner t.head.root.0 t.head.levels)).len
      lj = (let q = first_at (tree_of (stride K) t).body.inner t.head.root.0 t.head.levels in let z = size_is (stride K) t.head.fan (leaf_in (stride K) t q) ((neat_of (stride K) t K.effect w).leaf_tidy q lq) in let y = (body_of (stride K) t K.effect w).leaf_one q lq in omega arith)

      at : calls.first K t ≡ Ok (cursor_at t.head.stamp (first_at (tree_of (stride K) t).body.inner t.head.root.0 t.head.levels) 0)
      at = passed (opening K t) Err _ (opens K t w [])
          ∙ ap (calls.first_of t.head.stamp) (first_down_law (stride K) t (neat_of (stride K) t K.effect w) (body_of (stride K) t K.effect w) t.head.levels 0 t.head.root.0 (let z : 0 + t.head.levels ≡ t.head.levels = omega arith in z) (record { before = []; after = []; row = refl })
          ∙ ap (λ (k : ℕ). Ok (Some (leaf_no k))) (first_top (tree_of (stride K) t).body.inner t.head.root.0 t.head.levels))

      whole : standing_id_answer K t (calls.first K t) ≡ done (first_id (entries_of K t) ∷ [])
      whole = ap (standing_id_answer K t) at ∙ ap (λ (n : Numbered EntryId). id_answer n []) (id_at (first_at (tree_of (stride K) t).body.inner t.head.root.0 t.head.levels) 0 lq lj)
          ∙ ap (λ (n : ℕ). done (n ∷ [])) (first_in_law (tree_of (stride K) t) (body_of (stride K) t K.effect w) ∙ sym (first_entry K.views (tree.row (tree_of (stride K) t))) ∙ ap first_id (sym (entries_are K t w)))

  -- the entry after a seat
  next_answer_law : (i : ℕ) (c : EntryFound K t w i) → next_answer K t (calls.next_after K t (cursor_at t.head.stamp c.leaf c.slot)) ≡ done (next_in (tree_of (stride K) t) c.leaf c.slot ∷ [])
  unfolding calls.next_after refusal
  next_answer_law i c =
      ap (next_answer K t) (passed (opening K t ++ at_cursor K t (cursor_at t.head.stamp c.leaf c.slot)) Err _ (opens K t w (at_cursor K t (cursor_at t.head.stamp c.leaf c.slot)) ∙ fresh_at K t w c.leaf c.slot [] c.leaf_in_law c.slot_in_law))
      ∙ go (ltb (suc c.slot) (length (slots_of (leaf_in (stride K) t c.leaf)))) refl
    where
      sz : length (slots_of (leaf_in (stride K) t c.leaf)) ≡ (leaf_in (stride K) t c.leaf).len
      sz = size_is (stride K) t.head.fan (leaf_in (stride K) t c.leaf) ((neat_of (stride K) t K.effect w).leaf_tidy c.leaf c.leaf_in_law)

      nx : follow.next_of (tree_of (stride K) t).body.leaf (tree_of (stride K) t).body.inner t.head.levels c.leaf ≡ follow.head_of c.cur.B
      nx = subst (λ (d : ℕ). follow.next_of (tree_of (stride K) t).body.leaf (tree_of (stride K) t).body.inner d c.leaf ≡ follow.head_of c.cur.B) c.cur.body.deep
          (next_is (total (tree_of (stride K) t).body.leaf) (tree_of (stride K) t).body.leaf (tree_of (stride K) t).body.inner t.head.root.0 c.cur.A c.leaf c.cur.B (above (tree_of (stride K) t)) c.cur.body.links (full (tree_of (stride K) t) (body_of (stride K) t K.effect w)))

      leaves : All (λ q. q < t.head.leaves) c.cur.B
      leaves = behind_all (λ q. q < t.head.leaves) c.cur.A c.leaf c.cur.B c.cur.body.leaf_in_law

      heads : (B : List ℕ) → All (λ q. q < t.head.leaves) B → next_answer K t (calls.next_of t.head.stamp (leaf_head B)) ≡ done (leaf_first (tree_of (stride K) t) (follow.head_of B) ∷ [])
      heads [] h = refl
      heads (q ∷ B) h =
          let lq : q < t.head.leaves = all_head (λ q. q < t.head.leaves) q B h in
          ap (λ (n : Numbered EntryId). id_answer n []) (id_at q 0 lq (let z = size_is (stride K) t.head.fan (leaf_in (stride K) t q) ((neat_of (stride K) t K.effect w).leaf_tidy q lq) in let y = (body_of (stride K) t K.effect w).leaf_one q lq in omega arith))

      go : (b : Bool) → ltb (suc c.slot) (length (slots_of (leaf_in (stride K) t c.leaf))) ≡ b
          → next_answer K t (cond (ltb (c.slot + 1) (leaf_in (stride K) t c.leaf).len) (Ok (Some (cursor_at t.head.stamp c.leaf (c.slot + 1)))) (calls.next_of t.head.stamp (next_up (shape_in (stride K) t) t.head.levels 0 (leaf_in (stride K) t c.leaf).parent (leaf_in (stride K) t c.leaf).at t.inners)))
          ≡ done (next_in (tree_of (stride K) t) c.leaf c.slot ∷ [])
      go true q =
          let lt : suc c.slot < (leaf_in (stride K) t c.leaf).len = (let z = ltb-true (suc c.slot) (length (slots_of (leaf_in (stride K) t c.leaf))) q in omega (arith, sz)) in
          rw (q, next_in, lt-ltb (c.slot + 1) (leaf_in (stride K) t c.leaf).len (omega arith), add-one c.slot) (ap (λ (n : Numbered EntryId). id_answer n []) (id_at c.leaf (suc c.slot) c.leaf_in_law lt))
      go false q =
          let ge : (leaf_in (stride K) t c.leaf).len ≤ c.slot + 1 = (let z = ltb-false (suc c.slot) (length (slots_of (leaf_in (stride K) t c.leaf))) q in omega (arith, sz)) in
          rw (q, next_in, le-ltb (c.slot + 1) (leaf_in (stride K) t c.leaf).len ge, next_leaf (stride K) t (neat_of (stride K) t K.effect w) (body_of (stride K) t K.effect w) c.cur.A c.leaf c.cur.B c.cur.leaves, nx) (heads c.cur.B leaves)

  pub step_next : (i : ℕ) → Simulates (Mirrors K) (tree_move K t (row.next i)) (row_move K (row_of K t) (row.next i))
  unfolding tree_move row_move refusal
  step_next i = by_id K t w i (λ c. moved t (next_answer K t (calls.next_after K t c))) [] (entries_of K t) (done (first_id (after i (entries_of K t)) ∷ []))
      (λ c. rw (row_passed (row_of K t) [] (entries_of K t) (done (first_id (after i (entries_of K t)) ∷ [])) refl)
      (record {
        same = next_answer_law i c ∙ ap (λ (n : ℕ). done (n ∷ [])) (next_in_law K.effect (tree_of (stride K) t) (body_of (stride K) t K.effect w) i c.leaf c.slot c.cur ∙ sym (first_entry K.views (behind c.cur)) ∙ ap (λ (l : List Entry). first_id (drop 1 l)) (sym (from_is K t w i c)));
        kept = own K t w;
      }))
