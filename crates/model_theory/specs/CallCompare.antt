-- Two entries of a sound state are compared as the row compares them: by slots within a leaf, else by their paths from the root.
use Rattle.std.specs.declared.cmp.Ordering.TheVariants.{Less, Equal, Greater}
use Rattle.std.specs.Prelude.{◌≡◌, ◌⊎◌, cond, ltb, eqb, Ok, Err}
use Rattle.std.proofs.Math.Path.{refl, ap, ap₂}
use Rattle.std.proofs.Common.{◌∙◌, subst, inl, inr, arith}
use mathlib.Core.List.{List, [], ◌∷◌, ◌++◌, append-nil}
use Prim.Native.Nat.{ℕ, ◌+◌, ◌<◌}
use Rattle.std.proofs.Math.Decide.{ℕ_discrete, dec_lt}
use Rattle.std.proofs.Math.ListN.{length, length-map}
use borrow.Author.Tests.{eq-eqb, ne_eqb, lt-ltb, le-ltb}
use Rattle.model.specs.Kind.{stride}
use Rattle.model.specs.declared.shape.Kind.{Kind}
use Rattle.model.specs.Lists.{refusal}
use Rattle.model.specs.State.{State}
use Rattle.model.specs.Row as row
use Rattle.model.specs.Row.{done, moved, no_such_id, before, ordered, row_move}
use Rattle.model.specs.Sound.{Coherent, entries_of}
use Rattle.model.specs.Refuse.{opening, stale}
use Rattle.model.specs.Calls as calls
use Rattle.model.specs.Calls.{cursor_at, in_order, by_path}
use Rattle.model.specs.ById.{with_cursor, tree_move}
use Rattle.model.specs.Answer.{compared_answer}
use Rattle.model.specs.declared.head.Cursor.{Cursor}
use Rattle.model_tree.specs.Levels.{total}
use Rattle.model_tree.specs.Next.{Lex}
use Rattle.model_tree.specs.Tree.{Tree, above}
use Rattle.model_tree.specs.Place.{front}
use Rattle.model_tree.specs.Order.{path_to, First, by_path_law, by_slot}
use Rattle.model_theory.specs.LiftTree.{tree_of}
use Rattle.model_theory.specs.WordNeat.{neat_of}
use Rattle.model_theory.specs.LiftSound.{sound_of}
use Rattle.model_theory.specs.LiftEntries.{entry_from}
use Rattle.model_theory.specs.CallOpen.{passed, opens, fresh, EntryFound}
use Rattle.model_theory.specs.WalkUp.{WayUp, way, steps_up_law}
use Rattle.model_theory.specs.CallSimulates.{Simulates, Mirrors, row_of, row_passed, own, by_id, before_is}

-- paths that differ
lex_before : (xs ys : List ℕ) → Lex xs ys → by_path xs ys ≡ Ok Less
unfolding in_order
lex_before [] ys h = absurd h
lex_before (x ∷ xs) [] h = absurd h
lex_before (x ∷ xs) (y ∷ ys) h = more (x ∷ xs) (y ∷ ys) h
  where
    more : (xs ys : List ℕ) → Lex xs ys → in_order xs ys ≡ Ok Less
    more [] ys h = absurd h
    more (x ∷ xs) [] h = absurd h
    more (x ∷ xs) (y ∷ ys) (inl h) = rw (lt-ltb x y h)
    more (x ∷ xs) (y ∷ ys) (inr h) = let z : x ≡ y = h.0 in rw (le-ltb x y (omega arith), le-ltb y x (omega arith)) (more xs ys h.1)

lex_after : (xs ys : List ℕ) → Lex ys xs → by_path xs ys ≡ Ok Greater
unfolding in_order
lex_after xs [] h = absurd h
lex_after [] (y ∷ ys) h = absurd h
lex_after (x ∷ xs) (y ∷ ys) h = more (x ∷ xs) (y ∷ ys) h
  where
    more : (xs ys : List ℕ) → Lex ys xs → in_order xs ys ≡ Ok Greater
    more xs [] h = absurd h
    more [] (y ∷ ys) h = absurd h
    more (x ∷ xs) (y ∷ ys) (inl h) = rw (le-ltb x y (omega arith), lt-ltb y x h)
    more (x ∷ xs) (y ∷ ys) (inr h) = let z : y ≡ x = h.0 in rw (le-ltb x y (omega arith), le-ltb y x (omega arith)) (more xs ys h.1)

module _ (K : Kind) (t : State) (w : Coherent K t) where
  -- the path to a seat
  path_is : (i : ℕ) (c : EntryFound K t w i) → calls.path K t (cursor_at t.head.stamp c.leaf c.slot) ≡ path_to (tree_of (stride K) t) c.leaf
  unfolding calls.path
  path_is i c =
      let T : Tree = tree_of (stride K) t in
      let k : ℕ = c.leaf in
      let b = c.cur.body in
      steps_up_law (stride K) t (neat_of (stride K) t K.effect w) t.head.levels T.body.leaf k []
      (subst (λ (d : ℕ). WayUp T.body.leaf T.body.inner t.head.inners d k) b.deep (way (total T.body.leaf) T.body.leaf T.body.inner T.body.root t.head.inners c.cur.A k c.cur.B (above T) b.links b.inner_in_law))
      ∙ append-nil (path_to T k)

  ordered_is : (i j : ℕ) (a : EntryFound K t w i) (c : EntryFound K t w j) (m n : ℕ) → length (front a.cur) ≡ m → length (front c.cur) ≡ n
      → ordered i j (entries_of K t) ≡ cond (ltb m n) 0 (cond (eqb m n) 1 2)
  unfolding ordered
  ordered_is i j a c m n p q =
      let e : length (before i (entries_of K t)) ≡ m = ap length (before_is K t w i a) ∙ length-map (front a.cur) (entry_from K.views) ∙ p in
      let f : length (before j (entries_of K t)) ≡ n = ap length (before_is K t w j c) ∙ length-map (front c.cur) (entry_from K.views) ∙ q in
      rw (e, f)

  compared_is : (i j : ℕ) (a : EntryFound K t w i) (c : EntryFound K t w j)
      → compared_answer (cond (eqb a.leaf c.leaf) (in_order (a.slot ∷ []) (c.slot ∷ [])) (by_path (path_to (tree_of (stride K) t) a.leaf) (path_to (tree_of (stride K) t) c.leaf))) ≡ done (ordered i j (entries_of K t) ∷ [])
  unfolding in_order
  compared_is i j a c = go (ℕ_discrete a.leaf c.leaf)
    where
      by_paths : First (path_to (tree_of (stride K) t) a.leaf) (path_to (tree_of (stride K) t) c.leaf) (length (front a.cur)) (length (front c.cur)) ⊎ First (path_to (tree_of (stride K) t) c.leaf) (path_to (tree_of (stride K) t) a.leaf) (length (front c.cur)) (length (front a.cur))
          → compared_answer (by_path (path_to (tree_of (stride K) t) a.leaf) (path_to (tree_of (stride K) t) c.leaf)) ≡ done (ordered i j (entries_of K t) ∷ [])
      by_paths (inl r) = rw (lex_before (path_to (tree_of (stride K) t) a.leaf) (path_to (tree_of (stride K) t) c.leaf) r.0, ordered_is i j a c (length (front a.cur)) (length (front c.cur)) refl refl, lt-ltb (length (front a.cur)) (length (front c.cur)) r.1)
      by_paths (inr r) = rw (
        lex_after (path_to (tree_of (stride K) t) a.leaf) (path_to (tree_of (stride K) t) c.leaf) r.0,
        ordered_is i j a c (length (front a.cur)) (length (front c.cur)) refl refl,
        le-ltb (length (front a.cur)) (length (front c.cur)) (let z = r.1 in omega arith),
        ne_eqb (length (front a.cur)) (length (front c.cur)) (λ q. let z = r.1 in omega arith),
      )

      slots : (x y m n : ℕ) → m + y ≡ n + x → compared_answer (cond (ltb x y) (Ok Less) (cond (ltb y x) (Ok Greater) (Ok Equal))) ≡ done (cond (ltb m n) 0 (cond (eqb m n) 1 2) ∷ [])
      slots x y m n e = by (dec_lt x y) (dec_lt y x)
        where
          by : Dec (x < y) → Dec (y < x) → compared_answer (cond (ltb x y) (Ok Less) (cond (ltb y x) (Ok Greater) (Ok Equal))) ≡ done (cond (ltb m n) 0 (cond (eqb m n) 1 2) ∷ [])
          by (yes lt) d = rw (lt-ltb x y lt, lt-ltb m n (omega arith))
          by (no ge) (yes lt) = rw (le-ltb x y (omega arith), lt-ltb y x lt, le-ltb m n (omega arith), ne_eqb m n (λ q. omega arith))
          by (no ge) (no le) = rw (le-ltb x y (omega arith), le-ltb y x (omega arith), le-ltb m n (omega arith), eq-eqb m n (omega arith))

      go : Dec (a.leaf ≡ c.leaf) → compared_answer (cond (eqb a.leaf c.leaf) (in_order (a.slot ∷ []) (c.slot ∷ [])) (by_path (path_to (tree_of (stride K) t) a.leaf) (path_to (tree_of (stride K) t) c.leaf))) ≡ done (ordered i j (entries_of K t) ∷ [])
      go (yes q) = rw (eq-eqb a.leaf c.leaf q, ordered_is i j a c (length (front a.cur)) (length (front c.cur)) refl refl)
          (slots a.slot c.slot (length (front a.cur)) (length (front c.cur)) (by_slot K.effect (tree_of (stride K) t) (sound_of (stride K) t K.effect w) i j a.leaf a.slot c.leaf c.slot a.cur c.cur q))
      go (no ne) = rw (ne_eqb a.leaf c.leaf ne) (by_paths (by_path_law K.effect (tree_of (stride K) t) (sound_of (stride K) t K.effect w) i j a.leaf a.slot c.leaf c.slot a.cur c.cur ne))

  pub step_compare : (i j : ℕ) → Simulates (Mirrors K) (tree_move K t (row.compare i j)) (row_move K (row_of K t) (row.compare i j))
  unfolding tree_move row_move refusal calls.cmp
  step_compare i j =
      by_id K t w i (λ a. with_cursor t (calls.cursor K t j) (λ b. moved t (compared_answer (calls.cmp K t a b)))) (no_such_id (row_of K t) j ∷ []) (entries_of K t) (done (ordered i j (entries_of K t) ∷ []))
      (λ a. by_id K t w j (λ b. moved t (compared_answer (calls.cmp K t (cursor_at t.head.stamp a.leaf a.slot) b))) [] (entries_of K t) (done (ordered i j (entries_of K t) ∷ []))
      (λ c. rw (row_passed (row_of K t) [] (entries_of K t) (done (ordered i j (entries_of K t) ∷ [])) refl) (record { same = at a c; kept = own K t w })))
    where
      at : (a : EntryFound K t w i) (c : EntryFound K t w j) → compared_answer (calls.cmp K t (cursor_at t.head.stamp a.leaf a.slot) (cursor_at t.head.stamp c.leaf c.slot)) ≡ done (ordered i j (entries_of K t) ∷ [])
      at a c =
          let ca : Cursor = cursor_at t.head.stamp a.leaf a.slot in
          let cc : Cursor = cursor_at t.head.stamp c.leaf c.slot in
          ap compared_answer (passed (opening K t ++ (stale K t ca ++ stale K t cc)) Err _
          (opens K t w (stale K t ca ++ stale K t cc) ∙ fresh K t w a.leaf a.slot (stale K t cc) a.leaf_in_law a.slot_in_law ∙ fresh K t w c.leaf c.slot [] c.leaf_in_law c.slot_in_law))
          ∙ ap₂ (λ (p q : List ℕ). compared_answer (cond (eqb a.leaf c.leaf) (in_order (a.slot ∷ []) (c.slot ∷ [])) (by_path p q))) (path_is i a) (path_is j c)
          ∙ compared_is i j a c
