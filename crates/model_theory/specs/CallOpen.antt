-- On a sound state a call's opening refuses nothing, and the cursor of an id in use stands at its entry.
use Rattle.std.specs.Prelude.{◌≡◌, ◌≢◌, Bool, true, false, Ok, Err, Some}
use Rattle.std.proofs.Math.Path.{refl}
use Rattle.std.proofs.Common.{ap, ◌∙◌, not-suc-le-zero}
use mathlib.Core.List.{List, [], ◌∷◌, ◌++◌, map}
use Prim.Native.Nat.{ℕ, suc, ◌+◌, ◌*◌, ◌≤◌, ◌<◌}
use Rattle.std.proofs.Math.Decide.{ℕ_discrete}
use native.Mathlib.Omega.{arith}
use Rattle.std.proofs.Math.ListN.{length, get_or, length-map}
use borrow.Author.Tests.{eq-eqb, ne_eqb, lt-ltb, le-ltb, le-leb, lt-leb}
use Rattle.model.specs.Kind.{stride, too_many_lines, crossed}
use Rattle.model.specs.declared.shape.Kind.{Kind}
use Rattle.model.specs.Lists.{Cause, cause, refusal}
use Rattle.model.specs.Node.{Node, child, used, index_from}
use Rattle.model.specs.State.{State}
use Rattle.model.specs.Sound.{shape_in, leaf_in, Coherent}
use Rattle.model.specs.Refuse.{opening, many_lines, crossed_bounds, bad_size, too_short, astray, stale, overfull, at_cursor, no_such_id}
use Rattle.model.specs.Calls as calls
use Rattle.model.specs.Calls.{unless, cursor_at}
use Rattle.model_tree.specs.Tree.{above}
use Rattle.model_tree.specs.Follows.{levels_most}
use Rattle.model_tree.specs.Cursor.{index_of}
use Rattle.model_tree.specs.Edit.{leaf_here}
use Rattle.model_tree.specs.Place.{Cur, cur}
use Rattle.model_theory.specs.LiftTree.{slot_of, slots_of, tree_of}
use Rattle.model_theory.specs.WordNeat.{size_is, neat_of}
use Rattle.model_theory.specs.LiftSound.{body_of, sound_of}

-- a call that no cause refuses, and one that a cause refuses
pub passed : {A : Type 0} (cs : List Cause) (f : ℕ → A) (a : A) → refusal cs ≡ 0 → unless cs f a ≡ a
passed cs f a e = rw e

pub stopped : {A : Type 0} (cs : List Cause) (f : ℕ → A) (a : A) (n : ℕ) → refusal cs ≡ suc n → unless cs f a ≡ f (suc n)
stopped cs f a n e = rw (e, ne_eqb (suc n) 0 (λ z. omega arith))

-- no more line ends than an entry may have
pub few_lines : (K : Kind) (l : List ℕ) (cs : List Cause) → too_many_lines K l ≡ false → refusal (many_lines K l ∷ cs) ≡ refusal cs
unfolding refusal
few_lines K l cs e = rw e

pub many_lines_law : (K : Kind) (l : List ℕ) (cs : List Cause) → too_many_lines K l ≡ true → refusal (many_lines K l ∷ cs) ≡ 10
unfolding refusal
many_lines_law K l cs e = rw e

-- no lowest above a highest length
pub level_bounds : (K : Kind) (l : List ℕ) (cs : List Cause) → crossed K l ≡ false → refusal (crossed_bounds K l ∷ cs) ≡ refusal cs
unfolding refusal
level_bounds K l cs e = rw e

pub crossed_bounds_law : (K : Kind) (l : List ℕ) (cs : List Cause) → crossed K l ≡ true → refusal (crossed_bounds K l ∷ cs) ≡ 20
unfolding refusal
crossed_bounds_law K l cs e = rw e

-- a cause that doesn't apply
pub clear : (n : ℕ) (b : Bool) (cs : List Cause) → n ≢ 0 → refusal (cause n b ∷ cs) ≡ 0 → (b ≡ false) × (refusal cs ≡ 0)
unfolding refusal
clear n true cs d e = absurd (d e)
clear n false cs d e = (refl, e)

-- the first of some slots that holds a child
pub index_lift : (c k : ℕ) (xs : List (List ℕ)) → index_of c (map slot_of xs) < length xs → index_from c k xs ≡ Some (k + index_of c (map slot_of xs))
unfolding index_from
index_lift c k [] h = absurd (not-suc-le-zero h)
index_lift c k (x ∷ xs) h = elim (ℕ_discrete (child x) c) [
  | yes q ↦ (let z : k ≡ k + 0 = omega arith in rw (eq-eqb (child x) c q, index_of) (ap Some z))
  | no ne ↦ (let e : index_of c (map slot_of (x ∷ xs)) ≡ suc (index_of c (map slot_of xs)) = rw (ne_eqb (child x) c ne, index_of) in
      rw (ne_eqb (child x) c ne, index_of) (index_lift c (k + 1) xs (omega arith) ∙ ap Some (let z : k + 1 + index_of c (map slot_of xs) ≡ k + suc (index_of c (map slot_of xs)) = omega arith in z)))
]

module _ (K : Kind) (t : State) (w : Coherent K t) where
  -- good fan, limit and areas
  pub good_size : (cs : List Cause) → refusal (bad_size t.head.fan t.head.limit ∷ cs) ≡ refusal cs
  unfolding refusal
  good_size cs = rw (le-ltb t.head.fan 4 w.fan_least, le-ltb 32 t.head.fan w.fan_most, le-ltb t.head.limit 1 w.limit_least, le-ltb 65536 t.head.limit w.limit_most)

  pub good_areas : (cs : List Cause) → refusal (bad_size t.head.fan t.head.limit ∷ too_short (shape_in (stride K) t) t.head.limit t.leaves t.inners t.homes ∷ cs) ≡ refusal cs
  unfolding refusal
  good_areas cs =
      let g = shape_in (stride K) t in
      good_size (too_short g t.head.limit t.leaves t.inners t.homes ∷ cs)
      ∙ rw (le-ltb (length t.leaves) (g.nodes * g.size) w.leaf_area, le-ltb (length t.inners) (g.nodes * g.size) w.inner_area, le-ltb (length t.homes) t.head.limit w.home_area)

  pub opens : (cs : List Cause) → refusal (opening K t ++ cs) ≡ refusal cs
  unfolding opening refusal
  opens cs =
      let h = t.head in
      let g = shape_in (stride K) t in
      let lv = levels_most (tree_of (stride K) t) (body_of (stride K) t K.effect w) in
      let rt : h.root.0 < h.inners = (body_of (stride K) t K.effect w).fit.root_in in
      good_areas (astray g h ∷ cs) ∙ rw (
        lt-leb g.nodes h.root.0 (omega (arith, w.inner_count)),
        le-ltb h.levels 1 w.levels_least,
        le-ltb 15 h.levels lv,
        le-ltb g.nodes h.leaves w.leaf_count,
        le-ltb g.nodes h.inners w.inner_count,
        le-ltb h.limit h.entries w.entry_count,
      )

  -- a cursor of now, at a slot in use
  pub fresh : (k j : ℕ) (cs : List Cause) → k < t.head.leaves → j < (leaf_in (stride K) t k).len → refusal (stale K t (cursor_at t.head.stamp k j) ++ cs) ≡ refusal cs
  unfolding refusal
  fresh k j cs lk lj = rw (eq-eqb t.head.stamp t.head.stamp refl, lt-leb t.head.leaves k lk, lt-leb (leaf_in (stride K) t k).len j lj)

  -- nor is its leaf overfull
  pub fresh_at : (k j : ℕ) (cs : List Cause) → k < t.head.leaves → j < (leaf_in (stride K) t k).len → refusal (at_cursor K t (cursor_at t.head.stamp k j) ++ cs) ≡ refusal cs
  unfolding refusal
  fresh_at k j cs lk lj = fresh k j (overfull K t (cursor_at t.head.stamp k j) ∷ cs) lk lj ∙ rw (le-ltb t.head.fan (leaf_in (stride K) t k).len (w.leaf_filled k lk).high)

  pub known : (i : ℕ) (cs : List Cause) → i < t.head.entries → refusal (no_such_id t i ∷ cs) ≡ refusal cs
  unfolding refusal
  known i cs lt = rw (lt-leb t.head.entries i lt)

  pub unknown : (i : ℕ) (cs : List Cause) → t.head.entries ≤ i → refusal (no_such_id t i ∷ cs) ≡ 4
  unfolding refusal
  unknown i cs le = rw (le-leb t.head.entries i le)

  -- where the entry of an id stands
  pub record EntryFound (i : ℕ) : Type 0 where
    pub leaf : ℕ
    pub slot : ℕ
    pub cur : Cur K.effect (tree_of (stride K) t) i leaf slot
    pub is : calls.cursor K t i ≡ Ok (cursor_at t.head.stamp leaf slot)
    pub leaf_in_law : leaf < t.head.leaves
    pub slot_in_law : slot < (leaf_in (stride K) t leaf).len

  -- its leaf is its home, its slot the first that holds it
  own_slot : (i : ℕ) → i < t.head.entries → (get_or t.homes i 0 < t.head.leaves) × (index_of i (slots_of (leaf_in (stride K) t (get_or t.homes i 0))) < length (slots_of (leaf_in (stride K) t (get_or t.homes i 0))))
  own_slot i lt =
      let c : Cur K.effect (tree_of (stride K) t) i (get_or t.homes i 0) (index_of i (slots_of (leaf_in (stride K) t (get_or t.homes i 0)))) = cur K.effect (tree_of (stride K) t) (sound_of (stride K) t K.effect w) i lt in
      (leaf_here (tree_of (stride K) t) c.A (get_or t.homes i 0) c.B (above (tree_of (stride K) t)) c.body, c.inside)

  pub cursor_is : (i : ℕ) → i < t.head.entries → calls.cursor K t i ≡ Ok (cursor_at t.head.stamp (get_or t.homes i 0) (index_of i (slots_of (leaf_in (stride K) t (get_or t.homes i 0)))))
  unfolding calls.cursor refusal
  cursor_is i lt =
      let k : ℕ = get_or t.homes i 0 in
      let n : Node = leaf_in (stride K) t k in
      let j : ℕ = index_of i (slots_of n) in
      let o = own_slot i lt in
      let lm : length (slots_of n) ≡ length (used n) = length-map (used n) slot_of in
      let z : 0 + j ≡ j = omega arith in
      passed (opening K t ++ no_such_id t i ∷ []) Err _ (opens (no_such_id t i ∷ []) ∙ known i [] lt)
      ∙ rw (lt-ltb k t.head.leaves o.0, le-leb n.len t.head.fan (w.leaf_filled k o.0).high, index_lift i 0 (used n) (let y = o.1 in omega arith), z)

  pub entry_found : (i : ℕ) → i < t.head.entries → EntryFound i
  entry_found i lt =
      let k : ℕ = get_or t.homes i 0 in
      let o = own_slot i lt in
      record {
        leaf = k;
        slot = index_of i (slots_of (leaf_in (stride K) t k));
        cur = cur K.effect (tree_of (stride K) t) (sound_of (stride K) t K.effect w) i lt;
        is = cursor_is i lt;
        leaf_in_law = o.0;
        slot_in_law = (let sz : length (slots_of (leaf_in (stride K) t k)) ≡ (leaf_in (stride K) t k).len = size_is (stride K) t.head.fan (leaf_in (stride K) t k) ((neat_of (stride K) t K.effect w).leaf_tidy k o.0) in let y = o.1 in omega arith);
      }

  pub entry_absent : (i : ℕ) → t.head.entries ≤ i → calls.cursor K t i ≡ Err 4
  unfolding calls.cursor refusal
  entry_absent i le = stopped (opening K t ++ no_such_id t i ∷ []) Err _ 3 (opens (no_such_id t i ∷ []) ∙ unknown i [] le)
