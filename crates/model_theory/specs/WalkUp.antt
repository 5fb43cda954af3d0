-- The way from a leaf up to the root: every link on it leads to a node in use and every place to a slot in use, so the model's walks along it are not broken.
use Rattle.std.specs.Prelude.{◌≡◌, true, List, [], ◌∷◌, ◌++◌, take, Ok}
use Rattle.std.proofs.Math.Path.{refl, sym, ap}
use Rattle.std.proofs.Common.{◌∙◌, subst, append_assoc, length-append, lt-ltb}
use Prim.Native.Nat.{ℕ, zero, suc, ◌+◌, ◌≤◌, ◌<◌}
use native.Mathlib.Omega.{arith}
use Rattle.std.proofs.Math.ListN.{length}
use Rattle.std.proofs.lemmas.List.{length-map}
use Rattle.model.specs.Lists.{All, sum_by}
use Rattle.model.specs.Node as node
use Rattle.model.specs.Node.{used, start}
use Rattle.model.specs.State.{State}
use Rattle.model.specs.Climb.{inside, rank_up, steps_up}
use Rattle.model.specs.Sound.{shape_in, leaf_in, inner_in}
use Rattle.model_tree.specs.Lists.{all_right}
use Rattle.model_tree.specs.Levels.{Area, Links, total, len, climb, Parent, find_parent}
use Rattle.model_tree.specs.Next.{path}
use Rattle.model_theory.specs.WordTidy.{Tidy, slots_before_law}
use Rattle.model_theory.specs.LiftTree.{slot_of, slots_of, area_of}
use Rattle.model_theory.specs.WordNeat.{Neat}
use Rattle.model_theory.specs.LiftSound.{sum_take}

-- d links up from node c of the area low, each to one of n inner nodes
abbrev pub WayUp : Area → Area → ℕ → ℕ → ℕ → Type 0
WayUp low up n zero c = Unit {0}
WayUp low up n (suc d) c = (low.parent c < n) × (low.place c < length (up.slots (low.parent c))) × WayUp up up n d (low.parent c)

pub way : (t : ℕ → ℕ → ℕ) (low up : Area) (root n : ℕ) (A : List ℕ) (c : ℕ) (B : List ℕ) (st : List (List ℕ))
    → Links t low up root (A ++ c ∷ B) st → All (All (λ k. k < n)) st → WayUp low up n (length st) c
unfolding All
way t low up root n A c B [] l h = tt
way t low up root n A c B (P ∷ st) l h =
    let r : Parent t low up A c B P = find_parent t low up A c B P l.0 in
    let ll : length (up.slots (low.parent c)) ≡ length r.S₁ + suc (length r.S₂) = ap length r.slots ∙ length-append r.S₁ (r.s ∷ r.S₂) in (
      (all_right (λ k. k < n) r.P₁ (low.parent c ∷ r.P₂) (subst (All (λ k. k < n)) r.row h.0)).0,
      omega (arith, r.place),
      way (total up) up up root n r.P₁ (low.parent c) r.P₂ st (subst (λ (Q : List ℕ). Links (total up) up up root Q st) r.row l.1) h.1,
    )

module _ (s : ℕ) (t : State) (nt : Neat s t) where
  -- the lengths before a place of a node in use
  pub start_inner : (v i k : ℕ) → k < t.head.inners → i ≤ length (slots_of (inner_in s t k)) → start v i (inner_in s t k) ≡ sum_by (len v) (take i (slots_of (inner_in s t k)))
  start_inner v i k lk h =
      let td : Tidy s t.head.fan (inner_in s t k) = nt.inner_tidy k lk in
      ap (node.total v) (slots_before_law s t.head.fan (inner_in s t k) td i (let z : length (slots_of (inner_in s t k)) ≡ length (used (inner_in s t k)) = length-map (used (inner_in s t k)) slot_of in omega arith))
      ∙ sum_take v i (used (inner_in s t k))

  pub start_leaf : (v i k : ℕ) → k < t.head.leaves → i ≤ length (slots_of (leaf_in s t k)) → start v i (leaf_in s t k) ≡ sum_by (len v) (take i (slots_of (leaf_in s t k)))
  start_leaf v i k lk h =
      let td : Tidy s t.head.fan (leaf_in s t k) = nt.leaf_tidy k lk in
      ap (node.total v) (slots_before_law s t.head.fan (leaf_in s t k) td i (let z : length (slots_of (leaf_in s t k)) ≡ length (used (leaf_in s t k)) = length-map (used (leaf_in s t k)) slot_of in omega arith))
      ∙ sum_take v i (used (leaf_in s t k))

  -- a place of the way is inside
  pub is_inside : (k i : ℕ) → k < t.head.inners → i < length (slots_of (inner_in s t k)) → inside (shape_in s t) k i ≡ true
  is_inside k i lk li =
      let m : length (used (inner_in s t k)) ≤ t.head.fan = (nt.inner_tidy k lk).most in
      let z : length (slots_of (inner_in s t k)) ≡ length (used (inner_in s t k)) = length-map (used (inner_in s t k)) slot_of in
      rw (lt-ltb k (shape_in s t).nodes (omega (arith, nt.inner_count)), lt-ltb i t.head.fan (omega arith))

  -- sums on the way up are those of `climb`
  pub rank_up_law : (v d : ℕ) (low : Area) (c a : ℕ) → WayUp low (area_of (shape_in s t) t.inners) t.head.inners d c
      → rank_up (shape_in s t) v d (low.parent c) (low.place c) a t.inners ≡ Ok (a + climb v low (area_of (shape_in s t) t.inners) d c)
  unfolding rank_up
  rank_up_law v zero low c a w = ap Ok (let z : a ≡ a + 0 = omega arith in z)
  rank_up_law v (suc d) low c a w =
      let up : Area = area_of (shape_in s t) t.inners in
      let p : ℕ = low.parent c in
      let i : ℕ = low.place c in
      let lp : p < t.head.inners = w.0 in
      let li : i < length (slots_of (inner_in s t p)) = w.1 in
      rw (is_inside p i lp li, start_inner v i p lp (omega arith))
      (rank_up_law v d up p (a + sum_by (len v) (take i (slots_of (inner_in s t p)))) w.2 ∙ ap Ok (let z : a + sum_by (len v) (take i (slots_of (inner_in s t p))) + climb v up up d p ≡ a + (sum_by (len v) (take i (slots_of (inner_in s t p))) + climb v up up d p) = omega arith in z))

  -- the places on the way up are the path
  pub steps_up_law : (d : ℕ) (low : Area) (c : ℕ) (steps : List ℕ) → WayUp low (area_of (shape_in s t) t.inners) t.head.inners d c
      → steps_up (shape_in s t) d (low.parent c) (low.place c) steps t.inners ≡ path low (area_of (shape_in s t) t.inners) d c ++ steps
  unfolding steps_up
  steps_up_law zero low c steps w = refl
  steps_up_law (suc d) low c steps w =
      let up : Area = area_of (shape_in s t) t.inners in
      let p : ℕ = low.parent c in
      rw (is_inside p (low.place c) w.0 w.1) (steps_up_law d up p (low.place c ∷ steps) w.2 ∙ sym (append_assoc (path up up d p) (low.place c ∷ []) steps))
