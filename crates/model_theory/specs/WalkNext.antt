-- Down an edge of the tree and on to the next leaf: the model's walks come to the leaves that the order of the levels gives.
use Rattle.model.specs.declared.number.LeafNo.{LeafNo}
use Rattle.model.specs.declared.way.Broken.{Broken}
use Rattle.std.specs.Prelude.{◌≡◌, Bool, true, false, ℕ, zero, suc, ◌+◌, ◌-◌, ◌≤◌, ◌<◌, ltb, get_or, Ok, Some, None, Option, Result}
use Rattle.std.proofs.Math.Path.{refl, ap, subst}
use Rattle.std.proofs.Common.{sym, ap₂, ◌∙◌, not-suc-le-zero, add-one, arith, length-append}
use mathlib.Core.List.{List, [], ◌∷◌, ◌++◌, map, append_assoc}
use Rattle.std.proofs.Math.ListN.{length, length-map}
use borrow.Author.Tests.{lt-ltb, le-ltb, le-leb, ltb-true, ltb-false}
use Rattle.model.specs.Lists.{All}
use Rattle.model.specs.Node.{Node, child, used}
use Rattle.model.specs.State.{State}
use Rattle.model.specs.Climb.{leaf_no, first_down, last_down, next_up}
use Rattle.model.specs.Sound.{shape_in, leaf_in, inner_in}
use Rattle.model_tree.specs.Lists.{cat, cat_append, all_map, all_map₂, all_right}
use Rattle.model_tree.specs.Levels.{no_slot, Slot, Area, Links, total, Parent, find_parent}
use Rattle.model_tree.specs.Next.{NodeOrEnd, node, end, first_of, next_of, head_of, next_is}
use Rattle.model_tree.specs.Sound.{kids_of, lvl}
use Rattle.model_tree.specs.Pigeon.{In}
use Rattle.model_tree.specs.Cursor.{last_child, last_at, first_at}
use Rattle.model_tree.specs.Tree.{order, above, Body}
use Rattle.model_tree.specs.Place.{full}
use Rattle.model_tree.specs.CheckBack.{all_in_at, level_in_law}
use Rattle.model_tree.specs.Check.{level_at}
use Rattle.model_theory.specs.WordTidy.{Tidy, slot_used}
use Rattle.model_theory.specs.LiftTree.{slot_of, slots_of, area_of, tree_of}
use Rattle.model_theory.specs.LiftMarks.{get_d_slot}
use Rattle.model_theory.specs.WordNeat.{Neat, size_is}
use Rattle.model_theory.specs.WalkUp.{is_inside}

-- a child of a node of a list stands among the children of all
in_kids : (up : Area) (q c : ℕ) (P : List ℕ) → In q P → In c (kids_of up q) → In c (cat (kids_of up) P)
in_kids up q c P i j = record {
  before = cat (kids_of up) i.before ++ j.before;
  after = j.after ++ cat (kids_of up) i.after;
  row = ap (cat (kids_of up)) i.row ∙ cat_append (kids_of up) i.before (q ∷ i.after)
      ∙ ap (λ (l : List ℕ). cat (kids_of up) i.before ++ (l ++ cat (kids_of up) i.after)) j.row
      ∙ regroup (cat (kids_of up) i.before) j.before (c ∷ j.after) (cat (kids_of up) i.after);
}
  where
    regroup : (X T D Y : List ℕ) → X ++ ((T ++ D) ++ Y) ≡ (X ++ T) ++ (D ++ Y)
    regroup X T D Y = simp append_assoc

in_slot : (ss : List Slot) (i : ℕ) → i < length ss → In (get_or ss i no_slot).child (map (λ (x : Slot). x.child) ss)
in_slot [] i h = absurd (not-suc-le-zero h)
in_slot (x ∷ ss) zero h = record { before = []; after = map (λ (y : Slot). y.child) ss; row = refl }
in_slot (x ∷ ss) (suc i) h =
    let r = in_slot ss i (omega arith) in
    record { before = x.child ∷ r.before; after = r.after; row = ap {B = List ℕ} (λ l. x.child ∷ l) r.row }

-- down by first slots, and by last ones
abbrev pub first_from : Area → ℕ → ℕ → ℕ
first_from up q zero = q
first_from up q (suc d) = first_from up (get_or (up.slots q) 0 no_slot).child d

abbrev pub last_from : Area → ℕ → ℕ → ℕ
last_from up q zero = q
last_from up q (suc d) = last_from up (last_child (up.slots q)) d

pub first_top : (up : Area) (q d : ℕ) → first_from up q d ≡ first_at up q d
first_top up q zero = refl
first_top up q (suc d) = first_top up (get_or (up.slots q) 0 no_slot).child d ∙ shift d
  where
    shift : (d : ℕ) → first_at up (get_or (up.slots q) 0 no_slot).child d ≡ first_at up q (suc d)
    shift zero = refl
    shift (suc d) = ap (λ (p : ℕ). (get_or (up.slots p) 0 no_slot).child) (shift d)

pub last_top : (up : Area) (q d : ℕ) → last_from up q d ≡ last_at up q d
last_top up q zero = refl
last_top up q (suc d) = last_top up (last_child (up.slots q)) d ∙ shift d
  where
    shift : (d : ℕ) → last_at up (last_child (up.slots q)) d ≡ last_at up q (suc d)
    shift zero = refl
    shift (suc d) = ap (λ (p : ℕ). last_child (up.slots p)) (shift d)

-- the first of the leaves that come after
abbrev pub leaf_head : List ℕ → Result (Option LeafNo) Broken
leaf_head [] = Ok None
leaf_head (q ∷ B) = Ok (Some (leaf_no q))

module _ (s : ℕ) (t : State) (nt : Neat s t) (b : Body (tree_of s t)) where
  -- a node of a level above the leaves
  inner_here : (d q : ℕ) → d < t.head.levels → In q (lvl (tree_of s t).body.inner t.head.root.0 d) → (q < t.head.inners) × (1 ≤ length (slots_of (inner_in s t q)))
  inner_here d q lt i = (
    all_in_at (λ k. k < t.head.inners) q (lvl (tree_of s t).body.inner t.head.root.0 d) i (level_in_law (tree_of s t) b d lt),
    all_in_at (λ k. 1 ≤ length (slots_of (inner_in s t k))) q (lvl (tree_of s t).body.inner t.head.root.0 d) i
        (level_at (tree_of s t).body.inner t.head.root.0 (All (λ k. 1 ≤ length (slots_of (inner_in s t k)))) t.head.levels d lt (full (tree_of s t) b)),
  )

  leaf_here : (q : ℕ) → In q (order (tree_of s t)) → q < t.head.leaves
  leaf_here q i = all_in_at (λ k. k < t.head.leaves) q (order (tree_of s t)) i b.leaf_in_law

  -- a slot of an inner node in use
  pub slot_child : (q i : ℕ) → q < t.head.inners → i < length (slots_of (inner_in s t q)) → child (get_or (inner_in s t q).slots i []) ≡ (get_or (slots_of (inner_in s t q)) i no_slot).child
  slot_child q i lq li =
      let td : Tidy s t.head.fan (inner_in s t q) = nt.inner_tidy q lq in
      let z : length (slots_of (inner_in s t q)) ≡ length (used (inner_in s t q)) = length-map (used (inner_in s t q)) slot_of in
      ap child (slot_used s t.head.fan (inner_in s t q) td i [] (omega arith)) ∙ ap (λ (x : Slot). x.child) (sym (get_d_slot (used (inner_in s t q)) i (omega arith)))

  first_step : (d q : ℕ) → q < t.head.inners → 1 ≤ length (slots_of (inner_in s t q)) → first_down (shape_in s t) (suc d) q t.inners ≡ first_down (shape_in s t) d (get_or (slots_of (inner_in s t q)) 0 no_slot).child t.inners
  unfolding first_down
  first_step d q lq h = rw (lt-ltb q (shape_in s t).nodes (omega (arith, nt.inner_count)), slot_child q 0 lq h)

  first_leaf : (q : ℕ) → q < t.head.leaves → first_down (shape_in s t) 0 q t.inners ≡ Ok (Some (leaf_no q))
  unfolding first_down
  first_leaf q lt = rw (lt-ltb q (shape_in s t).nodes (omega (arith, nt.leaf_count)))

  pub first_down_law : (d e q : ℕ) → e + d ≡ t.head.levels → In q (lvl (tree_of s t).body.inner t.head.root.0 e)
      → first_down (shape_in s t) d q t.inners ≡ Ok (Some (leaf_no (first_from (tree_of s t).body.inner q d)))
  first_down_law zero e q h i = first_leaf q (leaf_here q (subst (λ (n : ℕ). In q (lvl (tree_of s t).body.inner t.head.root.0 n)) (let z : e ≡ t.head.levels = omega arith in z) i))
  first_down_law (suc d) e q h i =
      let r = inner_here e q (omega arith) i in
      first_step d q r.0 r.1
      ∙ first_down_law d (suc e) (get_or (slots_of (inner_in s t q)) 0 no_slot).child (omega arith)
      (in_kids (tree_of s t).body.inner q (get_or (slots_of (inner_in s t q)) 0 no_slot).child (lvl (tree_of s t).body.inner t.head.root.0 e) i (in_slot (slots_of (inner_in s t q)) 0 r.1))

  last_step : (d q : ℕ) → q < t.head.inners → 1 ≤ length (slots_of (inner_in s t q)) → last_down (shape_in s t) (suc d) q t.inners ≡ last_down (shape_in s t) d (last_child (slots_of (inner_in s t q))) t.inners
  unfolding last_down
  last_step d q lq h =
      let sz : length (slots_of (inner_in s t q)) ≡ (inner_in s t q).len = size_is s t.head.fan (inner_in s t q) (nt.inner_tidy q lq) in
      let z : length (slots_of (inner_in s t q)) ≡ length (used (inner_in s t q)) = length-map (used (inner_in s t q)) slot_of in
      rw (
        lt-ltb q (shape_in s t).nodes (omega (arith, nt.inner_count)),
        lt-ltb 0 (inner_in s t q).len (omega arith),
        le-leb (inner_in s t q).len t.head.fan (omega (arith, (nt.inner_tidy q lq).most)),
        ap (λ (m : ℕ). child (get_or (inner_in s t q).slots (m - 1) [])) (sym sz) ∙ slot_child q (length (slots_of (inner_in s t q)) - 1) lq (omega arith),
      )

  last_leaf_law : (q : ℕ) → q < t.head.leaves → last_down (shape_in s t) 0 q t.inners ≡ Ok (Some (leaf_no q))
  unfolding last_down
  last_leaf_law q lt = rw (lt-ltb q (shape_in s t).nodes (omega (arith, nt.leaf_count)))

  pub last_down_law : (d e q : ℕ) → e + d ≡ t.head.levels → In q (lvl (tree_of s t).body.inner t.head.root.0 e)
      → last_down (shape_in s t) d q t.inners ≡ Ok (Some (leaf_no (last_from (tree_of s t).body.inner q d)))
  last_down_law zero e q h i = last_leaf_law q (leaf_here q (subst (λ (n : ℕ). In q (lvl (tree_of s t).body.inner t.head.root.0 n)) (let z : e ≡ t.head.levels = omega arith in z) i))
  last_down_law (suc d) e q h i =
      let r = inner_here e q (omega arith) i in
      let l : ℕ = length (slots_of (inner_in s t q)) - 1 in
      last_step d q r.0 r.1
      ∙ last_down_law d (suc e) (last_child (slots_of (inner_in s t q))) (omega arith)
      (in_kids (tree_of s t).body.inner q (last_child (slots_of (inner_in s t q))) (lvl (tree_of s t).body.inner t.head.root.0 e) i (in_slot (slots_of (inner_in s t q)) l (let z = r.1 in omega arith)))

  -- on to the next leaf
  step_down : ℕ → NodeOrEnd → Result (Option LeafNo) Broken
  step_down d (node q) = first_down (shape_in s t) d q t.inners
  step_down d end = Ok None

  InUse : ℕ → Type 0
  InUse q = (q < t.head.inners) × (1 ≤ length (slots_of (inner_in s t q)))

  head_down : (d : ℕ) (P : List ℕ) → All InUse P → step_down (suc d) (head_of P) ≡ step_down d (first_of (area_of (shape_in s t) t.inners) (head_of P))
  unfolding All step_down InUse
  head_down d [] h = refl
  head_down d (q ∷ P) h = first_step d q h.0.0 h.0.1

  next_up_law : (u : ℕ → ℕ → ℕ) (low : Area) (root d : ℕ) (A : List ℕ) (c : ℕ) (B : List ℕ) (st : List (List ℕ))
      → Links u low (area_of (shape_in s t) t.inners) root (A ++ c ∷ B) st → All (All InUse) st
      → next_up (shape_in s t) (length st) d (low.parent c) (low.place c) t.inners ≡ step_down d (next_of low (area_of (shape_in s t) t.inners) (length st) c)
  unfolding All next_up step_down InUse
  next_up_law u low root d A c B [] l h = refl
  next_up_law u low root d A c B (P ∷ st) l h =
      go (find_parent u low up A c B P l.0) (λ P₁ P₂ e. next_up_law (total up) up root (d + 1) P₁ (low.parent c) P₂ st (subst (λ (Q : List ℕ). Links (total up) up up root Q st) e l.1) h.1)
    where
      up : Area
      up = area_of (shape_in s t) t.inners

      go : (r : Parent u low (area_of (shape_in s t) t.inners) A c B P)
          → ((P₁ P₂ : List ℕ) → P ≡ P₁ ++ low.parent c ∷ P₂ → next_up (shape_in s t) (length st) (d + 1) (inner_in s t (low.parent c)).parent (inner_in s t (low.parent c)).at t.inners ≡ step_down (d + 1) (next_of (area_of (shape_in s t) t.inners) (area_of (shape_in s t) t.inners) (length st) (low.parent c)))
          → next_up (shape_in s t) (length (P ∷ st)) d (low.parent c) (low.place c) t.inners ≡ step_down d (next_of low (area_of (shape_in s t) t.inners) (length (P ∷ st)) c)
      go r ih = case (ltb (suc i) (length (slots_of n))) refl
        where
          p : ℕ
          p = low.parent c

          i : ℕ
          i = low.place c

          n : Node
          n = inner_in s t (low.parent c)

          uses : All InUse (r.P₁ ++ low.parent c ∷ r.P₂)
          uses = subst (All InUse) r.row h.0

          lp : low.parent c < t.head.inners
          lp = (all_right InUse r.P₁ (low.parent c ∷ r.P₂) uses).0.0

          sz : length (slots_of (inner_in s t (low.parent c))) ≡ (inner_in s t (low.parent c)).len
          sz = size_is s t.head.fan (inner_in s t (low.parent c)) (nt.inner_tidy (low.parent c) lp)

          li : low.place c < length (slots_of (inner_in s t (low.parent c)))
          li = (let z : length (slots_of (inner_in s t (low.parent c))) ≡ length r.S₁ + suc (length r.S₂) = ap length r.slots ∙ length-append r.S₁ (r.s ∷ r.S₂) in omega (arith, r.place))

          lf : (inner_in s t (low.parent c)).len ≤ t.head.fan
          lf = (let z : length (slots_of (inner_in s t (low.parent c))) ≡ length (used (inner_in s t (low.parent c))) = length-map (used (inner_in s t (low.parent c))) slot_of in omega (arith, sz, (nt.inner_tidy (low.parent c) lp).most))

          nx : next_of (area_of (shape_in s t) t.inners) (area_of (shape_in s t) t.inners) (length st) (low.parent c) ≡ head_of r.P₂
          nx = next_is (total (area_of (shape_in s t) t.inners)) (area_of (shape_in s t) t.inners) (area_of (shape_in s t) t.inners) root r.P₁ (low.parent c) r.P₂ st
              (subst (λ (Q : List ℕ). Links (total (area_of (shape_in s t) t.inners)) (area_of (shape_in s t) t.inners) (area_of (shape_in s t) t.inners) root Q st) r.row l.1)
              (all_map (All InUse) (All (λ q. 1 ≤ length (slots_of (inner_in s t q)))) (λ Q x. all_map InUse (λ q. 1 ≤ length (slots_of (inner_in s t q))) (λ q y. y.1) Q x) st h.1)

          case : (b : Bool) → ltb (suc (low.place c)) (length (slots_of (inner_in s t (low.parent c)))) ≡ b
              → next_up (shape_in s t) (length (P ∷ st)) d (low.parent c) (low.place c) t.inners ≡ step_down d (next_of low (area_of (shape_in s t) t.inners) (length (P ∷ st)) c)
          case true q =
              let lt : suc (low.place c) < length (slots_of (inner_in s t (low.parent c))) = ltb-true (suc (low.place c)) (length (slots_of (inner_in s t (low.parent c)))) q in
              rw (
                q,
                next_of,
                is_inside s t nt (low.parent c) (low.place c) lp li,
                lt-ltb (low.place c) (inner_in s t (low.parent c)).len (omega (arith, sz, li)),
                le-leb (inner_in s t (low.parent c)).len t.head.fan lf,
                lt-ltb (low.place c + 1) (inner_in s t (low.parent c)).len (omega (arith, sz)),
                add-one (low.place c),
                slot_child (low.parent c) (suc (low.place c)) lp lt,
              )
          case false q =
              let ge : length (slots_of (inner_in s t (low.parent c))) ≤ suc (low.place c) = ltb-false (suc (low.place c)) (length (slots_of (inner_in s t (low.parent c)))) q in
              rw (
                q,
                next_of,
                is_inside s t nt (low.parent c) (low.place c) lp li,
                lt-ltb (low.place c) (inner_in s t (low.parent c)).len (omega (arith, sz, li)),
                le-leb (inner_in s t (low.parent c)).len t.head.fan lf,
                le-ltb (low.place c + 1) (inner_in s t (low.parent c)).len (omega (arith, sz)),
              )
              (ih r.P₁ r.P₂ r.row ∙ ap₂ step_down (add-one d) nx ∙ head_down d r.P₂ (all_right InUse r.P₁ (low.parent c ∷ r.P₂) uses).1 ∙ ap (λ (z : NodeOrEnd). step_down d (first_of (area_of (shape_in s t) t.inners) z)) (sym nx))

  in_use_law : All (All InUse) (above (tree_of s t))
  unfolding InUse
  in_use_law = all_map₂ (All (λ q. q < t.head.inners)) (All (λ q. 1 ≤ length (slots_of (inner_in s t q)))) (All InUse)
      (λ Q x y. all_map₂ (λ q. q < t.head.inners) (λ q. 1 ≤ length (slots_of (inner_in s t q))) InUse (λ q a c. (a, c)) Q x y) (above (tree_of s t)) b.inner_in_law (full (tree_of s t) b)

  -- the leaf after leaf k
  pub next_leaf : (A : List ℕ) (k : ℕ) (B : List ℕ) → order (tree_of s t) ≡ A ++ k ∷ B
      → next_up (shape_in s t) t.head.levels 0 (leaf_in s t k).parent (leaf_in s t k).at t.inners ≡ leaf_head B
  unfolding step_down All
  next_leaf A k B o =
      let low : Area = (tree_of s t).body.leaf in
      let up : Area = (tree_of s t).body.inner in
      let l : Links (total low) low up t.head.root.0 (A ++ k ∷ B) (above (tree_of s t)) = subst (λ (C : List ℕ). Links (total low) low up t.head.root.0 C (above (tree_of s t))) o b.links in
      let e : length (above (tree_of s t)) ≡ t.head.levels = b.deep in
      subst (λ (n : ℕ). next_up (shape_in s t) n 0 (leaf_in s t k).parent (leaf_in s t k).at t.inners ≡ leaf_head B) e
      (next_up_law (total low) low t.head.root.0 0 A k B (above (tree_of s t)) l in_use_law
      ∙ ap (step_down 0) (next_is (total low) low up t.head.root.0 A k B (above (tree_of s t)) l (full (tree_of s t) b))
      ∙ leaves B (all_right (λ q. q < t.head.leaves) A (k ∷ B) (subst (All (λ q. q < t.head.leaves)) o b.leaf_in_law)).1)
    where
      leaves : (B : List ℕ) → All (λ q. q < t.head.leaves) B → step_down 0 (head_of B) ≡ leaf_head B
      leaves [] h = refl
      leaves (q ∷ B) h = first_leaf q h.0
