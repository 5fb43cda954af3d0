-- Room for one entry more: the model's `make_room` is the abstract one; and the climb above a leaf of a neat state.
use Rattle.std.specs.Prelude.{◌≡◌, refl, Bool, true, false, cond, List, ◌∷◌, ◌++◌, ℕ, ◌+◌, ◌-◌, ◌<◌, ◌≤◌, ltb, length, take, Ok}
use Rattle.std.proofs.Common.{sym, ap, ◌∙◌, subst, arith, lt-ltb, le-ltb, le-leb}
use Rattle.std.proofs.Math.Decide.{dec_lt}
use Rattle.model.specs.Lists.{sum_by}
use Rattle.model.specs.Node.{start, half}
use Rattle.model.specs.State.{State, state, head_of}
use Rattle.model.specs.Climb.{rank_up}
use Rattle.model.specs.Place as place
use Rattle.model.specs.Place.{change}
use Rattle.model.specs.Sound.{shape_in, leaf_in}
use Rattle.model_tree.specs.Lists.{cat}
use Rattle.model_tree.specs.Levels.{total, len, climb}
use Rattle.model_tree.specs.Tree.{Tree, leaf_slots, BodyAt}
use Rattle.model_tree.specs.Follows.{reals}
use Rattle.model_tree.specs.Edit.{leaf_here}
use Rattle.model_tree.specs.Split.{split_full}
use Rattle.model_tree.specs.Calls.{spot, make_room, rank_here}
use Rattle.model_theory.specs.LiftTree.{slots_of, tree_of}
use Rattle.model_theory.specs.WordNeat.{Neat, size_is}
use Rattle.model_theory.specs.WordPut.{inner_keeps}
use Rattle.model_theory.specs.WalkUp.{WayUp, way, start_leaf, rank_up_law}
use Rattle.model_theory.specs.ChangeSums.{Up, up_of, ClimbCarried, climb_up_law}
use Rattle.model_theory.specs.ChangeSplitLeaf.{parted_is}

-- a state that differs from t in the nodes and the counts of nodes only
abbrev pub grown_state : State → ℕ → ℕ → ℕ → ℕ → List ℕ → List ℕ → List ℕ → State
grown_state t root levels leaves inners ls xs hs = state (head_of t.head.fan t.head.limit root levels leaves inners t.head.entries t.head.stamp t.head.finger) ls xs hs

-- a full leaf is split, and the slot is one of a half
full_room : (T : Tree) (k i : ℕ) → T.fan ≤ length (leaf_slots T k) → make_room T k i ≡ (let low : Bool = ltb i (half T.fan) in spot (split_full T k) (cond low k T.leaves) (cond low i (i - half T.fan)))
full_room T k i ge = go (ltb i (half T.fan)) refl
  where
    go : (low : Bool) → ltb i (half T.fan) ≡ low → make_room T k i ≡ spot (split_full T k) (cond (ltb i (half T.fan)) k T.leaves) (cond (ltb i (half T.fan)) i (i - half T.fan))
    go true q = rw (le-ltb (length (leaf_slots T k)) T.fan ge, q, make_room)
    go false q = rw (le-ltb (length (leaf_slots T k)) T.fan ge, q, make_room)

half_change : (low : Bool) (t : State) (k n i j : ℕ) → cond low (change 0 t k i) (change 0 t n j) ≡ change 0 t (cond low k n) (cond low i j)
half_change true t k n i j = refl
half_change false t k n i j = refl

pub record Roomed (s : ℕ) (t : State) (k i : ℕ) : Type 0 where
  pub root : ℕ
  pub levels : ℕ
  pub leaves : ℕ
  pub inners : ℕ
  pub ls : List ℕ
  pub xs : List ℕ
  pub hs : List ℕ
  pub leaf : ℕ
  pub slot : ℕ
  pub is : place.make_room (shape_in s t) t k i ≡ change 0 (grown_state t root levels leaves inners ls xs hs) leaf slot
  pub spot : spot (tree_of s (grown_state t root levels leaves inners ls xs hs)) leaf slot ≡ make_room (tree_of s t) k i
  pub neat : Neat s (grown_state t root levels leaves inners ls xs hs)

module _ (s : ℕ) (pos : 0 < s) (t : State) (nt : Neat s t) (A : List ℕ) (k : ℕ) (B : List ℕ) (st : List (List ℕ)) (b : BodyAt (tree_of s t) (A ++ k ∷ B) st) where
  pub roomed : (i : ℕ) → i ≤ length (slots_of (leaf_in s t k)) → Roomed s t k i
  unfolding place.make_room
  roomed i le = go (dec_lt (length (slots_of (leaf_in s t k))) t.head.fan)
    where
      lk : k < t.head.leaves
      lk = leaf_here (tree_of s t) A k B st b

      sz : length (slots_of (leaf_in s t k)) ≡ (leaf_in s t k).len
      sz = size_is s t.head.fan (leaf_in s t k) (nt.leaf_tidy k lk)

      lm : length (slots_of (leaf_in s t k)) ≤ t.head.fan
      lm = b.leaf_most k lk

      ok : place.make_room (shape_in s t) t k i ≡ cond (ltb (leaf_in s t k).len t.head.fan) (change 0 t k i) (place.split_leaf (shape_in s t) t k i)
      ok = rw (lt-ltb k t.head.leaves lk, le-leb i (leaf_in s t k).len (omega (arith, sz)), le-leb (leaf_in s t k).len t.head.fan (omega (arith, sz, lm)))

      go : Dec (length (slots_of (leaf_in s t k)) < t.head.fan) → Roomed s t k i
      go (yes lt) = record {
        root = t.head.root.0;
        levels = t.head.levels;
        leaves = t.head.leaves;
        inners = t.head.inners;
        ls = t.leaves;
        xs = t.inners;
        hs = t.homes;
        leaf = k;
        slot = i;
        is = ok ∙ rw (lt-ltb (leaf_in s t k).len t.head.fan (omega (arith, sz)));
        spot = rw (lt-ltb (length (slots_of (leaf_in s t k))) t.head.fan lt, make_room);
        neat = record { leaf_area = nt.leaf_area; inner_area = nt.inner_area; home_area = nt.home_area; leaf_count = nt.leaf_count; inner_count = nt.inner_count; leaf_tidy = nt.leaf_tidy; inner_tidy = nt.inner_tidy; view = nt.view };
      }
      go (no ge) =
          let q = parted_is s pos t nt A k B st b (omega (arith, lm)) i in
          let T' : Tree = split_full (tree_of s t) k in
          let low : Bool = ltb i (half t.head.fan) in
          let leaf : ℕ = cond low k t.head.leaves in
          let slot : ℕ = cond low i (i - half t.head.fan) in
          record {
            root = T'.body.root;
            levels = T'.body.levels;
            leaves = t.head.leaves + 1;
            inners = T'.body.next;
            ls = q.leaves;
            xs = q.inners;
            hs = q.homes;
            leaf = leaf;
            slot = slot;
            is = ok ∙ rw (le-ltb (leaf_in s t k).len t.head.fan (omega (arith, sz))) (q.is ∙ half_change low (grown_state t T'.body.root T'.body.levels (t.head.leaves + 1) T'.body.next q.leaves q.inners q.homes) k t.head.leaves i (i - half t.head.fan));
            spot = ap (λ (z : Tree). spot z leaf slot) q.tree ∙ sym (full_room (tree_of s t) k i (omega arith));
            neat = q.neat;
          }

  -- the way up from leaf k
  leaf_way : WayUp (tree_of s t).body.leaf (tree_of s t).body.inner t.head.inners t.head.levels k
  leaf_way = subst (λ (d : ℕ). WayUp (tree_of s t).body.leaf (tree_of s t).body.inner t.head.inners d k) b.deep
      (way (total (tree_of s t).body.leaf) (tree_of s t).body.leaf (tree_of s t).body.inner t.head.root.0 t.head.inners A k B st b.links b.inner_in_law)

  pub climbed : (delta : List ℕ) → length delta + 1 ≡ s → (v a : ℕ) → ClimbCarried (shape_in s t) delta t.head.inners v t.head.levels (leaf_in s t k).parent (leaf_in s t k).at a t.inners
  climbed delta wide v a =
      climb_up_law (shape_in s t) refl pos delta t.head.inners wide v t.head.levels (leaf_in s t k).parent (leaf_in s t k).at a t.inners (inner_keeps s t nt)
      (subst (λ (d : ℕ). Up (tree_of s t).body.inner t.head.inners d (leaf_in s t k).parent (leaf_in s t k).at) b.deep
      (up_of (total (tree_of s t).body.leaf) (tree_of s t).body.leaf (tree_of s t).body.inner t.head.root.0 t.head.inners A k B st b.links (reals t.head.inners b.few st b.inner_in_law)
      (way (total (tree_of s t).body.leaf) (tree_of s t).body.leaf (tree_of s t).body.inner t.head.root.0 t.head.inners A k B st b.links b.inner_in_law)))

  pub rank_sum : (v j : ℕ) → j ≤ length (slots_of (leaf_in s t k))
      → rank_up (shape_in s t) v t.head.levels (leaf_in s t k).parent (leaf_in s t k).at (start v j (leaf_in s t k)) t.inners ≡ Ok (sum_by (len v) (cat (tree_of s t).body.leaf.slots A ++ take j (slots_of (leaf_in s t k))))
  rank_sum v j le =
      rank_up_law s t nt v t.head.levels (tree_of s t).body.leaf k (start v j (leaf_in s t k)) leaf_way
      ∙ ap Ok (ap (λ (m : ℕ). m + climb v (tree_of s t).body.leaf (tree_of s t).body.inner t.head.levels k) (start_leaf s t nt v j k (leaf_here (tree_of s t) A k B st b) le) ∙ rank_here (tree_of s t) A k B st b v j)
