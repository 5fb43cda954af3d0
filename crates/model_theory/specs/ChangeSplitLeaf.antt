-- A full leaf split in two: the model's `split_leaf` is the abstract `split_full`, and the nodes suffice.
use Rattle.std.proofs.Math.Path.{◌≡◌, sym, ap, ap₂, fun_ext}
use Rattle.std.specs.Prelude.{refl, ◌⊎◌, Bool, true, false, cond, List, [], ◌∷◌, ◌++◌, map, ltb, length, take, drop, set}
use Rattle.std.proofs.Common.{◌∙◌, subst, inl, inr, add-one, arith, length-set, length-drop, take-append-drop, length-take-le, get_or-set_same, get_or-set_other, lt-ltb, ltb-true, ltb-false}
use Prim.Native.Nat.{ℕ, suc, ◌+◌, ◌-◌, ◌/◌, ◌<◌, ◌≤◌}
use Rattle.std.proofs.Math.Decide.{ℕ_discrete}
use Rattle.std.proofs.Math.ListN.{get_or}
use Rattle.std.proofs.lemmas.List.{length-map}
use Rattle.model.specs.Lists.{All}
use Rattle.model.specs.Node.{Node, child, used, half, lower_half, upper_half}
use Rattle.model.specs.State.{State, state, nodes_for, put_node}
use Rattle.model.specs.Grow as grow
use Rattle.model.specs.Grow.{Areas, areas, Top, top, above_of}
use Rattle.model.specs.Place as place
use Rattle.model.specs.Place.{change, with_leaf, link_leaf}
use Rattle.model.specs.Sound.{shape_in, leaf_in}
use Rattle.model.specs.declared.shape.Shape.{Shape}
use Rattle.model_laws.specs.Lists.{all_take, all_drop}
use Rattle.model_tree.specs.Lists.{sum_by_cat, take_map, all_map}
use Rattle.model_tree.specs.Levels.{Slot, Area, total, len, none}
use Rattle.model_tree.specs.Update.{upd, upd_same, upd_other, set_slots}
use Rattle.model_tree.specs.Insert as insert
use Rattle.model_tree.specs.Insert.{Trunk, get, Into}
use Rattle.model_tree.specs.AddChild.{add_child}
use Rattle.model_tree.specs.Sound as sound
use Rattle.model_tree.specs.Sound.{cut_leaf, cut_trunk, LeafSplit, split_leaf_law}
use Rattle.model_tree.specs.Tree.{Tree, BodyAt, Body, to_body}
use Rattle.model_tree.specs.Follows.{leaves_most, inners_room, split_room}
use Rattle.model_tree.specs.Edit.{leaf_here}
use Rattle.model_tree.specs.Split as parted
use Rattle.model_tree.specs.Split.{split_full, SplitAt, split_full_law}
use Rattle.model_theory.specs.WordTidy.{Tidy, made, tidy_made, used_made, lower_made, upper_made}
use Rattle.model_theory.specs.LiftTree.{slot_of, slots_of, area_of, tree_of}
use Rattle.model_theory.specs.WordNeat.{Neat}
use Rattle.model_theory.specs.WordPut.{Keeps, leaf_keeps, inner_keeps, put_same, put_next, put_area_law, put_slots}
use Rattle.model_theory.specs.ChangeSlot.{drop_map}
use Rattle.model_theory.specs.ChangeAdopt.{trunk_of}
use Rattle.model_theory.specs.ChangeAddChild.{top_of, ReadyToAdd, Lifts, unmap, add_to_law, above_lifted}

-- homes, one set anew
pub homes_set : (hs : List ℕ) (c k : ℕ) → c < length hs → ◌≡◌ {A = ℕ → ℕ} (λ i. get_or (set hs c k) i 0) (upd (λ i. get_or hs i 0) c k)
homes_set hs c k lt = fun_ext (λ i. go i (ℕ_discrete i c))
  where
    go : (i : ℕ) → Dec (i ≡ c) → get_or (set hs c k) i 0 ≡ upd (λ j. get_or hs j 0) c k i
    go i (yes e) = ap (λ (j : ℕ). get_or (set hs c k) j 0) e ∙ get_or-set_same hs c k 0 lt ∙ sym (upd_same (λ j. get_or hs j 0) c k) ∙ ap (upd (λ j. get_or hs j 0) c k) (sym e)
    go i (no ne) = get_or-set_other hs c i k 0 ne ∙ sym (upd_other (λ j. get_or hs j 0) c k i ne)

pub record Rehomed (entries k : ℕ) (rows : List (List ℕ)) (hs : List ℕ) : Type 0 where
  pub after : List ℕ
  pub is : place.rehome entries k rows hs ≡ (0, after)
  pub long : length after ≡ length hs
  pub homes : ◌≡◌ {A = ℕ → ℕ} (λ i. get_or after i 0) (parted.rehome (λ i. get_or hs i 0) k (map slot_of rows))

pub rehome_is : (entries k : ℕ) (rows : List (List ℕ)) (hs : List ℕ) → All (λ x. child x < entries) rows → entries ≤ length hs → Rehomed entries k rows hs
unfolding place.rehome All
rehome_is entries k [] hs a le = record { after = hs; is = refl; long = refl; homes = refl }
rehome_is entries k (x ∷ rows) hs a le =
    next (rehome_is entries k rows (set hs (child x) k) a.1 (rw (length-set hs (child x) k) le))
  where
    next : Rehomed entries k rows (set hs (child x) k) → Rehomed entries k (x ∷ rows) hs
    next r = record {
      after = r.after;
      is = rw (lt-ltb (child x) entries a.0) r.is;
      long = r.long ∙ length-set hs (child x) k;
      homes = r.homes ∙ ap (λ (h : ℕ → ℕ). parted.rehome h k (map slot_of rows)) (homes_set hs (child x) k (let z = a.0 in omega arith));
    }

-- as many nodes as document 01 gives the areas
pub nodes_room : (fan limit n : ℕ) → (n ≤ 1) ⊎ (n ≤ limit / half fan) → n ≤ nodes_for fan limit
nodes_room fan limit n h = go (ltb (limit / half fan) 1) refl h
  where
    go : (b : Bool) → ltb (limit / half fan) 1 ≡ b → (n ≤ 1) ⊎ (n ≤ limit / half fan) → n ≤ cond b 1 (limit / half fan)
    go true e (inl x) = x
    go true e (inr x) = (let z = ltb-true (limit / half fan) 1 e in omega arith)
    go false e (inl x) = (let z = ltb-false (limit / half fan) 1 e in omega arith)
    go false e (inr x) = x

module _ (s : ℕ) (pos : 0 < s) (t : State) (nt : Neat s t) (A : List ℕ) (k : ℕ) (B : List ℕ) (st : List (List ℕ)) (b : BodyAt (tree_of s t) (A ++ k ∷ B) st) (full : length (slots_of (leaf_in s t k)) ≡ t.head.fan) where
  abbrev g : Shape
  g = shape_in s t

  abbrev T : Tree
  T = tree_of s t

  abbrev T' : Tree
  T' = split_full (tree_of s t) k

  abbrev hf : ℕ
  hf = half t.head.fan

  abbrev n : Node
  n = leaf_in s t k

  lk : k < t.head.leaves
  lk = leaf_here T A k B st b

  split : SplitAt T T' A k B
  split = split_full_law T A k B st b full

  body' : Body T'
  body' = to_body T' (A ++ k ∷ t.head.leaves ∷ B) split.st' split.body

  -- the nodes suffice
  leaf_room : t.head.leaves < g.nodes
  leaf_room = nodes_room t.head.fan t.head.limit (suc t.head.leaves) (leaves_most T' body')

  inner_room : T'.body.next ≤ g.nodes
  inner_room = nodes_room t.head.fan t.head.limit T'.body.next (inners_room T' body')

  -- the two leaves
  fu : length (used n) ≡ t.head.fan
  fu = sym (length-map (used n) slot_of) ∙ full

  td : Tidy s t.head.fan n
  td = nt.leaf_tidy k lk

  low_is : lower_half s t.head.fan n ≡ made s t.head.fan n.parent n.at (take hf (used n))
  low_is = ap (lower_half s t.head.fan) td.is ∙ lower_made s t.head.fan n.parent n.at (used n) fu

  high_is : upper_half s t.head.fan n ≡ made s t.head.fan n.parent 0 (drop hf (used n))
  high_is = ap (upper_half s t.head.fan) td.is ∙ upper_made s t.head.fan n.parent n.at (used n) fu

  low_tidy : Tidy s t.head.fan (lower_half s t.head.fan n)
  low_tidy = subst (Tidy s t.head.fan) (sym low_is) (tidy_made s t.head.fan n.parent n.at (take hf (used n)) (let z = length-take-le hf (used n) (let y = fu in omega arith) in omega arith) (all_take (λ x. length x ≡ s) hf (used n) td.wide))

  high_tidy : Tidy s t.head.fan (upper_half s t.head.fan n)
  high_tidy = subst (Tidy s t.head.fan) (sym high_is) (tidy_made s t.head.fan n.parent 0 (drop hf (used n)) (let z = length-drop hf (used n) in let y = fu in omega arith) (all_drop (λ x. length x ≡ s) hf (used n) td.wide))

  high_used : used (upper_half s t.head.fan n) ≡ drop hf (used n)
  high_used = ap used high_is ∙ used_made s t.head.fan n.parent 0 (drop hf (used n))

  abbrev ls₁ : List ℕ
  ls₁ = put_node g k (lower_half s t.head.fan n) t.leaves

  abbrev ls₂ : List ℕ
  ls₂ = put_node g t.head.leaves (upper_half s t.head.fan n) ls₁

  keeps₁ : Keeps g t.head.leaves ls₁
  keeps₁ = put_same g refl pos t.head.leaves k (lower_half s t.head.fan n) t.leaves lk low_tidy (leaf_keeps s t nt)

  keeps₂ : Keeps g (suc t.head.leaves) ls₂
  keeps₂ = put_next g refl pos t.head.leaves (upper_half s t.head.fan n) ls₁ leaf_room high_tidy keeps₁

  abbrev Ls : List Slot
  Ls = take hf (slots_of n)

  abbrev Us : List Slot
  Us = drop hf (slots_of n)

  area₁ : area_of g ls₁ ≡ set_slots T.body.leaf k Ls
  area₁ = put_slots g refl pos t.head.leaves k (lower_half s t.head.fan n) t.leaves (let z = lk in let y = leaf_room in omega arith) low_tidy (leaf_keeps s t nt) (sym (ap (λ (m : Node). m.parent) low_is)) (sym (ap (λ (m : Node). m.at) low_is))
      ∙ ap (set_slots T.body.leaf k) (ap slots_of low_is ∙ ap (map slot_of) (used_made s t.head.fan n.parent n.at (take hf (used n))) ∙ sym (take_map slot_of hf (used n)))

  area₂ : area_of g ls₂ ≡ cut_leaf T.body.leaf k t.head.leaves Ls Us
  area₂ = put_area_law g refl pos t.head.leaves t.head.leaves (upper_half s t.head.fan n) ls₁ leaf_room high_tidy keeps₁
      ∙ ap₂ put area₁ (ap (λ (m : Node). (slots_of m, m.parent, m.at)) high_is ∙ ap (λ (S : List Slot). (S, n.parent, 0)) (ap (map slot_of) (used_made s t.head.fan n.parent 0 (drop hf (used n))) ∙ sym (drop_map slot_of hf (used n))))
    where
      put : Area → (List Slot × ℕ × ℕ) → Area
      put z q = record { slots = upd z.slots t.head.leaves q.0; parent = upd z.parent t.head.leaves q.1; place = upd z.place t.head.leaves q.2 }

  abbrev ar : Areas
  ar = areas ls₂ t.inners

  abbrev tp : Top
  tp = top t.head.inners t.head.root.0 t.head.levels

  trunk_cut : trunk_of g ar tp ≡ cut_trunk T.body k t.head.leaves Ls Us
  trunk_cut = ap (λ (z : Area). record { leaf = z; inner = area_of g t.inners; root = t.head.root.0; next = t.head.inners; levels = t.head.levels }) area₂

  few : t.head.inners + length st < none
  few = (let z = split_room T (to_body T (A ++ k ∷ B) st b) in omega (arith, b.deep))

  leaf_split : LeafSplit T.body (sound.split_leaf t.head.fan hf (length st) T.body k t.head.leaves Ls Us) A k t.head.leaves B st Ls Us
  leaf_split = split_leaf_law t.head.fan hf T.body A k t.head.leaves B st Ls Us b.links b.leaf_in_law b.inner_in_law few (sym (take-append-drop hf (slots_of n)))

  ready : ReadyToAdd g (suc t.head.leaves) 0 ar tp (total T.body.leaf) (total (cut_leaf T.body.leaf k t.head.leaves Ls Us)) A k B t.head.leaves st
  ready = record {
    into = subst (λ (z : Trunk). Into 0 z (total T.body.leaf) (total (cut_leaf T.body.leaf k t.head.leaves Ls Us)) A k B (insert.slot_of t.head.leaves (total z.leaf t.head.leaves)) st) (sym trunk_cut) leaf_split.into;
    both = record { leaf = keeps₂; inner = inner_keeps s t nt };
    new_in = omega arith;
    kids = all_map (λ c. c < t.head.leaves) (λ c. c < suc t.head.leaves) (λ c lt. omega arith) (A ++ k ∷ B) b.leaf_in_law;
    small = λ v. rw (← (sum_by_cat (len v) T.body.leaf.slots (A ++ k ∷ B))) (b.totals v);
  }

  parent_kept : (get 0 (trunk_of g ar tp)).parent k ≡ n.parent
  parent_kept = ap (λ (z : Area). z.parent k) area₂ ∙ upd_other T.body.leaf.parent t.head.leaves n.parent k (λ e. let z = lk in omega arith)

  lifted : Lifts g (suc t.head.leaves) (grow.add_child g (t.head.levels - 1) tp 1 n.parent k t.head.leaves ar) T'.body
  lifted = go st refl
    where
      go : (S : List (List ℕ)) → st ≡ S → Lifts g (suc t.head.leaves) (grow.add_child g (t.head.levels - 1) tp 1 n.parent k t.head.leaves ar) T'.body
      go [] q = absurd (let z : length st ≡ 0 = ap length q in omega (arith, b.deep, b.some))
      go (P ∷ S) q =
          let d : ℕ = length S in
          let dl : t.head.levels - 1 ≡ d = (let z : length st ≡ suc d = ap length q in omega (arith, b.deep)) in
          let ls : suc d ≡ t.head.levels = (let z : length st ≡ suc d = ap length q in omega (arith, b.deep)) in
          let same : add_child t.head.fan hf (suc d) 0 (trunk_of g ar tp) k (insert.slot_of t.head.leaves (total (trunk_of g ar tp).leaf t.head.leaves)) ≡ T'.body =
          ap (λ (z : Trunk). add_child t.head.fan hf (suc d) 0 z k (insert.slot_of t.head.leaves (total z.leaf t.head.leaves))) trunk_cut
          ∙ ap (λ (e : ℕ). add_child t.head.fan hf e 0 (cut_trunk T.body k t.head.leaves Ls Us) k (insert.slot_of t.head.leaves (total (cut_leaf T.body.leaf k t.head.leaves Ls Us) t.head.leaves))) ls in
          subst (λ (p : ℕ). Lifts g (suc t.head.leaves) (grow.add_child g (t.head.levels - 1) tp 1 p k t.head.leaves ar) T'.body) parent_kept
          (subst (λ (e : ℕ). Lifts g (suc t.head.leaves) (grow.add_child g e tp 1 ((get 0 (trunk_of g ar tp)).parent k) k t.head.leaves ar) T'.body) (sym dl)
          (subst (Lifts g (suc t.head.leaves) (grow.add_child g d tp 1 ((get 0 (trunk_of g ar tp)).parent k) k t.head.leaves ar)) same
          (add_to_law g refl pos (suc t.head.leaves) b.fan_low d (above_of g d) (above_lifted g refl pos (suc t.head.leaves) b.fan_low d) 0 ar tp
          (total T.body.leaf) (total (cut_leaf T.body.leaf k t.head.leaves Ls Us)) A k B t.head.leaves P S refl
          (subst (ReadyToAdd g (suc t.head.leaves) 0 ar tp (total T.body.leaf) (total (cut_leaf T.body.leaf k t.head.leaves Ls Us)) A k B t.head.leaves) q ready)
          (subst (λ (R : List (List ℕ)). t.head.inners + length R < none) q few) (rw same inner_room))))

  -- homes of the entries that moved
  rehomed : Rehomed t.head.entries t.head.leaves (used (upper_half s t.head.fan n)) t.homes
  rehomed = rehome_is t.head.entries t.head.leaves (used (upper_half s t.head.fan n)) t.homes
      (subst (All (λ x. child x < t.head.entries)) (sym high_used) (all_drop (λ x. child x < t.head.entries) hf (used n) (unmap (λ c. c < t.head.entries) (used n) (b.below k lk))))
      (let z = b.room in let y = nt.home_area in omega arith)

  -- the state after the split
  pub record Parted (i : ℕ) : Type 0 where
    pub leaves : List ℕ
    pub inners : List ℕ
    pub homes : List ℕ
    pub is : place.split_leaf g t k i ≡ cond (ltb i hf) (change 0 (state (with_leaf (top_of T'.body) t.head) leaves inners homes) k i) (change 0 (state (with_leaf (top_of T'.body) t.head) leaves inners homes) t.head.leaves (i - hf))
    pub tree : tree_of s (state (with_leaf (top_of T'.body) t.head) leaves inners homes) ≡ T'
    pub neat : Neat s (state (with_leaf (top_of T'.body) t.head) leaves inners homes)

  pub parted_is : (i : ℕ) → Parted i
  unfolding place.split_leaf link_leaf
  parted_is i =
      let r = lifted in
      let hs = rehomed in
      let hm : ◌≡◌ {A = ℕ → ℕ} (λ j. get_or hs.after j 0) T'.homes = hs.homes ∙ ap (parted.rehome (λ j. get_or t.homes j 0) t.head.leaves) (ap (map slot_of) high_used ∙ sym (drop_map slot_of hf (used n))) in
      record {
        leaves = r.after.leaves;
        inners = r.after.inners;
        homes = hs.after;
        is = rw (lt-ltb t.head.leaves g.nodes leaf_room, hs.is, r.is);
        tree = ap₂ (λ (z : Trunk) (y : (ℕ → ℕ) × ℕ). record { body = z; homes = y.0; leaves = y.1; entries = t.head.entries; fan = t.head.fan; limit = t.head.limit; finger = t.head.finger })
            r.trunk (ap₂ (λ (y : ℕ → ℕ) (m : ℕ). (y, m)) hm (add-one t.head.leaves));
        neat = record {
          leaf_area = r.both.leaf.long;
          inner_area = r.both.inner.long;
          home_area = (let z = hs.long in let y = nt.home_area in omega arith);
          leaf_count = rw (add-one t.head.leaves) leaf_room;
          inner_count = r.both.inner.few;
          leaf_tidy = λ j lj. r.both.leaf.tidy j (rw (add-one t.head.leaves) at lj);
          inner_tidy = r.both.inner.tidy;
          view = nt.view;
        };
      }
