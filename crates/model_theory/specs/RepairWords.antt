-- The tree that repair leaves, in words: every node in use and every home of an entry written anew from the trusted words, every other word as it was.
-- A sound tree agrees with what is trusted exactly where the tree fits. s is the words of a slot. Assumes nothing.
use Rattle.std.specs.Prelude.{◌≡◌, ◌⊎◌, Bool, true, false, get_or, take, drop, eqb}
use Rattle.std.proofs.Math.Path.{refl}
use Rattle.std.proofs.Common.{sym, ap, subst, ◌∙◌, inl, inr, arith, mul-le-mul_right, length-append, length-drop, get_or-take, length-take-le, take_at, get_or-append-add, eqb-true}
use mathlib.Core.List.{List, [], ◌∷◌, ◌++◌, map, flat_map, map-append}
use Prim.Native.Nat.{ℕ, zero, suc, ◌+◌, ◌-◌, ◌*◌, ◌<◌, ◌≤◌}
use Rattle.std.proofs.Math.ListN.{length, get_or-append, get_or-map}
use Rattle.std.proofs.lemmas.List.{length-map, length-replicate, get_or-replicate}
use Rattle.std.proofs.lemmas.Bool.{eqb-false}
use Rattle.model.specs.Lists.{All, times, range}
use Rattle.model.specs.Node.{Node, node, child, used, empty_slot, empty_slots}
use Rattle.model.specs.State.{State, state, node_at, put_node}
use Rattle.model.specs.Sound.{shape_in, leaf_in, inner_in, inners_reached, leaves_reached, slots_in}
use Rattle.model.specs.declared.shape.Shape.{Shape}
use Rattle.model_laws.specs.Lists.{all_append, all_take, row_end}
use Rattle.model_laws.specs.Slots.{Long, Wide}
use Rattle.model_laws.specs.Formed.{empty_wide}
use Rattle.model_laws.specs.Nodes.{Formed}
use Rattle.model_laws.specs.Areas.{formed_at, length_put_node, node_same, node_other}
use Rattle.model.specs.Mend.{no_finger, kids, ids_in, leaf_link, inner_link, home_of, depth_at, deep, slot_over, slots_over, put_all, put_each, leaf_anew, inner_anew, mend}
use Rattle.model.specs.Repair.{Agrees}
use Rattle.model_theory.specs.RepairLists.{In, all_in, in_flat, in_cons, no_nil, times_in, get_d_in, map_at, length_range, range_at}
use Rattle.model_theory.specs.RepairHolder.{holder_is}
use Rattle.model_theory.specs.RepairTrusted.{TrustedCoherent, LongAreas, Repaired}
use Rattle.model_theory.specs.RepairNodes.{Mended, mended, agrees}

-- nodes written one after the other ------------------------------------------------------------------------------------------------------------

pub within : (g : Shape) (k n l : ℕ) → k < n → n * g.size ≤ l → k * g.size + g.size ≤ l
within g k n l h e = omega (arith, row_end k n g.size h)

module _ (g : Shape) (e : g.size ≡ 3 + g.fan * g.stride) (f : ℕ → Node) (m : ℕ) (formed : (k : ℕ) → k < m → Formed g.stride g.fan (f k)) (area : List ℕ) (h : m * g.size ≤ length area) where
  pub length_all : (n : ℕ) → n ≤ m → length (put_all g f n area) ≡ length area
  unfolding put_all
  length_all zero l = refl
  length_all (suc n) l =
      let r : length (put_all g f n area) ≡ length area = length_all n (omega arith) in
      length_put_node g n (put_all g f n area) e (rw r (within g n m (length area) l h)) (f n) (formed n l) ∙ r

  pub all_at_law : (n k : ℕ) → n ≤ m → k < n → node_at g k (put_all g f n area) ≡ f k
  unfolding put_all
  all_at_law zero k l q = absurd (omega arith)
  all_at_law (suc n) k l q = go (eqb k n) refl (λ (d : k < n). all_at_law n k (omega arith) d)
    where
      room : n * g.size + g.size ≤ length (put_all g f n area)
      room = rw (length_all n (omega arith)) (within g n m (length area) l h)

      go : (b : Bool) → eqb k n ≡ b → (k < n → node_at g k (put_all g f n area) ≡ f k) → node_at g k (put_node g n (f n) (put_all g f n area)) ≡ f k
      go true w r =
          let y : k ≡ n = eqb-true k n w in
          rw y (node_same g n (put_all g f n area) e room (f n) (formed n l))
      go false w r =
          let y : k ≡ n → ⊥ = eqb-false k n w in
          node_other g n (put_all g f n area) e room (f n) (formed n l) k y ∙ r (omega arith)

module _ (g : Shape) (e : g.size ≡ 3 + g.fan * g.stride) (f : ℕ → Node) (m : ℕ) (formed : (k : ℕ) → k < m → Formed g.stride g.fan (f k)) (area : List ℕ) (h : m * g.size ≤ length area) where
  pub length_each : (ks : List ℕ) → All (λ k. k < m) ks → length (put_each g f ks area) ≡ length area
  unfolding put_each All
  length_each [] a = refl
  length_each (k ∷ ks) a =
      let r : length (put_each g f ks area) ≡ length area = length_each ks a.1 in
      length_put_node g k (put_each g f ks area) e (rw r (within g k m (length area) a.0 h)) (f k) (formed k a.0) ∙ r

  -- whichever order they are written in, and however often
  pub each_at : (ks : List ℕ) (k : ℕ) → All (λ k. k < m) ks → In k ks → node_at g k (put_each g f ks area) ≡ f k
  unfolding put_each All
  each_at [] k a i = absurd (no_nil i refl)
  each_at (j ∷ ks) k a i = go (eqb k j) refl (in_cons i) (λ q. each_at ks k a.1 q)
    where
      room : j * g.size + g.size ≤ length (put_each g f ks area)
      room = rw (length_each ks a.1) (within g j m (length area) a.0 h)

      go : (b : Bool) → eqb k j ≡ b → (k ≡ j) ⊎ In k ks → (In k ks → node_at g k (put_each g f ks area) ≡ f k) → node_at g k (put_node g j (f j) (put_each g f ks area)) ≡ f k
      go true w c r =
          let y : k ≡ j = eqb-true k j w in
          rw y (node_same g j (put_each g f ks area) e room (f j) (formed j a.0))
      go false w (inl y) r = absurd (eqb-false k j w y)
      go false w (inr q) r = node_other g j (put_each g f ks area) e room (f j) (formed j a.0) k (eqb-false k j w) ∙ r q

get_d_empty : (s n i : ℕ) → i < n → get_or (empty_slots s n) i [] ≡ empty_slot s
get_d_empty s n i h = get_or-replicate n i (empty_slot s) [] h

-- rows in use and empty ones behind them
module _ (s fan n parent at : ℕ) (hs : 0 < s) (rows : List (List ℕ)) (w : Wide s rows) (l : length rows ≡ n) (h : n ≤ fan) where
  pub anew_formed : Formed s fan (node n parent at (rows ++ empty_slots s (fan - n)))
  anew_formed = record {
    count = omega (arith, length-append rows (empty_slots s (fan - n)), length-replicate (fan - n) (empty_slot s));
    wide = all_append (Long s) rows (empty_slots s (fan - n)) w (empty_wide s (fan - n) hs);
  }

  pub anew_used : take n (rows ++ empty_slots s (fan - n)) ≡ rows
  anew_used = take_at rows (empty_slots s (fan - n)) n l

  pub anew_unused : (i : ℕ) → n ≤ i → i < fan → get_or (rows ++ empty_slots s (fan - n)) i [] ≡ empty_slot s
  anew_unused i a b =
      let q : length rows + (i - n) ≡ i = omega arith in
      ap (λ (j : ℕ). get_or (rows ++ empty_slots s (fan - n)) j []) (sym q)
      ∙ (get_or-append-add rows (empty_slots s (fan - n)) (i - n) [] ∙ get_d_empty s (fan - n) (i - n) (omega arith))

-- the theorem ----------------------------------------------------------------------------------------------------------------------------------

map_flat : {A B C : Type 0} (u : B → C) (v : A → List B) (l : List A) → map u (flat_map v l) ≡ flat_map (λ x. map u (v x)) l
unfolding flat_map
map_flat u v [] = refl
map_flat u v (x ∷ l) = map-append u (v x) (flat_map v l) ∙ rw (map_flat u v l)

rows_wide : (s : ℕ) (f : ℕ → List ℕ) (l : List ℕ) → ((c : ℕ) → length (f c) ≡ s) → Wide s (map f l)
unfolding All
rows_wide s f [] h = tt
rows_wide s f (c ∷ l) h = (h c, rows_wide s f l h)

module _ (s e : ℕ) (hs : 0 < s) (t : State) (f : TrustedCoherent s t) (areas : LongAreas s t) where
  abbrev g : Shape
  g = shape_in s t

  abbrev fan : ℕ
  fan = t.head.fan

  abbrev lr : List ℕ
  lr = put_all g (leaf_anew s t) t.head.leaves t.leaves

  abbrev xr : List ℕ
  xr = put_each g (inner_anew s t) (inners_reached s t) t.inners

  abbrev hr : List ℕ
  hr = map (home_of s t) (range 0 t.head.entries) ++ drop t.head.entries t.homes

  abbrev R : State
  R = state (no_finger t.head) lr xr hr

  leaf_formed : (k : ℕ) → k < t.head.leaves → Formed s fan (leaf_in s t k)
  leaf_formed k l = formed_at g k t.leaves refl (within g k g.nodes (length t.leaves) (omega (arith, f.leaf_count)) areas.leaf_area)

  inner_formed : (k : ℕ) → k < t.head.inners → Formed s fan (inner_in s t k)
  inner_formed k l = formed_at g k t.inners refl (within g k g.nodes (length t.inners) (omega (arith, f.inner_count)) areas.inner_area)

  -- the rows in use
  leaf_rows : (k : ℕ) → k < t.head.leaves → length (used (leaf_in s t k)) ≡ (leaf_in s t k).len
  leaf_rows k l = length-take-le (leaf_in s t k).len (leaf_in s t k).slots (omega (arith, (leaf_formed k l).count, (f.leaf_lens k l).1))

  inner_rows : (k : ℕ) → k < t.head.inners → length (slots_over s t k) ≡ (inner_in s t k).len
  inner_rows k l =
      length-map (kids s t k) (slot_over s t (t.head.levels - suc (depth_at s t k)))
      ∙ (length-map (used (inner_in s t k)) child ∙ length-take-le (inner_in s t k).len (inner_in s t k).slots (omega (arith, (inner_formed k l).count, (f.inner_lens k l).1)))

  leaf_wide : (k : ℕ) → k < t.head.leaves → Wide s (used (leaf_in s t k))
  leaf_wide k l = all_take (Long s) (leaf_in s t k).len (leaf_in s t k).slots (leaf_formed k l).wide

  slot_long : (n c : ℕ) → length (slot_over s t n c) ≡ s
  slot_long n c = omega (arith, length-map (range 0 (s - 1)) (λ v. deep s t n v c), length_range 0 (s - 1))

  inner_wide : (k : ℕ) → Wide s (slots_over s t k)
  inner_wide k = rows_wide s (slot_over s t (t.head.levels - suc (depth_at s t k))) (kids s t k) (slot_long (t.head.levels - suc (depth_at s t k)))

  pub leaf_anew_law : (k : ℕ) → k < t.head.leaves → Formed s fan (leaf_anew s t k)
  leaf_anew_law k l = anew_formed s fan (leaf_in s t k).len (leaf_link s t k).0 (leaf_link s t k).1 hs (used (leaf_in s t k)) (leaf_wide k l) (leaf_rows k l) (f.leaf_lens k l).1

  pub inner_anew_law : (k : ℕ) → k < t.head.inners → Formed s fan (inner_anew s t k)
  inner_anew_law k l = anew_formed s fan (inner_in s t k).len (inner_link s t k).0 (inner_link s t k).1 hs (slots_over s t k) (inner_wide k) (inner_rows k l) (f.inner_lens k l).1

  pub leaf_room : t.head.leaves * g.size ≤ length t.leaves
  leaf_room = omega (arith, mul-le-mul_right g.size f.leaf_count, areas.leaf_area)

  pub inner_room : t.head.inners * g.size ≤ length t.inners
  inner_room = omega (arith, mul-le-mul_right g.size f.inner_count, areas.inner_area)

  pub leaf_is : (k : ℕ) → k < t.head.leaves → leaf_in s R k ≡ leaf_anew s t k
  leaf_is k l = all_at_law g refl (leaf_anew s t) t.head.leaves leaf_anew_law t.leaves leaf_room t.head.leaves k (omega arith) l

  pub inner_is : (k : ℕ) → k < t.head.inners → inner_in s R k ≡ inner_anew s t k
  inner_is k l =
      each_at g refl (inner_anew s t) t.head.inners inner_anew_law t.inners inner_room (inners_reached s t) k f.inners_once.below
      (times_in k (inners_reached s t) (omega (arith, f.inners_once.once k l)))

  pub length_homes : length hr ≡ length t.homes
  length_homes = omega (
    arith,
    areas.home_area,
    f.entry_count,
    length-append (map (home_of s t) (range 0 t.head.entries)) (drop t.head.entries t.homes),
    length-map (range 0 t.head.entries) (home_of s t),
    length_range 0 t.head.entries,
    length-drop t.head.entries t.homes,
  )

  long : LongAreas s R
  long = record {
    leaf_area = rw (length_all g refl (leaf_anew s t) t.head.leaves leaf_anew_law t.leaves leaf_room t.head.leaves (omega arith)) areas.leaf_area;
    inner_area = rw (length_each g refl (inner_anew s t) t.head.inners inner_anew_law t.inners inner_room (inners_reached s t) f.inners_once.below) areas.inner_area;
    home_area = rw length_homes areas.home_area;
  }

  -- every entry's home is the leaf that holds it
  pub home_is : (id : ℕ) → id < t.head.entries → get_or hr id 0 ≡ home_of s t id
  home_is id l =
      let m : length (map (home_of s t) (range 0 t.head.entries)) ≡ t.head.entries = length-map (range 0 t.head.entries) (home_of s t) ∙ length_range 0 t.head.entries in
      get_or-append (map (home_of s t) (range 0 t.head.entries)) (drop t.head.entries t.homes) 0 id (omega arith)
      ∙ (map_at (home_of s t) (range 0 t.head.entries) id (omega (arith, length_range 0 t.head.entries)) ∙ ap (home_of s t) (range_at 0 t.head.entries id l ∙ omega arith))

  home_right : (k i : ℕ) → k < t.head.leaves → i < (leaf_in s t k).len → get_or hr (child (get_or (leaf_in s t k).slots i [])) 0 ≡ k
  home_right k i l q =
      let id : ℕ = child (get_or (leaf_in s t k).slots i []) in
      let r : In k (leaves_reached s t) = times_in k (leaves_reached s t) (omega (arith, f.leaves_once.once k l)) in
      let n : i < length (ids_in s t k) = omega (arith, length-map (used (leaf_in s t k)) child, leaf_rows k l) in
      let c : get_or (ids_in s t k) i 0 ≡ id = get_or-map child (used (leaf_in s t k)) i [] ∙ ap child (get_or-take (leaf_in s t k).len (leaf_in s t k).slots i [] q) in
      let j : In id (ids_in s t k) = subst (λ (x : ℕ). In x (ids_in s t k)) c (get_d_in (ids_in s t k) i n) in
      let w : map child (slots_in s t (leaves_reached s t)) ≡ flat_map (ids_in s t) (leaves_reached s t) = map_flat child (λ k. used (leaf_in s t k)) (leaves_reached s t) in
      let u : id < t.head.entries = all_in (λ k. k < t.head.entries) (subst (λ (z : List ℕ). In id z) (sym w) (in_flat (ids_in s t) r j)) f.ids.below in
      let o : times id (flat_map (ids_in s t) (leaves_reached s t)) ≡ 1 = subst (λ (z : List ℕ). times id z ≡ 1) w (f.ids.once id u) in
      home_is id u ∙ ap (λ (z : ℕ × ℕ). z.0) (holder_is (ids_in s t) (leaves_reached s t) id k i r o n c)

  words : Mended s t R
  words = record {
    leaf_len = λ k l. ap (λ (n : Node). n.len) (leaf_is k l);
    leaf_slots_law = λ k l. ap used (leaf_is k l) ∙ anew_used s fan (leaf_in s t k).len (leaf_link s t k).0 (leaf_link s t k).1 hs (used (leaf_in s t k)) (leaf_wide k l) (leaf_rows k l) (f.leaf_lens k l).1;
    leaf_parent = λ k l. ap (λ (n : Node). n.parent) (leaf_is k l);
    leaf_at_law = λ k l. ap (λ (n : Node). n.at) (leaf_is k l);
    leaf_unused = λ k i l a b. ap (λ (n : Node). get_or n.slots i []) (leaf_is k l)
        ∙ anew_unused s fan (leaf_in s t k).len (leaf_link s t k).0 (leaf_link s t k).1 hs (used (leaf_in s t k)) (leaf_wide k l) (leaf_rows k l) (f.leaf_lens k l).1 i (subst (λ (n : Node). n.len ≤ i) (leaf_is k l) a) b;
    inner_len = λ k l. ap (λ (n : Node). n.len) (inner_is k l);
    inner_slots = λ k l. ap used (inner_is k l) ∙ anew_used s fan (inner_in s t k).len (inner_link s t k).0 (inner_link s t k).1 hs (slots_over s t k) (inner_wide k) (inner_rows k l) (f.inner_lens k l).1;
    inner_parent = λ k l. ap (λ (n : Node). n.parent) (inner_is k l);
    inner_at = λ k l. ap (λ (n : Node). n.at) (inner_is k l);
    inner_unused = λ k i l a b. ap (λ (n : Node). get_or n.slots i []) (inner_is k l)
        ∙ anew_unused s fan (inner_in s t k).len (inner_link s t k).0 (inner_link s t k).1 hs (slots_over s t k) (inner_wide k) (inner_rows k l) (f.inner_lens k l).1 i (subst (λ (n : Node). n.len ≤ i) (inner_is k l) a) b;
    homes = home_right;
  }

  -- what repair leaves is sound, agrees with what is trusted, and is the only such tree but for words out of use
  pub mend_right : Repaired s e t (mend s t)
  unfolding mend
  mend_right = mended s e t f areas lr xr hr long words

  pub mend_agrees : Agrees s t (mend s t)
  unfolding mend
  mend_agrees = agrees s e t f areas lr xr hr long words
