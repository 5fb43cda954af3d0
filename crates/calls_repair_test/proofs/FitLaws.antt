-- The whole test by what its parts answer. Assumes nothing.
use mathlib.Core.Path.{◌≡◌, refl, sym, ap, ap₂, ◌∙◌}
use mathlib.Core.Bool.{Bool, true, false, ◌&&◌}
use mathlib.Core.List.{List, [], ◌∷◌, ◌++◌, map, flat_map, map-append}
use Prim.Native.Nat.{ℕ, zero, suc, ◌+◌, ◌-◌, ◌<◌, ◌≤◌}
use native.Mathlib.Omega.{arith}
use lib.ListN.{length, get_or, replicate}
use lib.Dec.{leb}
use borrow.Author.Tests.{leb-true}
use Rattle.model.specs.Kind.{kind_of}
use Rattle.model.specs.Lists.{part, range}
use Rattle.model.specs.Node.{child, used}
use Rattle.model.specs.State.{State, state, node_at}
use Rattle.model.specs.Refuse.{shape_of}
use Rattle.model.specs.Sound.{shape_in, level, leaf_in, inners_reached, leaves_reached, slots_in, least_inner, least_leaf}
use Rattle.model.specs.Audit.{every}
use Rattle.model.specs.Mend.{is_once, is_counted, is_long, is_within, is_fit_inner, is_fit_leaf, is_fit_slot, is_fit}
use Rattle.model.specs.declared.shape.Kind.{Kind}
use Rattle.model.specs.declared.shape.Shape.{Shape}
use Rattle.model.specs.declared.head.Head.{Head}
use Rattle.model_laws.specs.Lists.{all_at_at, and_true}
use Rattle.model_laws.specs.Words.{get_d_part, length_part}
use Rattle.tree_area.specs.Area.{AreaHolds}
use Rattle.calls_repair_test.specs.Queue.{kids_of, level_in, Lens}
use Rattle.calls_repair_test.specs.Reach as reach
use Rattle.calls_repair_test.specs.Reach.{Marks, QueueReached}
use Rattle.calls_repair_test.specs.Total.{within, QueueListed}
use Rattle.calls_repair_test.specs.Fit.{counted_by}

flat_as : {A B : Type 0} (f g : A → List B) → ((x : A) → f x ≡ g x) → (l : List A) → flat_map f l ≡ flat_map g l
unfolding flat_map
flat_as f g e [] = refl
flat_as f g e (x ∷ l) = ap₂ (λ y z. y ++ z) (e x) (flat_as f g e l)

map_flat : {A B C : Type 0} (u : B → C) (v : A → List B) (l : List A) → map u (flat_map v l) ≡ flat_map (λ x. map u (v x)) l
unfolding flat_map
map_flat u v [] = refl
map_flat u v (x ∷ l) = map-append u (v x) (flat_map v l) ∙ rw (map_flat u v l)

level_is : (s : ℕ) (t : State) (d : ℕ) → level_in (λ p. map child (used (node_at (shape_in s t) p t.inners))) t.head.root.0 d ≡ level s t d
unfolding level_in level
level_is s t zero = refl
level_is s t (suc d) = ap (flat_map (λ p. map child (used (node_at (shape_in s t) p t.inners)))) (level_is s t d)

-- what good counts tell
pub record GoodCounts (h : Head) (g : Shape) : Type 0 where
  pub entries : h.entries ≤ h.limit
  pub leaves : h.leaves ≤ g.nodes
  pub inners : h.inners ≤ g.nodes
  pub levels : 1 ≤ h.levels

pub counted : (h : Head) (g : Shape) (b : Bool) → b ≡ counted_by h g → b ≡ true → GoodCounts h g
counted h g b e q =
    let one = leb h.entries h.limit in
    let two = leb h.leaves g.nodes in
    let three = leb h.inners g.nodes in
    let r4 = and_true (one && two && three && leb 1 h.levels) (leb h.levels 15) (sym e ∙ q) in
    let r3 = and_true (one && two && three) (leb 1 h.levels) r4.0 in
    let r2 = and_true (one && two) three r3.0 in
    let r1 = and_true one two r2.0 in
    record {
      entries = leb-true h.entries h.limit r1.0;
      leaves = leb-true h.leaves g.nodes r1.1;
      inners = leb-true h.inners g.nodes r2.1;
      levels = leb-true 1 h.levels r3.1;
    }

pub marks_of : (n N : ℕ) (ms : List ℕ) → n ≤ N → N ≤ 65536 → ms ≡ replicate N 0 → Marks n ms
marks_of n N ms h l e = record { size = N; room = h; word = omega arith; zeros = e }

every_at : (q : ℕ → Bool) (i n : ℕ) → every q i n ≡ true → (j : ℕ) → j < n → q (i + j) ≡ true
unfolding every
every_at q i zero e j h = absurd (omega arith)
every_at q i (suc n) e zero h = let z : i + 0 ≡ i = omega arith in ap q z ∙ (and_true (q i) (every q (suc i) n) e).0
every_at q i (suc n) e (suc j) h = let z : i + suc j ≡ suc i + j = omega arith in ap q z ∙ every_at q (suc i) n (and_true (q i) (every q (suc i) n) e).1 j (omega arith)

-- lens that passed their tests are at most the fan
module _ (views effect : ℕ) (ordered : Bool) (h : Head) (g : Shape) (e : g ≡ shape_of (kind_of views effect ordered) h) (area : List ℕ) (n : ℕ) (a : AreaHolds g (length area))
    (c : n ≤ g.nodes) (b : Bool) (y : b ≡ true) where
  abbrev K : Kind
  K = kind_of views effect ordered

  most : (k least : ℕ) → (leb least (node_at g k area).len && leb (node_at g k area).len h.fan) ≡ true → (node_at g k area).len ≤ g.fan
  most k least q =
      let f : g.fan ≡ h.fan = ap (λ (z : Shape). z.fan) e in
      omega (arith, f, leb-true (node_at g k area).len h.fan (and_true (leb least (node_at g k area).len) (leb (node_at g k area).len h.fan) q).1)

  pub inner_lens : b ≡ every (is_fit_inner K (state h [] area [])) 0 n → Lens g n area
  inner_lens q = record {
    area = a;
    count = c;
    most = λ k l.
        let z : 0 + k ≡ k = omega arith in
        let r : is_fit_inner K (state h [] area []) k ≡ true = ap (is_fit_inner K (state h [] area [])) (sym z) ∙ every_at (is_fit_inner K (state h [] area [])) 0 n (sym q ∙ y) k l in
        most k (least_inner (suc views) (state h [] area []) k)
        (ap (λ (x : Shape). leb (least_inner (suc views) (state h [] area []) k) (node_at x k area).len && leb (node_at x k area).len h.fan) e ∙ r);
  }

  pub leaf_lens : b ≡ every (is_fit_leaf K (state h area [] [])) 0 n → Lens g n area
  leaf_lens q = record {
    area = a;
    count = c;
    most = λ k l.
        let z : 0 + k ≡ k = omega arith in
        let t = state h area [] [] in
        let r : is_fit_leaf K t k ≡ true = ap (is_fit_leaf K t) (sym z) ∙ every_at (is_fit_leaf K t) 0 n (sym q ∙ y) k l in
        let u = and_true (is_long (suc views) t (least_leaf (suc views) t) (leaf_in (suc views) t k))
        (every (λ i. is_fit_slot K (get_or (leaf_in (suc views) t k).slots i [])) 0 (leaf_in (suc views) t k).len) r in
        most k (least_leaf (suc views) t) (ap (λ (x : Shape). leb (least_leaf (suc views) t) (node_at x k area).len && leb (node_at x k area).len h.fan) e ∙ u.0);
  }

-- the parts of the definition
module _ (views effect : ℕ) (ordered : Bool) (h : Head) (ls xs hs : List ℕ) (g : Shape) (e : g ≡ shape_of (kind_of views effect ordered) h) where
  abbrev kind : Kind
  kind = kind_of views effect ordered

  abbrev t : State
  t = state h ls xs hs

  abbrev s : ℕ
  s = suc views

  abbrev root : ℕ
  root = h.root.0

  counts_are : counted_by h g ≡ is_counted s t
  counts_are = ap (counted_by h) e

  pub inners_are : reach.inners_from (kids_of g xs) root h.levels ≡ inners_reached s t
  inners_are = ap (λ (z : Shape). reach.inners_from (kids_of z xs) root h.levels) e ∙ flat_as (level_in (kids_of (shape_of kind h) xs) root) (level s t) (level_is s t) (range 0 h.levels)

  pub leaves_are : reach.leaves_from (kids_of g xs) root h.levels ≡ leaves_reached s t
  leaves_are = ap (λ (z : Shape). reach.leaves_from (kids_of z xs) root h.levels) e ∙ level_is s t h.levels

  ids_are : reach.ids_from (kids_of g xs) (kids_of g ls) root h.levels ≡ map child (slots_in s t (leaves_reached s t))
  ids_are =
      ap (flat_map (kids_of g ls)) leaves_are ∙ ap (λ (z : Shape). flat_map (kids_of z ls) (leaves_reached s t)) e
      ∙ sym (map_flat child (λ k. used (leaf_in s t k)) (leaves_reached s t))

  abbrev O₁ : Bool
  O₁ = is_once h.inners (reach.inners_from (kids_of g xs) root h.levels)

  abbrev O₂ : Bool
  O₂ = is_once h.leaves (reach.leaves_from (kids_of g xs) root h.levels)

  abbrev O₃ : Bool
  O₃ = is_once h.entries (reach.ids_from (kids_of g xs) (kids_of g ls) root h.levels)

  -- the test, with its three tests of what is met together
  abbrev by_parts : Bool → Bool → Bool → Bool → Bool → Bool → Bool → Bool
  by_parts a b c x y z w = a && b && c && x && y && z && w

  whole : is_fit kind t ≡ by_parts (counted_by h g) (every (is_fit_inner kind t) 0 h.inners) (every (is_fit_leaf kind t) 0 h.leaves) O₁ O₂ O₃
      (every (is_within s t) 0 views)
  unfolding is_fit
  whole = rw (counts_are, inners_are, ids_are, leaves_are)

  module _ (b₁ : Bool) (e₁ : b₁ ≡ counted_by h g) where
    pub fit_1 : b₁ ≡ false → false ≡ is_fit kind t
    fit_1 q = sym (whole ∙ rw (sym e₁ ∙ q))

    module _ (q₁ : b₁ ≡ true) (b₂ : Bool) (e₂ : b₂ ≡ every (is_fit_inner kind (state h [] xs [])) 0 h.inners) where
      pub fit_2 : b₂ ≡ false → false ≡ is_fit kind t
      fit_2 q = sym (whole ∙ rw (sym e₁ ∙ q₁, sym e₂ ∙ q))

      module _ (q₂ : b₂ ≡ true) (b₃ : Bool) (e₃ : b₃ ≡ every (is_fit_leaf kind (state h ls [] [])) 0 h.leaves) where
        pub fit_3 : b₃ ≡ false → false ≡ is_fit kind t
        fit_3 q = sym (whole ∙ rw (sym e₁ ∙ q₁, sym e₂ ∙ q₂, sym e₃ ∙ q))

        -- three tests in a row fail together
        three : (x y z w : Bool) → (x && y && z) ≡ false → (x && y && z && w) ≡ false
        three x y z w q = rw q

        module _ (q₃ : b₃ ≡ true) (b₄ : Bool) (e₄ : b₄ ≡ (O₁ && O₂ && O₃)) where
          pub fit_4 : b₄ ≡ false → false ≡ is_fit kind t
          fit_4 q = sym (whole ∙ rw (sym e₁ ∙ q₁, sym e₂ ∙ q₂, sym e₃ ∙ q₃) (three O₁ O₂ O₃ (every (is_within s t) 0 views) (sym e₄ ∙ q)))

          all : (x y z w : Bool) → (x && y && z) ≡ true → (x && y && z && w) ≡ w
          all x y z w q = rw q

          pub fit_5 : b₄ ≡ true → (b₅ : Bool) → b₅ ≡ every (is_within s t) 0 views → b₅ ≡ is_fit kind t
          fit_5 q b₅ e₅ = e₅ ∙ sym (whole ∙ rw (sym e₁ ∙ q₁, sym e₂ ∙ q₂, sym e₃ ∙ q₃) (all O₁ O₂ O₃ (every (is_within s t) 0 views) (sym e₄ ∙ q)))

  -- the totals of the leaves in the queue
  pub totals_are : (order : List ℕ) (n m start : ℕ) → QueueReached (kids_of g xs) root h.levels n m start order
      → every (within g ls (part n (n + m - n) order)) 0 (g.stride - 1) ≡ every (is_within s t) 0 views
  totals_are order n m start r =
      let q : n + m - n ≡ m = omega arith in
      let v : g.stride - 1 ≡ views = ap (λ (z : Shape). z.stride - 1) e ∙ (let y : suc views - 1 ≡ views = omega arith in y) in
      ap (λ (k : ℕ). every (within g ls (part n k order)) 0 (g.stride - 1)) q ∙ ap (λ (ks : List ℕ). every (within g ls ks) 0 (g.stride - 1)) (r.met ∙ leaves_are)
      ∙ ap (every (within g ls (leaves_reached s t)) 0) v ∙ ap (λ (z : Shape). every (within z ls (leaves_reached s t)) 0 views) e

-- the leaves in the queue are in use
pub listed : (kids : ℕ → List ℕ) (root levels n m start nodes : ℕ) (order : List ℕ) → QueueReached kids root levels n m start order → m ≤ nodes
    → QueueListed nodes n (n + m) order
listed kids root levels n m start nodes order r h j lo hi =
    let q : n + (j - n) ≡ j = omega arith in
    let l : length (part n m order) ≡ m = length_part n m order r.long in
    let w : get_or (reach.leaves_from kids root levels) (j - n) 0 ≡ get_or order j 0 = ap (λ (z : List ℕ). get_or z (j - n) 0) (sym r.met) ∙ get_d_part n m (j - n) order (omega arith)
    ∙ ap (λ (k : ℕ). get_or order k 0) q in
    let b : get_or (reach.leaves_from kids root levels) (j - n) 0 < m = all_at_at (λ k. k < m) (j - n) 0 (reach.leaves_from kids root levels) (omega (arith, ap length r.met)) r.leaves_used in
    omega (arith, b, w)
