-- What a writer of a sound tree's inner nodes needs: each slot is made of its child's totals, which fit a word; the words of unused slots; and a child
-- stands behind its parent where the nodes are listed level by level. Assumes nothing.
use Rattle.std.specs.Prelude.{◌≡◌, Bool, true, false, ℕ, zero, suc, ◌+◌, ◌-◌, ◌*◌, ◌%◌, ◌^◌, ◌<◌, ◌≤◌, length, get_or, take, drop, ltb, eqb}
use Rattle.std.proofs.Math.Path.{refl, sym}
use Rattle.std.proofs.Common.{ap, ap₂, subst, ◌∙◌, arith, zero-add, add-one, length-append, get_or-append-add, drop_at, eq-eqb, ne_eqb, eqb-true, ltb-true, ltb-false}
use mathlib.Core.List.{List, [], ◌∷◌, ◌++◌, map, flat_map, append_assoc}
use Rattle.std.proofs.Math.ListN.{get_or-append}
use Rattle.std.proofs.lemmas.Bool.{eqb-false}
use Rattle.model.specs.Lists.{part, sum_by, range}
use Rattle.model.specs.Node.{Node, child, length_in, total, used, node_of, totals_from, slot_for, empty_slots}
use Rattle.model.specs.State.{State, node_at}
use Rattle.model.specs.Sound.{CoherentAt, leaf_in, inner_in, level, leaves_reached, slots_in, below}
use Rattle.model.specs.declared.shape.Shape.{Shape}
use Rattle.model_laws.specs.Lists.{sum_append, rows_between, all_at_at}
use Rattle.model_laws.specs.Slots.{flat}
use Rattle.model_laws.specs.Words.{length_part, part_end, part_part}
use Rattle.model_laws.specs.Nodes.{words_drop}
use Rattle.model_theory.specs.WordTidy.{Tidy, len_used, tidy_formed, slot_used}
use Rattle.model_theory.specs.WordNeat.{neat_of}
use Rattle.model_theory.specs.ChangeSlot.{slots_total, totals_at, slot_wide}
use Rattle.model_theory.specs.RepairLists.{In, here, later, all_in, in_flat, in_left, get_d_in}
use Rattle.model_theory.specs.RepairUnique.{level_below, child_of, child_level, slot_same}

-- sums -----------------------------------------------------------------------------------------------------------------------------------------------

sum_flat : {A B : Type 0} (f : B → ℕ) (g : A → List B) (l : List A) → sum_by f (flat_map g l) ≡ sum_by (λ x. sum_by f (g x)) l
unfolding flat_map sum_by
sum_flat f g [] = refl
sum_flat f g (x ∷ l) = sum_append f (g x) (flat_map g l) ∙ ap (λ (n : ℕ). sum_by f (g x) + n) (sum_flat f g l)

sum_in : {A : Type 0} (f g : A → ℕ) (l : List A) → ((x : A) → In x l → f x ≡ g x) → sum_by f l ≡ sum_by g l
unfolding sum_by
sum_in f g [] e = refl
sum_in f g (x ∷ l) e = ap₂ (λ (m : ℕ) (n : ℕ). m + n) (e x here) (sum_in f g l (λ y i. e y (later i)))

one_in : {A : Type 0} (f : A → ℕ) {x : A} (l : List A) → In x l → f x ≤ sum_by f l
unfolding sum_by
one_in f [] i = elim i [ ]
one_in f (x ∷ l) here = omega arith
one_in f (y ∷ l) (later i) = omega (arith, one_in f l i)

pub in_at : (l : List (List ℕ)) (i : ℕ) → i < length l → In (get_or l i []) l
in_at [] i h = absurd (omega arith)
in_at (x ∷ l) zero h = here
in_at (x ∷ l) (suc i) h = later (in_at l i (omega arith))

-- lengths that are a function of the child
sum_children : (f : ℕ → ℕ) (v n : ℕ) (xs : List (List ℕ)) → ((i : ℕ) → i < n → i < length xs → length_in v (get_or xs i []) ≡ f (child (get_or xs i []))) → total v (take n xs) ≡ sum_by f (map child (take n xs))
unfolding sum_by
sum_children f v zero xs e = refl
sum_children f v (suc n) [] e = refl
sum_children f v (suc n) (x ∷ xs) e = ap₂ (λ (a : ℕ) (b : ℕ). a + b) (e 0 (omega arith) (omega arith)) (sum_children f v n xs (λ i h l. e (suc i) (omega arith) (omega arith)))

module _ (s e : ℕ) (hs : 0 < s) (t : State) (w : CoherentAt s t e) where
  abbrev levels : ℕ
  levels = t.head.levels

  -- the totals of a level's nodes
  abbrev sum_at : ℕ → ℕ → ℕ
  sum_at v d = sum_by (λ p. total v (used (inner_in s t p))) (level s t d)

  node_sum : (v d p : ℕ) → suc v < s → d < levels → In p (level s t d) → total v (used (inner_in s t p)) ≡ sum_by (λ c. total v (used (below s t d c))) (map child (used (inner_in s t p)))
  node_sum v d p hv hd r = sum_children (λ c. total v (used (below s t d c))) v (inner_in s t p).len (inner_in s t p).slots (λ i h l. (child_of s t e w d p i hd r h).sums v hv)

  next_sum : (v d : ℕ) → suc v < s → d < levels → sum_at v d ≡ sum_by (λ c. total v (used (below s t d c))) (level s t (suc d))
  unfolding level
  next_sum v d hv hd =
      sum_in (λ p. total v (used (inner_in s t p))) (λ p. sum_by (λ c. total v (used (below s t d c))) (map child (used (inner_in s t p)))) (level s t d) (λ p r. node_sum v d p hv hd r)
      ∙ sym (sum_flat (λ c. total v (used (below s t d c))) (λ p. map child (used (inner_in s t p))) (level s t d))

  below_leaf : (d c : ℕ) → suc d ≡ levels → below s t d c ≡ leaf_in s t c
  below_leaf d c q = rw (eq-eqb (suc d) levels q)

  below_inner : (d c : ℕ) → suc d < levels → below s t d c ≡ inner_in s t c
  below_inner d c q = rw (ne_eqb (suc d) levels (λ z. omega (arith, z, q)))

  sum_small : (v n d : ℕ) → suc v < s → d + suc n ≡ levels → sum_at v d ≤ 4294967295
  sum_small v zero d hv q =
      let y : suc d ≡ levels = omega arith in
      let z : sum_at v d ≡ total v (slots_in s t (leaves_reached s t)) =
      next_sum v d hv (omega arith) ∙ sum_in (λ c. total v (used (below s t d c))) (λ c. total v (used (leaf_in s t c))) (level s t (suc d)) (λ c i. ap (λ (n : Node). total v (used n)) (below_leaf d c y))
      ∙ ap (λ (k : ℕ). sum_by (λ c. total v (used (leaf_in s t c))) (level s t k)) y ∙ sym (sum_flat (length_in v) (λ k. used (leaf_in s t k)) (leaves_reached s t))
      in
      omega (arith, z, w.totals v hv)
  sum_small v (suc n) d hv q =
      let y : suc d < levels = omega arith in
      let z : sum_at v d ≡ sum_at v (suc d) =
      next_sum v d hv (omega arith) ∙ sum_in (λ c. total v (used (below s t d c))) (λ c. total v (used (inner_in s t c))) (level s t (suc d)) (λ c i. ap (λ (m : Node). total v (used m)) (below_inner d c y))
      in
      omega (arith, z, sum_small v n (suc d) hv (omega arith))

  -- slots ------------------------------------------------------------------------------------------------------------------------------------------------

  module _ (d p i : ℕ) (hd : d < levels) (r : In p (level s t d)) (hi : i < (inner_in s t p).len) where
    abbrev x : List ℕ
    x = get_or (inner_in s t p).slots i []

    abbrev c : ℕ
    c = child x

    tidy : Tidy s t.head.fan (inner_in s t p)
    tidy = (neat_of s t e w).inner_tidy p (level_below s t e w d p hd r)

    in_use_law : i < length (used (inner_in s t p))
    in_use_law = omega (arith, len_used s t.head.fan (inner_in s t p) tidy)

    row_is : x ≡ get_or (used (inner_in s t p)) i []
    row_is = slot_used s t.head.fan (inner_in s t p) tidy i [] in_use_law

    pub slot_long : length x ≡ s
    slot_long = ap length row_is ∙ all_at_at (λ (y : List ℕ). length y ≡ s) i [] (used (inner_in s t p)) in_use_law tidy.wide

    small : (v : ℕ) → suc v < s → length_in v x ≤ 4294967295
    small v hv =
        let a : length_in v x ≤ total v (used (inner_in s t p)) = subst (λ (y : List ℕ). length_in v y ≤ total v (used (inner_in s t p))) (sym row_is) (one_in (length_in v) (used (inner_in s t p)) (in_at (used (inner_in s t p)) i in_use_law)) in
        let b : total v (used (inner_in s t p)) ≤ sum_at v d = one_in (λ q. total v (used (inner_in s t q))) (level s t d) r in
        omega (arith, sum_small v (levels - suc d) d hv (omega arith))

    child_inside : i < length (inner_in s t p).slots
    child_inside = omega (arith, (tidy_formed s t.head.fan (inner_in s t p) tidy hs).count, tidy.most, in_use_law)

    below_tidy : Tidy s t.head.fan (below s t d c)
    below_tidy = go (eqb (suc d) levels) refl
      where
        next : In c (level s t (suc d))
        next = child_level s t e w d p i r hi child_inside

        go : (b : Bool) → eqb (suc d) levels ≡ b → Tidy s t.head.fan (below s t d c)
        go true q =
            let y : suc d ≡ levels = eqb-true (suc d) levels q in
            subst (Tidy s t.head.fan) (sym (below_leaf d c y)) ((neat_of s t e w).leaf_tidy c (all_in (λ k. k < t.head.leaves) (subst (λ (k : ℕ). In c (level s t k)) y next) w.leaves_once.below))
        go false q =
            let y : suc d ≡ levels → ⊥ = eqb-false (suc d) levels q in
            let z : suc d < levels = omega (arith, hd) in
            subst (Tidy s t.head.fan) (sym (below_inner d c z)) ((neat_of s t e w).inner_tidy c (level_below s t e w (suc d) c z next))

    -- the slot is its child's number and totals
    pub slot_is : x ≡ slot_for s c (below s t d c)
    unfolding slot_for
    slot_is = slot_same s x (slot_for s c (below s t d c)) slot_long (slot_wide s t.head.fan hs c (below s t d c) below_tidy) same_child same_length
      where
        same_child : c ≡ child (slot_for s c (below s t d c))
        same_child = refl

        same_length : (v : ℕ) → suc v < s → length_in v x ≡ length_in v (slot_for s c (below s t d c))
        same_length v hv =
            let n : Node = below s t d c in
            let a : length_in v x ≡ total v (used n) = (child_of s t e w d p i hd r hi).sums v hv in
            let m : total v (used n) ≤ 4294967295 = omega (arith, a, small v hv) in
            let b : total v (used n) % 2 ^ 32 ≡ total v (used n) = omega arith in
            let q : get_or (totals_from (s - 1) 0 n.slots) v 0 ≡ total v (used n) = totals_at (s - 1) 0 v n.slots (omega arith) ∙ ap (λ (u : ℕ). total u n.slots % 2 ^ 32) (zero-add v) ∙ ap (λ (k : ℕ). k % 2 ^ 32) (slots_total s t.head.fan v n below_tidy) ∙ b in
            a ∙ sym (ap (λ (k : ℕ). get_or (c ∷ totals_from (s - 1) 0 n.slots) k 0) (add-one v) ∙ q)

-- the words of unused slots ---------------------------------------------------------------------------------------------------------------------------

pub unused_words : (g : Shape) (k : ℕ) (area : List ℕ) → g.size ≡ 3 + g.fan * g.stride → k * g.size + g.size ≤ length area → Tidy g.stride g.fan (node_at g k area)
    → part (k * g.size + (3 + (node_at g k area).len * g.stride)) ((g.fan - (node_at g k area).len) * g.stride) area ≡ flat (empty_slots g.stride (g.fan - (node_at g k area).len))
unfolding node_of
unused_words g k area e h td = go (node_at g k area).len refl
  where
    go : (len : ℕ) → (node_at g k area).len ≡ len → part (k * g.size + (3 + len * g.stride)) ((g.fan - len) * g.stride) area ≡ flat (empty_slots g.stride (g.fan - len))
    go len q =
        let u : length (used (node_at g k area)) ≡ len = sym (len_used g.stride g.fan (node_at g k area) td) ∙ q in
        let f : len ≤ g.fan = omega (arith, td.most, u) in
        let room : len * g.stride + (g.fan - len) * g.stride ≡ g.fan * g.stride = rows_between len g.fan g.stride f in
        let ws : List ℕ = part (k * g.size) g.size area in
        sym (part_part (k * g.size) g.size (3 + len * g.stride) ((g.fan - len) * g.stride) area (omega arith))
        ∙ part_end (3 + len * g.stride) ((g.fan - len) * g.stride) ws (omega (arith, length_part (k * g.size) g.size area h))
        ∙ rest len f u
      where
        rest : (len : ℕ) → len ≤ g.fan → length (used (node_at g k area)) ≡ len → drop (3 + len * g.stride) (part (k * g.size) g.size area) ≡ flat (empty_slots g.stride (g.fan - len))
        rest len f u =
            words_drop g.stride g.fan len (part (k * g.size) g.size area) (length_part (k * g.size) g.size area h ∙ e) f
            ∙ ap (λ (n : Node). flat (drop len n.slots)) td.is
            ∙ ap flat (drop_at (used (node_at g k area)) (empty_slots g.stride (g.fan - length (used (node_at g k area)))) len u ∙ ap (λ (z : ℕ). empty_slots g.stride (g.fan - z)) u)

-- positions -------------------------------------------------------------------------------------------------------------------------------------------------

-- c stands in a list behind place j
pub record Behind (j c : ℕ) (l : List ℕ) : Type 0 where
  pub at : ℕ
  pub behind : j < at
  pub within : at < length l
  pub is : get_or l at 0 ≡ c

pub record PlaceIn (c : ℕ) (l : List ℕ) : Type 0 where
  pub at : ℕ
  pub within : at < length l
  pub is : get_or l at 0 ≡ c

pub found : {c : ℕ} (l : List ℕ) → In c l → PlaceIn c l
found [] i = elim i [ ]
found (c ∷ l) here = record { at = 0; within = omega arith; is = refl }
found (x ∷ l) (later i) = let r = found l i in record { at = suc r.at; within = omega (arith, r.within); is = r.is }

-- levels of which each is made of the children of the one before
module _ (lev : ℕ → List ℕ) (kids : ℕ → List ℕ) (next : (d : ℕ) → lev (suc d) ≡ flat_map kids (lev d)) where
  first_of_law : (d n : ℕ) → flat_map lev (range d (suc n)) ≡ lev d ++ flat_map lev (range (suc d) n)
  unfolding flat_map range
  first_of_law d n = refl

  none_of : (d : ℕ) → length (flat_map lev (range d 0)) ≡ 0
  unfolding flat_map range
  none_of d = refl

  -- node j stands in level d
  pub record InLevel (j from n : ℕ) (l : List ℕ) : Type 0 where
    pub d : ℕ
    pub low : from ≤ d
    pub high : d < from + n
    pub row : In (get_or l j 0) (lev d)

  pub stands : (n d j : ℕ) → j < length (flat_map lev (range d n)) → (rest : List ℕ) → InLevel j d n (flat_map lev (range d n) ++ rest)
  stands zero d j h rest = absurd (omega (arith, none_of d))
  stands (suc n) d j h rest = go (ltb j (length (lev d))) refl (λ (v : j - length (lev d) < length (flat_map lev (range (suc d) n))). stands n (suc d) (j - length (lev d)) v rest)
    where
      l : List ℕ
      l = flat_map lev (range (suc d) n)

      whole : flat_map lev (range d (suc n)) ++ rest ≡ lev d ++ (l ++ rest)
      whole = ap (λ (z : List ℕ). z ++ rest) (first_of_law d n) ∙ append_assoc (lev d) l rest

      size : length (flat_map lev (range d (suc n))) ≡ length (lev d) + length l
      size = ap length (first_of_law d n) ∙ length-append (lev d) l

      go : (b : Bool) → ltb j (length (lev d)) ≡ b → (j - length (lev d) < length l → InLevel (j - length (lev d)) (suc d) n (l ++ rest)) → InLevel j d (suc n) (flat_map lev (range d (suc n)) ++ rest)
      go true q f =
          let v : j < length (lev d) = ltb-true j (length (lev d)) q in
          record { d = d; low = omega arith; high = omega arith; row = subst (λ (z : ℕ). In z (lev d)) (sym (ap (λ (z : List ℕ). get_or z j 0) whole ∙ get_or-append (lev d) (l ++ rest) 0 j v)) (get_d_in (lev d) j v) }
      go false q f =
          let v : length (lev d) ≤ j = ltb-false j (length (lev d)) q in
          let r = f (omega (arith, size)) in
          let y : length (lev d) + (j - length (lev d)) ≡ j = omega arith in
          let z : get_or (flat_map lev (range d (suc n)) ++ rest) j 0 ≡ get_or (l ++ rest) (j - length (lev d)) 0 =
          ap (λ (z : List ℕ). get_or z j 0) whole ∙ ap (λ (k : ℕ). get_or (lev d ++ (l ++ rest)) k 0) (sym y) ∙ get_or-append-add (lev d) (l ++ rest) (j - length (lev d)) 0
          in
          record { d = r.d; low = omega (arith, r.low); high = omega (arith, r.high); row = subst (λ (k : ℕ). In k (lev r.d)) (sym z) r.row }

  pub behind : (n d j c : ℕ) → j < length (flat_map lev (range d n)) → In c (kids (get_or (flat_map lev (range d (suc n))) j 0)) → Behind j c (flat_map lev (range d (suc n)))
  behind zero d j c h i = absurd (omega (arith, none_of d))
  behind (suc n) d j c h i = go (ltb j (length (lev d))) refl (λ (v : j - length (lev d) < length (flat_map lev (range (suc d) n))) k. behind n (suc d) (j - length (lev d)) c v k)
    where
      l : List ℕ
      l = flat_map lev (range (suc d) (suc n))

      size : length (flat_map lev (range d (suc n))) ≡ length (lev d) + length (flat_map lev (range (suc d) n))
      size = ap length (first_of_law d n) ∙ length-append (lev d) (flat_map lev (range (suc d) n))

      all : length (flat_map lev (range d (suc (suc n)))) ≡ length (lev d) + length l
      all = ap length (first_of_law d (suc n)) ∙ length-append (lev d) l

      later_at : (k : ℕ) → get_or (flat_map lev (range d (suc (suc n)))) (length (lev d) + k) 0 ≡ get_or l k 0
      later_at k = ap (λ (z : List ℕ). get_or z (length (lev d) + k) 0) (first_of_law d (suc n)) ∙ get_or-append-add (lev d) l k 0

      go : (b : Bool) → ltb j (length (lev d)) ≡ b → (j - length (lev d) < length (flat_map lev (range (suc d) n)) → In c (kids (get_or l (j - length (lev d)) 0)) → Behind (j - length (lev d)) c l) → Behind j c (flat_map lev (range d (suc (suc n))))
      go true q f =
          let v : j < length (lev d) = ltb-true j (length (lev d)) q in
          let y : get_or (flat_map lev (range d (suc (suc n)))) j 0 ≡ get_or (lev d) j 0 = ap (λ (z : List ℕ). get_or z j 0) (first_of_law d (suc n)) ∙ get_or-append (lev d) l 0 j v in
          let k : In c (flat_map kids (lev d)) = in_flat kids (get_d_in (lev d) j v) (subst (λ (z : ℕ). In c (kids z)) y i) in
          let m : In c l = subst (In c) (sym (first_of_law (suc d) n)) (in_left (flat_map lev (range (suc (suc d)) n)) (subst (In c) (sym (next d)) k)) in
          let r = found l m in
          record { at = length (lev d) + r.at; behind = omega arith; within = omega (arith, all, r.within); is = later_at r.at ∙ r.is }
      go false q f =
          let v : length (lev d) ≤ j = ltb-false j (length (lev d)) q in
          let y : length (lev d) + (j - length (lev d)) ≡ j = omega arith in
          let z : get_or (flat_map lev (range d (suc (suc n)))) j 0 ≡ get_or l (j - length (lev d)) 0 = ap (λ (k : ℕ). get_or (flat_map lev (range d (suc (suc n)))) k 0) (sym y) ∙ later_at (j - length (lev d)) in
          let r = f (omega (arith, size)) (subst (λ (k : ℕ). In c (kids k)) z i) in
          record { at = length (lev d) + r.at; behind = omega (arith, r.behind); within = omega (arith, all, r.within); is = later_at r.at ∙ r.is }
