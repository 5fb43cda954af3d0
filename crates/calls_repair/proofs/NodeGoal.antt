-- What the writer aims at in the inner nodes of a tree whose queue was made by the test. Assumes nothing.
use mathlib.Core.Path.{◌≡◌, refl, sym, ap, ap₂, subst, ◌∙◌}
use mathlib.Core.Bool.{Bool, true, false, cond}
use mathlib.Core.List.{List, [], ◌++◌, map, flat_map, append_assoc, append-nil}
use Prim.Native.Nat.{ℕ, zero, suc, ◌+◌, ◌-◌, ◌*◌, ◌<◌, ◌≤◌}
use native.Mathlib.Omega.{arith}
use lib.ListN.{length, get_or, length-append, get_or-map}
use lib.Seq.{get_or-take}
use lib.Dec.{leb}
use borrow.Author.Tests.{leb-true, leb-false, eq-eqb, ne_eqb}
use Rattle.model.specs.Lists.{part, range}
use Rattle.model.specs.Node.{Node, child, used, node_of, slot_for}
use Rattle.model.specs.State.{State, state, node_at}
use Rattle.model.specs.Sound.{CoherentAt, Child, shape_in, inner_in, level, below}
use Rattle.model.specs.Mend.{no_finger}
use Rattle.model.specs.Repair.{Agrees}
use Rattle.model.specs.declared.shape.Shape.{Shape}
use Rattle.model.specs.declared.head.Head.{Head}
use Rattle.model_laws.specs.Lists.{row_end}
use Rattle.model_laws.specs.Areas.{len_at, parent_at, place_at}
use Rattle.model_laws.specs.AreaRead.{node_end, slots_are}
use Rattle.model_laws.specs.Slots.{slots_at}
use Rattle.model_laws.specs.Words.{get_d_part, length_part, part_part}
use Rattle.tree_node.specs.Shaped.{Shaped}
use Rattle.calls_repair_test.specs.Queue.{kids_of, level_in}
use Rattle.calls_repair_test.specs.Reach.{QueueReached, inners_from}
use Rattle.calls_repair_write.specs.Toward.{Goal, slot_at, SlotAim, SlotsRight, Empty}
use Rattle.calls_repair_write.specs.Nodes.{child_in, node_on, len_on, BehindInQueue, NodesGoal}
use Rattle.calls_repair_write.proofs.SlotLaws.{child_word}
use Rattle.model_theory.specs.WordNeat.{neat_of}
use Rattle.model_theory.specs.RepairLists.{In, all_in, in_flat, in_range, in_children, get_d_in}
use Rattle.model_theory.specs.RepairUnique.{level_below, level_as, child_of, child_level}
use Rattle.model_theory.specs.RepairSlots.{unused_words, slot_is, Behind, behind, InLevel, stands}

-- levels -----------------------------------------------------------------------------------------------------------------------------------------------

level_is : (s : ℕ) (t : State) (d : ℕ) → level_in (kids_of (shape_in s t) t.inners) t.head.root.0 d ≡ level s t d
unfolding level_in level
level_is s t zero = refl
level_is s t (suc d) = ap (flat_map (kids_of (shape_in s t) t.inners)) (level_is s t d)

next_in_law : (kids : ℕ → List ℕ) (root d : ℕ) → level_in kids root (suc d) ≡ flat_map kids (level_in kids root d)
unfolding level_in
next_in_law kids root d = refl

last_of : (f : ℕ → List ℕ) (i n : ℕ) → flat_map f (range i (suc n)) ≡ flat_map f (range i n) ++ f (i + n)
unfolding flat_map range
last_of f i zero = append-nil (f i) ∙ (let e : i ≡ i + 0 = omega arith in ap f e)
last_of f i (suc n) =
    let e : suc i + n ≡ i + suc n = omega arith in
    ap (λ (l : List ℕ). f i ++ l) (last_of f (suc i) n ∙ ap (λ (k : ℕ). flat_map f (range (suc i) n) ++ f k) e) ∙ sym (append_assoc (f i) (flat_map f (range (suc i) n)) (f (i + suc n)))

-- the nodes of the queue ----------------------------------------------------------------------------------------------------------------------------

module _ (kids : ℕ → List ℕ) (root levels n m last : ℕ) (order : List ℕ) (r : QueueReached kids root levels n m last order) (hl : 1 ≤ levels) where
  abbrev lev : ℕ → List ℕ
  lev d = level_in kids root d

  abbrev front : List ℕ
  front = flat_map lev (range 0 (levels - 1))

  pub whole : inners_from kids root levels ≡ front ++ lev (levels - 1)
  whole =
      let q : suc (levels - 1) ≡ levels = omega arith in
      let z : 0 + (levels - 1) ≡ levels - 1 = omega arith in
      ap (λ (k : ℕ). flat_map lev (range 0 k)) (sym q) ∙ last_of lev 0 (levels - 1) ∙ ap (λ (k : ℕ). front ++ lev k) z

  pub all_long : length (inners_from kids root levels) ≡ n
  all_long = sym (ap length r.above) ∙ length_part 0 n order (omega (arith, r.long))

  pub front_long : length front ≡ last
  front_long = omega (
    arith,
    r.sorted,
    all_long,
    ap length whole ∙ length-append front (lev (levels - 1)),
    sym (ap length r.lowest) ∙ length_part last (n - last) order (omega (arith, r.long, r.sorted)),
  )

  pub on : (j : ℕ) → j < n → get_or order j 0 ≡ get_or (inners_from kids root levels) j 0
  on j h =
      let z : 0 + j ≡ j = omega arith in
      ap (λ (k : ℕ). get_or order k 0) (sym z) ∙ sym (get_d_part 0 n j order h) ∙ ap (λ (l : List ℕ). get_or l j 0) r.above

  -- node j stands in level d, which is the last exactly from place last on
  pub record NodeLevel (j : ℕ) : Type 0 where
    pub d : ℕ
    pub inside : d < levels
    pub row : In (get_or order j 0) (lev d)
    pub lowest : last ≤ j → suc d ≡ levels
    pub higher : j < last → suc d < levels

  pub level_of_law : (j : ℕ) → j < n → NodeLevel j
  level_of_law j h = go (leb last j) refl
    where
      go : (b : Bool) → leb last j ≡ b → NodeLevel j
      go true q =
          let l : last ≤ j = leb-true last j q in
          let z : last + (j - last) ≡ j = omega arith in
          let e : get_or (lev (levels - 1)) (j - last) 0 ≡ get_or order j 0 = ap (λ (k : List ℕ). get_or k (j - last) 0) (sym r.lowest) ∙ get_d_part last (n - last) (j - last) order
          (omega arith) ∙ ap (λ (k : ℕ). get_or order k 0) z in
          let i : j - last < length (lev (levels - 1)) = omega (arith, all_long, front_long, ap length whole ∙ length-append front (lev (levels - 1))) in
          record {
            d = levels - 1;
            inside = omega arith;
            row = subst (λ (k : ℕ). In k (lev (levels - 1))) e (get_d_in (lev (levels - 1)) (j - last) i);
            lowest = λ y. omega arith;
            higher = λ y. absurd (omega (arith, y, l));
          }
      go false q =
          let l : j < last = leb-false last j q in
          let w : InLevel lev kids (next_in_law kids root) j 0 (levels - 1) (front ++ lev (levels - 1)) = stands lev kids (next_in_law kids root) (levels - 1) 0 j
          (omega (arith, front_long)) (lev (levels - 1)) in
          record {
            d = w.d;
            inside = omega (arith, w.high);
            row = subst (λ (k : ℕ). In k (lev w.d)) (sym (on j h ∙ ap (λ (k : List ℕ). get_or k j 0) whole)) w.row;
            lowest = λ y. absurd (omega (arith, y, l));
            higher = λ y. omega (arith, w.high);
          }

  pub behind_on : (j c : ℕ) → j < last → In c (kids (get_or order j 0)) → Behind j c (inners_from kids root levels)
  behind_on j c h i =
      let q : suc (levels - 1) ≡ levels = omega arith in
      subst (λ (k : ℕ). Behind j c (flat_map lev (range 0 k))) q
      (behind lev kids (next_in_law kids root) (levels - 1) 0 j c (omega (arith, front_long))
      (subst (λ (k : ℕ). In c (kids k)) (on j (omega (arith, r.sorted)) ∙ ap (λ (k : ℕ). get_or (flat_map lev (range 0 k)) j 0) (sym q)) i))

-- t is given, R aimed at; l₁ is the leaf area as the leaves' writer left it ----------------------------------------------------------------------------

module _ (views : ℕ) (h : Head) (ls xs hs lm xm hm l₁ order : List ℕ) (last : ℕ) where
  abbrev s : ℕ
  s = suc views

  abbrev t : State
  t = state h ls xs hs

  abbrev R : State
  R = state (no_finger h) lm xm hm

  abbrev g : Shape
  g = shape_in s t

  abbrev kids : ℕ → List ℕ
  kids = kids_of g xs

  module _ (w : CoherentAt s R 0) (ag : Agrees s t R) (sh : Shaped g) (ll : length lm ≡ length l₁) (lx : length xm ≡ length xs)
      (r : QueueReached kids h.root.0 h.levels h.inners h.leaves last order) (rd : (k : ℕ) → k < h.leaves → SlotsRight g l₁ lm k)
    where
      abbrev goal : Goal
      goal = record { leaves = lm; beside = xm }

      abbrev n : ℕ
      n = h.inners

      abbrev node : ℕ → ℕ
      node j = node_on g order last n j

      abbrev len : ℕ → ℕ
      len j = len_on g order last n goal j

      -- the levels of R
      pub same_level : (d : ℕ) → d ≤ h.levels → level_in kids h.root.0 d ≡ level s R d
      same_level d l = level_is s t d ∙ sym (level_as s t R refl h.levels kids_same d l)
        where
          kids_same : (d p : ℕ) → d < h.levels → In p (level s t d) → map child (used (inner_in s R p)) ≡ map child (used (inner_in s t p))
          kids_same d p l i =
              ag.inner_children p (all_in (λ k. k < n) (in_flat (level_in kids h.root.0) (in_range 0 h.levels d (omega arith) (omega arith))
              (subst (In p) (sym (level_is s t d)) i)) r.inners_used)

      at : (j : ℕ) → j < n → NodeLevel kids h.root.0 h.levels n h.leaves last order r w.levels_least j
      at j l = level_of_law kids h.root.0 h.levels n h.leaves last order r w.levels_least j l

      row : (j : ℕ) (l : j < n) → In (node j) (level s R (at j l).d)
      row j l = subst (In (node j)) (same_level (at j l).d (omega (arith, (at j l).inside))) (at j l).row

      used_node : (j : ℕ) → j < n → node j < n
      used_node j l = level_below s R 0 w (at j l).d (node j) (at j l).inside (row j l)

      len_is : (j : ℕ) → (inner_in s R (node j)).len ≡ len j
      len_is j = len_at g (node j) xm refl

      most : (j : ℕ) → j < n → len j ≤ h.fan
      most j l = omega (arith, len_is j, (w.inner_filled (node j) (used_node j l)).high)

      child_is : (j i : ℕ) → j < n → i < len j → child (get_or (inner_in s R (node j)).slots i []) ≡ child_in g goal (node j) i
      child_is j i l q = child_word g (node j) i xm sh (omega (arith, most j l))

      -- child number i, by the list of the children
      kid_at : (a : List ℕ) (p i : ℕ) → i < (node_at g p a).len → get_or (kids_of g a p) i 0 ≡ child (get_or (node_at g p a).slots i [])
      kid_at a p i l = get_or-map child (used (node_at g p a)) i [] ∙ ap child (get_or-take (node_at g p a).len (node_at g p a).slots i [] l)

      child_same : (j i : ℕ) → j < n → i < len j → get_or xs (slot_at g (node j) i) 0 ≡ child_in g goal (node j) i
      child_same j i l q =
          let e : (inner_in s t (node j)).len ≡ len j = sym (ag.inner_len (node j) (used_node j l)) ∙ len_is j in
          sym (child_word g (node j) i xs sh (omega (arith, most j l))) ∙ sym (kid_at xs (node j) i (omega (arith, e))) ∙ ap (λ (z : List ℕ). get_or z i 0)
          (sym (ag.inner_children (node j) (used_node j l)))
          ∙ kid_at xm (node j) i (omega (arith, len_is j)) ∙ child_is j i l q

      next : (j i : ℕ) (l : j < n) → i < len j → In (child_in g goal (node j) i) (level s R (suc (at j l).d))
      next j i l q =
          subst (λ (c : ℕ). In c (level s R (suc (at j l).d))) (child_is j i l q)
          (child_level s R 0 w (at j l).d (node j) i (row j l) (omega (arith, len_is j)) (omega (arith, slots_are g (node j) xm, most j l)))

      in_leaf : (j i : ℕ) (l : j < n) → i < len j → last ≤ j → child_in g goal (node j) i < h.leaves
      in_leaf j i l q y = all_in (λ k. k < h.leaves) (subst (λ (d : ℕ). In (child_in g goal (node j) i) (level s R d)) ((at j l).lowest y) (next j i l q)) w.leaves_once.below

      in_inner : (j i : ℕ) (l : j < n) → i < len j → j < last → child_in g goal (node j) i < n
      in_inner j i l q y = level_below s R 0 w (suc (at j l).d) (child_in g goal (node j) i) ((at j l).higher y) (next j i l q)

      child_below : (j i : ℕ) → j < n → i < len j → child_in g goal (node j) i < g.nodes
      child_below j i l q = go (leb last j) refl
        where
          go : (b : Bool) → leb last j ≡ b → child_in g goal (node j) i < g.nodes
          go true y = omega (arith, in_leaf j i l q (leb-true last j y), w.leaf_count)
          go false y = omega (arith, in_inner j i l q (leb-false last j y), w.inner_count)

      -- the area below is that of the code's test
      side_is : (j : ℕ) (l : j < n) (c : ℕ) (b : Bool) → leb last j ≡ b → below s R (at j l).d c ≡ node_at g c (cond b lm xm)
      side_is j l c true y = rw (eq-eqb (suc (at j l).d) h.levels ((at j l).lowest (leb-true last j y)))
      side_is j l c false y = rw (ne_eqb (suc (at j l).d) h.levels (λ z. omega (arith, z, (at j l).higher (leb-false last j y))))

      node_room : (j : ℕ) → j < n → node j * g.size + g.size ≤ length xm
      node_room j l = node_end g (node j) (length xm) (omega (arith, used_node j l, w.inner_count)) w.inner_area

      slot_words : (j i : ℕ) → j < n → i < len j → part (slot_at g (node j) i) g.stride xm ≡ get_or (inner_in s R (node j)).slots i []
      unfolding node_of
      slot_words j i l q =
          sym (slots_at g.stride g.fan i 3 (part (node j * g.size) g.size xm) (omega (arith, most j l)) ∙ part_part (node j * g.size) g.size (3 + i * g.stride)
          g.stride xm (omega (arith, row_end i g.fan g.stride (omega (arith, most j l)))))

      slot_aim : (j i : ℕ) (l : j < n) (q : i < len j) (b : Bool) → leb last j ≡ b → SlotAim g b (child_in g goal (node j) i) (node j) i goal
      slot_aim j i l q b y =
          let c : ℕ = child_in g goal (node j) i in
          let d : ℕ = (at j l).d in
          let k : i < (inner_in s R (node j)).len = omega (arith, len_is j) in
          let f : Child s R d (node j) i (get_or (inner_in s R (node j)).slots i []) = child_of s R 0 w d (node j) i (at j l).inside (row j l) k in
          let e : child (get_or (inner_in s R (node j)).slots i []) ≡ c = child_is j i l q in
          let u : below s R d (child (get_or (inner_in s R (node j)).slots i [])) ≡ node_at g c (cond b lm xm) = ap (below s R d) e ∙ side_is j l c b y in
          record {
            parent = sym (parent_at g c (aimed b) refl) ∙ ap (λ (x : Node). x.parent) (aimed_is b c ∙ sym u) ∙ f.parent;
            place = sym (place_at g c (aimed b) refl) ∙ ap (λ (x : Node). x.at) (aimed_is b c ∙ sym u) ∙ f.at;
            slot = slot_words j i l q ∙ slot_is s 0 (omega arith) R w d (node j) i (at j l).inside (row j l) k ∙ ap₂ (slot_for s) e (u ∙ sym (aimed_is b c));
          }
        where
          aimed : Bool → List ℕ
          aimed b = cond b lm xm

          aimed_is : (b : Bool) (c : ℕ) → node_at g c (aimed b) ≡ node_at g c (cond b lm xm)
          aimed_is b c = refl

      later_on : (j i : ℕ) → j < last → i < len j → BehindInQueue g order last n j (child_in g goal (node j) i)
      later_on j i y q =
          let l : j < n = omega (arith, r.sorted) in
          let e : (inner_in s t (node j)).len ≡ len j = sym (ag.inner_len (node j) (used_node j l)) ∙ len_is j in
          let a : In (child_in g goal (node j) i) (kids (node j)) = subst (λ (c : ℕ). In c (kids (node j))) (child_word g (node j) i xs sh (omega (arith, most j l)) ∙ child_same j i l q)
          (in_children (inner_in s t (node j)).len i (inner_in s t (node j)).slots (omega (arith, e)) (omega (arith, slots_are g (node j) xs, most j l))) in
          let b = behind_on kids h.root.0 h.levels n h.leaves last order r w.levels_least j (child_in g goal (node j) i) y a in
          let z : b.at < n = omega (arith, b.within, all_long kids h.root.0 h.levels n h.leaves last order r w.levels_least) in
          record { at = b.at; behind = b.behind; within = z; is = on kids h.root.0 h.levels n h.leaves last order r w.levels_least b.at z ∙ b.is }

      pub nodes_goal : NodesGoal g order last n goal l₁ xs
      nodes_goal = record {
        long = record { leaves = ll; beside = lx };
        used = λ j l. omega (arith, used_node j l, w.inner_count);
        lens = λ j l. sym (len_at g (node j) xs refl) ∙ sym (ag.inner_len (node j) (used_node j l)) ∙ len_is j;
        most = most;
        child = child_same;
        below = child_below;
        slot = λ j i l q. slot_aim j i l q (leb last j) refl;
        empty = λ j l. subst (λ (k : ℕ). Empty g xm (node j) k) (len_is j) (unused_words g (node j) xm refl (node_room j l) ((neat_of s R 0 w).inner_tidy (node j) (used_node j l)));
        ready = λ j i l y q. rd (child_in g goal (node j) i) (in_leaf j i l q y);
        later = later_on;
      }
