-- After all has been written the areas are those aimed at, and the counts add up to the words that differ. Assumes nothing.
use mathlib.Core.Path.{◌≡◌, refl, sym, ap, subst, ◌∙◌}
use mathlib.Core.Bool.{Bool, true, false, cond}
use mathlib.Core.List.{List, [], ◌++◌, flat_map}
use Prim.Native.Nat.{ℕ, zero, suc, ◌+◌, ◌-◌, ◌*◌, ◌<◌, ◌≤◌}
use native.Mathlib.Omega.{arith}
use lib.ListN.{length, get_or, length-append, get_or-append}
use lib.Seq.{get_or-take, ext_get_or, get_or-append-add}
use lib.Dec.{ltb}
use borrow.Author.Tests.{ltb-true, ltb-false, le-leb, lt-leb}
use Rattle.model.specs.Lists.{part, range}
use Rattle.model.specs.Node.{child, node_of}
use Rattle.model.specs.State.{State, state, node_at}
use Rattle.model.specs.Sound.{CoherentAt, shape_in, leaf_in, inner_in, level}
use Rattle.model.specs.Mend.{no_finger}
use Rattle.model.specs.Repair.{Agrees, differ, changes}
use Rattle.model.specs.declared.shape.Shape.{Shape}
use Rattle.model.specs.declared.head.Head.{Head}
use Rattle.model_laws.specs.Differ.{differ_none}
use Rattle.model_laws.specs.Lists.{row_end}
use Rattle.model_laws.specs.Areas.{len_at}
use Rattle.model_laws.specs.Slots.{slots_at}
use Rattle.model_laws.specs.Words.{get_d_part, part_part}
use Rattle.tree_node.specs.Shaped.{Shaped}
use Rattle.calls_repair_test.specs.Queue.{kids_of, level_in}
use Rattle.calls_repair_test.specs.Reach.{QueueReached, inners_from}
use Rattle.calls_repair_write.specs.Toward.{WordsRight, Goal, slot_at, SlotsRight, LinkRight}
use Rattle.calls_repair_write.specs.Leaves.{id_in, len_of, LeavesGoal, LeavesDone}
use Rattle.calls_repair_write.specs.Nodes.{child_in, node_on, len_on, NodesGoal, NodesDone}
use Rattle.calls_repair_write.proofs.NearLaws.{PutRight, kept_same, same_rows}
use Rattle.calls_repair_write.proofs.SlotLaws.{child_word, all_slots}
use Rattle.model_theory.specs.RepairLists.{In, Of, in_flat, in_range, in_range_below, ChildPlace, only}
use Rattle.model_theory.specs.RepairUnique.{inner_level, leaf_level, Slotted, slotted, Stored, stored}
use Rattle.model_theory.specs.RepairSlots.{found}
use Rattle.calls_repair.proofs.LeafGoal.{leaves_goal}
use Rattle.calls_repair.proofs.NodeGoal.{nodes_goal, same_level, whole, all_long, front_long, on}

-- words of equal parts
same_of : (a m : List ℕ) (p n : ℕ) → part p n a ≡ part p n m → WordsRight a m p n
same_of a m p n e q lo hi =
    let z : p + (q - p) ≡ q = omega arith in
    subst (λ (k : ℕ). get_or a k 0 ≡ get_or m k 0) z (sym (get_d_part p n (q - p) a (omega arith)) ∙ ap (λ (l : List ℕ). get_or l (q - p) 0) e ∙ get_d_part p n (q - p) m (omega arith))

-- slot i of node k as a part of the area
row_words : (g : Shape) (k i : ℕ) (a : List ℕ) → Shaped g → i < g.fan → part (slot_at g k i) g.stride a ≡ get_or (node_at g k a).slots i []
unfolding node_of
row_words g k i a s h =
    sym (slots_at g.stride g.fan i 3 (part (k * g.size) g.size a) h ∙ part_part (k * g.size) g.size (3 + i * g.stride) g.stride a
    (omega (arith, s.words, row_end i g.fan g.stride h)))

-- the root alone stands in the first level
root_is : (s : ℕ) (t : State) (k : ℕ) → In k (level s t 0) → k ≡ t.head.root.0
unfolding level
root_is s t k i = only k t.head.root.0 i

-- a node whose len, link and slots are right is right
node_words : (g : Shape) (a m : List ℕ) (k : ℕ) → Shaped g → get_or a (k * g.size) 0 ≡ get_or m (k * g.size) 0 → LinkRight g a m k → SlotsRight g a m k → WordsRight a m (k * g.size) g.size
node_words g a m k s e l r q lo hi = go (ltb q (k * g.size + 1)) refl (ltb q (k * g.size + 3)) refl
  where
    go : (x : Bool) → ltb q (k * g.size + 1) ≡ x → (y : Bool) → ltb q (k * g.size + 3) ≡ y → get_or a q 0 ≡ get_or m q 0
    go true u y v = let z : k * g.size ≡ q = (let b : q < k * g.size + 1 = ltb-true q (k * g.size + 1) u in omega arith) in subst (λ (x : ℕ). get_or a x 0 ≡ get_or m x 0) z e
    go false u true v = let b : q < k * g.size + 3 = ltb-true q (k * g.size + 3) v in l q (ltb-false q (k * g.size + 1) u) (omega arith)
    go false u false v = r q (ltb-false q (k * g.size + 3) v) (omega (arith, s.words))

-- an area whose first n nodes are right, and whatever lies behind them
area_is : (g : Shape) (a m : List ℕ) (n : ℕ) → length a ≡ length m → ((k : ℕ) → k < n → WordsRight a m (k * g.size) g.size) → ((q : ℕ) → n * g.size ≤ q → get_or a q 0 ≡ get_or m q 0) → a ≡ m
area_is g a m n l f e = ext_get_or 0 a m l (λ i h. go i (ltb i (n * g.size)) refl)
  where
    rows : WordsRight a m 0 (n * g.size)
    rows = same_rows a m g.size n 0 (λ k h q lo hi. f k h q (omega arith) (omega arith))

    go : (i : ℕ) (b : Bool) → ltb i (n * g.size) ≡ b → get_or a i 0 ≡ get_or m i 0
    go i true q = let z : i < n * g.size = ltb-true i (n * g.size) q in rows i (omega arith) (omega arith)
    go i false q = e i (ltb-false i (n * g.size) q)

module _ (views : ℕ) (h : Head) (ls xs hs lm xm hm order : List ℕ) (last : ℕ) where
  abbrev s : ℕ
  s = suc views

  abbrev t : State
  t = state h ls xs hs

  abbrev R : State
  R = state (no_finger h) lm xm hm

  abbrev g : Shape
  g = shape_in s t

  abbrev kids : ℕ → List ℕ
  kids = kids_of g xs

  abbrev root : ℕ
  root = h.root.0

  -- R is the tree aimed at: sound, in agreement with t, and like t wherever nothing is in use
  pub record TreeAim : Type 0 where
    pub sound : CoherentAt s R 0
    pub agrees : Agrees s t R
    pub shaped : Shaped g
    pub leaf_long : length lm ≡ length ls
    pub inner_long : length xm ≡ length xs
    pub home_long : length hm ≡ length hs
    pub leaf_else : (p : ℕ) → h.leaves * g.size ≤ p → get_or lm p 0 ≡ get_or ls p 0
    pub inner_else : (p : ℕ) → h.inners * g.size ≤ p → get_or xm p 0 ≡ get_or xs p 0
    pub home_else : (p : ℕ) → h.entries ≤ p → get_or hm p 0 ≡ get_or hs p 0
    pub reached : QueueReached kids root h.levels h.inners h.leaves last order

  module _ (w : TreeAim) where
    abbrev leaf_aim : Goal
    leaf_aim = record { leaves = lm; beside = hm }

    abbrev node_aim : Goal
    node_aim = record { leaves = lm; beside = xm }

    pub aim_leaves : LeavesGoal g h.leaves leaf_aim ls hs
    aim_leaves = leaves_goal views h ls xs hs lm xm hm w.sound w.agrees w.shaped w.leaf_long w.home_long

    -- slots in use of a leaf are trusted
    slot_trusted : (k i : ℕ) → k < h.leaves → i < len_of g leaf_aim k → WordsRight ls lm (slot_at g k i) g.stride
    slot_trusted k i l q =
        let f : len_of g leaf_aim k ≤ h.fan = aim_leaves.most k l in
        let e : (leaf_in s R k).len ≡ len_of g leaf_aim k = len_at g k lm refl in
        let r : get_or (leaf_in s t k).slots i [] ≡ get_or (leaf_in s R k).slots i [] =
        sym (get_or-take (leaf_in s t k).len (leaf_in s t k).slots i [] (omega (arith, w.agrees.leaf_len k l))) ∙ ap (λ (z : List (List ℕ)). get_or z i []) (sym (w.agrees.leaf_slots_law k l))
        ∙ get_or-take (leaf_in s R k).len (leaf_in s R k).slots i [] (omega arith)
        in
        same_of ls lm (slot_at g k i) g.stride (row_words g k i ls w.shaped (omega arith) ∙ r ∙ sym (row_words g k i lm w.shaped (omega arith)))

    module _ (a : ℕ) (l₁ h₁ : List ℕ) (dl : LeavesDone g h.leaves leaf_aim ls hs a l₁ h₁) where
      pub leaf_ready : (k : ℕ) → k < h.leaves → SlotsRight g l₁ lm k
      leaf_ready k l =
          all_slots g k (len_of g leaf_aim k) l₁ lm (aim_leaves.most k l) (λ i q. kept_same dl.near.leaves (slot_at g k i) g.stride (slot_trusted k i l q)) (dl.empty k l)

      pub aim_nodes : NodesGoal g order last h.inners node_aim l₁ xs
      aim_nodes = nodes_goal views h ls xs hs lm xm hm l₁ order last w.sound w.agrees w.shaped (w.leaf_long ∙ sym dl.near.leaves.long) w.inner_long w.reached leaf_ready

      homes_are : h₁ ≡ hm
      homes_are = ext_get_or 0 h₁ hm (dl.near.beside.long ∙ sym w.home_long) (λ i v. go i (ltb i h.entries) refl)
        where
          one : (id : ℕ) → Stored s R 0 w.sound id → get_or h₁ id 0 ≡ get_or hm id 0
          one id r =
              let q : r.at.i < len_of g leaf_aim r.k = omega (arith, r.at.below, len_at g r.k lm refl) in
              let e : id_in g lm r.k r.at.i ≡ id = sym (child_word g r.k r.at.i lm w.shaped (omega (arith, aim_leaves.most r.k r.used_leaf))) ∙ r.at.is in
              subst (λ (x : ℕ). get_or h₁ x 0 ≡ get_or hm x 0) e (dl.homes r.k r.at.i r.used_leaf q)

          go : (i : ℕ) (b : Bool) → ltb i h.entries ≡ b → get_or h₁ i 0 ≡ get_or hm i 0
          go i true q = one i (stored s R 0 w.sound i (ltb-true i h.entries q))
          go i false q = dl.near.beside.kept i (sym (w.home_else i (ltb-false i h.entries q)))

      module _ (b c : ℕ) (l₂ x₁ x₂ : List ℕ) (f : NodesDone g order last h.inners node_aim 0 l₁ xs b l₂ x₁) (p : PutRight xm x₁ c x₂ (root * g.size + 1) 2) where
        abbrev r : QueueReached kids root h.levels h.inners h.leaves last order
        r = w.reached

        hl : 1 ≤ h.levels
        hl = w.sound.levels_least

        abbrev node : ℕ → ℕ
        node j = node_on g order last h.inners j

        -- the nodes of a level of the tree aimed at are those of the queue
        level_same : (d : ℕ) → d ≤ h.levels → level_in kids root d ≡ level s R d
        level_same d l = same_level views h ls xs hs lm xm hm l₁ order last w.sound w.agrees w.shaped (w.leaf_long ∙ sym dl.near.leaves.long) w.inner_long w.reached leaf_ready d l

        -- where a node stands in the queue
        record QueuePlace (k : ℕ) (low high : ℕ) : Type 0 where
          pub j : ℕ
          pub above : low ≤ j
          pub below : j < high
          pub is : node j ≡ k

        placed : (k : ℕ) → In k (inners_from kids root h.levels) → QueuePlace k 0 h.inners
        placed k i =
            let q = found (inners_from kids root h.levels) i in
            let z : q.at < h.inners = omega (arith, q.within, all_long kids root h.levels h.inners h.leaves last order r hl) in
            record { j = q.at; above = omega arith; below = z; is = on kids root h.levels h.inners h.leaves last order r hl q.at z ∙ q.is }

        placed_low : (k : ℕ) → In k (level_in kids root (h.levels - 1)) → QueuePlace k last h.inners
        placed_low k i =
            let q = found (level_in kids root (h.levels - 1)) i in
            let fl = front_long kids root h.levels h.inners h.leaves last order r hl in
            let wh = whole kids root h.levels h.inners h.leaves last order r hl in
            let al = all_long kids root h.levels h.inners h.leaves last order r hl in
            let fr : List ℕ = flat_map (level_in kids root) (range 0 (h.levels - 1)) in
            let z : last + q.at < h.inners = omega (arith, q.within, al, fl, ap length wh ∙ length-append fr (level_in kids root (h.levels - 1))) in
            record {
              j = last + q.at;
              above = omega arith;
              below = z;
              is = on kids root h.levels h.inners h.leaves last order r hl (last + q.at) z ∙ ap (λ (y : List ℕ). get_or y (last + q.at) 0) wh
                  ∙ ap (λ (y : ℕ). get_or (fr ++ level_in kids root (h.levels - 1)) (y + q.at) 0) (sym fl) ∙ get_or-append-add fr (level_in kids root (h.levels - 1)) q.at 0 ∙ q.is;
            }

        placed_high : (k d : ℕ) → suc d < h.levels → In k (level_in kids root d) → QueuePlace k 0 last
        placed_high k d hd i =
            let fr : List ℕ = flat_map (level_in kids root) (range 0 (h.levels - 1)) in
            let q = found fr (in_flat (level_in kids root) (in_range 0 (h.levels - 1) d (omega arith) (omega arith)) i) in
            let fl = front_long kids root h.levels h.inners h.leaves last order r hl in
            let wh = whole kids root h.levels h.inners h.leaves last order r hl in
            let z : q.at < last = omega (arith, q.within, fl) in
            record {
              j = q.at;
              above = omega arith;
              below = z;
              is = on kids root h.levels h.inners h.leaves last order r hl q.at (omega (arith, r.sorted)) ∙ ap (λ (y : List ℕ). get_or y q.at 0) wh
                  ∙ get_or-append fr (level_in kids root (h.levels - 1)) 0 q.at q.within ∙ q.is;
            }

        -- the child in slot i of node j is k
        child_there : (j i k : ℕ) → j < h.inners → i < (inner_in s R (node j)).len → child (get_or (inner_in s R (node j)).slots i []) ≡ k →
            (i < len_on g order last h.inners node_aim j) × (child_in g node_aim (node j) i ≡ k)
        child_there j i k v q e =
            let y : i < len_on g order last h.inners node_aim j = omega (arith, len_at g (node j) xm refl) in
            (y, sym (child_word g (node j) i xm w.shaped (omega (arith, aim_nodes.most j v))) ∙ e)

        linked_leaf : (k : ℕ) → k < h.leaves → LinkRight g l₂ lm k
        linked_leaf k l =
            let y : suc (h.levels - 1) ≡ h.levels = omega (arith, hl) in
            let sl : Slotted s R 0 w.sound (h.levels - 1) k = slotted s R 0 w.sound (h.levels - 1) k (subst (λ (z : ℕ). In k (level s R z)) (sym y) (leaf_level s R 0 w.sound k l)) in
            let pl = placed_low sl.p (subst (In sl.p) (sym (level_same (h.levels - 1) (omega arith))) sl.row) in
            go pl.j pl.above pl.below sl.p pl.is sl.at
          where
            go : (j : ℕ) → last ≤ j → j < h.inners → (p : ℕ) → node j ≡ p → ChildPlace k (inner_in s R p).len (inner_in s R p).slots → LinkRight g l₂ lm k
            go j a b p e at =
                let q = subst (λ (x : ℕ). ChildPlace k (inner_in s R x).len (inner_in s R x).slots) (sym e) at in
                let z = child_there j q.i k b q.below q.is in
                subst (LinkRight g l₂ lm) z.1 (subst (λ (x : Bool). LinkRight g (cond x l₂ x₁) (cond x lm xm) (child_in g node_aim (node j) q.i)) (le-leb last j a)
                (f.links j q.i (omega arith) b z.0))

        linked_inner : (k : ℕ) → k < h.inners → LinkRight g x₂ xm k
        linked_inner k l = go (inner_level s R 0 w.sound k l)
          where
            child_case : (d : ℕ) → suc d < h.levels → In k (level s R (suc d)) → LinkRight g x₂ xm k
            child_case d hd i =
                let sl : Slotted s R 0 w.sound d k = slotted s R 0 w.sound d k i in
                let pl = placed_high sl.p d hd (subst (In sl.p) (sym (level_same d (omega arith))) sl.row) in
                let q = subst (λ (x : ℕ). ChildPlace k (inner_in s R x).len (inner_in s R x).slots) (sym pl.is) sl.at in
                let b : pl.j < h.inners = omega (arith, pl.below, r.sorted) in
                let z = child_there pl.j q.i k b q.below q.is in
                kept_same p.nearer.kept (k * g.size + 1) 2
                (subst (LinkRight g x₁ xm) z.1 (subst (λ (x : Bool). LinkRight g (cond x l₂ x₁) (cond x lm xm) (child_in g node_aim (node pl.j) q.i))
                (lt-leb last pl.j pl.below) (f.links pl.j q.i (omega arith) b z.0)))

            root_case : In k (level s R 0) → LinkRight g x₂ xm k
            root_case i = subst (LinkRight g x₂ xm) (sym (root_is s R k i)) p.same

            go : Of (level s R) (range 0 h.levels) k → LinkRight g x₂ xm k
            go o = by o.part (in_range_below 0 h.levels o.outer).1 o.inner
              where
                by : (d : ℕ) → d < 0 + h.levels → In k (level s R d) → LinkRight g x₂ xm k
                by zero hd i = root_case i
                by (suc d) hd i = child_case d (omega arith) i

        in_queue : (k : ℕ) → k < h.inners → In k (inners_from kids root h.levels)
        in_queue k l =
            let o = inner_level s R 0 w.sound k l in
            let b = in_range_below 0 h.levels o.outer in
            in_flat (level_in kids root) o.outer (subst (In k) (sym (level_same o.part (omega (arith, b.1)))) o.inner)

        slots_inner : (k : ℕ) → k < h.inners → SlotsRight g x₂ xm k
        slots_inner k l =
            let pl = placed k (in_queue k l) in
            kept_same p.nearer.kept (k * g.size + 3) (g.fan * g.stride) (subst (SlotsRight g x₁ xm) pl.is (f.slots pl.j (omega arith) pl.below))

        leaves_are : l₂ ≡ lm
        leaves_are =
            area_is g l₂ lm h.leaves (f.near.leaves.long ∙ dl.near.leaves.long ∙ sym w.leaf_long)
            (λ k l. node_words g l₂ lm k w.shaped (f.near.leaves.kept (k * g.size) (dl.near.leaves.kept (k * g.size) (aim_leaves.lens k l))) (linked_leaf k l)
            (kept_same f.near.leaves (k * g.size + 3) (g.fan * g.stride) (leaf_ready k l)))
            (λ q y. f.near.leaves.kept q (dl.near.leaves.kept q (sym (w.leaf_else q y))))

        inners_are : x₂ ≡ xm
        inners_are =
            area_is g x₂ xm h.inners (p.nearer.kept.long ∙ f.near.beside.long ∙ sym w.inner_long)
            (λ k l. node_words g x₂ xm k w.shaped (p.nearer.kept.kept (k * g.size)
            (f.near.beside.kept (k * g.size) (sym (len_at g k xs refl) ∙ sym (w.agrees.inner_len k l) ∙ len_at g k xm refl))) (linked_inner k l) (slots_inner k l))
            (λ q y. p.nearer.kept.kept q (f.near.beside.kept q (sym (w.inner_else q y))))

        pub all_done : (state (no_finger h) l₂ x₂ h₁ ≡ R) × (a + b + c ≡ changes t R)
        unfolding changes
        all_done = (
          rw (leaves_are, inners_are, homes_are),
          omega (
            arith,
            dl.near.count,
            f.near.count,
            p.nearer.count,
            ap (λ (z : List ℕ). differ z lm) leaves_are ∙ differ_none lm,
            ap (λ (z : List ℕ). differ z xm) inners_are ∙ differ_none xm,
            ap (λ (z : List ℕ). differ z hm) homes_are ∙ differ_none hm,
          ),
        )
