-- The inner nodes of a queue, one turn of the way back over it. Assumes nothing.
use mathlib.Core.Path.{◌≡◌, refl, sym, subst, ◌∙◌}
use mathlib.Core.Bool.{Bool, true, false}
use mathlib.Core.List.{List}
use Prim.Native.Nat.{ℕ, suc, ◌+◌, ◌*◌, ◌<◌, ◌≤◌}
use native.Mathlib.Omega.{arith}
use lib.ListN.{get_or}
use lib.Dec.{ltb, leb}
use borrow.Author.Tests.{ltb-true, ltb-false, leb-true, leb-false}
use Rattle.model.specs.State.{node_at}
use Rattle.model.specs.declared.shape.Shape.{Shape}
use Rattle.model_laws.specs.Areas.{len_at}
use Rattle.tree_node.specs.Shaped.{Shaped}
use Rattle.calls_repair_write.specs.Toward.{Goal, side, aim, slot_at, SlotsRight, Empty, LinkRight}
use Rattle.calls_repair_write.specs.Nodes.{child_in, SlotsGoal, SlotsAimed, NodeDone, node_on, len_on, BehindInQueue, NodesGoal, NodesDone}
use Rattle.calls_repair_write.proofs.NearLaws.{kept_same, near_none, near_on}
use Rattle.calls_repair_write.proofs.SlotLaws.{long_on, side_kept}

module _ (g : Shape) (order : List ℕ) (last n : ℕ) (m : Goal) (la xa : List ℕ) where
  pub nodes_none : NodesDone g order last n m n la xa 0 la xa
  nodes_none = record { near = near_none m la xa; slots = λ k lo hi. absurd (omega arith); links = λ k i lo hi l. absurd (omega arith) }

  module _ (w : NodesGoal g order last n m la xa) (j₁ j count : ℕ) (lb xb : List ℕ) (d : NodesDone g order last n m j₁ la xa count lb xb) (e : j₁ ≡ suc j) (h : j < n) where
    abbrev p : ℕ
    p = node_on g order last n j

    pub len_now : get_or xb (p * g.size) 0 ≡ len_on g order last n m j
    len_now = d.near.beside.kept (p * g.size) (w.lens j h)

    ready_now : (i : ℕ) → i < len_on g order last n m j → (b : Bool) → leb last j ≡ b → SlotsRight g (side b lb xb) (aim b m) (child_in g m p i)
    ready_now i l true q = kept_same d.near.leaves (child_in g m p i * g.size + 3) (g.fan * g.stride) (w.ready j i h (leb-true last j q) l)
    ready_now i l false q =
        let r : BehindInQueue g order last n j (child_in g m p i) = w.later j i (leb-false last j q) l in
        subst (SlotsRight g xb m.beside) r.is (d.slots r.at (omega (arith, r.behind)) r.within)

    pub slots_goal : (len : ℕ) → len ≡ len_on g order last n m j → SlotsGoal g (leb last j) p len m lb xb
    slots_goal len q =
        subst (λ (x : ℕ). SlotsGoal g (leb last j) p x m lb xb) (sym q)
        (record {
          long = long_on m la xa lb xb count d.near w.long;
          child = λ i l. d.near.beside.kept (slot_at g p i) (w.child j i h l);
          below = λ i l. w.below j i h l;
          slot = λ i l. w.slot j i h l;
          ready = λ i l. ready_now i l (leb last j) refl;
        })

    pub slots_aimed : (len : ℕ) → len ≡ len_on g order last n m j → SlotsAimed g (leb last j) p len lb xb
    slots_aimed len q = record { goal = m; is = slots_goal len q }

    pub nodes_on : (len k : ℕ) (lc xc : List ℕ) → len ≡ len_on g order last n m j → (SlotsGoal g (leb last j) p len m lb xb → Empty g m.beside p len → NodeDone g (leb last j) p len m lb xb k lc xc)
        → NodesDone g order last n m j la xa (count + k) lc xc
    nodes_on len k lc xc q f =
        let r : NodeDone g (leb last j) p len m lb xb k lc xc = f (slots_goal len q) (subst (Empty g m.beside p) (sym q) (w.empty j h)) in
        record {
          near = near_on m la xa lb xb lc xc count k d.near r.near;
          slots = λ x lo hi. which x (ltb j x) refl lo (λ (y : j < x). kept_same r.near.beside (node_on g order last n x * g.size + 3) (g.fan * g.stride)
              (d.slots x (omega arith) hi)) (λ (y : j ≡ x). subst (λ (z : ℕ). SlotsRight g xc m.beside (node_on g order last n z)) y r.slots);
          links = λ x i lo hi l. which x (ltb j x) refl lo
              (λ (y : j < x). kept_same (side_kept (leb last x) m lb xb lc xc k r.near) (child_in g m (node_on g order last n x) i * g.size + 1) 2 (d.links x i (omega arith) hi l))
              (λ (y : j ≡ x). subst (λ (z : ℕ). i < len_on g order last n m z → LinkRight g (side (leb last z) lc xc) (aim (leb last z) m) (child_in g m (node_on g order last n z) i)) y
              (λ (v : i < len_on g order last n m j). r.links i (omega (arith, q))) l);
        }
      where
        which : {X : Type 0} (x : ℕ) (b : Bool) → ltb j x ≡ b → j ≤ x → (j < x → X) → (j ≡ x → X) → X
        which x true v lo f g = f (ltb-true j x v)
        which x false v lo f g = g (let y : x ≤ j = ltb-false j x v in omega arith)

    pub len_most : (len : ℕ) → len ≡ get_or xb (p * g.size) 0 → len ≤ g.fan
    len_most len q = omega (arith, q ∙ len_now, w.most j h)

  pub nodes_all : (j count : ℕ) (lb xb : List ℕ) → j ≤ 0 → NodesDone g order last n m j la xa count lb xb → NodesDone g order last n m 0 la xa count lb xb
  nodes_all j count lb xb h d = let e : j ≡ 0 = omega arith in subst (λ (k : ℕ). NodesDone g order last n m k la xa count lb xb) e d

-- the len of a node is its first word
pub len_word : (g : Shape) (k : ℕ) (area : List ℕ) → Shaped g → (node_at g k area).len ≡ get_or area (k * g.size) 0
len_word g k area s = len_at g k area s.words
