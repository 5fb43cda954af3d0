-- Homes and unused slots, leaf by leaf. Assumes nothing.
use mathlib.Core.Path.{◌≡◌, refl, sym, ap, subst, ◌∙◌}
use mathlib.Core.Bool.{Bool, true, false}
use mathlib.Core.List.{List, [], ◌∷◌}
use Prim.Native.Nat.{ℕ, ◌+◌, ◌-◌, ◌*◌, ◌<◌, ◌≤◌}
use native.Mathlib.Omega.{arith}
use lib.ListN.{length, get_or}
use lib.Dec.{ltb}
use borrow.Author.Tests.{ltb-true, ltb-false}
use Rattle.model.specs.declared.shape.Shape.{Shape}
use Rattle.model.specs.Node.{empty_slots}
use Rattle.model_laws.specs.Slots.{flat}
use Rattle.tree_node.specs.Shaped.{Shaped}
use Rattle.tree_words.specs.Tally.{tallied}
use Rattle.calls_repair_write.specs.Toward.{WordsRight, Goal, slot_at, Empty}
use Rattle.calls_repair_write.specs.Leaves.{id_in, HomesGoal, HomesDone, LeafGoal, LeafDone, len_of, LeavesGoal, LeavesDone}
use Rattle.calls_repair_write.proofs.NearLaws.{PutRight, put_by, put_long, kept_same, near_none, near_on, near_leaves, near_beside, nearer_none, nearer_on, part_one}
use Rattle.calls_repair_write.proofs.SlotLaws.{long_on, empty_put}

last : {X : Type 0} (i j : ℕ) (b : Bool) → ltb j i ≡ b → j < i + 1 → (j < i → X) → (i ≡ j → X) → X
last i j true q l f g = f (ltb-true j i q)
last i j false q l f g = g (let y : i ≤ j = ltb-false j i q in omega arith)

module _ (g : Shape) (k len : ℕ) (m ls ha : List ℕ) where
  pub homes_none : HomesDone g k 0 m ls ha 0 ha
  homes_none = record { nearer = nearer_none m ha; homes = λ i h. absurd (omega arith) }

  pub homes_on : HomesGoal g k len m ls ha → (i n d id : ℕ) (hb hc : List ℕ) → HomesDone g k i m ls ha n hb → i < len → id ≡ id_in g ls k i → id < length ha
      → ◌≡◌ {A = ℕ × List ℕ} (d, hc) (tallied id (k ∷ []) hb) → HomesDone g k (i + 1) m ls ha (n + d) hc
  homes_on w i n d id hb hc x h e l q =
      let y : get_or m id 0 ≡ k = ap (λ (z : ℕ). get_or m z 0) e ∙ w.home i h in
      let o : length m ≡ length hb = w.long ∙ sym x.nearer.kept.long in
      let r : PutRight m hb d hc id 1 = put_by m hb (k ∷ []) hc id d q o (omega (arith, x.nearer.kept.long)) (part_one m id k (omega (arith, w.long)) y) in
      record {
        nearer = nearer_on m ha hb hc n d x.nearer r.nearer;
        homes = λ j v. last i j (ltb j i) refl v (λ (z : j < i). r.nearer.kept.kept (id_in g ls k j) (x.homes j z))
            (λ (z : i ≡ j). subst (λ (t : ℕ). get_or hc (id_in g ls k t) 0 ≡ get_or m (id_in g ls k t) 0) z (subst (λ (t : ℕ). get_or hc t 0 ≡ get_or m t 0) e (r.same id (omega arith) (omega arith))));
      }

leaf_done : (g : Shape) (k len : ℕ) (m : Goal) (la ha lb hb : List ℕ) (n d : ℕ) → LeafGoal g k len m la ha → (HomesGoal g k len m.beside la ha → HomesDone g k len m.beside la ha n hb)
    → PutRight m.leaves la d lb (slot_at g k len) ((g.fan - len) * g.stride) → LeafDone g k len m la ha (n + d) lb hb
leaf_done g k len m la ha lb hb n d w f e =
    let r : HomesDone g k len m.beside la ha n hb = f (record { long = w.long.beside; home = w.home }) in
    record { near = near_on m la ha la hb lb hb n d (near_beside m la ha hb n r.nearer) (near_leaves m la lb hb d e.nearer); homes = r.homes; empty = e.same }

module _ (g : Shape) (n : ℕ) (m : Goal) (la ha : List ℕ) where
  pub leaves_none : LeavesDone g 0 m la ha 0 la ha
  leaves_none = record { near = near_none m la ha; homes = λ k i h l. absurd (omega arith); empty = λ k h. absurd (omega arith) }

  module _ (w : LeavesGoal g n m la ha) (k count : ℕ) (lb hb : List ℕ) (x : LeavesDone g k m la ha count lb hb) (h : k < n) where
    pub leaf_len_now : get_or lb (k * g.size) 0 ≡ len_of g m k
    leaf_len_now = x.near.leaves.kept (k * g.size) (w.lens k h)

    pub leaf_most : (len : ℕ) → len ≡ len_of g m k → len ≤ g.fan
    leaf_most len e = omega (arith, w.most k h)

    id_now : (i : ℕ) → i < len_of g m k → id_in g lb k i ≡ id_in g m.leaves k i
    id_now i l = x.near.leaves.kept (slot_at g k i) (w.id k i h l)

    pub id_below : (len i : ℕ) → len ≡ len_of g m k → i < len → id_in g lb k i < length hb
    id_below len i e l = omega (arith, id_now i (omega (arith, e)), w.below k i h (omega (arith, e)), x.near.beside.long)

    leaf_goal_law : (len : ℕ) → len ≡ len_of g m k → LeafGoal g k len m lb hb
    leaf_goal_law len e = record {
      long = long_on m la ha lb hb count x.near w.long;
      home = λ i l. ap (λ (z : ℕ). get_or m.beside z 0) (id_now i (omega (arith, e))) ∙ w.home k i h (omega (arith, e));
      empty = subst (Empty g m.leaves k) (sym e) (w.empty k h);
    }

    pub leaves_on : (len d : ℕ) (lc hc : List ℕ) → len ≡ len_of g m k → (LeafGoal g k len m lb hb → LeafDone g k len m lb hb d lc hc) → LeavesDone g (k + 1) m la ha (count + d) lc hc
    leaves_on len d lc hc e f =
        let r : LeafDone g k len m lb hb d lc hc = f (leaf_goal_law len e) in
        record {
          near = near_on m la ha lb hb lc hc count d x.near r.near;
          homes = λ j i v l. last k j (ltb j k) refl v (λ (z : j < k). r.near.beside.kept (id_in g m.leaves j i) (x.homes j i z l))
              (λ (z : k ≡ j). subst (λ (t : ℕ). i < len_of g m t → get_or hc (id_in g m.leaves t i) 0 ≡ get_or m.beside (id_in g m.leaves t i) 0) z
              (λ (y : i < len_of g m k). subst (λ (t : ℕ). get_or hc t 0 ≡ get_or m.beside t 0) (id_now i y) (r.homes i (omega (arith, e)))) l);
          empty = λ j v. last k j (ltb j k) refl v (λ (z : j < k). kept_same r.near.leaves (slot_at g j (len_of g m j)) ((g.fan - len_of g m j) * g.stride) (x.empty j z))
              (λ (z : k ≡ j). subst (λ (t : ℕ). WordsRight lc m.leaves (slot_at g t (len_of g m t)) ((g.fan - len_of g m t) * g.stride)) z
              (subst (λ (t : ℕ). WordsRight lc m.leaves (slot_at g k t) ((g.fan - t) * g.stride)) e r.empty));
        }

  pub leaves_all : (k count : ℕ) (lb hb : List ℕ) → k ≤ n → n ≤ k → LeavesDone g k m la ha count lb hb → LeavesDone g n m la ha count lb hb
  leaves_all k count lb hb a b d = let e : k ≡ n = omega arith in subst (λ (x : ℕ). LeavesDone g x m la ha count lb hb) e d

pub homes_all : (g : Shape) (k len : ℕ) (m ls ha : List ℕ) (i n : ℕ) (hb : List ℕ) → i ≤ len → len ≤ i → HomesDone g k i m ls ha n hb → HomesDone g k len m ls ha n hb
homes_all g k len m ls ha i n hb a b d = let e : i ≡ len = omega arith in subst (λ (x : ℕ). HomesDone g k x m ls ha n hb) e d

pub leaf_by_law : (g : Shape) (k len : ℕ) (m : Goal) (la ha lb hb : List ℕ) (n d : ℕ) → Shaped g → k < g.nodes → len ≤ g.fan → g.nodes * g.size ≤ length la → LeafGoal g k len m la ha
    → (HomesGoal g k len m.beside la ha → HomesDone g k len m.beside la ha n hb) → ◌≡◌ {A = ℕ × List ℕ} (d, lb) (tallied (slot_at g k len) (flat (empty_slots g.stride (g.fan - len))) la)
    → LeafDone g k len m la ha (n + d) lb hb
leaf_by_law g k len m la ha lb hb n d s hk hl a w f e = leaf_done g k len m la ha lb hb n d w f (empty_put g s k len hk hl m.leaves la lb d w.long.leaves a e w.empty)

-- one word written leaves the area as long as it was
pub word_long : (p x n : ℕ) (ws now : List ℕ) → p < length ws → ◌≡◌ {A = ℕ × List ℕ} (n, now) (tallied p (x ∷ []) ws) → length now ≡ length ws
word_long p x n ws now h e = put_long ws (x ∷ []) now p n (omega arith) e

pub id_in_law : (id own n : ℕ) → id ≡ own → own < n → id < n
id_in_law id own n e h = omega arith

pub id_now_in : (id own n m : ℕ) → id ≡ own → own < n → m ≡ n → id < m
id_now_in id own n m e h q = omega arith
