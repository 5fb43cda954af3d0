-- What the writer is handed is enough for each of its steps, and together they leave the one tree. Assumes nothing.
use mathlib.Core.Path.{◌≡◌, refl, sym, ap, subst, ◌∙◌}
use mathlib.Core.List.{List, [], ◌∷◌, ◌++◌, append_assoc}
use Prim.Native.Nat.{ℕ, zero, suc, ◌+◌, ◌-◌, ◌*◌, ◌<◌, ◌≤◌}
use native.Mathlib.Omega.{arith}
use lib.ListN.{length, get_or, take, drop, replicate, length-replicate}
use lib.Seq.{take_at}
use Rattle.model.specs.Lists.{put_at}
use Rattle.model.specs.Node.{none, empty_slot, empty_slots}
use Rattle.model.specs.State.{State, state, shape}
use Rattle.model.specs.Sound.{shape_in}
use Rattle.model.specs.Mend.{no_finger, mend}
use Rattle.model.specs.Repair.{changes}
use Rattle.model.specs.declared.head.Head.{Head}
use Rattle.model.specs.declared.shape.Shape.{Shape}
use Rattle.model_laws.specs.Areas.{parent_at, place_at}
use Rattle.model_laws.specs.AreaRead.{node_end}
use Rattle.model_laws.specs.Slots.{flat, flat_append, length_flat}
use Rattle.model_laws.specs.Formed.{empty_wide}
use Rattle.model_laws.specs.Words.{length_put}
use Rattle.tree_node.specs.Shaped.{Shaped}
use Rattle.tree_area.specs.Area.{AreaHolds}
use Rattle.tree_words.specs.Tally.{tallied}
use Rattle.model_theory.specs.RepairTrusted.{TrustedCoherent, LongAreas}
use Rattle.model_theory.specs.RepairWords.{mend_right, mend_agrees}
use Rattle.model_theory.specs.RepairElse.{leaves_else, inners_else, homes_else, leaves_long, inners_long, homes_long}
use Rattle.model_theory.specs.RepairNodes.{root_first}
use Rattle.model_theory.specs.RepairUnique.{level_below}
use Rattle.calls_repair_test.specs.Queue.{kids_of}
use Rattle.calls_repair_test.specs.Reach.{QueueReached}
use Rattle.calls_repair_write.specs.Blank.{Blank}
use Rattle.calls_repair_write.specs.Toward.{Goal}
use Rattle.calls_repair_write.specs.Leaves.{LeavesGoal, LeavesAimed, LeavesDone}
use Rattle.calls_repair_write.specs.Nodes.{NodesGoal, NodesAimed, NodesDone}
use Rattle.calls_repair_write.proofs.NearLaws.{PutRight, put_by, part_two}
use Rattle.calls_repair.specs.Job.{Job, JobDone}
use Rattle.calls_repair.proofs.Final.{TreeAim, aim_leaves, aim_nodes, all_done}

-- words to copy empty slots from
replicate_add : (n m : ℕ) (x : List ℕ) → replicate (n + m) x ≡ replicate n x ++ replicate m x
replicate_add zero m x = let e : 0 + m ≡ m = omega arith in ap (λ (k : ℕ). replicate k x) e
replicate_add (suc n) m x = let e : suc n + m ≡ suc (n + m) = omega arith in ap (λ (k : ℕ). replicate k x) e ∙ ap (λ (l : List (List ℕ)). x ∷ l) (replicate_add n m x)

pub blank_of : (s : ℕ) (zs ws : List ℕ) → 0 < s → s ≤ 4 → length zs ≡ 128 → ws ≡ put_at 0 (flat (empty_slots s 32)) zs → Blank s ws
unfolding put_at
blank_of s zs ws hs hn l e = record { long = ap length e ∙ length_put 0 (flat (empty_slots s 32)) zs (omega (arith, all)) ∙ l; empty = front }
  where
    all : length (flat (empty_slots s 32)) ≡ 32 * s
    all = length_flat s (empty_slots s 32) (empty_wide s 32 hs) ∙ ap (λ (k : ℕ). k * s) (length-replicate 32 (empty_slot s))

    front : (n : ℕ) → n ≤ 32 → take (n * s) ws ≡ flat (empty_slots s n)
    front n h =
        let q : n + (32 - n) ≡ 32 = omega arith in
        let r : List ℕ = drop (0 + length (flat (empty_slots s 32))) zs in
        let two : flat (empty_slots s 32) ≡ flat (empty_slots s n) ++ flat (empty_slots s (32 - n)) =
        ap (λ (k : ℕ). flat (empty_slots s k)) (sym q) ∙ ap flat (replicate_add n (32 - n) (empty_slot s)) ∙ flat_append (empty_slots s n) (empty_slots s (32 - n))
        in
        ap (take (n * s)) (e ∙ ap (λ (z : List ℕ). z ++ r) two ∙ append_assoc (flat (empty_slots s n)) (flat (empty_slots s (32 - n))) r)
        ∙ take_at (flat (empty_slots s n)) (flat (empty_slots s (32 - n)) ++ r) (n * s) (length_flat s (empty_slots s n) (empty_wide s n hs) ∙ ap (λ (k : ℕ). k * s) (length-replicate n (empty_slot s)))

-- the tree aimed at
module _ (views : ℕ) (h : Head) (ls xs hs order : List ℕ) (last : ℕ) where
  abbrev s : ℕ
  s = suc views

  abbrev t : State
  t = state h ls xs hs

  abbrev g₀ : Shape
  g₀ = shape_in s t

  abbrev lm : List ℕ
  lm = (mend s t).leaves

  abbrev xm : List ℕ
  xm = (mend s t).inners

  abbrev hm : List ℕ
  hm = (mend s t).homes

  abbrev TheAim : Type 0
  TheAim = TreeAim views h ls xs hs lm xm hm order last

  module _ (f : TrustedCoherent s t) (a : LongAreas s t) where
    the_aim : Shaped g₀ → QueueReached (kids_of g₀ xs) h.root.0 h.levels h.inners h.leaves last order → TheAim
    unfolding mend
    the_aim sh r = record {
      sound = (mend_right s 0 (omega arith) t f a).sound;
      agrees = mend_agrees s 0 (omega arith) t f a;
      shaped = sh;
      leaf_long = leaves_long s 0 (omega arith) t f a;
      inner_long = inners_long s 0 (omega arith) t f a;
      home_long = homes_long s 0 (omega arith) t f a;
      leaf_else = leaves_else s 0 (omega arith) t f a;
      inner_else = inners_else s 0 (omega arith) t f a;
      home_else = homes_else s 0 (omega arith) t f a;
      reached = r;
    }

  tree_is : state (no_finger h) lm xm hm ≡ mend s t
  unfolding mend
  tree_is = refl

  module _ (w : TheAim) where
    root_below : h.root.0 < g₀.nodes
    root_below = omega (
      arith,
      level_below s (state (no_finger h) lm xm hm) 0 w.sound 0 h.root.0 (omega (arith, w.sound.levels_least))
          (root_first s (state (no_finger h) lm xm hm)),
      w.sound.inner_count,
    )

    root_put : (c : ℕ) (x₁ x₂ : List ℕ) → length x₁ ≡ length xm → ◌≡◌ {A = ℕ × List ℕ} (c, x₂) (tallied (h.root.0 * g₀.size + 1) (none ∷ 0 ∷ []) x₁) → PutRight xm x₁ c x₂ (h.root.0 * g₀.size + 1) 2
    root_put c x₁ x₂ l e =
        let k : ℕ = h.root.0 in
        let n : k * g₀.size + g₀.size ≤ length xm = node_end g₀ k (length xm) root_below w.sound.inner_area in
        let z : k * g₀.size + 1 + 1 ≡ k * g₀.size + 2 = omega arith in
        put_by xm x₁ (none ∷ 0 ∷ []) x₂ (k * g₀.size + 1) c e (sym l) (omega arith)
        (part_two xm (k * g₀.size + 1) none 0 (omega arith) (sym (parent_at g₀ k xm refl) ∙ w.sound.root_parent) (ap (λ (q : ℕ). get_or xm q 0) z ∙ sym (place_at g₀ k xm refl) ∙ w.sound.root_at))

    all_mended : (a b c : ℕ) (l₁ h₁ l₂ x₁ x₂ : List ℕ) → ((m : Goal) → LeavesGoal g₀ h.leaves m ls hs → LeavesDone g₀ h.leaves m ls hs a l₁ h₁)
        → ((m : Goal) → NodesGoal g₀ order last h.inners m l₁ xs → NodesDone g₀ order last h.inners m 0 l₁ xs b l₂ x₁)
        → ◌≡◌ {A = ℕ × List ℕ} (c, x₂) (tallied (h.root.0 * g₀.size + 1) (none ∷ 0 ∷ []) x₁) → JobDone s h ls xs hs (a + b + c) l₂ x₂ h₁
    all_mended a b c l₁ h₁ l₂ x₁ x₂ p q e =
        let d = p (record { leaves = lm; beside = hm }) (aim_leaves views h ls xs hs lm xm hm order last w) in
        let f = q (record { leaves = lm; beside = xm }) (aim_nodes views h ls xs hs lm xm hm order last w a l₁ h₁ d) in
        let r = all_done views h ls xs hs lm xm hm order last w a l₁ h₁ d b c l₂ x₁ x₂ f (root_put c x₁ x₂ (f.near.beside.long ∙ sym w.inner_long) e) in
        record { tree = r.0 ∙ tree_is; count = r.1 ∙ ap (changes t) tree_is }

-- the same by the shape that the code has
module _ {h : Head} {g : Shape} {last : ℕ} {order ls xs hs : List ℕ} (w : Job h g last order ls xs hs) where
  abbrev own : Shape
  own = shape (suc w.views) h.fan h.limit

  aim_own : TheAim w.views h ls xs hs order last
  aim_own = the_aim w.views h ls xs hs order last w.fits w.areas (subst Shaped w.same w.shaped)
      (subst (λ (z : Shape). QueueReached (kids_of z xs) h.root.0 h.levels h.inners h.leaves last order) w.same w.reached)

  abbrev LeafStep : Shape → ℕ → List ℕ → List ℕ → Type 0
  LeafStep z a l₁ h₁ = (m : Goal) → LeavesGoal z h.leaves m ls hs → LeavesDone z h.leaves m ls hs a l₁ h₁

  abbrev NodeStep : Shape → ℕ → List ℕ → List ℕ → List ℕ → Type 0
  NodeStep z b l₁ l₂ x₁ = (m : Goal) → NodesGoal z order last h.inners m l₁ xs → NodesDone z order last h.inners m 0 l₁ xs b l₂ x₁

  pub leaves_aimed : LeavesAimed g h.leaves ls hs
  leaves_aimed =
      subst (λ (z : Shape). LeavesAimed z h.leaves ls hs) (sym w.same)
      (record {
        goal = record { leaves = lm w.views h ls xs hs order last; beside = hm w.views h ls xs hs order last };
        is = aim_leaves w.views h ls xs hs
            (lm w.views h ls xs hs order last) (xm w.views h ls xs hs order last) (hm w.views h ls xs hs order last) order last aim_own;
      })

  pub nodes_aimed : {a : ℕ} {l₁ h₁ : List ℕ} → LeafStep g a l₁ h₁ → NodesAimed g order last h.inners l₁ xs
  nodes_aimed {a} {l₁} {h₁} =
      subst (λ (z : Shape). LeafStep z a l₁ h₁ → NodesAimed z order last h.inners l₁ xs) (sym w.same)
      (λ f. record {
        goal = record { leaves = lm w.views h ls xs hs order last; beside = xm w.views h ls xs hs order last };
        is = aim_nodes w.views h ls xs hs (lm w.views h ls xs hs order last) (xm w.views h ls xs hs order last) (hm w.views h ls xs hs order last) order last aim_own a l₁ h₁
            (f (record { leaves = lm w.views h ls xs hs order last; beside = hm w.views h ls xs hs order last })
            (aim_leaves w.views h ls xs hs (lm w.views h ls xs hs order last) (xm w.views h ls xs hs order last)
            (hm w.views h ls xs hs order last) order last aim_own));
      })

  pub root_in : h.root.0 < g.nodes
  root_in = subst (λ (z : Shape). h.root.0 < z.nodes) (sym w.same) (root_below w.views h ls xs hs order last aim_own)

  pub leaf_area : AreaHolds g (length ls)
  leaf_area = record { shaped = w.shaped; room = subst (λ (z : Shape). z.nodes * z.size ≤ length ls) (sym w.same) w.areas.leaf_area }

  pub inner_area : AreaHolds g (length xs)
  inner_area = record { shaped = w.shaped; room = subst (λ (z : Shape). z.nodes * z.size ≤ length xs) (sym w.same) w.areas.inner_area }

  pub leaf_count : h.leaves ≤ g.nodes
  leaf_count = subst (λ (z : Shape). h.leaves ≤ z.nodes) (sym w.same) w.fits.leaf_count

  pub inner_count : h.inners ≤ g.nodes
  inner_count = subst (λ (z : Shape). h.inners ≤ z.nodes) (sym w.same) w.fits.inner_count

  pub mended_by : {a b c : ℕ} {l₁ h₁ l₂ x₁ x₂ : List ℕ} → LeafStep g a l₁ h₁ → NodeStep g b l₁ l₂ x₁ → ◌≡◌ {A = ℕ × List ℕ} (c, x₂) (tallied (h.root.0 * g.size + 1) (none ∷ 0 ∷ []) x₁)
      → JobDone (suc w.views) h ls xs hs (a + b + c) l₂ x₂ h₁
  mended_by {a} {b} {c} {l₁} {h₁} {l₂} {x₁} {x₂} =
      subst (λ (z : Shape). LeafStep z a l₁ h₁ → NodeStep z b l₁ l₂ x₁ → ◌≡◌ {A = ℕ × List ℕ} (c, x₂) (tallied (h.root.0 * z.size + 1) (none ∷ 0 ∷ []) x₁) → JobDone
      (suc w.views) h ls xs hs (a + b + c) l₂ x₂ h₁) (sym w.same)
      (all_mended w.views h ls xs hs order last aim_own a b c l₁ h₁ l₂ x₁ x₂)
