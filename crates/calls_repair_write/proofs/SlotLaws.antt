-- One slot with its child's link, the slots of a node, and its unused ones. Assumes nothing.
use mathlib.Core.Path.{◌≡◌, refl, sym, ap, subst, ◌∙◌}
use mathlib.Core.Bool.{Bool, true, false}
use mathlib.Core.List.{List, [], ◌∷◌}
use Prim.Native.Nat.{ℕ, ◌+◌, ◌-◌, ◌*◌, ◌<◌, ◌≤◌}
use native.Mathlib.Omega.{arith}
use lib.ListN.{length, get_or}
use lib.Dec.{ltb}
use borrow.Author.Tests.{ltb-true, ltb-false}
use Rattle.model.specs.Lists.{part}
use Rattle.model.specs.Node.{child, empty_slots, slot_for}
use Rattle.model.specs.State.{node_at}
use Rattle.model.specs.declared.shape.Shape.{Shape}
use Rattle.model_laws.specs.Lists.{row_end, rows_between}
use Rattle.model_laws.specs.Words.{length_part}
use Rattle.model_laws.specs.Slots.{flat}
use Rattle.model_laws.specs.Areas.{column_at}
use Rattle.model_laws.specs.AreaRead.{node_end}
use Rattle.tree_node.specs.Shaped.{Shaped}
use Rattle.tree_area.specs.Area.{AreaHolds}
use Rattle.tree_words.specs.Tally.{tallied}
use Rattle.calls_repair_write.specs.Toward.{WordsRight, WordsToward, Goal, NearGoal, LongGoal, side, aim, slot_at, SlotAim, SlotsRight, Empty, LinkRight, SlotGoal, SlotDone}
use Rattle.calls_repair_write.specs.Nodes.{child_in, SlotsGoal, SlotsDone, NodeDone}
use Rattle.calls_repair_write.proofs.NearLaws.{PutRight, put_by, kept_same, near_none, near_on, near_leaves, near_beside, part_two, slot_same, same_rows}

-- a slot ends within its node
pub slot_end : (g : Shape) → Shaped g → (p i l : ℕ) → i < g.fan → p * g.size + g.size ≤ l → slot_at g p i + g.stride ≤ l
slot_end g s p i l h e = omega (arith, s.words, row_end i g.fan g.stride h)

module _ (g : Shape) (c p i : ℕ) (s : Shaped g) (hc : c < g.nodes) (hp : p < g.nodes) (hi : i < g.fan) (m : Goal) where
  link_words : (lowest : Bool) → SlotAim g lowest c p i m → c * g.size + g.size ≤ length (aim lowest m) → part (c * g.size + 1) 2 (aim lowest m) ≡ p ∷ i ∷ []
  link_words lowest w h =
      let z : c * g.size + 1 + 1 ≡ c * g.size + 2 = omega arith in
      part_two (aim lowest m) (c * g.size + 1) p i (omega (arith, s.words)) w.parent (ap (λ (q : ℕ). get_or (aim lowest m) q 0) z ∙ w.place)

  -- the slot put behind a link that was written
  slot_put : (xa : List ℕ) (src xb : List ℕ) (n : ℕ) → g.nodes * g.size ≤ length xa → length m.beside ≡ length xa → ◌≡◌ {A = ℕ × List ℕ} (n, xb) (tallied (slot_at g p i) src xa)
      → src ≡ part (slot_at g p i) g.stride m.beside → PutRight m.beside xa n xb (slot_at g p i) g.stride
  slot_put xa src xb n a l e q =
      let h : slot_at g p i + g.stride ≤ length xa = slot_end g s p i (length xa) hi (node_end g p (length xa) hp a) in
      let k : length src ≡ g.stride = ap length q ∙ length_part (slot_at g p i) g.stride m.beside (omega arith) in
      subst (λ (z : ℕ). PutRight m.beside xa n xb (slot_at g p i) z) k
      (put_by m.beside xa src xb (slot_at g p i) n e l (omega arith) (ap (λ (z : ℕ). part (slot_at g p i) z m.beside) k ∙ sym q))

  pub leaf_done : (ls xs src l₁ x₁ : List ℕ) (n₁ n₂ : ℕ) → g.nodes * g.size ≤ length ls → g.nodes * g.size ≤ length xs → ◌≡◌ {A = ℕ × List ℕ} (n₁, l₁) (tallied (c * g.size + 1) (p ∷ i ∷ []) ls)
      → src ≡ slot_for g.stride c (node_at g c l₁) → ◌≡◌ {A = ℕ × List ℕ} (n₂, x₁) (tallied (slot_at g p i) src xs) → SlotGoal g true c p i m ls xs → SlotDone g true c p i m ls xs (n₁ + n₂) l₁ x₁
  leaf_done ls xs src l₁ x₁ n₁ n₂ al ax e₁ es e₂ w =
      let le : c * g.size + g.size ≤ length ls = node_end g c (length ls) hc al in
      let one : PutRight m.leaves ls n₁ l₁ (c * g.size + 1) 2 =
      put_by m.leaves ls (p ∷ i ∷ []) l₁ (c * g.size + 1) n₁ e₁ w.long.leaves (omega (arith, s.words)) (link_words true w.slot (omega (arith, w.long.leaves)))
      in
      let q : src ≡ part (slot_at g p i) g.stride m.beside =
      es ∙ slot_same g c l₁ m.leaves s.words (one.nearer.kept.long ∙ sym w.long.leaves) (omega (arith, w.long.leaves))
      (kept_same one.nearer.kept (c * g.size + 3) (g.fan * g.stride) w.ready) ∙ sym w.slot.slot
      in
      let two : PutRight m.beside xs n₂ x₁ (slot_at g p i) g.stride = slot_put xs src x₁ n₂ ax w.long.beside e₂ q in
      record { near = near_on m ls xs l₁ xs l₁ x₁ n₁ n₂ (near_leaves m ls l₁ xs n₁ one.nearer) (near_beside m l₁ xs x₁ n₂ two.nearer); link = one.same; slot = two.same }

  pub inner_done : (ls xs src x₁ x₂ : List ℕ) (n₁ n₂ : ℕ) → g.nodes * g.size ≤ length xs → ◌≡◌ {A = ℕ × List ℕ} (n₁, x₁) (tallied (c * g.size + 1) (p ∷ i ∷ []) xs)
      → src ≡ slot_for g.stride c (node_at g c x₁) → ◌≡◌ {A = ℕ × List ℕ} (n₂, x₂) (tallied (slot_at g p i) src x₁) → SlotGoal g false c p i m ls xs → SlotDone g false c p i m ls xs (n₁ + n₂) ls x₂
  inner_done ls xs src x₁ x₂ n₁ n₂ ax e₁ es e₂ w =
      let le : c * g.size + g.size ≤ length xs = node_end g c (length xs) hc ax in
      let one : PutRight m.beside xs n₁ x₁ (c * g.size + 1) 2 =
      put_by m.beside xs (p ∷ i ∷ []) x₁ (c * g.size + 1) n₁ e₁ w.long.beside (omega (arith, s.words)) (link_words false w.slot (omega (arith, w.long.beside)))
      in
      let k : length m.beside ≡ length x₁ = w.long.beside ∙ sym one.nearer.kept.long in
      let q : src ≡ part (slot_at g p i) g.stride m.beside =
      es ∙ slot_same g c x₁ m.beside s.words (sym k) (omega (arith, w.long.beside)) (kept_same one.nearer.kept (c * g.size + 3) (g.fan * g.stride) w.ready) ∙ sym w.slot.slot
      in
      let two : PutRight m.beside x₁ n₂ x₂ (slot_at g p i) g.stride = slot_put x₁ src x₂ n₂ (omega (arith, one.nearer.kept.long)) k e₂ q in
      record {
        near = near_on m ls xs ls x₁ ls x₂ n₁ n₂ (near_beside m ls xs x₁ n₁ one.nearer) (near_beside m ls x₁ x₂ n₂ two.nearer);
        link = kept_same two.nearer.kept (c * g.size + 1) 2 one.same;
        slot = two.same;
      }

pub by_level : (g : Shape) (lowest b : Bool) (c p i n : ℕ) (m : Goal) (la xa lb xb : List ℕ) → lowest ≡ b → (SlotGoal g b c p i m la xa → SlotDone g b c p i m la xa n lb xb)
    → SlotGoal g lowest c p i m la xa → SlotDone g lowest c p i m la xa n lb xb
by_level g lowest b c p i n m la xa lb xb e f = subst (λ (x : Bool). SlotGoal g x c p i m la xa → SlotDone g x c p i m la xa n lb xb) (sym e) f

-- the slots of a node one after the other ------------------------------------------------------------------------------------------------------------

pub side_kept : (lowest : Bool) (m : Goal) (la xa lb xb : List ℕ) (n : ℕ) → NearGoal m la xa n lb xb
    → WordsToward (aim lowest m) (side lowest la xa) (side lowest lb xb)
side_kept true m la xa lb xb n w = w.leaves
side_kept false m la xa lb xb n w = w.beside

pub long_on : (m : Goal) (la xa lb xb : List ℕ) (n : ℕ) → NearGoal m la xa n lb xb → LongGoal m la xa → LongGoal m lb xb
long_on m la xa lb xb n w l = record { leaves = l.leaves ∙ sym w.leaves.long; beside = l.beside ∙ sym w.beside.long }

module _ (g : Shape) (lowest : Bool) (p len : ℕ) (m : Goal) (la xa : List ℕ) where
  pub slots_none : SlotsDone g lowest p 0 m la xa 0 la xa
  slots_none = record { near = near_none m la xa; links = λ i h. absurd (omega arith); slots = λ i h. absurd (omega arith) }

  module _ (w : SlotsGoal g lowest p len m la xa) (i n : ℕ) (lb xb : List ℕ) (d : SlotsDone g lowest p i m la xa n lb xb) (h : i < len) where
    -- the child that is read there is the one aimed at
    pub child_now : get_or xb (slot_at g p i) 0 ≡ child_in g m p i
    child_now = d.near.beside.kept (slot_at g p i) (w.child i h)

    pub next_goal : (c : ℕ) → c ≡ child_in g m p i → SlotGoal g lowest c p i m lb xb
    next_goal c e =
        subst (λ (x : ℕ). SlotGoal g lowest x p i m lb xb) (sym e)
        (record {
          long = long_on m la xa lb xb n d.near w.long;
          slot = w.slot i h;
          ready = kept_same (side_kept lowest m la xa lb xb n d.near)
              (child_in g m p i * g.size + 3) (g.fan * g.stride) (w.ready i h);
        })

    pub slots_on : (c k : ℕ) (lc xc : List ℕ) → c ≡ child_in g m p i → (SlotGoal g lowest c p i m lb xb → SlotDone g lowest c p i m lb xb k lc xc) → SlotsDone g lowest p (i + 1) m la xa (n + k) lc xc
    slots_on c k lc xc e f =
        let r : SlotDone g lowest c p i m lb xb k lc xc = f (next_goal c e) in
        let kept = side_kept lowest m lb xb lc xc k r.near in
        record {
          near = near_on m la xa lb xb lc xc n k d.near r.near;
          links = λ j l. last j (ltb j i) refl l (λ (y : j < i). kept_same kept (child_in g m p j * g.size + 1) 2 (d.links j y))
              (λ (y : i ≡ j). subst (λ (x : ℕ). LinkRight g (side lowest lc xc) (aim lowest m) (child_in g m p x)) y (subst (LinkRight g (side lowest lc xc) (aim lowest m)) e r.link));
          slots = λ j l. last j (ltb j i) refl l (λ (y : j < i). kept_same r.near.beside (slot_at g p j) g.stride (d.slots j y))
              (λ (y : i ≡ j). subst (λ (x : ℕ). WordsRight xc m.beside (slot_at g p x) g.stride) y r.slot);
        }
      where
        last : {X : Type 0} (j : ℕ) (b : Bool) → ltb j i ≡ b → j < i + 1 → (j < i → X) → (i ≡ j → X) → X
        last j true q l f g = f (ltb-true j i q)
        last j false q l f g = g (let y : i ≤ j = ltb-false j i q in omega arith)

-- the child in a slot is that word
pub child_word : (g : Shape) (p i : ℕ) (xs : List ℕ) → Shaped g → i < g.fan → child (get_or (node_at g p xs).slots i []) ≡ get_or xs (slot_at g p i) 0
child_word g p i xs s h =
    let z : p * g.size + (3 + i * g.stride + 0) ≡ slot_at g p i = omega arith in
    column_at g p xs s.words i 0 h (omega (arith, s.columns)) ∙ ap (λ (q : ℕ). get_or xs q 0) z

-- unused slots ------------------------------------------------------------------------------------------------------------------------------------------

module _ (g : Shape) (s : Shaped g) (p len : ℕ) (hp : p < g.nodes) (hl : len ≤ g.fan) (m ws now : List ℕ) (n : ℕ) (l : length m ≡ length ws) (a : g.nodes * g.size ≤ length ws)
    (e : ◌≡◌ {A = ℕ × List ℕ} (n, now) (tallied (slot_at g p len) (flat (empty_slots g.stride (g.fan - len))) ws)) (w : Empty g m p len)
  where
    blank_long : length (flat (empty_slots g.stride (g.fan - len))) ≡ (g.fan - len) * g.stride
    blank_long = sym (ap length w) ∙ length_part (slot_at g p len) ((g.fan - len) * g.stride) m (omega (arith, s.words, rows_between len g.fan g.stride hl, node_end g p (length ws) hp a))

    pub empty_put : PutRight m ws n now (slot_at g p len) ((g.fan - len) * g.stride)
    empty_put =
        subst (λ (z : ℕ). PutRight m ws n now (slot_at g p len) z) blank_long
        (put_by m ws (flat (empty_slots g.stride (g.fan - len))) now (slot_at g p len) n e l
        (omega (arith, blank_long, s.words, rows_between len g.fan g.stride hl, node_end g p (length ws) hp a))
        (ap (λ (z : ℕ). part (slot_at g p len) z m) blank_long ∙ w))

-- slots in use and unused ones are all
pub all_slots : (g : Shape) (p len : ℕ) (a m : List ℕ) → len ≤ g.fan → ((i : ℕ) → i < len → WordsRight a m (slot_at g p i) g.stride)
    → WordsRight a m (slot_at g p len)
    ((g.fan - len) * g.stride) → SlotsRight g a m p
all_slots g p len a m h f e q lo hi = go (ltb q (slot_at g p len)) refl
  where
    rows : WordsRight a m (p * g.size + 3) (len * g.stride)
    rows = same_rows a m g.stride len (p * g.size + 3) (λ i l q lo hi. f i l q (omega arith) (omega arith))

    go : (b : Bool) → ltb q (slot_at g p len) ≡ b → get_or a q 0 ≡ get_or m q 0
    go true y = let z : q < slot_at g p len = ltb-true q (slot_at g p len) y in rows q lo (omega arith)
    go false y = e q (ltb-false q (slot_at g p len) y) (omega (arith, rows_between len g.fan g.stride h))

pub node_done : (g : Shape) (lowest : Bool) (p len : ℕ) (m : Goal) (la xa lb xb xc : List ℕ) (n k : ℕ) → len ≤ g.fan → SlotsDone g lowest p len m la xa n lb xb → PutRight
    m.beside xb k xc (slot_at g p len) ((g.fan - len) * g.stride)
    → NodeDone g lowest p len m la xa (n + k) lb xc
node_done g lowest p len m la xa lb xb xc n k h d e =
    let r : NearGoal m lb xb k lb xc = near_beside m lb xb xc k e.nearer in
    record {
      near = near_on m la xa lb xb lb xc n k d.near r;
      links = λ i l. kept_same (side_kept lowest m lb xb lb xc k r) (child_in g m p i * g.size + 1) 2 (d.links i l);
      slots = all_slots g p len xc m.beside h (λ i l. kept_same e.nearer.kept (slot_at g p i) g.stride (d.slots i l)) e.same;
    }

-- an area of the same length holds as many nodes
pub area_now : (g : Shape) (a b : ℕ) → b ≡ a → AreaHolds g a → AreaHolds g b
area_now g a b e w = record { shaped = w.shaped; room = omega (arith, w.room) }

pub child_below : (g : Shape) (lowest : Bool) (p len : ℕ) (m : Goal) (la xa : List ℕ) → SlotsGoal g lowest p len m la xa → (i n : ℕ) (lb xb : List ℕ) → SlotsDone g lowest p i m la xa n lb xb → i < len
    → (c : ℕ) → c ≡ get_or xb (slot_at g p i) 0 → c < g.nodes
child_below g lowest p len m la xa w i n lb xb d h c e = omega (arith, e ∙ child_now g lowest p len m la xa w i n lb xb d h, w.below i h)

pub slots_all : (g : Shape) (lowest : Bool) (p len : ℕ) (m : Goal) (la xa : List ℕ) (i n : ℕ) (lb xb : List ℕ) → i ≤ len → len ≤ i → SlotsDone g lowest p i m la xa n lb xb
    → SlotsDone g lowest p len m la xa n lb xb
slots_all g lowest p len m la xa i n lb xb a b d = let e : i ≡ len = omega arith in subst (λ (k : ℕ). SlotsDone g lowest p k m la xa n lb xb) e d

pub node_by : (g : Shape) (lowest : Bool) (p len : ℕ) (m : Goal) (la xa lb xb xc : List ℕ) (n k : ℕ) → Shaped g → p < g.nodes → len ≤ g.fan → SlotsGoal g lowest p len m la xa
    → SlotsDone g lowest p len m la xa n lb xb
    → g.nodes * g.size ≤ length xb → ◌≡◌ {A = ℕ × List ℕ} (k, xc) (tallied (slot_at g p len) (flat (empty_slots g.stride (g.fan - len))) xb) → Empty g m.beside p len
    → NodeDone g lowest p len m la xa (n + k) lb xc
node_by g lowest p len m la xa lb xb xc n k s hp hl w d a e v =
    node_done g lowest p len m la xa lb xb xc n k hl d (empty_put g s p len hp hl m.beside xb xc k (long_on m la xa lb xb n d.near w.long).beside a e v)
