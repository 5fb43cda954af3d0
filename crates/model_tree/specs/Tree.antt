-- The abstract tree with its finger and its soundness; the levels are those computed from the root.
use Rattle.std.specs.Prelude.{◌≡◌, ◌≢◌, List, map, ℕ, ◌/◌, ◌≤◌, ◌<◌, length, take, Some, None, Option}
use Rattle.std.proofs.Common.{sym, ap, ◌∙◌, subst}
use Rattle.model.specs.Lists.{sum_by, All}
use Rattle.model.specs.declared.head.Finger.{Finger}
use Rattle.model_tree.specs.Lists.{cat, NoDup}
use Rattle.model_tree.specs.Levels.{len, Slot, Links, total, climb, none}
use Rattle.model_tree.specs.Insert.{Trunk}
use Rattle.model_tree.specs.Fit.{Fit, size}
use Rattle.model_tree.specs.Sound.{lvl, stack, level_is}

-- body: the two areas, the root, the count of inner nodes in use (`next`), the levels
pub record Tree : Type 0 where
  pub body : Trunk
  pub homes : ℕ → ℕ
  pub leaves : ℕ
  pub entries : ℕ
  pub fan : ℕ
  pub limit : ℕ
  pub finger : Option Finger

abbrev pub half : ℕ → ℕ
half fan = fan / 2

abbrev pub leaf_slots : Tree → ℕ → List Slot
leaf_slots s k = s.body.leaf.slots k

-- the leaves in order, the levels above them, the entries in order
abbrev pub order : Tree → List ℕ
order s = lvl s.body.inner s.body.root s.body.levels

abbrev pub above : Tree → List (List ℕ)
above s = stack s.body.inner s.body.root s.body.levels

abbrev pub row : Tree → List Slot
row s = cat s.body.leaf.slots (order s)

abbrev pub id_of : Slot → ℕ
id_of e = e.child

-- everything but the finger, over the leaves C and the levels st above them
pub record BodyAt (s : Tree) (C : List ℕ) (st : List (List ℕ)) : Type 0 where
  pub fan_low : 4 ≤ s.fan
  pub fan_high : s.fan ≤ 32
  pub limit_low : 1 ≤ s.limit
  pub limit_high : s.limit ≤ 65536
  pub some : 1 ≤ s.body.levels
  pub room : s.entries ≤ s.limit
  pub few : s.body.next ≤ none
  pub deep : length st ≡ s.body.levels
  pub links : Links (total s.body.leaf) s.body.leaf s.body.inner s.body.root C st
  pub leaf_in_law : All (λ k. k < s.leaves) C
  pub leaf_all : (k : ℕ) → k < s.leaves → All (λ m. m ≢ k) C → ⊥
  pub inner_in_law : All (All (λ k. k < s.body.next)) st
  pub inner_all : (k : ℕ) → k < s.body.next → All (All (λ m. m ≢ k)) st → ⊥
  pub leaf_most : (k : ℕ) → k < s.leaves → length (leaf_slots s k) ≤ s.fan
  pub leaf_least : (k : ℕ) → k < s.leaves → 2 ≤ s.leaves → half s.fan ≤ length (leaf_slots s k)
  pub leaf_one : (k : ℕ) → k < s.leaves → 1 ≤ length (leaf_slots s k)
  pub fit : Fit 1 s.fan (half s.fan) s.body
  pub two : 2 ≤ s.body.levels → 2 ≤ size s.body s.body.root
  pub homed : (k : ℕ) → k < s.leaves → All (λ e. s.homes e.child ≡ k) (leaf_slots s k)
  pub below : (k : ℕ) → k < s.leaves → All (λ e. e.child < s.entries) (leaf_slots s k)
  pub once : NoDup (map id_of (cat s.body.leaf.slots C))
  pub count : length (cat s.body.leaf.slots C) ≡ s.entries
  pub totals : (v : ℕ) → sum_by (len v) (cat s.body.leaf.slots C) < 4294967296

abbrev pub Body : Tree → Type 0
Body s = BodyAt s (order s) (above s)

-- the finger's six sums are those of the tree; prepare is view 0
pub record FingerRight (ε : ℕ) (s : Tree) (f : Finger) : Type 0 where
  pub leaf_in_law : f.leaf < s.leaves
  pub slot_in_law : f.slot < length (leaf_slots s f.leaf)
  pub start : f.start ≡ climb f.view s.body.leaf s.body.inner s.body.levels f.leaf
  pub effect : f.effect ≡ climb ε s.body.leaf s.body.inner s.body.levels f.leaf
  pub within : f.within ≡ sum_by (len f.view) (take f.slot (leaf_slots s f.leaf))
  pub within_effect : f.effect_within ≡ sum_by (len ε) (take f.slot (leaf_slots s f.leaf))
  pub prepare_start : f.prepare ≡ climb 0 s.body.leaf s.body.inner s.body.levels f.leaf
  pub within_prepare : f.prepare_within ≡ sum_by (len 0) (take f.slot (leaf_slots s f.leaf))

abbrev pub Right : ℕ → Tree → Option Finger → Type 0
Right ε s None = Unit {0}
Right ε s (Some f) = FingerRight ε s f

pub record Sound (ε : ℕ) (s : Tree) : Type 0 where
  pub body : Body s
  pub finger : Right ε s s.finger

-- the levels are those computed from the root
pub to_body : (s : Tree) (C : List ℕ) (st : List (List ℕ)) → BodyAt s C st → Body s
to_body s C st b =
    let q = level_is (total s.body.leaf) s.body.leaf s.body.inner s.body.root C st b.links in
    subst (λ (d : ℕ). BodyAt s (lvl s.body.inner s.body.root d) (stack s.body.inner s.body.root d)) b.deep
    (subst (λ (D : List ℕ). BodyAt s D (stack s.body.inner s.body.root (length st))) q.0
    (subst (λ (S : List (List ℕ)). BodyAt s C S) q.1 b))

pub same_row : (s : Tree) (C : List ℕ) (st : List (List ℕ)) → BodyAt s C st → row s ≡ cat s.body.leaf.slots C
same_row s C st b =
    let q = level_is (total s.body.leaf) s.body.leaf s.body.inner s.body.root C st b.links in
    ap (λ (D : List ℕ). cat s.body.leaf.slots D) (ap (λ (d : ℕ). lvl s.body.inner s.body.root d) (sym b.deep) ∙ sym q.0)
