-- Areas on their way to those that are aimed at: words that are right stay right, and each word put right is one less to write.
-- Assumes nothing.
use Rattle.std.specs.Prelude.{◌≡◌, Bool, cond, List, ℕ, ◌+◌, ◌-◌, ◌*◌, ◌<◌, ◌≤◌, length, get_or}
use Rattle.model.specs.Lists.{part}
use Rattle.model.specs.Node.{slot_for, empty_slots}
use Rattle.model.specs.State.{node_at}
use Rattle.model.specs.Repair.{differ}
use Rattle.model.specs.declared.shape.Shape.{Shape}
use Rattle.model_laws.specs.Slots.{flat}

-- n words from word p on are those aimed at
abbrev pub WordsRight : List ℕ → List ℕ → ℕ → ℕ → Type 0
WordsRight a m p n = (q : ℕ) → p ≤ q → q < p + n → get_or a q 0 ≡ get_or m q 0

-- an area on its way from a to m
pub record WordsToward (m a b : List ℕ) : Type 0 where
  pub long : length b ≡ length a
  pub kept : (q : ℕ) → get_or a q 0 ≡ get_or m q 0 → get_or b q 0 ≡ get_or m q 0

-- n words were written that differ from before
pub record Nearer (m a : List ℕ) (n : ℕ) (b : List ℕ) : Type 0 where
  pub kept : WordsToward m a b
  pub count : n + differ b m ≡ differ a m

-- the leaves aimed at, and what is written beside them: inner nodes, or homes
pub record Goal : Type 0 where
  pub leaves : List ℕ
  pub beside : List ℕ

pub record NearGoal (m : Goal) (la xa : List ℕ) (n : ℕ) (lb xb : List ℕ) : Type 0 where
  pub leaves : WordsToward m.leaves la lb
  pub beside : WordsToward m.beside xa xb
  pub count : n + (differ lb m.leaves + differ xb m.beside) ≡ differ la m.leaves + differ xa m.beside

pub record LongGoal (m : Goal) (ls xs : List ℕ) : Type 0 where
  pub leaves : length m.leaves ≡ length ls
  pub beside : length m.beside ≡ length xs

-- the area of a child: the leaves below the lowest inner nodes
abbrev pub side : Bool → List ℕ → List ℕ → List ℕ
side lowest ls xs = cond lowest ls xs

abbrev pub aim : Bool → Goal → List ℕ
aim lowest m = cond lowest m.leaves m.beside

module _ (g : Shape) where
  -- where slot i of node p starts
  abbrev pub slot_at : ℕ → ℕ → ℕ
  slot_at p i = p * g.size + (3 + i * g.stride)

  -- slot i of inner node p holds c
  pub record SlotAim (lowest : Bool) (c p i : ℕ) (m : Goal) : Type 0 where
    pub parent : get_or (aim lowest m) (c * g.size + 1) 0 ≡ p
    pub place : get_or (aim lowest m) (c * g.size + 2) 0 ≡ i
    pub slot : part (slot_at p i) g.stride m.beside ≡ slot_for g.stride c (node_at g c (aim lowest m))

  -- the slots of node c are right
  abbrev pub SlotsRight : List ℕ → List ℕ → ℕ → Type 0
  SlotsRight a m c = WordsRight a m (c * g.size + 3) (g.fan * g.stride)

  -- its slots from slot len on are empty
  abbrev pub Empty : List ℕ → ℕ → ℕ → Type 0
  Empty m p len = part (slot_at p len) ((g.fan - len) * g.stride) m ≡ flat (empty_slots g.stride (g.fan - len))

  -- its parent and place are
  abbrev pub LinkRight : List ℕ → List ℕ → ℕ → Type 0
  LinkRight a m c = WordsRight a m (c * g.size + 1) 2

  pub record SlotGoal (lowest : Bool) (c p i : ℕ) (m : Goal) (ls xs : List ℕ) : Type 0 where
    pub long : LongGoal m ls xs
    pub slot : SlotAim lowest c p i m
    pub ready : SlotsRight (side lowest ls xs) (aim lowest m) c

  pub record SlotDone (lowest : Bool) (c p i : ℕ) (m : Goal) (la xa : List ℕ) (n : ℕ) (lb xb : List ℕ) : Type 0 where
    pub near : NearGoal m la xa n lb xb
    pub link : LinkRight (side lowest lb xb) (aim lowest m) c
    pub slot : WordsRight xb m.beside (slot_at p i) g.stride
