-- What the writer is handed of a node and of all nodes, and what it leaves. Assumes nothing.
use Rattle.std.specs.Prelude.{◌≡◌, Bool, List, ℕ, ◌*◌, ◌<◌, ◌≤◌, get_or, leb}
use Rattle.model.specs.declared.shape.Shape.{Shape}
use Rattle.calls_repair_write.specs.Toward.{Goal, LongGoal, NearGoal, WordsRight, side, aim, slot_at, SlotAim, SlotsRight, Empty, LinkRight}

module _ (g : Shape) where
  -- the child in slot i of node p
  abbrev pub child_in : Goal → ℕ → ℕ → ℕ
  child_in m p i = get_or m.beside (slot_at g p i) 0

  -- the first len slots of inner node p
  pub record SlotsGoal (lowest : Bool) (p len : ℕ) (m : Goal) (ls xs : List ℕ) : Type 0 where
    pub long : LongGoal m ls xs
    pub child : (i : ℕ) → i < len → get_or xs (slot_at g p i) 0 ≡ child_in m p i
    pub below : (i : ℕ) → i < len → child_in m p i < g.nodes
    pub slot : (i : ℕ) → i < len → SlotAim g lowest (child_in m p i) p i m
    pub ready : (i : ℕ) → i < len → SlotsRight g (side lowest ls xs) (aim lowest m) (child_in m p i)

  pub record SlotsDone (lowest : Bool) (p len : ℕ) (m : Goal) (la xa : List ℕ) (n : ℕ) (lb xb : List ℕ) : Type 0 where
    pub near : NearGoal m la xa n lb xb
    pub links : (i : ℕ) → i < len → LinkRight g (side lowest lb xb) (aim lowest m) (child_in m p i)
    pub slots : (i : ℕ) → i < len → WordsRight xb m.beside (slot_at g p i) g.stride

  -- there is something to aim at
  pub record SlotsAimed (lowest : Bool) (p len : ℕ) (ls xs : List ℕ) : Type 0 where
    pub goal : Goal
    pub is : SlotsGoal lowest p len goal ls xs

  pub record NodeDone (lowest : Bool) (p len : ℕ) (m : Goal) (la xa : List ℕ) (n : ℕ) (lb xb : List ℕ) : Type 0 where
    pub near : NearGoal m la xa n lb xb
    pub links : (i : ℕ) → i < len → LinkRight g (side lowest lb xb) (aim lowest m) (child_in m p i)
    pub slots : SlotsRight g xb m.beside p

  -- the inner nodes of a queue, of which those from last on hold leaves
  module _ (order : List ℕ) (last n : ℕ) where
    abbrev pub node_on : ℕ → ℕ
    node_on j = get_or order j 0

    abbrev pub len_on : Goal → ℕ → ℕ
    len_on m j = get_or m.beside (node_on j * g.size) 0

    -- c stands in the queue behind place j
    pub record BehindInQueue (j c : ℕ) : Type 0 where
      pub at : ℕ
      pub behind : j < at
      pub within : at < n
      pub is : node_on at ≡ c

    pub record NodesGoal (m : Goal) (ls xs : List ℕ) : Type 0 where
      pub long : LongGoal m ls xs
      pub used : (j : ℕ) → j < n → node_on j < g.nodes
      pub lens : (j : ℕ) → j < n → get_or xs (node_on j * g.size) 0 ≡ len_on m j
      pub most : (j : ℕ) → j < n → len_on m j ≤ g.fan
      pub child : (j i : ℕ) → j < n → i < len_on m j → get_or xs (slot_at g (node_on j) i) 0 ≡ child_in m (node_on j) i
      pub below : (j i : ℕ) → j < n → i < len_on m j → child_in m (node_on j) i < g.nodes
      pub slot : (j i : ℕ) → j < n → i < len_on m j → SlotAim g (leb last j) (child_in m (node_on j) i) (node_on j) i m
      pub empty : (j : ℕ) → j < n → Empty g m.beside (node_on j) (len_on m j)
      pub ready : (j i : ℕ) → j < n → last ≤ j → i < len_on m j → SlotsRight g ls m.leaves (child_in m (node_on j) i)
      pub later : (j i : ℕ) → j < last → i < len_on m j → BehindInQueue j (child_in m (node_on j) i)

    pub record NodesAimed (ls xs : List ℕ) : Type 0 where
      pub goal : Goal
      pub is : NodesGoal goal ls xs

    -- the nodes from place j on are done
    pub record NodesDone (m : Goal) (j : ℕ) (la xa : List ℕ) (count : ℕ) (lb xb : List ℕ) : Type 0 where
      pub near : NearGoal m la xa count lb xb
      pub slots : (k : ℕ) → j ≤ k → k < n → SlotsRight g xb m.beside (node_on k)
      pub links : (k i : ℕ) → j ≤ k → k < n → i < len_on m k → LinkRight g (side (leb last k) lb xb) (aim (leb last k) m) (child_in m (node_on k) i)
