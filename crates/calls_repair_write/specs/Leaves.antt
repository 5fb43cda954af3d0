-- What the writer is handed of a leaf and of all leaves, and what it leaves; beside the leaves stand the homes. Assumes nothing.
use Rattle.std.specs.Prelude.{◌≡◌, List, ℕ, ◌-◌, ◌*◌, ◌<◌, ◌≤◌, length, get_or}
use Rattle.model.specs.declared.shape.Shape.{Shape}
use Rattle.calls_repair_write.specs.Toward.{Goal, LongGoal, NearGoal, Nearer, WordsRight, slot_at, Empty}

module _ (g : Shape) where
  -- the id in slot i of leaf k
  abbrev pub id_in : List ℕ → ℕ → ℕ → ℕ
  id_in ls k i = get_or ls (slot_at g k i) 0

  pub record HomesGoal (k len : ℕ) (m ls hs : List ℕ) : Type 0 where
    pub long : length m ≡ length hs
    pub home : (i : ℕ) → i < len → get_or m (id_in ls k i) 0 ≡ k

  pub record HomesDone (k len : ℕ) (m ls ha : List ℕ) (n : ℕ) (hb : List ℕ) : Type 0 where
    pub nearer : Nearer m ha n hb
    pub homes : (i : ℕ) → i < len → get_or hb (id_in ls k i) 0 ≡ get_or m (id_in ls k i) 0

  pub record LeafGoal (k len : ℕ) (m : Goal) (ls hs : List ℕ) : Type 0 where
    pub long : LongGoal m ls hs
    pub home : (i : ℕ) → i < len → get_or m.beside (id_in ls k i) 0 ≡ k
    pub empty : Empty g m.leaves k len

  pub record LeafDone (k len : ℕ) (m : Goal) (la ha : List ℕ) (n : ℕ) (lb hb : List ℕ) : Type 0 where
    pub near : NearGoal m la ha n lb hb
    pub homes : (i : ℕ) → i < len → get_or hb (id_in la k i) 0 ≡ get_or m.beside (id_in la k i) 0
    pub empty : WordsRight lb m.leaves (slot_at g k len) ((g.fan - len) * g.stride)

  abbrev pub len_of : Goal → ℕ → ℕ
  len_of m k = get_or m.leaves (k * g.size) 0

  -- the first n leaves
  pub record LeavesGoal (n : ℕ) (m : Goal) (ls hs : List ℕ) : Type 0 where
    pub long : LongGoal m ls hs
    pub lens : (k : ℕ) → k < n → get_or ls (k * g.size) 0 ≡ len_of m k
    pub most : (k : ℕ) → k < n → len_of m k ≤ g.fan
    pub id : (k i : ℕ) → k < n → i < len_of m k → id_in ls k i ≡ id_in m.leaves k i
    pub below : (k i : ℕ) → k < n → i < len_of m k → id_in m.leaves k i < length hs
    pub home : (k i : ℕ) → k < n → i < len_of m k → get_or m.beside (id_in m.leaves k i) 0 ≡ k
    pub empty : (k : ℕ) → k < n → Empty g m.leaves k (len_of m k)

  -- there is something to aim at
  pub record LeavesAimed (n : ℕ) (ls hs : List ℕ) : Type 0 where
    pub goal : Goal
    pub is : LeavesGoal n goal ls hs

  pub record LeavesDone (n : ℕ) (m : Goal) (la ha : List ℕ) (count : ℕ) (lb hb : List ℕ) : Type 0 where
    pub near : NearGoal m la ha count lb hb
    pub homes : (k i : ℕ) → k < n → i < len_of m k → get_or hb (id_in m.leaves k i) 0 ≡ get_or m.beside (id_in m.leaves k i) 0
    pub empty : (k : ℕ) → k < n → WordsRight lb m.leaves (slot_at g k (len_of m k)) ((g.fan - len_of m k) * g.stride)
