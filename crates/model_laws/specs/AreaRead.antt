-- One node of an area: its words are the area's from word k * size on. Assumes nothing.
use Rattle.std.specs.Prelude.{◌≡◌, List, [], ℕ, ◌+◌, ◌*◌, ◌<◌, ◌≤◌, length, get_or}
use Rattle.std.proofs.Common.{arith, length-take-le}
use Rattle.model.specs.Lists.{part}
use Rattle.model.specs.Node.{node_of, used, slots_from}
use Rattle.model.specs.State.{node_at}
use Rattle.model.specs.declared.shape.Shape.{Shape}
use Rattle.model_laws.specs.Lists.{row_end}
use Rattle.model_laws.specs.Words.{length_part}
use Rattle.model_laws.specs.Slots.{column, slots_length}

-- a node of an area of that many nodes ends within it, and so its words are all there
pub node_end : (g : Shape) (k n : ℕ) → k < g.nodes → g.nodes * g.size ≤ n → k * g.size + g.size ≤ n
node_end g k n h hn = omega (arith, row_end k g.nodes g.size h)

pub node_length : (g : Shape) (k : ℕ) (xs : List ℕ) → k < g.nodes → g.nodes * g.size ≤ length xs → length (part (k * g.size) g.size xs) ≡ g.size
node_length g k xs h hn = length_part (k * g.size) g.size xs (node_end g k (length xs) h hn)

-- column c of slot i is a word of the node
pub column_word : (g : Shape) (k i c : ℕ) (xs : List ℕ) → i < g.fan → c < g.stride
    → get_or (get_or (node_at g k xs).slots i []) c 0 ≡ get_or (part (k * g.size) g.size xs) (3 + i * g.stride + c) 0
unfolding node_of
column_word g k i c xs h hc = column g.stride g.fan i 3 c (part (k * g.size) g.size xs) h hc

-- a node has as many slots as the fan
pub slots_are : (g : Shape) (k : ℕ) (xs : List ℕ) → length (node_at g k xs).slots ≡ g.fan
unfolding node_of
slots_are g k xs = slots_length g.stride g.fan 3 _

-- the slots in use are as many as the node says, where it says no more than it has
pub used_length : (g : Shape) (k : ℕ) (xs : List ℕ) → (node_at g k xs).len ≤ g.fan → length (used (node_at g k xs)) ≡ (node_at g k xs).len
unfolding node_of
used_length g k xs h = length-take-le (get_or (part (k * g.size) g.size xs) 0 0) (slots_from g.stride g.fan 3 (part (k * g.size) g.size xs)) (rw slots_length h)
