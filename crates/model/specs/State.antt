-- A tree as words: its head and the three areas that the caller lends (document 01, "Lengths, slots, nodes"). Assumes nothing.
use Rattle.model.specs.declared.head.Finger.{Finger}
use Rattle.std.specs.Prelude.{cond, List, ℕ, suc, ◌+◌, ◌*◌, ◌/◌, ◌%◌, ◌^◌, ltb, Option}
use Rattle.model.specs.Lists.{part, put_at}
use Rattle.model.specs.Node.{Node, node_of, words_of, half}
use Rattle.model.specs.declared.shape.Shape.{Shape}
use Rattle.model.specs.declared.head.Head.{Head}

pub record State : Type 0 where
  pub head : Head
  pub leaves : List ℕ
  pub inners : List ℕ
  pub homes : List ℕ

abbrev pub state : Head → List ℕ → List ℕ → List ℕ → State
state h ls xs hs = record { head = h; leaves = ls; inners = xs; homes = hs }

abbrev pub head_of : ℕ → ℕ → ℕ → ℕ → ℕ → ℕ → ℕ → ℕ → Option Finger → Head
head_of fan limit root levels leaves inners entries stamp finger =
    record { fan = fan; limit = limit; root = record { 0 = root }; levels = levels; leaves = leaves; inners = inners; entries = entries; stamp = stamp; finger = finger }

-- the stamp once one more entry is made: a u64 that goes round on purpose
abbrev pub next_stamp : ℕ → ℕ
next_stamp stamp = (stamp + 1) % 2 ^ 64

-- the nodes that the leaf area and the inner area each need
abbrev pub nodes_for : ℕ → ℕ → ℕ
nodes_for fan limit = cond (ltb (limit / half fan) 1) 1 (limit / half fan)

-- slots of s words, the fan and the limit give the sizes of everything
-- the sizes of a tree with so many lengths a slot, slots a node and nodes an area
abbrev pub shape_for : ℕ → ℕ → ℕ → Shape
shape_for views fan nodes = record { stride = suc views; fan = fan; size = 3 + fan * suc views; nodes = nodes }

abbrev pub shape : ℕ → ℕ → ℕ → Shape
shape s fan limit = record { stride = s; fan = fan; size = 3 + fan * s; nodes = nodes_for fan limit }

-- node k of an area, and the area with node k written anew
abbrev pub node_at : Shape → ℕ → List ℕ → Node
node_at g k area = node_of g.stride g.fan (part (k * g.size) g.size area)

abbrev pub put_node : Shape → ℕ → Node → List ℕ → List ℕ
put_node g k n area = put_at (k * g.size) (words_of n) area
