-- Nodes noted one after the other in a queue, each below n and once, as many as there is room for; after one that can't be noted nothing is.
-- Assumes nothing.
use Rattle.std.specs.Prelude.{◌≡◌, Bool, true, false, cond, ◌&&◌, ℕ, zero, suc, ◌+◌, ◌-◌, ◌<◌, ◌≤◌, length, get_or, set, ltb, eqb}
use mathlib.Core.List.{List, [], ◌∷◌, map, flat_map}
use Rattle.model.specs.Lists.{All, part}
use Rattle.model.specs.Node.{child, used}
use Rattle.model.specs.State.{node_at}
use Rattle.model.specs.declared.shape.Shape.{Shape}
use Rattle.tree_area.specs.Area.{AreaHolds}
use Rattle.calls_repair_test.specs.declared.queue.QueueCount.{QueueCount}

-- whether all could be noted, how many were, the queue, and the marks of those in it
pub record Queue : Type 0 where
  pub ok : Bool
  pub count : ℕ
  pub order : List ℕ
  pub marks : List ℕ

abbrev pub queue : Bool → ℕ → List ℕ → List ℕ → Queue
queue b k os ms = record { ok = b; count = k; order = os; marks = ms }

abbrev pub queue_of : QueueCount → List ℕ → List ℕ → Queue
queue_of r os ms = queue r.ok r.count os ms

unfoldable pub noted : ℕ → ℕ → ℕ → Queue → Queue
noted n most c q =
    cond (q.ok && ltb c n && eqb (get_or q.marks c 0) 0 && ltb q.count most) (queue true (q.count + 1) (set q.order q.count c) (set q.marks c 1))
    (queue false q.count q.order q.marks)

unfoldable pub noted_all : ℕ → ℕ → List ℕ → Queue → Queue
noted_all n most [] q = q
noted_all n most (c ∷ cs) q = noted_all n most cs (noted n most c q)

-- the children of an inner node, and the nodes d levels below a root
abbrev pub kids_of : Shape → List ℕ → ℕ → List ℕ
kids_of g inners k = map child (used (node_at g k inners))

unfoldable pub level_in : (ℕ → List ℕ) → ℕ → ℕ → List ℕ
level_in kids root zero = root ∷ []
level_in kids root (suc d) = flat_map kids (level_in kids root d)

-- room for most numbers in the queue, and for the marks of n, which the queue's words hold
pub record QueueRoom (n most o m : ℕ) : Type 0 where
  pub order : most ≤ o
  pub marks : n ≤ m
  pub word : n ≤ 65536

-- the queue from start up to end holds inner nodes that use no more slots than they have
abbrev pub Parents : Shape → List ℕ → ℕ → ℕ → List ℕ → Type 0
Parents g inners start end order = (j : ℕ) → start ≤ j → j < end → (get_or order j 0 < g.nodes) × ((node_at g (get_or order j 0) inners).len ≤ g.fan)

-- an area of inner nodes of which n are in use, none with more slots in use than it has
pub record Lens (g : Shape) (n : ℕ) (inners : List ℕ) : Type 0 where
  pub area : AreaHolds g (length inners)
  pub count : n ≤ g.nodes
  pub most : (k : ℕ) → k < n → (node_at g k inners).len ≤ g.fan

-- the level that stands in the queue from start up to end, of nodes below n
pub record Last (n : ℕ) (ks : List ℕ) (start end : ℕ) (order : List ℕ) : Type 0 where
  pub sorted : start ≤ end
  pub small : All (λ k. k < n) ks
  pub last : part start (end - start) order ≡ ks
