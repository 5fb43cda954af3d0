-- Room for an entry: what making it leaves beside the areas, as the model has it. Assumes nothing.
use Rattle.model.specs.declared.way.Broken.{Broken}
use Rattle.std.specs.Prelude.{◌≡◌, ℕ, ◌+◌, ◌-◌, ◌/◌, ◌<◌, ◌≤◌, Bool, cond, ◌&&◌, List, length, ◌==◌, nat_le, nat_lt, slice_index, slice_index_or, Ok, Err, Result}
use Rattle.model.specs.State.{state, head_of, next_stamp, shape_for, node_at}
use Rattle.model.specs.Locate.{changing}
use Rattle.model.specs.Grow.{Top}
use Rattle.model.specs.Place as model
use Rattle.model.specs.Place.{change}
use Rattle.model.specs.declared.shape.Shape.{Shape}
use Rattle.model.specs.declared.head.Head.{Head}
use Rattle.tree_links.specs.Fits.{AreasHold}
use Rattle.tree_place.specs.declared.change.Room.{Room}
use Rattle.tree_place.specs.declared.change.HeadChange.{HeadChange}

-- a head with other counts
abbrev pub counted : ℕ → Top → ℕ → Head → Head
counted leaves t entries h = head_of h.fan h.limit t.root t.levels leaves t.inners entries h.stamp h.finger

-- a change as its call settles it: where it met 9, the head is as it was and the place of no account
abbrev pub settled_in : Head → model.Change → model.Change
settled_in h r = cond (r.number == 0) r (change r.number (state h r.state.leaves r.state.inners r.state.homes) 0 0)

-- a room at slot i of leaf k, with so many leaves
abbrev pub room_at : ℕ → ℕ → ℕ → Room
room_at leaves k i = record { leaves = leaves; leaf = record { 0 = k }; slot = i }

-- where slot i of leaf k is when the leaf's upper half has become leaf used
abbrev pub halved : ℕ → ℕ → ℕ → ℕ → Room
halved fan used k i = cond (nat_lt i (fan / 2)) (room_at (used + 1) k i) (room_at (used + 1) used (i - fan / 2))

-- the change that a leaf's split is, with the counts that it leaves
abbrev pub split_to : ℕ → ℕ → ℕ → Top → ℕ → Head → ℕ → ℕ → List ℕ → List ℕ → List ℕ → model.Change
split_to n fan used t entries h k i ls xs hs =
    change n (state (counted (used + 1) t entries h) ls xs hs) (halved fan used k i).leaf.0 (halved fan used k i).slot

-- the change that an answer is; where the way was broken the head is as it was and the place of no account
abbrev pub changed_to : Result HeadChange Broken → Head → List ℕ → List ℕ → List ℕ → model.Change
changed_to (Ok c) h ls xs hs = change 0 (state c.head ls xs hs) c.leaf.0 c.slot
changed_to (Err _) h ls xs hs = change 9 (state h ls xs hs) 0 0

-- one entry more at a room, with the inner nodes, root and levels of three words
abbrev pub entered : Head → List ℕ → Room → HeadChange
entered h t r =
    record { head = head_of h.fan h.limit (slice_index t 1) (slice_index t 2) r.leaves (slice_index t 0) (h.entries + 1) (next_stamp h.stamp) (changing r.leaf.0 r.slot h.finger); leaf = r.leaf; slot = r.slot }

-- leaf k is in the area, at least w slots from slot i on are in use, and one isn't
abbrev pub roomy_in : Shape → ℕ → ℕ → ℕ → List ℕ → Bool
roomy_in g k i w ls = nat_lt k g.nodes && nat_le (i + w) (node_at g k ls).len && nat_lt (node_at g k ls).len g.fan

-- what an entry that comes asks of the tree: its counts within the areas, leaf k one in use with no more slots than it has, and x the next entry
pub record Entering (views : ℕ) (g : Shape) (h : Head) (ls xs hs : List ℕ) (k : ℕ) (x : List ℕ) : Type 0 where
  pub same : g ≡ shape_for views g.fan g.nodes
  pub fits : AreasHold g (length ls) (length xs)
  pub leaves : h.leaves ≤ g.nodes
  pub inners : h.inners ≤ g.nodes
  pub levels_least : 1 ≤ h.levels
  pub levels_most : h.levels ≤ 15
  pub home : h.entries < length hs
  pub few : h.entries < 4294967295
  pub leaf : k < h.leaves
  pub slots : (node_at g k ls).len ≤ g.fan
  pub next : slice_index_or x 0 0 ≡ h.entries
