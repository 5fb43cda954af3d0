-- A sound tree, field by field as document 01's paragraph on audit has it, and its entries in order ("The plain row", last paragraph).
-- s is the words of a slot, e the effect view; Coherent takes both from a kind, and Sound asks of the line ends and bounds too. Assumes nothing.
use Rattle.std.specs.Prelude.{◌≡◌, false, cond, ℕ, zero, suc, ◌*◌, ◌≤◌, ◌<◌, length, get_or, take, eqb, Some, None, Option}
use mathlib.Core.List.{List, [], ◌∷◌, map, flat_map}
use Rattle.model.specs.Lists.{All, times, range}
use Rattle.model.specs.Node.{Node, none, child, lengths, length_in, total, used, empty_slot, half}
use Rattle.model.specs.Kind.{stride, prepare, too_many_lines, crossed}
use Rattle.model.specs.declared.shape.Kind.{Kind}
use Rattle.model.specs.Row.{Entry, entry}
use Rattle.model.specs.State.{State, shape, node_at}
use Rattle.model.specs.declared.shape.Shape.{Shape}
use Rattle.model.specs.declared.head.Finger.{Finger}

-- 0 to n - 1 once each, and nothing else
pub record Once (n : ℕ) (ks : List ℕ) : Type 0 where
  pub below : All (λ k. k < n) ks
  pub once : (k : ℕ) → k < n → times k ks ≡ 1

-- the numbers before the first k
unfoldable pub until : ℕ → List ℕ → List ℕ
until k [] = []
until k (x ∷ xs) = cond (eqb x k) [] (x ∷ until k xs)

module _ (s : ℕ) (t : State) where
  abbrev pub shape_in : Shape
  shape_in = shape s t.head.fan t.head.limit

  abbrev pub leaf_in : ℕ → Node
  leaf_in k = node_at shape_in k t.leaves

  abbrev pub inner_in : ℕ → Node
  inner_in k = node_at shape_in k t.inners

  -- the nodes d levels below the root, earlier slots first; at d = levels they are the leaves
  unfoldable pub level : ℕ → List ℕ
  level zero = t.head.root.0 ∷ []
  level (suc d) = flat_map (λ p. map child (used (inner_in p))) (level d)

  abbrev pub inners_reached : List ℕ
  inners_reached = flat_map level (range 0 t.head.levels)

  abbrev pub leaves_reached : List ℕ
  leaves_reached = level t.head.levels

  -- the slots in use of some leaves, in order
  abbrev pub slots_in : List ℕ → List (List ℕ)
  slots_in ks = flat_map (λ k. used (leaf_in k)) ks

  -- the children of the nodes d levels below the root
  abbrev pub below : ℕ → ℕ → Node
  below d k = cond (eqb (suc d) t.head.levels) (leaf_in k) (inner_in k)

  -- the child in slot i of node p knows its parent and its place there, and the slot has its totals
  pub record Child (d p i : ℕ) (x : List ℕ) : Type 0 where
    pub parent : (below d (child x)).parent ≡ p
    pub at : (below d (child x)).at ≡ i
    pub sums : (v : ℕ) → suc v < s → length_in v x ≡ total v (used (below d (child x)))

  -- how few slots a node may use: half; the lone leaf and the root at one level 1, any other root 2
  abbrev pub least_leaf : ℕ
  least_leaf = cond (eqb t.head.leaves 1) 1 (half t.head.fan)

  abbrev pub least_inner : ℕ → ℕ
  least_inner k = cond (eqb k t.head.root.0) (cond (eqb t.head.levels 1) 1 2) (half t.head.fan)

  pub record Filled (least : ℕ) (n : Node) : Type 0 where
    pub low : least ≤ n.len
    pub high : n.len ≤ t.head.fan
    pub unused : (i : ℕ) → n.len ≤ i → i < t.head.fan → get_or n.slots i [] ≡ empty_slot s

  -- the finger's leaf and slot are in use, and its six sums are those of the tree
  pub record FingerAt (e : ℕ) (f : Finger) : Type 0 where
    pub view : suc f.view < s
    pub leaf : f.leaf < t.head.leaves
    pub slot : f.slot < (leaf_in f.leaf).len
    pub start : f.start ≡ total f.view (slots_in (until f.leaf leaves_reached))
    pub effect : f.effect ≡ total e (slots_in (until f.leaf leaves_reached))
    pub within : f.within ≡ total f.view (take f.slot (used (leaf_in f.leaf)))
    pub within_effect : f.effect_within ≡ total e (take f.slot (used (leaf_in f.leaf)))
    pub prepare_start : f.prepare ≡ total prepare (slots_in (until f.leaf leaves_reached))
    pub within_prepare : f.prepare_within ≡ total prepare (take f.slot (used (leaf_in f.leaf)))

  abbrev pub FingerRight : ℕ → Option Finger → Type 0
  FingerRight e None = Unit {0}
  FingerRight e (Some f) = FingerAt e f

  pub record CoherentAt (e : ℕ) : Type 0 where
    -- good fan, limit and areas
    pub fan_least : 4 ≤ t.head.fan
    pub fan_most : t.head.fan ≤ 32
    pub limit_least : 1 ≤ t.head.limit
    pub limit_most : t.head.limit ≤ 65536
    pub leaf_area : shape_in.nodes * shape_in.size ≤ length t.leaves
    pub inner_area : shape_in.nodes * shape_in.size ≤ length t.inners
    pub home_area : t.head.limit ≤ length t.homes
    -- counts within limit
    pub entry_count : t.head.entries ≤ t.head.limit
    pub leaf_count : t.head.leaves ≤ shape_in.nodes
    pub inner_count : t.head.inners ≤ shape_in.nodes
    -- every node in use reached once, leaves equally deep
    pub levels_least : 1 ≤ t.head.levels
    pub inners_once : Once t.head.inners inners_reached
    pub leaves_once : Once t.head.leaves leaves_reached
    -- len from half to fan, with its exceptions; unused slots empty
    pub leaf_filled : (k : ℕ) → k < t.head.leaves → Filled least_leaf (leaf_in k)
    pub inner_filled : (k : ℕ) → k < t.head.inners → Filled (least_inner k) (inner_in k)
    -- parent, at, homes and inner sums
    pub root_parent : (inner_in t.head.root.0).parent ≡ none
    pub root_at : (inner_in t.head.root.0).at ≡ 0
    pub children : (d : ℕ) → d < t.head.levels → All (λ p. (i : ℕ) → i < (inner_in p).len → Child d p i (get_or (inner_in p).slots i [])) (level d)
    pub homes : (k i : ℕ) → k < t.head.leaves → i < (leaf_in k).len → get_or t.homes (child (get_or (leaf_in k).slots i [])) 0 ≡ k
    -- ids 0 to count - 1 once each
    pub ids : Once t.head.entries (map child (slots_in leaves_reached))
    -- totals within u32
    pub totals : (v : ℕ) → suc v < s → total v (slots_in leaves_reached) ≤ 4294967295
    pub finger : FingerRight e t.head.finger

abbrev pub Coherent : Kind → State → Type 0
Coherent K t = CoherentAt (stride K) t K.effect

-- and no leaf slot in use has more than 65,535 line ends, nor a lowest above a highest length
pub record Sound (K : Kind) (t : State) : Type 0 where
  pub coherent : Coherent K t
  pub lines : (k i : ℕ) → k < t.head.leaves → i < (leaf_in (stride K) t k).len → too_many_lines K (lengths (get_or (leaf_in (stride K) t k).slots i [])) ≡ false
  pub bounds : (k i : ℕ) → k < t.head.leaves → i < (leaf_in (stride K) t k).len → crossed K (lengths (get_or (leaf_in (stride K) t k).slots i [])) ≡ false

-- the entries in order: the slots in use of the leaves, reached from the root with earlier slots first
unfoldable pub entries_of : Kind → State → List Entry
entries_of K t = map (λ x. entry (child x) (lengths x)) (slots_in (stride K) t (leaves_reached (stride K) t))
