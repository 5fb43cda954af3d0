-- One node: three words and then as many slots as the fan, each a child and its lengths (document 01, "Lengths, slots, nodes").
-- A slot is `stride` words wide: column 0 is the child, column v + 1 the length in view v. Assumes nothing.
use Rattle.std.specs.Prelude.{Bool, cond, ℕ, zero, suc, ◌+◌, ◌-◌, ◌%◌, ◌^◌, ◌/◌, length, get_or, take, drop, set, replicate, ltb, eqb, Some, None, Option}
use mathlib.Core.List.{List, [], ◌∷◌, ◌++◌, flat_map, zip_with}
use Rattle.model.specs.Lists.{part, sum_by}
use Rattle.model.specs.Kind.{prepare}
use Rattle.model.specs.declared.shape.Scan.{Scan}

-- the child that no slot in use holds; also the root's parent, "none", and the place of an insertion at the end
abbrev pub none : ℕ
none = 4294967295

abbrev pub child : List ℕ → ℕ
child slot = get_or slot 0 0

abbrev pub lengths : List ℕ → List ℕ
lengths slot = drop 1 slot

-- the length in view v, and the sum of these
abbrev pub length_in : ℕ → List ℕ → ℕ
length_in v slot = get_or slot (v + 1) 0

abbrev pub total : ℕ → List (List ℕ) → ℕ
total v slots = sum_by (length_in v) slots

pub record Node : Type 0 where
  pub len : ℕ
  pub parent : ℕ
  pub at : ℕ
  pub slots : List (List ℕ)

abbrev pub node : ℕ → ℕ → ℕ → List (List ℕ) → Node
node l p a ss = record { len = l; parent = p; at = a; slots = ss }

-- the slots in use
abbrev pub used : Node → List (List ℕ)
used n = take n.len n.slots

-- n slots of s words from word p on
unfoldable pub slots_from : ℕ → ℕ → ℕ → List ℕ → List (List ℕ)
slots_from s zero p ws = []
slots_from s (suc n) p ws = part p s ws ∷ slots_from s n (p + s) ws

-- a node read from its words, and its words
unfoldable pub node_of : ℕ → ℕ → List ℕ → Node
node_of s fan ws = node (get_or ws 0 0) (get_or ws 1 0) (get_or ws 2 0) (slots_from s fan 3 ws)

unfoldable pub words_of : Node → List ℕ
words_of n = n.len ∷ n.parent ∷ n.at ∷ flat_map (λ slot. slot) n.slots

-- an unused slot, and n of them
unfoldable pub empty_slot : ℕ → List ℕ
empty_slot s = none ∷ replicate (s - 1) 0

abbrev pub empty_slots : ℕ → ℕ → List (List ℕ)
empty_slots s n = replicate n (empty_slot s)

-- differences and sums of lengths, modulo 2 ^ 32, one a view
abbrev pub wrap : ℕ → ℕ
wrap n = n % 2 ^ 32

unfoldable pub plus : List ℕ → List ℕ → List ℕ
plus xs ys = zip_with (λ x y. wrap (x + y)) xs ys

unfoldable pub minus : List ℕ → List ℕ → List ℕ
minus xs ys = zip_with (λ x y. wrap (x + (2 ^ 32 - y))) xs ys

-- the slot at place i with other lengths
abbrev pub lengths_at : ℕ → List (List ℕ) → List ℕ
lengths_at i slots = lengths (get_or slots i [])

abbrev pub with_lengths : ℕ → List ℕ → Node → Node
with_lengths i ls n = node n.len n.parent n.at (set n.slots i (child (get_or n.slots i []) ∷ ls))

-- `Node::start`: the lengths in view v before slot i
abbrev pub start : ℕ → ℕ → Node → ℕ
start v i n = total v (take i n.slots)

-- `Node::total`: the lengths of all slots, unused ones being 0: k sums, from view v on
unfoldable pub totals_from : ℕ → ℕ → List (List ℕ) → List ℕ
totals_from zero v slots = []
totals_from (suc k) v slots = wrap (total v slots) ∷ totals_from k (suc v) slots

-- the slot for node k, of content n, in its parent
unfoldable pub slot_for : ℕ → ℕ → Node → List ℕ
slot_for s k n = k ∷ totals_from (s - 1) 0 n.slots

-- the slot that holds a position, the offset into it, and the effect and the prepare lengths before it
abbrev pub Found : Type 0
Found = Option (ℕ × ℕ × ℕ × ℕ)

-- `Node::find`: the first slot, counted from k, that holds position index of view v; the offset into it; a and the lengths in view e before it, b and those
-- in prepare
unfoldable pub find_from : ℕ → ℕ → ℕ → ℕ → ℕ → ℕ → List (List ℕ) → Found
find_from v e k index a b [] = None
find_from v e k index a b (x ∷ xs) =
    cond (ltb index (length_in v x)) (Some (k, index, a, b)) (find_from v e (k + 1) (index - length_in v x) (a + length_in e x) (b + length_in prepare x) xs)

-- `Node::index_of`: the first slot, counted from k, that holds the child c
unfoldable pub index_from : ℕ → ℕ → List (List ℕ) → Option ℕ
index_from c k [] = None
index_from c k (x ∷ xs) = cond (eqb (child x) c) (Some k) (index_from c (k + 1) xs)

-- how many of n slots are read for it: those up to and with the first that holds the child, or all
abbrev pub read_for : ℕ → Option ℕ → ℕ
read_for n (Some i) = i + 1
read_for n None = n

abbrev pub scan : ℕ → Option ℕ → Scan
scan n p = record { place = p; read = read_for n p }

-- `Node::insert`: the slot x put at place i; what stood in the slots in use from there on moves up by one
unfoldable pub inserted : ℕ → List ℕ → Node → Node
inserted i x n =
    node (n.len + 1) n.parent n.at (take i n.slots ++ x ∷ (take (n.len - i) (drop i n.slots) ++ drop (n.len + 1) n.slots))

-- `Node::split_child`: the lengths of x taken from slot i; x put just before it or just after
unfoldable pub child_split : Bool → ℕ → List ℕ → Node → Node
child_split before i x n = inserted (cond before i (i + 1)) x (with_lengths i (minus (lengths_at i n.slots) (lengths x)) n)

-- `Node::split_off`: the slots from half on go to a new node
abbrev pub half : ℕ → ℕ
half fan = fan / 2

unfoldable pub lower_half : ℕ → ℕ → Node → Node
lower_half s fan n = node (half fan) n.parent n.at (take (half fan) n.slots ++ empty_slots s (fan - half fan))

unfoldable pub upper_half : ℕ → ℕ → Node → Node
upper_half s fan n = node (fan - half fan) n.parent 0 (drop (half fan) n.slots ++ empty_slots s (half fan))

-- `Node::new` with slots in it: an entry or two nodes
abbrev pub new_node : ℕ → ℕ → ℕ → List (List ℕ) → Node
new_node s fan parent ss = node (length ss) parent 0 (ss ++ empty_slots s (fan - length ss))

-- the node with another parent and another place there
abbrev pub adopted : ℕ → ℕ → Node → Node
adopted parent at n = node n.len parent at n.slots
