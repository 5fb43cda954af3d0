-- One entry more in a leaf: where room couldn't be made, where there is none, and where there is. Assumes nothing.
use Rattle.std.proofs.Common.{◌≡◌, ℕ, suc, ◌+◌, ◌<◌, ◌≤◌, true, false, eqb, List, [], ◌∷◌, length, get_or, take, set, sym, refl, ap, ◌∙◌, arith, ltb-true, lt-ltb, eq-eqb, ne_eqb, le-leb, leb-true}
use Rattle.model.specs.Length.{lengths_in}
use Rattle.model.specs.Node.{Node}
use Rattle.model.specs.State.{state, shape_for, node_at, put_node}
use Rattle.model.specs.Locate.{changing}
use Rattle.model.specs.Place.{Change, change, with_entry, enter, entering}
use Rattle.model.specs.declared.shape.Shape.{Shape}
use Rattle.model.specs.declared.head.Head.{Head}
use Rattle.model_laws.specs.Lens.{by_test, both}
use Rattle.tree_place.specs.Room.{roomy_in, settled_in}

pub record RoomyLeaf (g : Shape) (k i w : ℕ) (ls : List ℕ) : Type 0 where
  pub leaf : k < g.nodes
  pub slot : i + w ≤ (node_at g k ls).len
  pub room : (node_at g k ls).len < g.fan

pub roomy : (g : Shape) (k i w : ℕ) (ls : List ℕ) → roomy_in g k i w ls ≡ true → RoomyLeaf g k i w ls
roomy g k i w ls e =
    let o = both _ _ e in
    let p = both _ _ o.0 in
    record { leaf = ltb-true _ _ p.0; slot = leb-true _ _ p.1; room = ltb-true _ _ o.1 }

pub is_roomy : (g : Shape) (k i w : ℕ) (ls : List ℕ) → k < g.nodes → i + w ≤ (node_at g k ls).len → (node_at g k ls).len < g.fan → roomy_in g k i w ls ≡ true
is_roomy g k i w ls a b d = rw (lt-ltb _ _ a, le-leb _ _ b, lt-ltb _ _ d)

-- the words of the entry that comes
pub next_slot : (views n : ℕ) (g : Shape) (x : List ℕ) → g ≡ shape_for views g.fan g.nodes → length x ≡ 4 → get_or x 0 0 ≡ n → take g.stride x ≡ n ∷ lengths_in views x
next_slot views n g [] eg e en = absurd (omega arith)
next_slot views n g (a ∷ x) eg e en =
    let s : g.stride ≡ suc views = ap (λ (h : Shape). h.stride) eg in
    ap (λ (m : ℕ). take m (a ∷ x)) s ∙ ap (λ (y : ℕ). y ∷ take views x) en

module _ (g : Shape) (f : Node → Node) (w k i : ℕ) (h : Head) (ls xs hs : List ℕ) where
  enter_none : roomy_in g k i w ls ≡ false → change 9 (state h ls xs hs) k i ≡ enter g f w (state h ls xs hs) k i
  unfolding enter
  enter_none e = rw e

  enter_done : roomy_in g k i w ls ≡ true → (ls' : List ℕ) → ls' ≡ put_node g k (f (node_at g k ls)) ls
      → change 0 (state (with_entry (changing k i h.finger) h) ls' xs (set hs h.entries k)) k i ≡ enter g f w (state h ls xs hs) k i
  unfolding enter
  enter_done e ls' el = rw (e, el)

-- a change that its call settles: the number stays, and with 0 all
settled_number : (h : Head) (m : Change) → (settled_in h m).number ≡ m.number
settled_number h m = by_test (λ (r : Change). r.number ≡ m.number) (eqb m.number 0) _ _ (λ _. refl) (λ _. refl)

settled_same : (h : Head) (m : Change) → m.number ≡ 0 → settled_in h m ≡ m
settled_same h m z = rw (eq-eqb _ _ z)

-- m is what making room gives; n, the areas and the slot are what the code has of it
module _ (h h1 : Head) (ls xs hs : List ℕ) (k i n : ℕ) (m : Change) (e : settled_in h (change n (state h1 ls xs hs) k i) ≡ settled_in h m) where
  same_number : n ≡ m.number
  same_number = sym (settled_number h (change n (state h1 ls xs hs) k i)) ∙ ap (λ (r : Change). r.number) e ∙ settled_number h m

  pub room_lost : (n ≡ 0 → ⊥) → ((m.number ≡ 0 → ⊥) → m.number ≡ 9) → (g : Shape) (f : ℕ → Node → Node) (w : ℕ) → change 9 (state h ls xs hs) 0 0 ≡ settled_in h (entering g f w m)
  room_lost d nine g f w =
      let d' : m.number ≡ 0 → ⊥ = λ z. d (same_number ∙ z) in
      let passed : entering g f w m ≡ m = rw (ne_eqb _ _ d') in
      sym (ap (λ (x : ℕ). settled_in h (change x (state h1 ls xs hs) k i)) (same_number ∙ nine d')) ∙ e ∙ ap (settled_in h) (sym passed)

  pub room_is : n ≡ 0 → m ≡ change 0 (state h1 ls xs hs) k i
  room_is z =
      sym (settled_same h m (sym same_number ∙ z)) ∙ sym e ∙ settled_same h (change n (state h1 ls xs hs) k i) z ∙ ap (λ (x : ℕ). change x (state h1 ls xs hs) k i) z

-- where room was made, an entry comes if the leaf has room
module _ (g : Shape) (f : ℕ → Node → Node) (w : ℕ) (h h1 : Head) (ls xs hs : List ℕ) (k i : ℕ) (m : Change) (e : m ≡ change 0 (state h1 ls xs hs) k i) where
  on : enter g (f i) w (state h1 ls xs hs) k i ≡ entering g f w m
  on = sym (ap (entering g f w) e)

  pub entered_none : roomy_in g k i w ls ≡ false → change 9 (state h ls xs hs) 0 0 ≡ settled_in h (entering g f w m)
  entered_none b = ap (settled_in h) (enter_none g (f i) w k i h1 ls xs hs b ∙ on)

  pub entered_done : roomy_in g k i w ls ≡ true → (ls' : List ℕ) → ls' ≡ put_node g k (f i (node_at g k ls)) ls
      → change 0 (state (with_entry (changing k i h1.finger) h1) ls' xs (set hs h1.entries k)) k i ≡ settled_in h (entering g f w m)
  entered_done b ls' el = ap (settled_in h) (enter_done g (f i) w k i h1 ls xs hs b ls' el ∙ on)
