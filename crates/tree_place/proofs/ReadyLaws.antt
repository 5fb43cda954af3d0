-- Room for an entry as the code has it: there already, or made by a leaf's split; and what the entry then leaves. Assumes nothing.
use Rattle.std.proofs.Common.{◌≡◌, ℕ, ◌+◌, ◌-◌, ◌/◌, ◌<◌, ◌≤◌, Bool, true, false, cond, ltb, List, [], ◌∷◌, length, set, sym, refl, ap, ◌∙◌, arith}
use Rattle.std.specs.Prelude.{Err, Result}
use Rattle.model.specs.declared.way.Broken.{Broken}
use Rattle.model.specs.Numbered.{broken}
use Rattle.model.specs.Node.{Node}
use Rattle.model.specs.State.{state, shape_for, node_at, put_node}
use Rattle.model.specs.Place.{Change, change, split_leaf, make_room, entering}
use Rattle.model.specs.declared.shape.Shape.{Shape}
use Rattle.model.specs.declared.head.Head.{Head}
use Rattle.tree_links.specs.Tops.{top_in}
use Rattle.tree_place.specs.declared.change.Room.{Room}
use Rattle.tree_place.specs.declared.change.HeadChange as code
use Rattle.tree_place.specs.Room.{counted, settled_in, room_at, halved, split_to, changed_to, entered, roomy_in, Entering}
use Rattle.tree_place.proofs.RoomLaws.{room_there, room_made}
use Rattle.tree_place.proofs.NumberLaws.{leaf_ends}
use Rattle.tree_place.proofs.EntryLaws.{is_roomy, room_lost, room_is, entered_none, entered_done}

-- the room r and the three words t beside the areas ls, xs and hs, which were ls₀, xs₀ and hs₀: with w slots in use from the slot on, and one that isn't
pub record RoomReady (g : Shape) (w : ℕ) (h : Head) (ls₀ xs₀ hs₀ : List ℕ) (k i : ℕ) (ls xs hs t : List ℕ) (r : Room) : Type 0 where
  pub made : make_room g (state h ls₀ xs₀ hs₀) k i ≡ change 0 (state (counted r.leaves (top_in t) h.entries h) ls xs hs) r.leaf.0 r.slot
  pub roomy : roomy_in g r.leaf.0 r.slot w ls ≡ true
  pub leaves : length ls ≡ length ls₀
  pub inners : length xs ≡ length xs₀
  pub homes : length hs ≡ length hs₀
  pub words : length t ≡ 3

-- the same where two ways met
pub ready_at : {g : Shape} {w : ℕ} {h : Head} {ls₀ xs₀ hs₀ : List ℕ} {k i : ℕ} (ls xs hs t ls' xs' hs' t' : List ℕ) (r r' : Room)
    → ls' ≡ ls → xs' ≡ xs → hs' ≡ hs → t' ≡ t → r' ≡ r → RoomReady g w h ls₀ xs₀ hs₀ k i ls xs hs t r → RoomReady g w h ls₀ xs₀ hs₀ k i ls' xs' hs' t' r'
ready_at ls xs hs t ls' xs' hs' t' r r' a b d e f z = rw (a, b, d, e, f) z

-- both halves leave one leaf more
more : (b : Bool) (u k i l j : ℕ) → (cond b (room_at u k i) (room_at u l j)).leaves ≡ u
more true u k i l j = refl
more false u k i l j = refl

module _ (views : ℕ) (g : Shape) (w : ℕ) (h : Head) (ls xs hs : List ℕ) (k i : ℕ) (x : List ℕ) (e : Entering views g h ls xs hs k x) (slot : i + w ≤ (node_at g k ls).len) where
  pub ready_there : ((node_at g k ls).len ≡ g.fan → ⊥) → RoomReady g w h ls xs hs k i ls xs hs (h.inners ∷ h.root.0 ∷ h.levels ∷ []) (room_at h.leaves k i)
  ready_there d =
      let few : (node_at g k ls).len < g.fan = omega (arith, e.slots, d) in
      record {
        made = room_there g k i h ls xs hs e.leaf (omega arith) few;
        roomy = is_roomy g k i w ls (omega (arith, e.leaf, e.leaves)) slot few;
        leaves = refl;
        inners = refl;
        homes = refl;
        words = refl;
      }

  -- the leaf was full, and its split ended with n
  module _ (full : (node_at g k ls).len ≡ g.fan) (n : ℕ) (t ls1 xs1 hs1 : List ℕ)
      (es : settled_in h (split_to n g.fan h.leaves (top_in t) h.entries h k i ls1 xs1 hs1) ≡ settled_in h (split_leaf (shape_for views g.fan g.nodes) (state h ls xs hs) k i)) where
    split : make_room g (state h ls xs hs) k i ≡ split_leaf g (state h ls xs hs) k i
    split = room_made g k i h ls xs hs e.leaf (omega arith) full

    gives : settled_in h (split_to n g.fan h.leaves (top_in t) h.entries h k i ls1 xs1 hs1) ≡ settled_in h (make_room g (state h ls xs hs) k i)
    gives = es ∙ ap (λ (s : Shape). settled_in h (split_leaf s (state h ls xs hs) k i)) (sym e.same) ∙ ap (settled_in h) (sym split)

    nine : ((make_room g (state h ls xs hs) k i).number ≡ 0 → ⊥) → (make_room g (state h ls xs hs) k i).number ≡ 9
    nine d =
        let same : (make_room g (state h ls xs hs) k i).number ≡ (split_leaf g (state h ls xs hs) k i).number = ap (λ (m : Change). m.number) split in
        same ∙ leaf_ends g (state h ls xs hs) k i (λ z. d (same ∙ z))

    pub lost_split : (n ≡ 0 → ⊥) → (f : ℕ → Node → Node) → change 9 (state h ls1 xs1 hs1) 0 0 ≡ settled_in h (entering g f w (make_room g (state h ls xs hs) k i))
    lost_split d f = room_lost h (counted (h.leaves + 1) (top_in t) h.entries h) ls1 xs1 hs1 _ _ n (make_room g (state h ls xs hs) k i) gives d nine g f w

    module _ (z : n ≡ 0) (r : Room) (er : r ≡ halved g.fan h.leaves k i) where
      made : make_room g (state h ls xs hs) k i ≡ change 0 (state (counted r.leaves (top_in t) h.entries h) ls1 xs1 hs1) r.leaf.0 r.slot
      made =
          let one : r.leaves ≡ h.leaves + 1 = ap (λ (y : Room). y.leaves) er ∙ more (ltb i (g.fan / 2)) (h.leaves + 1) k i h.leaves (i - g.fan / 2) in
          room_is h (counted (h.leaves + 1) (top_in t) h.entries h) ls1 xs1 hs1 _ _ n (make_room g (state h ls xs hs) k i) gives z
          ∙ ap (λ (y : Room). change 0 (state (counted (h.leaves + 1) (top_in t) h.entries h) ls1 xs1 hs1) y.leaf.0 y.slot) (sym er)
          ∙ ap (λ (u : ℕ). change 0 (state (counted u (top_in t) h.entries h) ls1 xs1 hs1) r.leaf.0 r.slot) (sym one)

      pub lost_room : roomy_in g r.leaf.0 r.slot w ls1 ≡ false → (f : ℕ → Node → Node) → change 9 (state h ls1 xs1 hs1) 0 0 ≡ settled_in h (entering g f w (make_room g (state h ls xs hs) k i))
      lost_room b f =
          entered_none g f w h (counted r.leaves (top_in t) h.entries h) ls1 xs1 hs1 r.leaf.0 r.slot (make_room g (state h ls xs hs) k i) made b

      pub ready_split : roomy_in g r.leaf.0 r.slot w ls1 ≡ true → length ls1 ≡ length ls → length xs1 ≡ length xs → length hs1 ≡ length hs → length t ≡ 3
          → RoomReady g w h ls xs hs k i ls1 xs1 hs1 t r
      ready_split b el ex eh et = record { made = made; roomy = b; leaves = el; inners = ex; homes = eh; words = et }

-- no entry comes
pub gone : {h : Head} {ls xs hs : List ℕ} {m : Change} (r : Result code.HeadChange Broken) → r ≡ Err broken → change 9 (state h ls xs hs) 0 0 ≡ m → changed_to r h ls xs hs ≡ m
gone {h} {ls} {xs} {hs} r er e = ap (λ (q : Result code.HeadChange Broken). changed_to q h ls xs hs) er ∙ e

-- the entry comes
pub ready_done : {g : Shape} {w : ℕ} {h : Head} {ls₀ xs₀ hs₀ : List ℕ} {k i : ℕ} {ls xs hs t : List ℕ} {r : Room} (f : ℕ → Node → Node) (ls' : List ℕ) (s : code.HeadChange)
    → RoomReady g w h ls₀ xs₀ hs₀ k i ls xs hs t r → ls' ≡ put_node g r.leaf.0 (f r.slot (node_at g r.leaf.0 ls)) ls → s ≡ entered h t r
    → change 0 (state s.head ls' xs (set hs h.entries r.leaf.0)) s.leaf.0 s.slot ≡ settled_in h (entering g f w (make_room g (state h ls₀ xs₀ hs₀) k i))
ready_done {g} {w} {h} {ls₀} {xs₀} {hs₀} {k} {i} {ls} {xs} {hs} {t} {r} f ls' s z el es =
    ap (λ (y : code.HeadChange). change 0 (state y.head ls' xs (set hs h.entries r.leaf.0)) y.leaf.0 y.slot) es
    ∙ entered_done g f w h (counted r.leaves (top_in t) h.entries h) ls xs hs r.leaf.0 r.slot (make_room g (state h ls₀ xs₀ hs₀) k i) z.made z.roomy ls' el
