-- The changes of a tree on two trees that differ in the stamp alone: what they leave differs in the stamp alone. Assumes nothing.
use Rattle.model.specs.declared.way.Broken.{Broken}
use Rattle.std.specs.Prelude.{◌≡◌, Bool, true, false, cond, ◌&&◌, ℕ, ◌+◌, eqb, Ok, Err, Result}
use Rattle.std.proofs.Math.Path.{refl, subst}
use Rattle.std.proofs.Common.{sym}
use mathlib.Core.List.{List, ◌∷◌}
use Rattle.std.proofs.Math.Dec.{ltb, leb}
use Rattle.model.specs.Node.{Node, half, start, inserted, child_split}
use Rattle.model.specs.State.{State, next_stamp, node_at}
use Rattle.model.specs.Climb.{climb_up}
use Rattle.model.specs.Place as place
use Rattle.model.specs.Place.{Change, change}
use Rattle.model.specs.Stamp.{restamped}
use Rattle.model.specs.declared.shape.Shape.{Shape}

pub both : {A : Type 0} {B : Type 0} (P : A → B → Type 0) (b : Bool) {x y : A} {u v : B} → P x u → P y v → P (cond b x y) (cond b u v)
both P true p q = p
both P false p q = q

-- changes -------------------------------------------------------------------------------------------------------------------------------------

-- q is r with another stamp
pub record Twins (r q : Change) : Type 0 where
  pub stamp : ℕ
  pub is : q ≡ change r.number (restamped stamp r.state) r.leaf r.slot

module _ (g : Shape) where
  module _ (m : ℕ) where
    link_twins : (s : State) (k i p : ℕ) (ls : List ℕ) (hs : ℕ × List ℕ) → Twins (place.link_leaf g s k i p ls hs) (place.link_leaf g (restamped m s) k i p ls hs)
    unfolding place.link_leaf
    link_twins s k i p ls hs = both Twins (eqb hs.0 0) (both Twins (ltb i (half g.fan)) (record { stamp = m; is = refl }) (record { stamp = m; is = refl })) (record { stamp = m; is = refl })

    leaf_twins : (s : State) (k i : ℕ) → Twins (place.split_leaf g s k i) (place.split_leaf g (restamped m s) k i)
    unfolding place.split_leaf
    leaf_twins s k i = both Twins (ltb s.head.leaves g.nodes) (link_twins s k i _ _ _) (record { stamp = m; is = refl })

    room_twins : (s : State) (k i : ℕ) → Twins (place.make_room g s k i) (place.make_room g (restamped m s) k i)
    unfolding place.make_room
    room_twins s k i =
        let n = (node_at g k s.leaves).len in
        both Twins (ltb k s.head.leaves && leb i n && leb n g.fan) (both Twins (ltb n g.fan) (record { stamp = m; is = refl }) (leaf_twins s k i)) (record { stamp = m; is = refl })

    enter_twins : (f : Node → Node) (w : ℕ) (s : State) (k i : ℕ) → Twins (place.enter g f w s k i) (place.enter g f w (restamped m s) k i)
    unfolding place.enter
    enter_twins f w s k i =
        let n = (node_at g k s.leaves).len in
        both Twins (ltb k g.nodes && leb (i + w) n && ltb n g.fan) (record { stamp = next_stamp m; is = refl }) (record { stamp = m; is = refl })

    pub replace_twins : (s : State) (k i : ℕ) (l : List ℕ) → Twins (place.replace g s k i l) (place.replace g (restamped m s) k i l)
    unfolding place.replace
    replace_twins s k i l = record { stamp = m; is = refl }

  entering_twins : (f : ℕ → Node → Node) (w : ℕ) (r q : Change) → Twins r q → Twins (place.entering g f w r) (place.entering g f w q)
  entering_twins f w r q t = subst (λ (z : Change). Twins (place.entering g f w r) (place.entering g f w z)) (sym t.is)
      (both Twins (eqb r.number 0) (enter_twins t.stamp (f r.slot) w r.state r.leaf r.slot) (record { stamp = t.stamp; is = refl }))

  pub place_twins : (m : ℕ) (s : State) (k i : ℕ) (l : List ℕ) → Twins (place.place g s k i l) (place.place g (restamped m s) k i l)
  unfolding place.place
  place_twins m s k i l = entering_twins (λ j. inserted j (s.head.entries ∷ l)) 0 (place.make_room g s k i) (place.make_room g (restamped m s) k i) (room_twins m s k i)

  pub divide_twins : (m : ℕ) (flag : Bool) (s : State) (k i : ℕ) (l : List ℕ) → Twins (place.divide g flag s k i l) (place.divide g flag (restamped m s) k i l)
  unfolding place.divide
  divide_twins m flag s k i l = entering_twins (λ j. child_split flag j (s.head.entries ∷ l)) 1 (place.make_room g s k i) (place.make_room g (restamped m s) k i) (room_twins m s k i)

  -- with the position summed up
  pub record Climbed (a b : Change × ℕ) : Type 0 where
    pub twins : Twins a.0 b.0
    pub same : b.1 ≡ a.1

  pub climb_twins : (e : ℕ) (delta : List ℕ) (r q : Change) → Twins r q → Climbed (place.climb g e delta r) (place.climb g e delta q)
  unfolding place.climb
  climb_twins e delta r q t = subst (λ (z : Change). Climbed (place.climb g e delta r) (place.climb g e delta z)) (sym t.is)
      (both Climbed (eqb r.number 0)
      (up (climb_up g e delta r.state.head.levels (node_at g r.leaf r.state.leaves).parent (node_at g r.leaf r.state.leaves).at (start e r.slot (node_at g r.leaf r.state.leaves)) r.state.inners))
      (record { twins = record { stamp = t.stamp; is = refl }; same = refl }))
    where
      up : (z : Result ℕ Broken × List ℕ) → Climbed (place.summed g r z) (place.summed g (change r.number (restamped t.stamp r.state) r.leaf r.slot) z)
      up (Ok n, xs) = record { twins = record { stamp = t.stamp; is = refl }; same = refl }
      up (Err _, xs) = record { twins = record { stamp = t.stamp; is = refl }; same = refl }
