-- The gap for one entry more in a sound state: room made at slot i of leaf k, between the row's slots R₁ and R₂.
use Rattle.std.specs.Prelude.{◌≡◌, List, ◌∷◌, ◌++◌, ℕ, ◌<◌, ◌≤◌}
use Rattle.std.proofs.Common.{sym, arith}
use Rattle.std.proofs.Math.Path.{subst}
use Rattle.std.proofs.Math.ListN.{length, length-map}
use Rattle.model.specs.Kind.{stride}
use Rattle.model.specs.declared.shape.Kind.{Kind}
use Rattle.model.specs.Node.{Node, used}
use Rattle.model.specs.State.{State}
use Rattle.model.specs.Sound.{leaf_in, Coherent}
use Rattle.model_tree.specs.Levels.{Slot}
use Rattle.model_tree.specs.Tree.{above, BodyAt}
use Rattle.model_tree.specs.Edit.{leaf_here}
use Rattle.model_tree.specs.Calls.{spot, make_room, Between, RoomMade}
use Rattle.model_theory.specs.WordTidy.{Tidy}
use Rattle.model_theory.specs.LiftTree.{slot_of, slots_of, tree_of}
use Rattle.model_theory.specs.WordNeat.{size_is, neat_of}
use Rattle.model_theory.specs.ChangeMakeRoom.{grown_state, Roomed, roomed}

module _ (K : Kind) (t : State) (k i : ℕ) where
  -- the state with room, and its leaf with the gap
  abbrev pub opened : Roomed (stride K) t k i → State
  opened q = grown_state t q.root q.levels q.leaves q.inners q.ls q.xs q.hs

  unfoldable pub leaf_with : Roomed (stride K) t k i → Node
  leaf_with q = leaf_in (stride K) (opened q) q.leaf

  pub record Gap (R₁ R₂ : List Slot) : Type 0 where
    pub room : Roomed (stride K) t k i
    pub made : RoomMade K.effect (tree_of (stride K) t) k i (spot (tree_of (stride K) (opened room)) room.leaf room.slot) R₁ R₂
    pub leaf_in_law : room.leaf < room.leaves
    pub tidy : Tidy (stride K) t.head.fan (leaf_with room)
    pub len : length (slots_of (leaf_with room)) ≡ (leaf_with room).len
    pub count : length (slots_of (leaf_with room)) ≡ length (used (leaf_with room))
    pub free : length (used (leaf_with room)) < t.head.fan

  pub gap : Coherent K t → (A B : List ℕ) → BodyAt (tree_of (stride K) t) (A ++ k ∷ B) (above (tree_of (stride K) t)) → i ≤ length (slots_of (leaf_in (stride K) t k))
      → (R₁ R₂ : List Slot) → RoomMade K.effect (tree_of (stride K) t) k i (make_room (tree_of (stride K) t) k i) R₁ R₂ → Gap R₁ R₂
  unfolding leaf_with
  gap w A B b le R₁ R₂ md = within (roomed (stride K) (omega arith) t (neat_of (stride K) t K.effect w) A k B (above (tree_of (stride K) t)) b i le)
    where
      within : Roomed (stride K) t k i → Gap R₁ R₂
      within q =
          let made : RoomMade K.effect (tree_of (stride K) t) k i (spot (tree_of (stride K) (opened q)) q.leaf q.slot) R₁ R₂ = subst (λ p. RoomMade K.effect (tree_of (stride K) t) k i p R₁ R₂) (sym q.spot) md in
          let r : Between K.effect (tree_of (stride K) t) (spot (tree_of (stride K) (opened q)) q.leaf q.slot) R₁ R₂ = made.room in
          let lk : q.leaf < q.leaves = leaf_here (tree_of (stride K) (opened q)) r.A q.leaf r.B r.st r.body in
          let m : Node = leaf_in (stride K) (opened q) q.leaf in
          let tidy : Tidy (stride K) t.head.fan m = q.neat.leaf_tidy q.leaf lk in
          let count : length (slots_of m) ≡ length (used m) = length-map (used m) slot_of in
          record { room = q; made = made; leaf_in_law = lk; tidy = tidy; len = size_is (stride K) t.head.fan m tidy; count = count; free = (let z = made.space in omega arith) }
