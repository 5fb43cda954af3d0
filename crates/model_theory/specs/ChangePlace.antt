-- An entry placed before a slot of a leaf: with room made and its lengths carried up, the state is sound and stands for the row with the entry in it.
use Rattle.model.specs.declared.way.Broken.{Broken}
use Rattle.std.specs.Prelude.{◌≡◌, length, get_or, Ok, Result}
use Rattle.std.proofs.Math.Path.{refl, sym, ap, ap₂}
use Rattle.std.proofs.Common.{◌∙◌, subst, arith}
use mathlib.Core.List.{List, ◌∷◌, ◌++◌, map}
use Prim.Native.Nat.{ℕ, suc, ◌%◌, ◌^◌, ◌<◌, ◌≤◌}
use Rattle.std.proofs.Math.Nat.{add-zero}
use Rattle.std.proofs.Math.ListN.{take, drop}
use borrow.Author.Tests.{lt-ltb, le-leb}
use Rattle.model.specs.Kind.{stride}
use Rattle.model.specs.declared.shape.Kind.{Kind}
use Rattle.model.specs.Lists.{sum_by}
use Rattle.model.specs.Node.{Node, used, start, inserted}
use Rattle.model.specs.State.{State, state}
use Rattle.model.specs.Climb.{climb_up}
use Rattle.model.specs.Locate.{changing}
use Rattle.model.specs.Place as place
use Rattle.model.specs.Place.{Change, change, enter, climb, summed}
use Rattle.model.specs.Row.{entry}
use Rattle.model.specs.Sound.{shape_in, leaf_in, Coherent, entries_of}
use Rattle.model_tree.specs.Lists.{sum_by_append}
use Rattle.model_tree.specs.Levels.{Slot, Area, len}
use Rattle.model_tree.specs.Insert as insert
use Rattle.model_tree.specs.Update.{upd}
use Rattle.model_tree.specs.Tree as tree
use Rattle.model_tree.specs.Tree.{Tree, above, BodyAt}
use Rattle.model_tree.specs.Change.{with_leaf}
use Rattle.model_tree.specs.Calls.{spot, make_room, RoomMade, Done, put_in, put_done}
use Rattle.model_theory.specs.RowViews.{firsts_of}
use Rattle.model_theory.specs.WordTidy.{Tidy}
use Rattle.model_theory.specs.LiftTree.{slots_of, tree_of}
use Rattle.model_theory.specs.LiftSoundBack.{sound_up}
use Rattle.model_theory.specs.LiftEntries.{firsts, entry_from, split_entries}
use Rattle.model_theory.specs.ChangeSums.{slot_of_law, ClimbCarried}
use Rattle.model_theory.specs.ChangeMakeRoom.{Roomed, climbed, rank_sum}
use Rattle.model_theory.specs.ChangeGap.{opened, leaf_with, Gap, gap}
use Rattle.model_theory.specs.ChangeEnter.{entered, entered_read, entered_neat, entered_tree, put_is, put_tidy, put_slots_are, put_start}
use Rattle.model_theory.specs.CallSimulates.{entries_are}

-- what a placed entry leaves
pub record EntryPlaced (K : Kind) (t : State) (k i : ℕ) (R₁ R₂ : List Slot) (l : List ℕ) : Type 0 where
  pub after : State
  pub leaf : ℕ
  pub slot : ℕ
  pub is : climb (shape_in (stride K) t) K.effect l (place.place (shape_in (stride K) t) t k i l) ≡ (change 0 after leaf slot, sum_by (len K.effect) R₁)
  pub sound : Coherent K after
  pub entries : entries_of K after ≡ map (entry_from K.views) R₁ ++ entry t.head.entries l ∷ map (entry_from K.views) R₂
  pub limit : after.head.limit ≡ t.head.limit

module _ (K : Kind) (t : State) (w : Coherent K t) (A : List ℕ) (k : ℕ) (B : List ℕ) (b : BodyAt (tree_of (stride K) t) (A ++ k ∷ B) (above (tree_of (stride K) t))) (i : ℕ) (le : i ≤ length (slots_of (leaf_in (stride K) t k))) (R₁ R₂ : List Slot)
    (md : RoomMade K.effect (tree_of (stride K) t) k i (make_room (tree_of (stride K) t) k i) R₁ R₂) (l : List ℕ) (wl : length l ≡ K.views) (few : t.head.entries < t.head.limit)
    (tot : (v : ℕ) → sum_by (len v) (R₁ ++ insert.slot_of t.head.entries (λ u. get_or l u 0) ∷ R₂) < 4294967296) where
  abbrev new : ℕ → ℕ
  new u = get_or l u 0

  gp : Gap K t k i R₁ R₂
  gp = gap K t k i w A B b le R₁ R₂ md

  abbrev q : Roomed (stride K) t k i
  q = gp.room

  abbrev t₁ : State
  t₁ = opened K t k i q

  abbrev m : Node
  m = leaf_with K t k i q

  lj : q.slot ≤ length (used m)
  unfolding leaf_with
  lj = (let z = gp.made.room.fits in omega (arith, gp.count))

  x : List ℕ
  x = t.head.entries ∷ l

  m₂ : Node
  m₂ = inserted q.slot x m

  td₂ : Tidy (stride K) t.head.fan m₂
  unfolding m₂ x
  td₂ = put_tidy (stride K) t.head.fan (omega arith) m gp.tidy q.slot x lj gp.free (ap suc wl)

  pa : (leaf_in (stride K) t₁ q.leaf).parent ≡ m₂.parent
  unfolding m₂ leaf_with x
  pa = sym (ap (λ (n : Node). n.parent) (put_is (stride K) t.head.fan (omega arith) m gp.tidy q.slot x lj gp.free (ap suc wl)))

  at : (leaf_in (stride K) t₁ q.leaf).at ≡ m₂.at
  unfolding m₂ leaf_with x
  at = sym (ap (λ (n : Node). n.at) (put_is (stride K) t.head.fan (omega arith) m gp.tidy q.slot x lj gp.free (ap suc wl)))

  cr : ClimbCarried (shape_in (stride K) t₁) l q.inners K.effect q.levels (leaf_in (stride K) t₁ q.leaf).parent (leaf_in (stride K) t₁ q.leaf).at (start K.effect q.slot (leaf_in (stride K) t₁ q.leaf)) q.xs
  cr = climbed (stride K) (omega arith) t₁ q.neat gp.made.room.A q.leaf gp.made.room.B gp.made.room.st gp.made.room.body l (omega arith) K.effect (start K.effect q.slot (leaf_in (stride K) t₁ q.leaf))

  t₃ : State
  t₃ = entered (stride K) t₁ q.leaf q.slot m₂ cr.words

  tree_is : tree_of (stride K) t₃ ≡ put_in (tree_of (stride K) t₁) q.leaf q.slot new
  unfolding t₃ m₂ leaf_with x
  tree_is =
      entered_tree (stride K) (omega arith) t₁ q.neat q.leaf q.slot gp.leaf_in_law m₂ td₂ pa at few cr.words
      ∙ ap₂ (λ (ss : List Slot) (up : Area). with_leaf (tree_of (stride K) t₁) q.leaf ss up (upd (tree_of (stride K) t₁).homes t.head.entries q.leaf) (suc t.head.entries) (changing q.leaf q.slot t.head.finger))
      (put_slots_are (stride K) t.head.fan (omega arith) m gp.tidy q.slot x lj gp.free (ap suc wl) ∙ ap (λ (y : Slot). take q.slot (slots_of m) ++ y ∷ drop q.slot (slots_of m)) (slot_of_law t.head.entries l))
      cr.area

  done_is : Done K.effect (spot (tree_of (stride K) t₁) q.leaf q.slot) R₁ (put_in (tree_of (stride K) t₁) q.leaf q.slot new) (R₁ ++ insert.slot_of t.head.entries new ∷ R₂)
  done_is = put_done K.effect (tree_of (stride K) t) (spot (tree_of (stride K) t₁) q.leaf q.slot) R₁ R₂ gp.made.room new gp.made.space few tot

  sound₃ : Coherent K t₃
  unfolding t₃
  sound₃ = sound_up (stride K) t₃ K.effect (entered_neat (stride K) (omega arith) t₁ q.neat q.leaf q.slot gp.leaf_in_law m₂ td₂ pa at few cr.words cr.keeps) (subst (tree.Sound K.effect) (sym tree_is) done_is.sound)

  entries₃ : entries_of K t₃ ≡ map (entry_from K.views) R₁ ++ entry t.head.entries l ∷ map (entry_from K.views) R₂
  unfolding firsts
  entries₃ = entries_are K t₃ sound₃ ∙ ap (λ (T : Tree). map (entry_from K.views) (tree.row T)) tree_is ∙ ap (map (entry_from K.views)) done_is.is ∙ split_entries K.views R₁ (insert.slot_of t.head.entries new) R₂
      ∙ ap (λ (m : List ℕ). map (entry_from K.views) R₁ ++ entry t.head.entries m ∷ map (entry_from K.views) R₂) (firsts_of K.views l wl)

  -- the model's steps
  entered_is : place.place (shape_in (stride K) t) t k i l ≡ change 0 (entered (stride K) t₁ q.leaf q.slot m₂ q.xs) q.leaf q.slot
  unfolding place.place enter m₂ leaf_with x
  entered_is = rw (
    q.is,
    lt-ltb q.leaf (shape_in (stride K) t).nodes (let z = q.neat.leaf_count in let y = gp.leaf_in_law in omega arith),
    add-zero q.slot,
    le-leb q.slot (leaf_in (stride K) t₁ q.leaf).len (let z = gp.made.room.fits in omega (arith, gp.len)),
    lt-ltb (leaf_in (stride K) t₁ q.leaf).len t.head.fan (let z = gp.made.space in omega (arith, gp.len)),
  )

  front_small : sum_by (len K.effect) R₁ < 4294967296
  front_small = (let z = sum_by_append (len K.effect) R₁ (insert.slot_of t.head.entries new ∷ R₂) in omega (arith, tot K.effect))

  start_same : start K.effect q.slot m₂ ≡ start K.effect q.slot (leaf_in (stride K) t₁ q.leaf)
  unfolding m₂ leaf_with x
  start_same = put_start (stride K) t.head.fan (omega arith) m gp.tidy q.slot x lj gp.free (ap suc wl) K.effect

  climb_is : climb (shape_in (stride K) t) K.effect l (change 0 (entered (stride K) t₁ q.leaf q.slot m₂ q.xs) q.leaf q.slot) ≡ (change 0 t₃ q.leaf q.slot, sum_by (len K.effect) R₁)
  unfolding climb t₃
  climb_is =
      let g = shape_in (stride K) t in
      let c : Change = change 0 (entered (stride K) t₁ q.leaf q.slot m₂ q.xs) q.leaf q.slot in
      let n : ℕ = sum_by (len K.effect) R₁ in
      let small : n % 2 ^ 32 ≡ n = (let z = front_small in omega arith) in
      ap (λ (y : Node). summed g c (climb_up g K.effect l q.levels y.parent y.at (start K.effect q.slot y) q.xs)) (entered_read (stride K) (omega arith) t₁ q.neat q.leaf q.slot gp.leaf_in_law m₂ td₂ pa at few)
      ∙ ap₂ (λ (u v : ℕ). summed g c (climb_up g K.effect l q.levels u v (start K.effect q.slot m₂) q.xs)) (sym pa) (sym at)
      ∙ ap (λ (a : ℕ). summed g c (climb_up g K.effect l q.levels (leaf_in (stride K) t₁ q.leaf).parent (leaf_in (stride K) t₁ q.leaf).at a q.xs)) start_same
      ∙ ap (summed g c) (cr.is ∙ ap (λ (z : Result ℕ Broken). (z, cr.words)) (rank_sum (stride K) (omega arith) t₁ q.neat gp.made.room.A q.leaf gp.made.room.B gp.made.room.st gp.made.room.body K.effect q.slot gp.made.room.fits ∙ ap (λ (R : List Slot). Ok (sum_by (len K.effect) R)) gp.made.room.front))
      ∙ ap (λ (z : ℕ). (change 0 (state c.state.head c.state.leaves cr.words c.state.homes) q.leaf q.slot, z)) small

  pub placed_is : EntryPlaced K t k i R₁ R₂ l
  unfolding t₃
  placed_is = record { after = t₃; leaf = q.leaf; slot = q.slot; is = ap (climb (shape_in (stride K) t) K.effect l) entered_is ∙ climb_is; sound = sound₃; entries = entries₃; limit = refl }
