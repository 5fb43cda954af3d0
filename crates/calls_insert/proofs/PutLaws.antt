-- What an entry more leaves, and what insert answers. Assumes nothing.
use Rattle.model.specs.declared.number.LeafNo.{LeafNo}
use Rattle.model.specs.declared.number.EntryId.{EntryId}
use Rattle.model.specs.declared.head.Cursor.{Cursor}
use Rattle.model.specs.declared.way.Broken.{Broken}
use Rattle.model.specs.Numbered.{Numbered, broken}
use Rattle.std.specs.Prelude.{Ok, Err, Some, None, Option, Result}
use mathlib.Core.Path.{◌≡◌, refl, sym, ap, ap₂, ◌∙◌}
use mathlib.Core.Bool.{Bool, true, false, cond, ◌&&◌}
use mathlib.Core.List.{List, [], ◌∷◌}
use Prim.Native.Nat.{ℕ, ◌*◌, ◌<◌, ◌≤◌}
use native.Mathlib.Omega.{arith}
use lib.ListN.{length, get_or, take}
use lib.Dec.{ltb, leb, eqb}
use borrow.Author.Tests.{ne_eqb, ltb-true, leb-true, le-leb}
use Rattle.model.specs.Length.{lengths_in}
use Rattle.model.specs.Lists.{Cause}
use Rattle.model.specs.Node as node
use Rattle.model.specs.Node.{Node, wrap}
use Rattle.model.specs.State.{State, state, shape_for, node_at}
use Rattle.model.specs.Climb.{last_down}
use Rattle.model.specs.Place.{Change, change, make_room, place, summed, climb}
use Rattle.model.specs.Refuse.{shape_of}
use Rattle.model.specs.Calls.{Reply, reply, settled, entry_id, aim, end_of, insert_causes, insert_by}
use Rattle.model.specs.declared.shape.Kind.{Kind}
use Rattle.model.specs.declared.shape.Shape.{Shape}
use Rattle.model.specs.declared.head.Head.{Head}
use Rattle.model_laws.specs.Lens.{by_test, both}
use Rattle.tree_node.specs.Shaped.{Shaped}
use Rattle.tree_node.proofs.WriteLaws.{four_words}
use Rattle.tree_area.specs.Area.{AreaHolds}
use Rattle.tree_walk.specs.Low.{low_way}
use Rattle.tree_place.specs.Asked.{way_up}
use Rattle.tree_place.specs.Room.{settled_in, Entering}
use Rattle.tree_place.proofs.LevelLaws.{entered_levels, entered_in}
use Rattle.tree_place.proofs.CallLaws.{low_whole, low_lost, settled_same, settled_zero, settled_again}
use Rattle.tree_open.proofs.Causes.{call_refused, call_good}
use Rattle.tree_open.proofs.WidthLaws.{own_shape}
use Rattle.tree_open.specs.Open.{opened_by}
use Rattle.tree_open.specs.Ready.{Ready}
use Rattle.calls_insert.specs.Put.{aim_at, in_use, aimed}
use Rattle.calls_insert.proofs.TargetLaws.{Aimed}
use Rattle.calls_insert.specs.declared.any.Aim.{Aim}

-- the whole change, with its answer: the id and the position
abbrev pub inserted_by : Kind → Shape → State → Option Cursor → List ℕ → Reply (Numbered (EntryId × ℕ))
inserted_by K g s t l =
    let a = aim K s t in
    let r = climb g K.effect l (cond (eqb a.number 0) (place g s a.leaf a.slot l) a) in
    settled s r.0 Err (Ok (entry_id s.head.entries, r.1))

ok_same : (a b : Aim) → ◌≡◌ {A = Result Aim Broken} (Ok a) (Ok b) → a ≡ b
ok_same a b e = cc

ok_broken : (a : Aim) → ◌≡◌ {A = Result Aim Broken} (Ok a) (Err broken) → ⊥
ok_broken a e = let z : ◌≡◌ {A = ℕ} 0 1 = cc in absurd (omega arith)

-- the slot that is aimed at is in a leaf in use, at or before the first that isn't
pub record AimWithin (K : Kind) (s : State) (t : Option Cursor) (g : Shape) (a : Aim) : Type 0 where
  pub same : aim K s t ≡ change 0 s a.leaf.0 a.slot
  pub leaf : a.leaf.0 < s.head.leaves
  pub slot : a.slot ≤ (node_at g a.leaf.0 s.leaves).len
  pub few : (node_at g a.leaf.0 s.leaves).len ≤ g.fan

module _ (K : Kind) (s : State) where
  abbrev shape : Shape
  shape = shape_of K s.head

  -- the same of the leaf that the last slots lead to
  abbrev Ending : Result (Option LeafNo) Broken → Aim → Type 0
  Ending q a =
      (end_of K s q ≡ change 0 s a.leaf.0 a.slot) × (a.leaf.0 < s.head.leaves) × (a.slot ≤ (node_at shape a.leaf.0 s.leaves).len)
      × ((node_at shape a.leaf.0 s.leaves).len ≤ s.head.fan)

  abbrev end_aim : Result (Option LeafNo) Broken → Result Aim Broken
  end_aim q = let r = end_of K s q in cond (in_use K s r) (Ok (aim_at r.leaf r.slot)) (Err broken)

  ending : (q : Result (Option LeafNo) Broken) (a : Aim) → Ok a ≡ end_aim q → Ending q a
  ending (Ok (Some k)) a e =
      by_test (λ (x : Result Aim Broken). Ok a ≡ x → Ending (Ok (Some k)) a) (in_use K s (end_of K s (Ok (Some k)))) _ _
      (λ u d. let o = both _ _ u in rw (ok_same a _ d) (refl, ltb-true _ _ o.0, omega arith, leb-true _ _ o.1))
      (λ _ d. absurd (ok_broken a d)) e
  ending (Ok None) a e = absurd (ok_broken a e)
  ending (Err _) a e = absurd (ok_broken a e)

  pub in_leaf : (t : Option Cursor) (g : Shape) (a : Aim) → g ≡ shape_of K s.head → Aimed K s t → Ok a ≡ aimed K s t → AimWithin K s t g a
  unfolding Aimed
  in_leaf (Some c) g a eg h e = rw (ok_same a _ e, eg) (record { same = refl; leaf = h.0; slot = omega (arith, h.1); few = h.2 })
  in_leaf None g a eg h e =
      let d = ending (last_down shape s.head.levels s.head.root.0 s.inners) a e in
      rw eg (record { same = d.0; leaf = d.1; slot = d.2; few = d.3 })

-- a change of 9 that left the tree as it was
lost : (g : Shape) (v : ℕ) (l : List ℕ) (s : State) (id : ℕ → Numbered (EntryId × ℕ)) (r : Change) (k i : ℕ) → r ≡ change 9 s k i
    → reply s (Err 9) ≡ settled s (climb g v l r).0 Err (id (climb g v l r).1)
unfolding climb
lost g v l s id r k i e = rw e

-- no room in a leaf that isn't in use, or that says more slots than it has
and_true : (b : Bool) → (b && true) ≡ b
and_true true = refl
and_true false = refl

unplaced : (g : Shape) (s : State) (k : ℕ) (l : List ℕ) → (ltb k s.head.leaves && leb (node_at g k s.leaves).len g.fan) ≡ false
    → place g s k (node_at g k s.leaves).len l ≡ change 9 s k (node_at g k s.leaves).len
unfolding place make_room
unplaced g s k l e = rw (le-leb (node_at g k s.leaves).len (node_at g k s.leaves).len (omega arith), and_true (ltb k s.head.leaves), e)

-- what `enter` answers where nothing is aimed at
module _ (K : Kind) (s : State) (l : List ℕ) where
  abbrev entry_at : ℕ → Numbered (EntryId × ℕ)
  entry_at n = Ok (entry_id s.head.entries, n)

  -- the answer, from the slot and from the change
  abbrev from_slot : Shape → Change → Reply (Numbered (EntryId × ℕ))
  from_slot g a =
      let r = climb g K.effect l (cond (eqb a.number 0) (place g s a.leaf a.slot l) a) in
      settled s r.0 Err (entry_at r.1)

  abbrev from_change : Shape → Change → Reply (Numbered (EntryId × ℕ))
  from_change g c = let r = climb g K.effect l c in settled s r.0 Err (entry_at r.1)

  aimless : (q : Result (Option LeafNo) Broken) → Err broken ≡ end_aim K s q → reply s (Err 9) ≡ from_slot (shape_of K s.head) (end_of K s q)
  aimless (Ok (Some k)) h =
      lost (shape_of K s.head) K.effect l s entry_at _ _ _
      (unplaced (shape_of K s.head) s k.0 l (go (in_use K s (end_of K s (Ok (Some k)))) refl))
    where
      a : Aim
      a = aim_at k.0 (node_at (shape_of K s.head) k.0 s.leaves).len

      go : (b : Bool) → in_use K s (end_of K s (Ok (Some k))) ≡ b → b ≡ false
      go false e = refl
      go true e = absurd (ok_broken a (sym (h ∙ ap (λ (b : Bool). cond b (Ok a) (Err broken)) e)))
  aimless (Ok None) h = lost (shape_of K s.head) K.effect l s entry_at (change 9 s 0 0) 0 0 refl
  aimless (Err _) h = lost (shape_of K s.head) K.effect l s entry_at (change 9 s 0 0) 0 0 refl

  pub aim_lost : (t : Option Cursor) (g : Shape) → g ≡ shape_of K s.head → Err broken ≡ aimed K s t → reply s (Err 9) ≡ inserted_by K g s t l
  aim_lost (Some c) g eg e = absurd (ok_broken (aim_at c.leaf.0 c.slot) (sym e))
  aim_lost None g eg e =
      aimless (last_down (shape_of K s.head) s.head.levels s.head.root.0 s.inners) e
      ∙ ap (λ (x : Shape). from_slot x (aim K s None)) (sym eg)

-- an area after a call that keeps its length
still : (g : Shape) (n m : ℕ) → Shaped g → g.nodes * g.size ≤ n → m ≡ n → AreaHolds g m
still g n m h r e = record { shaped = h; room = omega arith }

-- what `place` asks
pub place_in : (K : Kind) (s : State) (t : Option Cursor) (g : Shape) (a : Aim) (x : List ℕ) → Ready K s g → AimWithin K s t g a → s.head.entries < s.head.limit → get_or x 0 0 ≡ s.head.entries
    → Entering K.views g s.head s.leaves s.inners s.homes a.leaf.0 x
place_in K s t g a x h w below next =
    record {
      same = sym (own_shape K s.head g h.same);
      fits = record { shaped = h.shaped; leaves = h.leaf_area; inners = h.inner_area };
      leaves = h.leaves;
      inners = h.inners;
      levels_least = h.levels_least;
      levels_most = h.levels_most;
      home = omega (arith, below, h.home_area);
      few = omega (arith, below, h.limit_most);
      leaf = w.leaf;
      slots = w.few;
      next = next;
    }

wrapped : (n m : ℕ) → n ≡ wrap m → wrap n ≡ wrap m
wrapped n m e = omega arith

-- what `enter` answers, from the entry placed as `place` settles it: x holds its lengths
module _ (K : Kind) (s : State) (t : Option Cursor) (g : Shape) (a : Aim) (x : List ℕ) (w : AimWithin K s t g a) where
  abbrev new : List ℕ
  new = lengths_in K.views x

  abbrev put : Change
  put = place g s a.leaf.0 a.slot new

  by_place : from_change K s new g put ≡ inserted_by K g s t new
  by_place = ap (from_slot K s new g) (sym w.same)

  change_lost : (put.number ≡ 0 → ⊥) → settled s put Err (entry_at K s new 0) ≡ from_change K s new g put
  unfolding climb
  change_lost z = rw (ne_eqb put.number 0 z, ne_eqb put.number 0 z)

  pub put_lost : (ls xs hs : List ℕ) → change 9 (state s.head ls xs hs) 0 0 ≡ settled_in s.head put → reply (state s.head ls xs hs) (Err 9) ≡ inserted_by K g s t new
  put_lost ls xs hs er =
      let nine : 9 ≡ put.number = settled_same s.head put _ er in
      settled_again s Err (λ _. entry_at K s new 0) put _ er ∙ change_lost (λ z. absurd (omega (arith, nine, z))) ∙ by_place

  module _ (k i : ℕ) (h1 : Head) (ls xs hs : List ℕ) (er : change 0 (state h1 ls xs hs) k i ≡ settled_in s.head put) where
    abbrev left : Change
    left = change 0 (state h1 ls xs hs) k i

    -- the way up is in the areas
    pub way_in : Ready K s g → (u v : ℕ) → u ≡ length s.leaves → v ≡ length s.inners
        → AreaHolds (shape_for K.views g.fan g.nodes) u × AreaHolds (shape_for K.views g.fan g.nodes) v × (h1.levels ≤ 16) × (k < g.nodes) × (i < g.fan)
    unfolding place
    way_in h u v eu ev =
        let f : ℕ → Node → Node = λ j. node.inserted j (s.head.entries ∷ new) in
        let low = entered_levels g f 0 s a.leaf.0 a.slot left er in
        let b = entered_in g f 0 s a.leaf.0 a.slot left er refl in (
          rw (own_shape K s.head g h.same) (still g _ u h.shaped h.leaf_area eu),
          rw (own_shape K s.head g h.same) (still g _ v h.shaped h.inner_area ev),
          omega (arith, low, h.levels_most),
          b.0,
          b.1,
        )

    abbrev way : Shape → List ℕ → Result ℕ Broken × List ℕ
    way q d = way_up q K.effect d h1.levels k i ls xs

    abbrev reply_by : Result ℕ Broken × List ℕ → Reply (Numbered (EntryId × ℕ))
    reply_by q = let r = summed g left q in settled s r.0 Err (entry_at K s new r.1)

    climbed : climb g K.effect new left ≡ summed g left (way g new)
    unfolding climb
    climbed = refl

    way_reply : (q : Result ℕ Broken × List ℕ) → q ≡ way g new → reply_by q ≡ inserted_by K g s t new
    way_reply q e =
        ap reply_by e
        ∙ ap (λ (r : Change × ℕ). settled s r.0 Err (entry_at K s new r.1)) (sym climbed)
        ∙ ap (from_change K s new g) (settled_zero s.head put left er refl)
        ∙ by_place

    module _ (eg : g ≡ shape_of K s.head) (ex : length x ≡ 4) (xs1 : List ℕ) where
      -- the way up with the words of x
      abbrev low : Result ℕ Broken × List ℕ
      low = low_way (way (shape_for K.views g.fan g.nodes) (take K.views (get_or x 1 0 ∷ get_or x 2 0 ∷ get_or x 3 0 ∷ [])))

      low_same : low ≡ low_way (way g new)
      low_same = ap₂ (λ (q : Shape) (y : List ℕ). low_way (way q (lengths_in K.views y))) (own_shape K s.head g eg) (four_words x ex)

      pub put_whole : (m : ℕ) → (Ok m, xs1) ≡ low → reply (state h1 ls xs1 hs) (Ok (entry_id s.head.entries, wrap m)) ≡ inserted_by K g s t new
      put_whole m q =
          let v = low_whole xs1 m (way g new) (q ∙ low_same) in
          ap (λ (y : ℕ). reply (state h1 ls xs1 hs) (entry_at K s new y)) (wrapped m v.0 v.2) ∙ way_reply (Ok v.0, xs1) v.1

      pub put_broken : (Err broken, xs1) ≡ low → reply (state s.head ls xs1 hs) (Err 9) ≡ inserted_by K g s t new
      put_broken q = way_reply (Err broken, xs1) (low_lost xs1 (way g new) (q ∙ low_same))

-- the call, from what its tests answered
module _ (K : Kind) (causes : List Cause) (s : State) (t : Option Cursor) (l : List ℕ) where
  pub insert_refused : (n : ℕ) → Err n ≡ opened_by (insert_causes K causes s t l) (shape_of K s.head) → reply s (Err n) ≡ insert_by K causes s t l
  unfolding insert_by
  insert_refused n e = call_refused (λ m. reply s (Err m)) (λ g. inserted_by K g s t l) (insert_causes K causes s t l) (shape_of K s.head) _ e n refl

  pub insert_done : (g : Shape) → Ok g ≡ opened_by (insert_causes K causes s t l) (shape_of K s.head) → (r : Reply (Numbered (EntryId × ℕ))) → r ≡ inserted_by K g s t l → r ≡ insert_by K causes s t l
  unfolding insert_by
  insert_done g e r q = call_good (λ m. reply s (Err m)) (λ g. inserted_by K g s t l) (insert_causes K causes s t l) (shape_of K s.head) _ e g refl r q
