-- The stamp counts entries made, modulo 2 ^ 64: each call on cursors, and each list of them, on any tree, sound or not.
use Rattle.model.specs.declared.way.Broken.{Broken}
use Rattle.std.proofs.Math.Path.{◌≡◌, refl}
use Rattle.std.proofs.Common.{sym, ap, subst, arith, eq-eqb, ne_eqb}
use Rattle.std.specs.Prelude.{Bool, cond, ◌&&◌, ℕ, ◌+◌, ◌%◌, ◌^◌, ◌<◌, Ok, Err, Some, None, Option, Result}
use Rattle.std.proofs.Math.Bool.{true, false}
use mathlib.Core.List.{List, [], ◌∷◌}
use Rattle.std.proofs.Math.Decide.{ℕ_discrete}
use Rattle.std.proofs.Math.Dec.{ltb, leb, eqb}
use Rattle.model.specs.declared.shape.Kind.{Kind}
use Rattle.model.specs.Lists.{Cause, refusal}
use Rattle.model.specs.Node.{Node, half, lengths, start, minus, inserted, child_split}
use Rattle.model.specs.State.{State, state, next_stamp, node_at}
use Rattle.model.specs.Climb.{climb_up}
use Rattle.model.specs.Locate.{served_by, from_root}
use Rattle.model.specs.Place as place
use Rattle.model.specs.Place.{Change}
use Rattle.model.specs.Answer.{outcome_answer, inserted_answer, divided_answer}
use Rattle.model.specs.Refuse.{shape_of, opening, full}
use Rattle.model.specs.Row.{Answer}
use Rattle.model.specs.Calls as calls
use Rattle.model.specs.ByCursor as by
use Rattle.model.specs.ByCursor.{CursorCall, cursor_step}
use Rattle.model.specs.Promise.{finally}
use Rattle.model.specs.Stamp.{one, makes, makes_all}
use Rattle.model.specs.declared.shape.Shape.{Shape}
use Rattle.model.specs.declared.head.Cursor.{Cursor}
use Rattle.model.specs.Locate.{Search}

-- the changes of a tree -----------------------------------------------------------------------------------------------------------------------

-- m is the stamp before: no entry more so far, and one more unless 9 was met
module _ (m : ℕ) where
  abbrev Still : Change → Type 0
  Still r = r.state.head.stamp ≡ m

  abbrev Counted : Change → Type 0
  Counted r = r.number ≡ 0 → r.state.head.stamp ≡ next_stamp m

  module _ (g : Shape) where
    link_still : (s : State) (k i p : ℕ) (ls : List ℕ) (hs : ℕ × List ℕ) → s.head.stamp ≡ m → Still (place.link_leaf g s k i p ls hs)
    unfolding place.link_leaf
    link_still s k i p ls hs e = go (eqb hs.0 0) refl (ltb i (half g.fan)) refl
      where
        go : (a : Bool) → eqb hs.0 0 ≡ a → (b : Bool) → ltb i (half g.fan) ≡ b → (place.link_leaf g s k i p ls hs).state.head.stamp ≡ m
        go true p true q = rw (p, q) e
        go true p false q = rw (p, q) e
        go false p b q = rw p e

    leaf_still : (s : State) (k i : ℕ) → s.head.stamp ≡ m → Still (place.split_leaf g s k i)
    unfolding place.split_leaf
    leaf_still s k i e = go (ltb s.head.leaves g.nodes) refl
      where
        go : (a : Bool) → ltb s.head.leaves g.nodes ≡ a → (place.split_leaf g s k i).state.head.stamp ≡ m
        go true q = rw q (link_still s k i (node_at g k s.leaves).parent _ _ e)
        go false q = rw q e

    room_still : (s : State) (k i : ℕ) → s.head.stamp ≡ m → Still (place.make_room g s k i)
    unfolding place.make_room
    room_still s k i e = go (ltb k s.head.leaves && leb i (node_at g k s.leaves).len && leb (node_at g k s.leaves).len g.fan) refl (ltb (node_at g k s.leaves).len g.fan) refl
      where
        go : (a : Bool) → (ltb k s.head.leaves && leb i (node_at g k s.leaves).len && leb (node_at g k s.leaves).len g.fan) ≡ a → (b : Bool) → ltb (node_at g k s.leaves).len g.fan ≡ b → (place.make_room g s k i).state.head.stamp ≡ m
        go true p true q = rw (p, q) e
        go true p false q = rw (p, q) (leaf_still s k i e)
        go false p b q = rw p e

    enter_counts : (f : Node → Node) (w : ℕ) (s : State) (k i : ℕ) → s.head.stamp ≡ m → Counted (place.enter g f w s k i)
    unfolding place.enter
    enter_counts f w s k i e = go (ltb k g.nodes && leb (i + w) (node_at g k s.leaves).len && ltb (node_at g k s.leaves).len g.fan) refl
      where
        go : (b : Bool) → (ltb k g.nodes && leb (i + w) (node_at g k s.leaves).len && ltb (node_at g k s.leaves).len g.fan) ≡ b
            → (place.enter g f w s k i).number ≡ 0 → (place.enter g f w s k i).state.head.stamp ≡ next_stamp m
        go true q z = rw q (ap next_stamp e)
        go false q z = absurd (let y : ◌≡◌ {A = ℕ} 9 0 = rw q at z in omega arith)

    entering_counts : (f : ℕ → Node → Node) (w : ℕ) (r : Change) → Still r → Counted (place.entering g f w r)
    entering_counts f w r e = go (ℕ_discrete r.number 0)
      where
        go : Dec (r.number ≡ 0) → Counted (place.entering g f w r)
        go (yes q) = rw (eq-eqb r.number 0 q) (enter_counts (f r.slot) w r.state r.leaf r.slot e)
        go (no ne) = rw (ne_eqb r.number 0 ne) (λ z. absurd (ne z))

    summed_counts : (r : Change) (z : Result ℕ Broken × List ℕ) → r.state.head.stamp ≡ next_stamp m → Counted (place.summed g r z).0
    summed_counts r (Ok n, xs) h q = h
    summed_counts r (Err _, xs) h q = absurd (let y : ◌≡◌ {A = ℕ} 9 0 = q in omega arith)

    climb_counts : (e : ℕ) (delta : List ℕ) (r : Change) → Counted r → Counted (place.climb g e delta r).0
    unfolding place.climb
    climb_counts e delta r h = go (ℕ_discrete r.number 0)
      where
        go : Dec (r.number ≡ 0) → Counted (place.climb g e delta r).0
        go (yes q) = rw (eq-eqb r.number 0 q) (summed_counts r (climb_up g e delta r.state.head.levels (node_at g r.leaf r.state.leaves).parent (node_at g r.leaf r.state.leaves).at (start e r.slot (node_at g r.leaf r.state.leaves)) r.state.inners) (h q))
        go (no ne) = rw (ne_eqb r.number 0 ne) h

    climb_still : (e : ℕ) (delta : List ℕ) (r : Change) → Still r → Still (place.climb g e delta r).0
    unfolding place.climb
    climb_still e delta r h = go (eqb r.number 0) refl
      where
        up : (z : Result ℕ Broken × List ℕ) → Still (place.summed g r z).0
        up (Ok n, xs) = h
        up (Err _, xs) = h

        go : (b : Bool) → eqb r.number 0 ≡ b → Still (place.climb g e delta r).0
        go true q = rw q (up (climb_up g e delta r.state.head.levels (node_at g r.leaf r.state.leaves).parent (node_at g r.leaf r.state.leaves).at (start e r.slot (node_at g r.leaf r.state.leaves)) r.state.inners))
        go false q = rw q h

-- calls ---------------------------------------------------------------------------------------------------------------------------------------

module _ (K : Kind) (s : State) (small : s.head.stamp < 2 ^ 64) where
  -- the tree after a call that makes n entries
  abbrev pub After : ℕ → State → Type 0
  After n t = t.head.stamp ≡ (s.head.stamp + n) % 2 ^ 64

  pub none_made : (t : State) → t.head.stamp ≡ s.head.stamp → After 0 t
  none_made t e = (let z = small in omega arith)

  -- a change that is settled, with what it answers where it isn't refused and where it is
  settled_made : {A : Type 0} (f : A → Answer) (r : Change) (refuse : ℕ → A) (a : A) → ((n : ℕ) → (f (refuse n)).number ≡ n) → (f a).number ≡ 0 → Counted s.head.stamp r
      → (let z = calls.settled s r refuse a in After (one (f z.answer)) z.after)
  settled_made f r refuse a refusing answering h = go (ℕ_discrete r.number 0)
    where
      go : Dec (r.number ≡ 0) → (let z = calls.settled s r refuse a in After (one (f z.answer)) z.after)
      go (yes q) = rw (eq-eqb r.number 0 q, answering) (h q)
      go (no ne) = rw (ne_eqb r.number 0 ne, refusing r.number, ne_eqb r.number 0 ne) (none_made (state s.head r.state.leaves r.state.inners r.state.homes) refl)

  -- a call that some causes may refuse
  unless_made : {A : Type 0} (f : A → Answer) (refuse : ℕ → A) (cs : List Cause) (z : calls.Reply A) → ((n : ℕ) → (f (refuse n)).number ≡ n) → After (one (f z.answer)) z.after
      → (let y = calls.unless cs (λ n. calls.reply s (refuse n)) z in After (one (f y.answer)) y.after)
  unless_made f refuse cs z refusing h = go (ℕ_discrete (refusal cs) 0)
    where
      go : Dec (refusal cs ≡ 0) → (let y = calls.unless cs (λ n. calls.reply s (refuse n)) z in After (one (f y.answer)) y.after)
      go (yes q) = rw (eq-eqb (refusal cs) 0 q) h
      go (no ne) = rw (ne_eqb (refusal cs) 0 ne, refusing (refusal cs), ne_eqb (refusal cs) 0 ne) (none_made s refl)

  placing : (k i : ℕ) (l : List ℕ) → Counted s.head.stamp (place.place (shape_of K s.head) s k i l)
  unfolding place.place
  placing k i l = entering_counts s.head.stamp (shape_of K s.head) (λ j. inserted j (s.head.entries ∷ l)) 0 (place.make_room (shape_of K s.head) s k i) (room_still s.head.stamp (shape_of K s.head) s k i refl)

  dividing : (flag : Bool) (k i : ℕ) (l : List ℕ) → Counted s.head.stamp (place.divide (shape_of K s.head) flag s k i l)
  unfolding place.divide
  dividing flag k i l = entering_counts s.head.stamp (shape_of K s.head) (λ j. child_split flag j (s.head.entries ∷ l)) 1 (place.make_room (shape_of K s.head) s k i) (room_still s.head.stamp (shape_of K s.head) s k i refl)

  -- the entry in its leaf, and its lengths above it
  placed_counts : (t : Option Cursor) (l : List ℕ) → Counted s.head.stamp (calls.placed K s t l).0
  placed_counts t l =
      let g = shape_of K s.head in
      let r = calls.aim K s t in
      climb_counts s.head.stamp g K.effect l (cond (eqb r.number 0) (place.place g s r.leaf r.slot l) r) (put r (ℕ_discrete r.number 0))
    where
      put : (r : Change) → Dec (r.number ≡ 0) → Counted s.head.stamp (cond (eqb r.number 0) (place.place (shape_of K s.head) s r.leaf r.slot l) r)
      put r (yes q) = rw (eq-eqb r.number 0 q) (placing r.leaf r.slot l)
      put r (no ne) = rw (ne_eqb r.number 0 ne) (λ z. absurd (ne z))

  -- each call that makes an entry
  pub reset_made : (l : List ℕ) → After (one (outcome_answer (calls.reset K s l).answer)) (calls.reset K s l).after
  unfolding calls.reset calls.begun
  reset_made l =
      let h = s.head in
      unless_made outcome_answer Err (calls.make_causes K h.fan h.limit l s.leaves s.inners s.homes)
      (calls.reply (calls.begun K h.fan h.limit (next_stamp h.stamp) l s.leaves s.inners s.homes) (Ok tt)) (λ n. refl) refl

  pub insert_made : (room : List Cause) (t : Option Cursor) (l : List ℕ) → After (one (inserted_answer (calls.insert_by K room s t l).answer)) (calls.insert_by K room s t l).after
  unfolding calls.insert_by
  insert_made room t l =
      let r = calls.placed K s t l in
      let a = Ok (calls.entry_id s.head.entries, r.1) in
      unless_made inserted_answer Err (calls.insert_causes K room s t l) (calls.settled s r.0 Err a) (λ n. refl)
      (settled_made inserted_answer r.0 Err a (λ n. refl) refl (placed_counts t l))

  pub split_made : (room : List Cause) (flag : Bool) (c : Cursor) (l : List ℕ) → After (one (divided_answer (calls.split_by K room s c l flag).answer)) (calls.split_by K room s c l flag).after
  unfolding calls.split_by
  split_made room flag c l =
      let r = place.divide (shape_of K s.head) flag s c.leaf.0 c.slot l in
      let a = calls.divided_at s.head.entries (next_stamp s.head.stamp) r.leaf r.slot in
      unless_made divided_answer Err (calls.split_causes K room s c l) (calls.settled s r Err a) (λ n. refl)
      (settled_made divided_answer r Err a (λ n. refl) refl (dividing flag c.leaf.0 c.slot l))

  -- the others make none
  kept_settled : {A : Type 0} (r : Change) (refuse : ℕ → A) (a : A) (cs : List Cause) → Still s.head.stamp r → (calls.unless cs (λ n. calls.reply s (refuse n)) (calls.settled s r refuse a)).after.head.stamp ≡ s.head.stamp
  kept_settled r refuse a cs e = go (eqb (refusal cs) 0) refl (eqb r.number 0) refl
    where
      go : (x : Bool) → eqb (refusal cs) 0 ≡ x → (y : Bool) → eqb r.number 0 ≡ y → (calls.unless cs (λ n. calls.reply s (refuse n)) (calls.settled s r refuse a)).after.head.stamp ≡ s.head.stamp
      go true p true q = rw (p, q) e
      go true p false q = rw (p, q)
      go false p y q = rw p

  resized_still : (c : Cursor) (l : List ℕ) → Still s.head.stamp (calls.resized K s c l).0
  unfolding place.replace
  resized_still c l = climb_still s.head.stamp (shape_of K s.head) K.effect (minus l (lengths (calls.slot_at K s c))) (place.replace (shape_of K s.head) s c.leaf.0 c.slot l) refl

  set_still : (c : Cursor) (l : List ℕ) → (calls.set_lengths K s c l).after.head.stamp ≡ s.head.stamp
  unfolding calls.set_lengths
  set_still c l = kept_settled (calls.resized K s c l).0 Err (Ok tt) (calls.resize_causes K s c l) (resized_still c l)

  update_still : (c : Cursor) (l : List ℕ) → (calls.update K s c l).after.head.stamp ≡ s.head.stamp
  unfolding calls.update
  update_still c l = kept_settled (calls.resized K s c l).0 Err (Ok (calls.resized K s c l).1) (calls.resize_causes K s c l) (resized_still c l)

  search_still : (b : Search) → (calls.by_search s b).after.head.stamp ≡ s.head.stamp
  search_still (Ok (Some (f, offset))) = refl
  search_still (Ok None) = refl
  search_still (Err _) = refl

  finger_still : (a b : Search) → (calls.by_finger s a b).after.head.stamp ≡ s.head.stamp
  finger_still (Ok (Some (f, offset))) b = refl
  finger_still (Ok None) b = search_still b
  finger_still (Err _) b = refl

  locate_still : (v x : ℕ) → (calls.locate K s v x).after.head.stamp ≡ s.head.stamp
  unfolding calls.locate
  locate_still v x = go (eqb (refusal (opening K s)) 0) refl
    where
      go : (z : Bool) → eqb (refusal (opening K s)) 0 ≡ z → (calls.locate K s v x).after.head.stamp ≡ s.head.stamp
      go true q = rw q (finger_still (served_by v K.effect (shape_of K s.head) s.head.finger s.head.leaves x s.leaves) (from_root v K.effect (shape_of K s.head) s.head.levels s.head.root.0 s.head.leaves x s.leaves s.inners))
      go false q = rw q

  pub made_after : (c : CursorCall) → After (makes K s c) (cursor_step K s c).after
  unfolding cursor_step makes calls.char_index_to_entry
  made_after (by.reset l) = reset_made l
  made_after (by.insert t l) = insert_made (full s ∷ []) t l
  made_after (by.split flag c l) = split_made (full s ∷ []) flag c l
  made_after (by.set_lengths c l) = none_made (calls.set_lengths K s c l).after (set_still c l)
  made_after (by.update c l) = none_made (calls.update K s c l).after (update_still c l)
  made_after (by.locate v x) = none_made (calls.locate K s v x).after (locate_still v x)
  made_after (by.select v x) = none_made (calls.locate K s v x).after (locate_still v x)
  made_after (by.rank v c) = none_made s refl
  made_after (by.next c) = none_made s refl
  made_after (by.compare a b) = none_made s refl
  made_after (by.lengths c) = none_made s refl
  made_after (by.id c) = none_made s refl
  made_after (by.cursor i) = none_made s refl
  made_after by.first = none_made s refl
  made_after by.len = none_made s refl
  made_after by.is_empty = none_made s refl

-- lists of calls ------------------------------------------------------------------------------------------------------------------------------

pub below_64 : (n : ℕ) → n % 2 ^ 64 < 2 ^ 64
below_64 n = omega arith

pub made_by_law : (K : Kind) (s : State) → s.head.stamp < 2 ^ 64 → (cs : List CursorCall) → (finally (cursor_step K) s cs).head.stamp ≡ (s.head.stamp + makes_all K s cs) % 2 ^ 64
unfolding finally makes_all
made_by_law K s small [] = omega arith
made_by_law K s small (c ∷ cs) =
    let e = made_after K s small c in
    let z = made_by_law K (cursor_step K s c).after (subst (λ (n : ℕ). n < 2 ^ 64) (sym e) (below_64 (s.head.stamp + makes K s c))) cs in
    omega arith
