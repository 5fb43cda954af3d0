-- No call changes a tree's fan or its limit, on any state, sound or not. Assumes nothing.
use Rattle.model.specs.declared.number.LeafNo.{LeafNo}
use Rattle.model.specs.declared.way.Broken.{Broken}
use Rattle.model.specs.Numbered.{Numbered}
use Rattle.std.specs.Prelude.{◌≡◌, Bool, cond, ◌&&◌, List, [], ◌∷◌, ℕ, ◌+◌, Ok, Err, Some, None, Option, Result}
use Rattle.std.proofs.Math.Path.{refl}
use Rattle.std.proofs.Common.{◌∙◌}
use Rattle.std.proofs.Math.Bool.{true, false}
use Rattle.std.proofs.Math.Dec.{ltb, leb, eqb}
use Rattle.model.specs.declared.shape.Kind.{Kind}
use Rattle.model.specs.Lists.{Cause, refusal}
use Rattle.model.specs.Node.{Node, half, lengths, start, minus, inserted, child_split}
use Rattle.model.specs.State.{State, next_stamp, node_at}
use Rattle.model.specs.Climb.{climb_up, last_down}
use Rattle.model.specs.Locate.{served_by, from_root}
use Rattle.model.specs.Place as place
use Rattle.model.specs.Place.{Change}
use Rattle.model.specs.Answer.{outcome_answer, number_answer, inserted_answer}
use Rattle.model.specs.Refuse.{shape_of, opening, full}
use Rattle.model.specs.Row as row
use Rattle.model.specs.Row.{Call, Moved, no_entry, overlong}
use Rattle.model.specs.ById.{with_cursor, with_target, divided_id_answer, told, tree_move, tree_step}
use Rattle.model.specs.Calls as calls
use Rattle.model.specs.Calls.{Reply}
use Rattle.model.specs.Promise.{Fixed, Fixes}
use Rattle.model.specs.declared.shape.Shape.{Shape}
use Rattle.model.specs.declared.head.Cursor.{Cursor}
use Rattle.model.specs.Locate.{Search}

abbrev same : (s : State) → Fixed s s
same s = record { fan = refl; limit = refl }

further : (s t u : State) → Fixed s t → Fixed t u → Fixed s u
further s t u a b = record { fan = b.fan ∙ a.fan; limit = b.limit ∙ a.limit }

module _ (g : Shape) where
  link_fixed : (s : State) (k i parent : ℕ) (ls : List ℕ) (hs : ℕ × List ℕ) → Fixed s (place.link_leaf g s k i parent ls hs).state
  unfolding place.link_leaf
  link_fixed s k i parent ls hs = go (eqb hs.0 0) refl (ltb i (half g.fan)) refl
    where
      go : (a : Bool) → eqb hs.0 0 ≡ a → (b : Bool) → ltb i (half g.fan) ≡ b → Fixed s (place.link_leaf g s k i parent ls hs).state
      go true e true f = rw (e, f) (record { fan = refl; limit = refl })
      go true e false f = rw (e, f) (record { fan = refl; limit = refl })
      go false e b f = rw e (record { fan = refl; limit = refl })

  split_fixed : (s : State) (k i : ℕ) → Fixed s (place.split_leaf g s k i).state
  unfolding place.split_leaf
  split_fixed s k i = go (ltb s.head.leaves g.nodes) refl
    where
      go : (a : Bool) → ltb s.head.leaves g.nodes ≡ a → Fixed s (place.split_leaf g s k i).state
      go true e = rw e (link_fixed s k i _ _ _)
      go false e = rw e (same s)

  room_fixed : (s : State) (k i : ℕ) → Fixed s (place.make_room g s k i).state
  unfolding place.make_room
  room_fixed s k i = go (ltb k s.head.leaves && leb i (node_at g k s.leaves).len && leb (node_at g k s.leaves).len g.fan) refl (ltb (node_at g k s.leaves).len g.fan) refl
    where
      go : (a : Bool) → (ltb k s.head.leaves && leb i (node_at g k s.leaves).len && leb (node_at g k s.leaves).len g.fan) ≡ a → (b : Bool) → ltb (node_at g k s.leaves).len g.fan ≡ b → Fixed s (place.make_room g s k i).state
      go true e true f = rw (e, f) (same s)
      go true e false f = rw (e, f) (split_fixed s k i)
      go false e b f = rw e (same s)

  enter_fixed : (f : Node → Node) (w : ℕ) (s : State) (k i : ℕ) → Fixed s (place.enter g f w s k i).state
  unfolding place.enter
  enter_fixed f w s k i = go (ltb k g.nodes && leb (i + w) (node_at g k s.leaves).len && ltb (node_at g k s.leaves).len g.fan) refl
    where
      go : (a : Bool) → (ltb k g.nodes && leb (i + w) (node_at g k s.leaves).len && ltb (node_at g k s.leaves).len g.fan) ≡ a → Fixed s (place.enter g f w s k i).state
      go true e = rw e (record { fan = refl; limit = refl })
      go false e = rw e (same s)

  entering_fixed : (s : State) (f : ℕ → Node → Node) (w : ℕ) (r : Change) → Fixed s r.state → Fixed s (place.entering g f w r).state
  entering_fixed s f w r h = go (eqb r.number 0) refl
    where
      go : (a : Bool) → eqb r.number 0 ≡ a → Fixed s (place.entering g f w r).state
      go true e = rw e (further s r.state (place.enter g (f r.slot) w r.state r.leaf r.slot).state h (enter_fixed (f r.slot) w r.state r.leaf r.slot))
      go false e = rw e h

  place_fixed : (s : State) (k i : ℕ) (ls : List ℕ) → Fixed s (place.place g s k i ls).state
  unfolding place.place
  place_fixed s k i ls = entering_fixed s (λ j. inserted j (s.head.entries ∷ ls)) 0 (place.make_room g s k i) (room_fixed s k i)

  divide_fixed : (flag : Bool) (s : State) (k i : ℕ) (ls : List ℕ) → Fixed s (place.divide g flag s k i ls).state
  unfolding place.divide
  divide_fixed flag s k i ls = entering_fixed s (λ j. child_split flag j (s.head.entries ∷ ls)) 1 (place.make_room g s k i) (room_fixed s k i)

  replace_fixed : (s : State) (k i : ℕ) (ls : List ℕ) → Fixed s (place.replace g s k i ls).state
  unfolding place.replace
  replace_fixed s k i ls = record { fan = refl; limit = refl }

  summed_fixed : (s : State) (r : Change) (p : Result ℕ Broken × List ℕ) → Fixed s r.state → Fixed s (place.summed g r p).0.state
  summed_fixed s r (Ok n, xs) h = record { fan = h.fan; limit = h.limit }
  summed_fixed s r (Err _, xs) h = record { fan = h.fan; limit = h.limit }

  climb_fixed : (s : State) (e : ℕ) (delta : List ℕ) (r : Change) → Fixed s r.state → Fixed s (place.climb g e delta r).0.state
  unfolding place.climb
  climb_fixed s e delta r h = go (eqb r.number 0) refl
    where
      go : (a : Bool) → eqb r.number 0 ≡ a → Fixed s (place.climb g e delta r).0.state
      go true q = rw q (summed_fixed s r (climb_up g e delta r.state.head.levels (node_at g r.leaf r.state.leaves).parent (node_at g r.leaf r.state.leaves).at (start e r.slot (node_at g r.leaf r.state.leaves)) r.state.inners) h)
      go false q = rw q h

settled_fixed : {A : Type 0} (s : State) (r : Change) (refuse : ℕ → A) (a : A) → Fixed s r.state → Fixed s (calls.settled s r refuse a).after
settled_fixed {A} s r refuse a h = go (eqb r.number 0) refl
  where
    go : (b : Bool) → eqb r.number 0 ≡ b → Fixed s (calls.settled s r refuse a).after
    go true e = rw e h
    go false e = rw e (record { fan = refl; limit = refl })

-- a refused call leaves the state
unless_fixed : {A : Type 0} (s : State) (cs : List Cause) (refuse : ℕ → A) (r : Reply A) → Fixed s r.after → Fixed s (calls.unless cs (λ n. calls.reply s (refuse n)) r).after
unless_fixed {A} s cs refuse r h = go (eqb (refusal cs) 0) refl
  where
    go : (b : Bool) → eqb (refusal cs) 0 ≡ b → Fixed s (calls.unless cs (λ n. calls.reply s (refuse n)) r).after
    go true e = rw e h
    go false e = rw e (same s)

module _ (K : Kind) (s : State) where
  reset_fixed : (l : List ℕ) → Fixed s (calls.reset K s l).after
  unfolding calls.reset calls.begun
  reset_fixed l = unless_fixed s (calls.make_causes K s.head.fan s.head.limit l s.leaves s.inners s.homes) Err
      (calls.reply (calls.begun K s.head.fan s.head.limit (next_stamp s.head.stamp) l s.leaves s.inners s.homes) (Ok tt)) (record { fan = refl; limit = refl })

  end_fixed : (k : Result (Option LeafNo) Broken) → Fixed s (calls.end_of K s k).state
  end_fixed (Ok (Some k)) = same s
  end_fixed (Ok None) = same s
  end_fixed (Err _) = same s

  aim_fixed : (t : Option Cursor) → Fixed s (calls.aim K s t).state
  aim_fixed (Some c) = same s
  aim_fixed None = end_fixed (last_down (shape_of K s.head) s.head.levels s.head.root.0 s.inners)

  placed_fixed : (t : Option Cursor) (l : List ℕ) → Fixed s (calls.placed K s t l).0.state
  placed_fixed t l =
      let g = shape_of K s.head in
      let r = calls.aim K s t in
      climb_fixed g s K.effect l (cond (eqb r.number 0) (place.place g s r.leaf r.slot l) r) (aimed g r l (aim_fixed t) (eqb r.number 0) refl)
    where
      aimed : (g : Shape) (r : Change) (ls : List ℕ) → Fixed s r.state → (b : Bool) → eqb r.number 0 ≡ b → Fixed s (cond (eqb r.number 0) (place.place g s r.leaf r.slot ls) r).state
      aimed g r ls h true e = rw e (place_fixed g s r.leaf r.slot ls)
      aimed g r ls h false e = rw e h

  resized_fixed : (c : Cursor) (l : List ℕ) → Fixed s (calls.resized K s c l).0.state
  resized_fixed c l =
      climb_fixed (shape_of K s.head) s K.effect (minus l (lengths (calls.slot_at K s c))) (place.replace (shape_of K s.head) s c.leaf.0 c.slot l)
      (replace_fixed (shape_of K s.head) s c.leaf.0 c.slot l)

  pub insert_fixed : (room : List Cause) (t : Option Cursor) (l : List ℕ) → Fixed s (calls.insert_by K room s t l).after
  unfolding calls.insert_by
  insert_fixed room t l = let r = calls.placed K s t l in let a = Ok (calls.entry_id s.head.entries, r.1) in
      unless_fixed s (calls.insert_causes K room s t l) Err (calls.settled s r.0 Err a) (settled_fixed s r.0 Err a (placed_fixed t l))

  set_fixed : (c : Cursor) (l : List ℕ) → Fixed s (calls.set_lengths K s c l).after
  unfolding calls.set_lengths
  set_fixed c l = let r = calls.resized K s c l in
      unless_fixed s (calls.resize_causes K s c l) Err (calls.settled s r.0 Err (Ok tt)) (settled_fixed s r.0 Err (Ok tt) (resized_fixed c l))

  update_fixed : (c : Cursor) (l : List ℕ) → Fixed s (calls.update K s c l).after
  unfolding calls.update
  update_fixed c l = let r = calls.resized K s c l in
      unless_fixed s (calls.resize_causes K s c l) Err (calls.settled s r.0 Err (Ok r.1)) (settled_fixed s r.0 Err (Ok r.1) (resized_fixed c l))

  pub split_entry_fixed : (room : List Cause) (c : Cursor) (l : List ℕ) (flag : Bool) → Fixed s (calls.split_by K room s c l flag).after
  unfolding calls.split_by
  split_entry_fixed room c l flag = let r = place.divide (shape_of K s.head) flag s c.leaf.0 c.slot l in
      let a = calls.divided_at s.head.entries (next_stamp s.head.stamp) r.leaf r.slot in
      unless_fixed s (calls.split_causes K room s c l) Err (calls.settled s r Err a)
      (settled_fixed s r Err a (divide_fixed (shape_of K s.head) flag s c.leaf.0 c.slot l))

  search_fixed : (b : Search) → Fixed s (calls.by_search s b).after
  search_fixed (Ok (Some (f, offset))) = record { fan = refl; limit = refl }
  search_fixed (Ok None) = same s
  search_fixed (Err _) = same s

  finger_fixed : (a b : Search) → Fixed s (calls.by_finger s a b).after
  finger_fixed (Ok (Some (f, offset))) b = record { fan = refl; limit = refl }
  finger_fixed (Ok None) b = search_fixed b
  finger_fixed (Err _) b = same s

  locate_fixed : (v x : ℕ) → Fixed s (calls.locate K s v x).after
  unfolding calls.locate
  locate_fixed v x = let h = s.head in let g = shape_of K h in
      let a = served_by v K.effect g h.finger h.leaves x s.leaves in let b = from_root v K.effect g h.levels h.root.0 h.leaves x s.leaves s.inners in
      unless_fixed s (opening K s) Err (calls.by_finger s a b) (finger_fixed a b)

  at_fixed : (c : Numbered Cursor) (f : Cursor → Moved State) → ((c : Cursor) → Fixed s (f c).after) → Fixed s (with_cursor s c f).after
  at_fixed (Ok c) f h = h c
  at_fixed (Err n) f h = same s

  target_fixed : (i : ℕ) (f : Option Cursor → Moved State) → ((t : Option Cursor) → Fixed s (f t).after) → Fixed s (with_target K s i f).after
  target_fixed i f h = go (eqb i no_entry) refl
    where
      go : (b : Bool) → eqb i no_entry ≡ b → Fixed s (with_target K s i f).after
      go true e = rw e (h None)
      go false e = rw e (at_fixed (calls.cursor K s i) (λ c. f (Some c)) (λ c. h (Some c)))

  move_fixed : (c : Call) → Fixed s (tree_move K s c).after
  unfolding tree_move
  move_fixed (row.reset l) = reset_fixed l
  move_fixed (row.insert i l) = target_fixed i (λ t. told (calls.insert K s t l) inserted_answer) (λ t. insert_fixed (full s ∷ []) t l)
  move_fixed (row.split flag i l) = at_fixed (calls.cursor K s i) (λ c. told (calls.split_entry K s c l flag) divided_id_answer) (λ c. split_entry_fixed (full s ∷ []) c l flag)
  move_fixed (row.set_lengths i l) = at_fixed (calls.cursor K s i) (λ c. told (calls.set_lengths K s c l) outcome_answer) (λ c. set_fixed c l)
  move_fixed (row.update i l) = at_fixed (calls.cursor K s i) (λ c. told (calls.update K s c l) number_answer) (λ c. update_fixed c l)
  move_fixed (row.lookup v x) = locate_fixed v x
  move_fixed (row.rank v i) = at_fixed (calls.cursor K s i) _ (λ c. same s)
  move_fixed (row.next i) = at_fixed (calls.cursor K s i) _ (λ c. same s)
  move_fixed (row.compare i j) = at_fixed (calls.cursor K s i) _ (λ a. at_fixed (calls.cursor K s j) _ (λ b. same s))
  move_fixed (row.lengths i) = at_fixed (calls.cursor K s i) _ (λ c. same s)
  move_fixed row.count = same s
  move_fixed row.first = same s
  move_fixed row.malformed = same s

  pub step_fixed : (c : Call) → Fixed s (tree_step K s c).after
  unfolding tree_step
  step_fixed c = go (overlong K c)
    where
      go : (b : Bool) → Fixed s (cond b (row.moved s (row.refused 10)) (tree_move K s c)).after
      go true = same s
      go false = move_fixed c

-- all calls
pub fixes : (K : Kind) (s : State) → Fixes K s
unfolding calls.char_index_to_entry
fixes K s =
    record {
      reset = reset_fixed K s;
      insert = insert_fixed K s (full s ∷ []);
      split = split_entry_fixed K s (full s ∷ []);
      set_lengths = set_fixed K s;
      update = update_fixed K s;
      locate = locate_fixed K s;
      select = λ v x. (let f = locate_fixed K s v x in record { fan = f.fan; limit = f.limit });
      step = step_fixed K s;
    }
