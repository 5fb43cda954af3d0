-- What a call leaves of the head: a lookup, other lengths and a repair all but the finger, and of that the most where it stays in its leaf. Assumes nothing.
use Rattle.model.specs.declared.head.Finger.{Finger}
use Rattle.model.specs.declared.way.Broken.{Broken}
use Rattle.std.specs.Prelude.{Ok, Err, Some, None, Option, Result}
use mathlib.Core.Path.{◌≡◌, refl, sym, ap, subst, ◌∙◌}
use mathlib.Core.Bool.{Bool, true, false, cond, ◌&&◌}
use mathlib.Core.List.{List}
use Prim.Native.Nat.{ℕ, ◌≤◌}
use native.Mathlib.Omega.{arith}
use lib.Dec.{eqb, ltb}
use lib.ListN.{get_or}
use borrow.Author.Tests.{eqb-false}
use Rattle.model.specs.declared.shape.Kind.{Kind}
use Rattle.model.specs.declared.shape.Shape.{Shape}
use Rattle.model.specs.Lists.{Cause, refusal}
use Rattle.model.specs.Node.{lengths, start, minus}
use Rattle.model.specs.State.{State, state, node_at}
use Rattle.model.specs.Climb.{climb_up}
use Rattle.model.specs.Locate.{served_by, from_root, rewound, changing}
use Rattle.model.specs.Place as place
use Rattle.model.specs.Place.{Change, with_finger}
use Rattle.model.specs.Refuse.{shape_of, opening}
use Rattle.model.specs.Calls as calls
use Rattle.model.specs.Calls.{Reply, reply, area_causes}
use Rattle.model.specs.Mend.{mend, is_fit}
use Rattle.model.specs.Repair as mended
use Rattle.model.specs.Seats.{is_fair}
use Rattle.model.specs.declared.seats.Seats.{Seats}
use Rattle.model.specs.Examined as count
use Rattle.model.specs.declared.head.Head.{Head}
use Rattle.model.specs.declared.head.Cursor.{Cursor}
use Rattle.model.specs.Locate.{Search}
use Rattle.tree_place.specs.Asked.{asked}
use Rattle.calls_size.specs.Size as size
use Rattle.calls_read.specs.Lookup.{Stayed}
use Rattle.smelvock_marshal.specs.Flat.{head_from, finger_from, held_from, present_of, InLeaf}

-- t has the head of s but for the finger
abbrev Fingered : State → State → Type 0
Fingered s t = t.head ≡ with_finger t.head.finger s.head

-- t is gone, or is a finger in the leaf in which f was
abbrev Left : Option Finger → Option Finger → Type 0
Left f None = Unit {0}
Left f (Some m) = Stayed f (Some m)

left_same : (f : Option Finger) → Left f f
left_same None = tt
left_same (Some m) = record { view = refl; leaf = refl; start = refl; effect = refl; prepare = refl }

left_changing : (k i : ℕ) (f : Option Finger) → Left f (changing k i f)
left_changing k i None = tt
left_changing k i (Some m) = go (eqb m.leaf k) (ltb i m.slot)
  where
    go : (a b : Bool) → Left (Some m) (cond a (cond b (Some (rewound m)) (Some m)) None)
    go true true = record { view = refl; leaf = refl; start = refl; effect = refl; prepare = refl }
    go true false = left_same (Some m)
    go false b = tt

-- what is so of the head before is so of the head of a refused call
module _ {A : Type 0} (s : State) (refuse : ℕ → A) (P : Head → Type 0) (p : P s.head) where
  unless_kept : (cs : List Cause) (r : Reply A) → P r.after.head → P (calls.unless cs (λ n. reply s (refuse n)) r).after.head
  unless_kept cs r h = go (eqb (refusal cs) 0)
    where
      go : (b : Bool) → P (cond b r (reply s (refuse (refusal cs)))).after.head
      go true = h
      go false = p

  settled_kept : (r : Change) (a : A) → P r.state.head → P (calls.settled s r refuse a).after.head
  settled_kept r a h = go (eqb r.number 0)
    where
      go : (b : Bool) → P (cond b (reply r.state a) (reply (state s.head r.state.leaves r.state.inners r.state.homes) (refuse r.number))).after.head
      go true = h
      go false = p

module _ (g : Shape) (P : Head → Type 0) where
  summed_kept : (r : Change) (q : Result ℕ Broken × List ℕ) → P r.state.head → P (place.summed g r q).0.state.head
  summed_kept r (Ok n, xs) h = h
  summed_kept r ((Err _), xs) h = h

  climb_kept : (e : ℕ) (delta : List ℕ) (r : Change) → P r.state.head → P (place.climb g e delta r).0.state.head
  unfolding place.climb
  climb_kept e delta r h =
      let m = node_at g r.leaf r.state.leaves in
      go (eqb r.number 0) (climb_up g e delta r.state.head.levels m.parent m.at (start e r.slot m) r.state.inners)
    where
      go : (b : Bool) (q : Result ℕ Broken × List ℕ) → P (cond b (place.summed g r q) (r, 0)).0.state.head
      go true q = summed_kept r q h
      go false q = h

-- h is k but for the finger, which stayed in its leaf or is gone
abbrev Refingered : Head → Head → Type 0
Refingered k h = (h ≡ with_finger h.finger k) × Left k.finger h.finger

module _ (K : Kind) (s : State) where
  replace_left : (g : Shape) (k i : ℕ) (ls : List ℕ) → Refingered s.head (place.replace g s k i ls).state.head
  unfolding place.replace
  replace_left g k i ls = (refl, left_changing k i s.head.finger)

  pub resize_left : (b : Bool) (c : Cursor) (l : List ℕ) → Refingered s.head (size.resize K b s c l).after.head
  resize_left b c l =
      let g = shape_of K s.head in
      let r = calls.resized K s c l in
      let a = Ok (asked b r.1) in
      let same : Refingered s.head s.head = (refl, left_same s.head.finger) in
      unless_kept s Err (Refingered s.head) same (calls.resize_causes K s c l) (calls.settled s r.0 Err a)
      (settled_kept s Err (Refingered s.head) same r.0 a
      (climb_kept g (Refingered s.head) K.effect (minus l (lengths (calls.slot_at K s c))) (place.replace g s c.leaf.0 c.slot l) (replace_left g c.leaf.0 c.slot l)))

  search_fingered : (b : Search) → Fingered s (calls.by_search s b).after
  search_fingered (Ok (Some (f, offset))) = refl
  search_fingered (Ok None) = refl
  search_fingered (Err _) = refl

  found_fingered : (a b : Search) → Fingered s (calls.by_finger s a b).after
  found_fingered (Ok (Some (f, offset))) b = refl
  found_fingered (Ok None) b = search_fingered b
  found_fingered (Err _) b = refl

  pub locate_fingered : (v x : ℕ) → Fingered s (count.locate K s v x).after
  unfolding count.locate calls.locate
  locate_fingered v x =
      let h = s.head in
      let g = shape_of K h in
      let a = served_by v K.effect g h.finger h.leaves x s.leaves in
      let b = from_root v K.effect g h.levels h.root.0 h.leaves x s.leaves s.inners in
      unless_kept s Err (λ h'. h' ≡ with_finger h'.finger h) refl (opening K s) (calls.by_finger s a b) (found_fingered a b)

  mended_fingered : (fit : Bool) → Fingered s (mended.mend_if K fit s).after
  unfolding mend
  mended_fingered true = refl
  mended_fingered false = refl

  pub repair_fingered : (b : Seats) → Fingered s (mended.repair K s b).after
  unfolding mended.repair_if
  repair_fingered b =
      let h = s.head in
      let fit = is_fit K s && is_fair h.limit h.entries b in
      unless_kept s Err (λ h'. h' ≡ with_finger h'.finger h) refl (area_causes K h.fan h.limit s.leaves s.inners s.homes) (mended.mend_if K fit s) (mended_fingered fit)

-- the same of a reply's head h, where the call was given the head k of the words w
module _ {A : Type 0} (w : List ℕ) (k h : Head) (ls xs hs ls' xs' hs' : List ℕ) (a : A) (y : Reply A) (ek : k ≡ head_from w) (e : reply (state h ls' xs' hs') a ≡ y) where
  pub finger_alone : Fingered (state k ls xs hs) y.after → h ≡ with_finger h.finger (head_from w)
  finger_alone f = subst (λ (z : Reply A). Fingered (state k ls xs hs) z.after) (sym e) f ∙ ap (with_finger h.finger) ek

-- and of its finger
module _ {A : Type 0} (k h : Head) (ls xs hs : List ℕ) (a : A) (y : Reply A) (e : reply (state h ls xs hs) a ≡ y) where
  pub held_left : Refingered k y.after.head → present_of h.finger ≡ 1 → Stayed k.finger h.finger
  held_left f p = go h.finger (subst (λ (z : Reply A). Refingered k z.after.head) (sym e) f).1 p
    where
      go : (t : Option Finger) → Left k.finger t → present_of t ≡ 1 → Stayed k.finger t
      go None q z = absurd (omega (arith, z))
      go (Some m) q z = q

-- a finger that stayed in its leaf: the words w that aren't written are its own
module _ (w : List ℕ) (l : get_or w 7 0 ≤ 1) where
  held_leaf : (b : Bool) → eqb (get_or w 7 0) 0 ≡ b → (t : Option Finger) → Stayed (cond b None (Some (finger_from w))) t → InLeaf t w
  held_leaf true e t h = absurd h
  held_leaf false e None h = absurd h
  held_leaf false e (Some m) h =
      record {
        present = omega (arith, l, eqb-false (get_or w 7 0) 0 e);
        view = h.view;
        leaf = h.leaf;
        start = h.start;
        effect = h.effect;
        prepare = h.prepare;
      }

  pub in_leaf : (k : Head) → k ≡ head_from w → (t : Option Finger) → Stayed k.finger t → InLeaf t w
  unfolding head_from held_from
  in_leaf k ek t h = held_leaf (eqb (get_or w 7 0) 0) refl t (subst (λ (x : Head). Stayed x.finger t) ek h)
