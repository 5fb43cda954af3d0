-- What the tests of a cursor answer, and what is known where they give no number. Assumes nothing.
use Rattle.model.specs.Numbered.{Numbered, refusal_number}
use Rattle.model.specs.declared.refusal.Refusal.{Refusal}
use Rattle.std.specs.Prelude.{Ok, Err}
use mathlib.Core.Path.{◌≡◌, sym, ap, ◌∙◌}
use mathlib.Core.Bool.{Bool}
use mathlib.Core.List.{List, [], ◌∷◌, ◌++◌}
use Prim.Native.Nat.{ℕ, ◌≤◌, ◌<◌}
use native.Mathlib.Omega.{arith}
use native.Mathlib.Nat.{lt_of_lt_of_le}
use lib.ListN.{length, get_or}
use borrow.Author.Tests.{lt-ltb, le-ltb, eq-eqb, ne_eqb, lt-leb, le-leb, leb-false, ltb-false}
use Rattle.model.specs.Lists.{refusal, All}
use Rattle.model.specs.Kind.{kind, kind_of}
use Rattle.model.specs.Node.{lengths}
use Rattle.model.specs.State.{State, node_at}
use Rattle.model.specs.Refuse.{shape_of, opening, stale, at_cursor, overfull}
use Rattle.model.specs.Calls.{slot_at}
use Rattle.model.specs.declared.shape.Kind.{Kind}
use Rattle.model.specs.declared.shape.Shape.{Shape}
use Rattle.model.specs.declared.head.Cursor.{Cursor}
use Rattle.tree_area.specs.Area.{AreaHolds}
use Rattle.tree_open.proofs.Causes.{opened_first, opened_next, opened_none, opened_why, opened_zero, opened_stop, opened_more, good_number, good_shape, none_applies, Positive}
use Rattle.tree_open.proofs.OpenLaws.{opening_numbered}
use Rattle.tree_open.proofs.ReadyLaws.{ready, ready_here, leaf_area}
use Rattle.tree_open.specs.Open.{opened_by}
use Rattle.tree_open.specs.Ready.{CursorReady}

-- what `current` answers, test by test
module _ (K : Kind) (s : State) (c : Cursor) where
  pub stale_stamp : (c.stamp ≡ s.head.stamp → ⊥) → 3 ≡ refusal (stale K s c)
  unfolding refusal
  stale_stamp p = rw (ne_eqb c.stamp s.head.stamp p)

  pub stale_leaf : c.stamp ≡ s.head.stamp → s.head.leaves ≤ c.leaf.0 → 13 ≡ refusal (stale K s c)
  unfolding refusal
  stale_leaf p q = rw (eq-eqb c.stamp s.head.stamp p, le-leb s.head.leaves c.leaf.0 q)

  module _ (g : Shape) (len : ℕ) (e : g ≡ shape_of K s.head) (p : c.stamp ≡ s.head.stamp) (q : c.leaf.0 < s.head.leaves) (r : len ≡ (node_at g c.leaf.0 s.leaves).len) where
    own_len : (node_at (shape_of K s.head) c.leaf.0 s.leaves).len ≡ len
    own_len = ap (λ (x : Shape). (node_at x c.leaf.0 s.leaves).len) (sym e) ∙ sym r

    pub stale_slot : len ≤ c.slot → 14 ≡ refusal (stale K s c)
    unfolding refusal
    stale_slot h = rw (eq-eqb c.stamp s.head.stamp p, lt-leb s.head.leaves c.leaf.0 q, own_len, le-leb len c.slot h)

    pub stale_none : c.slot < len → 0 ≡ refusal (stale K s c)
    unfolding refusal
    stale_none h = rw (eq-eqb c.stamp s.head.stamp p, lt-leb s.head.leaves c.leaf.0 q, own_len, lt-leb len c.slot h)

  pub stale_numbered : Positive (stale K s c)
  unfolding All
  stale_numbered = (omega arith, (omega arith, (omega arith, tt)))

  -- a cursor that doesn't fail
  pub clear_leaf : refusal (stale K s c) ≡ 0 → (c.leaf.0 < s.head.leaves) × (c.slot < (node_at (shape_of K s.head) c.leaf.0 s.leaves).len)
  unfolding All
  clear_leaf e = let n = none_applies (stale K s c) stale_numbered e in (leb-false _ _ n.1.0, leb-false _ _ n.1.1.0)

-- what `open_at` answers, from what `open` answered
module _ (K : Kind) (w : (1 ≤ K.views) × (K.views ≤ 3)) (s : State) (c : Cursor) (o : Numbered Shape) (e : o ≡ opened_by (opening K s) (shape_of K s.head)) where
  pub at_refused : (n : ℕ) → o ≡ Err n → Err n ≡ opened_by (opening K s ++ at_cursor K s c) (shape_of K s.head)
  at_refused n d = sym (opened_stop (opening K s) (at_cursor K s c) _ n (sym e ∙ d))

  module _ (g : Shape) (d : o ≡ Ok g) (n : ℕ) (told : g ≡ shape_of K s.head → n ≡ refusal (stale K s c)) where
    same : g ≡ shape_of K s.head
    same = (ready K w s g o e d).same

    en : n ≡ refusal (stale K s c)
    en = told same

    rest : opened_by (opening K s ++ at_cursor K s c) (shape_of K s.head) ≡ opened_by (at_cursor K s c) (shape_of K s.head)
    rest = opened_more (opening K s) (at_cursor K s c) _ g (opening_numbered K s) (sym e ∙ d)

    pub at_stale : (why : Refusal) → n ≡ refusal_number why → Err n ≡ opened_by (opening K s ++ at_cursor K s c) (shape_of K s.head)
    at_stale why h = sym (rest ∙ opened_stop (stale K s c) (overfull K s c ∷ []) _ n (opened_why (stale K s c) _ why (sym h ∙ en) ∙ ap Err (sym h)))

    -- the cursor is current: its leaf can be read
    pub at_leaf : n ≡ 0 → AreaHolds g (length s.leaves) × (c.leaf.0 < g.nodes)
    at_leaf h =
        let r = ready K w s g o e d in
        (leaf_area s g r, lt_of_lt_of_le (clear_leaf K s c (sym en ∙ h)).0 r.leaves)

    -- and its len is read
    module _ (h : n ≡ 0) (len : ℕ) (el : len ≡ (node_at g c.leaf.0 s.leaves).len) where
      last : opened_by (opening K s ++ at_cursor K s c) (shape_of K s.head) ≡ opened_by (overfull K s c ∷ []) (shape_of K s.head)
      last = rest ∙ opened_more (stale K s c) (overfull K s c ∷ []) _ _ (stale_numbered K s c) (opened_zero (stale K s c) _ (sym en ∙ h))

      length_same : (node_at (shape_of K s.head) c.leaf.0 s.leaves).len ≡ len
      length_same = ap (λ (x : Shape). (node_at x c.leaf.0 s.leaves).len) (sym same) ∙ sym el

      fan_same : s.head.fan ≡ g.fan
      fan_same = ap (λ (x : Shape). x.fan) (sym same)

      pub at_overfull : g.fan < len → Err 9 ≡ opened_by (opening K s ++ at_cursor K s c) (shape_of K s.head)
      at_overfull f = sym (last ∙ opened_first 8 _ _ _ (rw (length_same, fan_same) (lt-ltb g.fan len f)))

      pub at_good : len ≤ g.fan → Ok g ≡ opened_by (opening K s ++ at_cursor K s c) (shape_of K s.head)
      at_good f = sym (last ∙ opened_next 9 _ _ _ (rw (length_same, fan_same) (le-ltb g.fan len f)) ∙ opened_none _ ∙ ap Ok (sym same))

pub at_numbered : (K : Kind) (s : State) (c : Cursor) → Positive (opening K s ++ at_cursor K s c)
unfolding opening All
at_numbered K s c = (omega arith, (omega arith, (omega arith, (omega arith, (omega arith, (omega arith, (omega arith, tt)))))))

-- what is known where `open_at` gives no number
pub cursor_ready : (K : Kind) → (1 ≤ K.views) × (K.views ≤ 3) → (s : State) (c : Cursor) (g : Shape) (o : Numbered Shape) → o ≡ opened_by (opening K s ++ at_cursor K s c) (shape_of K s.head) → o ≡ Ok g → CursorReady K s c g
unfolding opening All
cursor_ready K w s c g o e d =
    let n = none_applies (opening K s ++ at_cursor K s c) (at_numbered K s c) (good_number (opening K s ++ at_cursor K s c) (shape_of K s.head) g (sym e ∙ d)) in
    rw (← good_shape (opening K s ++ at_cursor K s c) (shape_of K s.head) g (sym e ∙ d))
    (record { ready = ready_here K w s n.0 n.1.0 n.1.1.0; leaf = leb-false _ _ n.1.1.1.1.0; slot = leb-false _ _ n.1.1.1.1.1.0; few = ltb-false _ _ n.1.1.1.1.1.1.0 })

-- the tests of a tree and of a cursor are those of a tree with ordered lengths too
module _ (views effect : ℕ) (ordered : Bool) (s : State) (o : Numbered Shape) where
  pub open_ordered : o ≡ opened_by (opening (kind views effect) s) (shape_of (kind views effect) s.head) → o ≡ opened_by (opening (kind_of views effect ordered) s) (shape_of (kind_of views effect ordered) s.head)
  unfolding opening
  open_ordered e = e

  pub at_ordered : (c : Cursor) → o ≡ opened_by (opening (kind views effect) s ++ at_cursor (kind views effect) s c) (shape_of (kind views effect) s.head)
      → o ≡ opened_by (opening (kind_of views effect ordered) s ++ at_cursor (kind_of views effect ordered) s c) (shape_of (kind_of views effect ordered) s.head)
  unfolding opening
  at_ordered c e = e

-- the slot of a cursor can be read
pub slot_in_law : {K : Kind} (s : State) (c : Cursor) (g : Shape) → CursorReady K s c g
    → AreaHolds g (length s.leaves) × (c.leaf.0 < g.nodes) × (c.slot < g.fan)
slot_in_law s c g h = (leaf_area s g h.ready, lt_of_lt_of_le h.leaf h.ready.leaves, lt_of_lt_of_le h.slot h.few)

-- the lengths that were read are those of the cursor's slot
pub own_lengths : (K : Kind) (s : State) (c : Cursor) (g : Shape) (ls : List ℕ) → shape_of K s.head ≡ g → ls ≡ lengths (get_or (node_at g c.leaf.0 s.leaves).slots c.slot [])
    → ls ≡ lengths (slot_at K s c)
own_lengths K s c g ls e h = h ∙ ap (λ (x : Shape). lengths (get_or (node_at x c.leaf.0 s.leaves).slots c.slot [])) (sym e)
