-- What the calls answer that follow the order of the entries, on a tree of any kind. Assumes nothing.
use Rattle.model.specs.declared.number.LeafNo.{LeafNo}
use Rattle.std.specs.declared.cmp.Ordering.{Ordering}
use Rattle.std.specs.declared.cmp.Ordering.TheVariants.{Less, Equal, Greater}
use Rattle.std.specs.Ordering.{MatchOrdering}
use Rattle.model.specs.declared.way.Broken.{Broken}
use Rattle.model.specs.Numbered.{Numbered, refusal_number}
use Rattle.model.specs.declared.refusal.Refusal.{Refusal}
use Rattle.std.specs.Prelude.{Ok, Err, Some, Option, Result}
use Rattle.std.proofs.Common.{◌≡◌, ℕ, ◌+◌, ◌<◌, ◌≤◌, cond, eqb, ltb, List, [], ◌∷◌, ◌++◌, length, sym, refl, ap, ◌∙◌, lt_of_lt_of_le, arith, le-ltb, lt-ltb, eq-eqb, ne_eqb}
use Rattle.model.specs.Lists.{Cause, refusal}
use Rattle.model.specs.Node.{start}
use Rattle.model.specs.Climb.{rank_up, steps_up, first_down, next_up}
use Rattle.model.specs.State.{State, node_at}
use Rattle.model.specs.Refuse.{shape_of, opening, stale, at_cursor}
use Rattle.model.specs.Calls.{rank_of, entry_to_char_index, cursor_at, first_of, first, next_of, next_after, in_order, by_path, path, cmp}
use Rattle.model.specs.declared.shape.Kind.{Kind}
use Rattle.model.specs.declared.shape.Shape.{Shape}
use Rattle.model.specs.declared.head.Cursor.{Cursor}
use Rattle.tree_area.specs.Area.{AreaHolds}
use Rattle.tree_open.proofs.Causes.{opened_stop, opened_more, good_shape, call_refused, call_good, opened_number, opened_zero}
use Rattle.tree_open.proofs.Refusals.{some_number}
use Rattle.tree_open.proofs.OpenLaws.{opening_numbered}
use Rattle.tree_open.proofs.ReadyLaws.{ready, leaf_area, inner_area}
use Rattle.tree_open.proofs.CursorLaws.{stale_numbered, clear_leaf}
use Rattle.tree_open.specs.Open.{opened_by}
use Rattle.tree_open.specs.Ready.{Ready}

-- entry_to_char_index ---------------------------------------------------------------------------------------------------------------------

module _ (K : Kind) (s : State) (c : Cursor) where
  abbrev climb_by : ℕ → Shape → Result ℕ Broken
  climb_by v g =
      let m = node_at g c.leaf.0 s.leaves in
      rank_up g v s.head.levels m.parent m.at (start v c.slot m) s.inners

  pub rank_refused : (v n : ℕ) → Err n ≡ opened_by (opening K s ++ at_cursor K s c) (shape_of K s.head) → Err n ≡ entry_to_char_index K s v c
  unfolding entry_to_char_index
  rank_refused v n e = call_refused Err (λ (x : Shape). rank_of (climb_by v x)) _ (shape_of K s.head) _ e n refl

  -- the climb starts with the leaf's own place and what stands before the slot in it
  pub rank_good : (g : Shape) → Ok g ≡ opened_by (opening K s ++ at_cursor K s c) (shape_of K s.head) → (v p a b : ℕ) (r : Result ℕ Broken) → b ≡ start v c.slot (node_at g c.leaf.0 s.leaves)
      → p ≡ (node_at g c.leaf.0 s.leaves).parent → a ≡ (node_at g c.leaf.0 s.leaves).at → r ≡ rank_up g v s.head.levels p a b s.inners → rank_of r ≡ entry_to_char_index K s v c
  unfolding entry_to_char_index
  rank_good g e v p a b r eb ep ea er =
      let whole : rank_up g v s.head.levels p a b s.inners ≡ climb_by v g = rw (ep, ea, eb) in
      call_good Err (λ (x : Shape). rank_of (climb_by v x)) _ (shape_of K s.head) _ e g refl _ (ap rank_of (er ∙ whole))

-- first -----------------------------------------------------------------------------------------------------------------------------------

module _ (K : Kind) (s : State) where
  abbrev first_by : Shape → Numbered Cursor
  first_by g = first_of s.head.stamp (first_down g s.head.levels s.head.root.0 s.inners)

  pub first_refused : (n : ℕ) → Err n ≡ opened_by (opening K s) (shape_of K s.head) → Err n ≡ first K s
  unfolding first
  first_refused n e = call_refused Err first_by (opening K s) (shape_of K s.head) _ e n refl

  pub first_good : (g : Shape) → Ok g ≡ opened_by (opening K s) (shape_of K s.head) → (r : Result (Option LeafNo) Broken) → r ≡ first_down g s.head.levels s.head.root.0 s.inners → first_of s.head.stamp r ≡ first K s
  unfolding first
  first_good g e r er = call_good Err first_by (opening K s) (shape_of K s.head) _ e g refl _ (ap (first_of s.head.stamp) er)

-- next ------------------------------------------------------------------------------------------------------------------------------------

module _ (K : Kind) (s : State) (c : Cursor) where
  abbrev leaf_by : Shape → ℕ → ℕ → Result (Option LeafNo) Broken
  leaf_by g p a = next_up g s.head.levels 0 p a s.inners

  abbrev next_by : Shape → Numbered (Option Cursor)
  next_by g =
      let m = node_at g c.leaf.0 s.leaves in
      cond (ltb (c.slot + 1) m.len) (Ok (Some (cursor_at s.head.stamp c.leaf.0 (c.slot + 1)))) (next_of s.head.stamp (leaf_by g m.parent m.at))

  pub next_refused : (n : ℕ) → Err n ≡ opened_by (opening K s ++ at_cursor K s c) (shape_of K s.head) → Err n ≡ next_after K s c
  unfolding next_after
  next_refused n e = call_refused Err next_by _ (shape_of K s.head) _ e n refl

  module _ (g : Shape) (e : Ok g ≡ opened_by (opening K s ++ at_cursor K s c) (shape_of K s.head)) (len : ℕ) (el : len ≡ (node_at g c.leaf.0 s.leaves).len) where
    pub next_here : c.slot + 1 < len → Ok (Some (cursor_at s.head.stamp c.leaf.0 (c.slot + 1))) ≡ next_after K s c
    unfolding next_after
    next_here h = call_good Err next_by _ (shape_of K s.head) _ e g refl _ (rw (← el, lt-ltb (c.slot + 1) len h))

    pub next_on : len ≤ c.slot + 1 → (p a : ℕ) (r : Result (Option LeafNo) Broken) → p ≡ (node_at g c.leaf.0 s.leaves).parent → a ≡ (node_at g c.leaf.0 s.leaves).at
        → r ≡ leaf_by g p a → next_of s.head.stamp r ≡ next_after K s c
    unfolding next_after
    next_on h p a r ep ea er =
        call_good Err next_by _ (shape_of K s.head) _ e g refl _ (rw (← el, le-ltb (c.slot + 1) len h, ← ep, ← ea) (ap (next_of s.head.stamp) er))

-- cmp -------------------------------------------------------------------------------------------------------------------------------------

-- two slots of one leaf, a step each
pub by_slot : (x y : ℕ) (r : Ordering) → MatchOrdering r (x < y) (x ≡ y) (y < x) → Ok r ≡ in_order (x ∷ []) (y ∷ [])
unfolding in_order
by_slot x y Less h = rw (lt-ltb x y h)
by_slot x y Equal h = rw (le-ltb x y (omega (arith, h)), le-ltb y x (omega (arith, h)))
by_slot x y Greater h = rw (le-ltb x y (omega (arith, h)), lt-ltb y x h)

abbrev pub path_by : State → Cursor → Shape → List ℕ
path_by s c g = let m = node_at g c.leaf.0 s.leaves in steps_up g s.head.levels m.parent m.at [] s.inners

module _ (K : Kind) (w : (1 ≤ K.views) × (K.views ≤ 3)) (s : State) (a b : Cursor) where
  abbrev both : List Cause
  both = stale K s a ++ stale K s b

  abbrev cmp_by : Shape → Numbered Ordering
  cmp_by g = cond (eqb a.leaf.0 b.leaf.0) (in_order (a.slot ∷ []) (b.slot ∷ [])) (by_path (path_by s a g) (path_by s b g))

  refused : (n : ℕ) → opened_by (opening K s ++ both) (shape_of K s.head) ≡ Err n → Err n ≡ cmp K s a b
  unfolding cmp path
  refused n d = call_refused Err cmp_by (opening K s ++ both) (shape_of K s.head) _ refl n d

  pub cmp_refused : (n : ℕ) → Err n ≡ opened_by (opening K s) (shape_of K s.head) → Err n ≡ cmp K s a b
  cmp_refused n e = refused n (opened_stop (opening K s) both _ n (sym e))

  module _ (g : Shape) (e : Ok g ≡ opened_by (opening K s) (shape_of K s.head)) where
    open_here : Ready K s g
    open_here = ready K w s g _ e refl

    rest : opened_by (opening K s ++ both) (shape_of K s.head) ≡ opened_by both (shape_of K s.head)
    rest = opened_more (opening K s) both _ g (opening_numbered K s) (sym e)

    pub cmp_first : (why : Refusal) → (g ≡ shape_of K s.head → refusal_number why ≡ refusal (stale K s a)) → Err (refusal_number why) ≡ cmp K s a b
    cmp_first why told =
        let n = refusal_number why in
        refused n (rest ∙ opened_stop (stale K s a) (stale K s b) _ n (opened_number (stale K s a) _ n (sym (told open_here.same)) (some_number why)))

    module _ (told-a : g ≡ shape_of K s.head → 0 ≡ refusal (stale K s a)) where
      ea : 0 ≡ refusal (stale K s a)
      ea = told-a open_here.same

      last : opened_by (opening K s ++ both) (shape_of K s.head) ≡ opened_by (stale K s b) (shape_of K s.head)
      last = rest ∙ opened_more (stale K s a) (stale K s b) _ _ (stale_numbered K s a) (opened_zero (stale K s a) _ (sym ea))

      pub cmp_second : (why : Refusal) → (g ≡ shape_of K s.head → refusal_number why ≡ refusal (stale K s b)) → Err (refusal_number why) ≡ cmp K s a b
      cmp_second why told =
          let n = refusal_number why in
          refused n (last ∙ opened_number (stale K s b) _ n (sym (told open_here.same)) (some_number why))

      module _ (told-b : g ≡ shape_of K s.head → 0 ≡ refusal (stale K s b)) where
        eb : 0 ≡ refusal (stale K s b)
        eb = told-b open_here.same

        -- where the paths of two current cursors begin
        pub paths_in : AreaHolds g (length s.leaves) × AreaHolds g (length s.inners) × (a.leaf.0 < g.nodes) × (b.leaf.0 < g.nodes) × (1 ≤ s.head.levels) × (s.head.levels ≤ 15)
        paths_in = (
          leaf_area s g open_here,
          inner_area s g open_here,
          lt_of_lt_of_le (clear_leaf K s a (sym ea)).0 open_here.leaves,
          lt_of_lt_of_le (clear_leaf K s b (sym eb)).0 open_here.leaves,
          open_here.levels_least,
          open_here.levels_most,
        )

        module _ (r : Numbered Ordering) where
          good : r ≡ cmp_by g → r ≡ cmp K s a b
          unfolding cmp path
          good q =
              call_good Err cmp_by (opening K s ++ both) (shape_of K s.head) _ refl g
              (last ∙ opened_zero (stale K s b) _ (sym eb) ∙ ap Ok (good_shape (opening K s) _ g (sym e))) r q

          pub cmp_slot : a.leaf.0 ≡ b.leaf.0 → r ≡ in_order (a.slot ∷ []) (b.slot ∷ []) → r ≡ cmp K s a b
          cmp_slot h q = good (rw (eq-eqb a.leaf.0 b.leaf.0 h) q)

          pub cmp_path : (a.leaf.0 ≡ b.leaf.0 → ⊥) → r ≡ by_path (path_by s a g) (path_by s b g) → r ≡ cmp K s a b
          cmp_path h q = good (rw (ne_eqb a.leaf.0 b.leaf.0 h) q)
