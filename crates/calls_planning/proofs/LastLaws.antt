-- The last entry that could hold a position: by the lowest lengths, or past their total by the highest; and where the tree's tests refuse a lookup, they
-- refuse every lookup alike. Assumes nothing.
use Rattle.model.specs.declared.head.Cursor.{Cursor}
use Rattle.model.specs.Numbered.{Numbered}
use Rattle.std.specs.Prelude.{Err}
use mathlib.Core.Path.{◌≡◌, refl, sym, ap, ◌∙◌}
use mathlib.Core.Bool.{Bool, true, false, cond}
use Prim.Native.Nat.{ℕ, ◌-◌, ◌<◌, ◌≤◌}
use lib.Dec.{ltb}
use borrow.Author.Tests.{lt-ltb, le-ltb}
use Rattle.model.specs.Kind.{kind, planning}
use Rattle.model.specs.Node.{total, used, wrap}
use Rattle.model.specs.Row as row
use Rattle.model.specs.Row.{Moved, moved, refused}
use Rattle.model.specs.State.{State, node_at}
use Rattle.model.specs.Locate.{served_by, from_root}
use Rattle.model.specs.Refuse.{shape_of, opening, total_of}
use Rattle.model.specs.Calls.{Reply, reply, by_finger, locate}
use Rattle.model.specs.ById.{located_answer, tree_move, tree_step}
use Rattle.model.specs.Plan as plan
use Rattle.model.specs.Plan.{tree_plan}
use Rattle.model.specs.declared.shape.Shape.{Shape}
use Rattle.tree_open.proofs.Causes.{call_refused}
use Rattle.tree_open.proofs.CursorLaws.{open_ordered}
use Rattle.tree_open.specs.Lengths.{TotalsIn}
use Rattle.tree_open.specs.Open.{opened_by}
use Rattle.calls_planning.specs.Bounds.{id_move}

-- the totals that are read are the root's
pub totals_are : (s : State) (g : Shape) → g ≡ shape_of (kind 2 1) s.head → (a b c : ℕ) → TotalsIn g (node_at g s.head.root.0 s.inners) a b c
    → (a ≡ total_of planning s 0) × (b ≡ total_of planning s 1)
totals_are s g e a b c t = (
  t.first ∙ ap (λ (x : Shape). total 0 (used (node_at x s.head.root.0 s.inners))) e,
  t.second ∙ ap (λ (x : Shape). cond (ltb 2 x.stride) (total 1 (used (node_at x s.head.root.0 s.inners))) 0) e,
)

module _ (s : State) where
  -- what a lookup does behind the tests
  abbrev searched : ℕ → ℕ → Shape → Reply (Numbered (Cursor × ℕ × ℕ × ℕ))
  searched v index g =
      by_finger s (served_by v 1 g s.head.finger s.head.leaves index s.leaves) (from_root v 1 g s.head.levels s.head.root.0 s.head.leaves index s.leaves s.inners)

  lookup_shut : (o : Numbered Shape) → o ≡ opened_by (opening planning s) (shape_of planning s.head) → (n : ℕ) → o ≡ Err n → (v index : ℕ)
      → moved s (refused n) ≡ id_move (tree_step planning s (row.lookup v index))
  unfolding tree_step tree_move locate
  lookup_shut o e n d v index =
      ap (λ (r : Reply (Numbered (Cursor × ℕ × ℕ × ℕ))). id_move (moved r.after (located_answer planning r.after r.answer)))
      (call_refused (λ (m : ℕ). reply s (Err m)) (searched v index) (opening planning s) (shape_of planning s.head) o e n d)

  module _ (p : ℕ) where
    -- by whether the position is below the total of the lowest lengths
    abbrev last_by : Bool → Moved State
    last_by b = id_move (tree_step planning s (cond b (row.lookup 0 p) (row.lookup 1 (cond (ltb p (total_of planning s 1)) (wrap (total_of planning s 1 - 1)) p))))

    last_is : last_by (ltb p (total_of planning s 0)) ≡ tree_plan s (plan.last_at p)
    unfolding tree_plan
    last_is = refl

    pub last_shut : (o : Numbered Shape) → o ≡ opened_by (opening (kind 2 1) s) (shape_of (kind 2 1) s.head) → (n : ℕ) → o ≡ Err n → moved s (refused n) ≡ tree_plan s (plan.last_at p)
    last_shut o e n d = go (ltb p (total_of planning s 0)) ∙ last_is
      where
        go : (b : Bool) → moved s (refused n) ≡ last_by b
        go true = lookup_shut o (open_ordered 2 1 true s o e) n d 0 p
        go false = lookup_shut o (open_ordered 2 1 true s o e) n d 1 (cond (ltb p (total_of planning s 1)) (wrap (total_of planning s 1 - 1)) p)

    module _ (a : ℕ) (ea : a ≡ total_of planning s 0) (m : Moved State) where
      pub last_low : p < a → m ≡ id_move (tree_step planning s (row.lookup 0 p)) → m ≡ tree_plan s (plan.last_at p)
      last_low h e = e ∙ ap last_by (sym (ap (ltb p) (sym ea) ∙ lt-ltb p a h)) ∙ last_is

      pub last_high : a ≤ p → (b q : ℕ) → b ≡ total_of planning s 1 → q ≡ cond (ltb p b) (wrap (b - 1)) p → m ≡ id_move (tree_step planning s (row.lookup 1 q)) → m ≡ tree_plan s (plan.last_at p)
      last_high h b q eb eq e =
          e
          ∙ ap (λ (x : ℕ). id_move (tree_step planning s (row.lookup 1 x))) (eq ∙ ap (λ (y : ℕ). cond (ltb p y) (wrap (y - 1)) p) eb)
          ∙ ap last_by (sym (ap (ltb p) (sym ea) ∙ le-ltb p a h))
          ∙ last_is
