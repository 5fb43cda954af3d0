-- A call on a tree that answers an id or a count: by what the call gave. Assumes nothing.
use Rattle.model.specs.declared.number.EntryId.{EntryId}
use Rattle.model.specs.Numbered.{Numbered}
use Rattle.std.specs.Prelude.{Ok, Err, Some, None, Option}
use mathlib.Core.Path.{◌≡◌, refl, sym, ap, ◌∙◌}
use mathlib.Core.List.{List, [], ◌∷◌}
use Prim.Native.Nat.{ℕ}
use borrow.Author.Tests.{eq-eqb, ne_eqb}
use Rattle.model.specs.Kind.{base}
use Rattle.model.specs.Row as row
use Rattle.model.specs.Row.{Answer, moved, done, refused, no_entry}
use Rattle.model.specs.Answer.{number_answer, named_answer}
use Rattle.model.specs.State.{State}
use Rattle.model.specs.Refuse.{shape_of}
use Rattle.model.specs.Calls as calls
use Rattle.model.specs.Examined as count
use Rattle.model.specs.Examined.{Counted, counted}
use Rattle.model.specs.ById.{id_answer, standing_id_answer, next_answer, located_answer, tree_move, tree_step}
use Rattle.model.specs.declared.shape.Kind.{Kind}
use Rattle.model.specs.declared.shape.Shape.{Shape}
use Rattle.model.specs.declared.head.Cursor.{Cursor}
use Rattle.tree_open.proofs.Causes.{call_refused, call_good}
use Rattle.tree_open.specs.Open.{opened_by}
use Rattle.calls_by_id.specs.Target.{target_of}

-- the count of a tree of any kind
module _ (K : Kind) (s : State) (o : Numbered Shape) (e : o ≡ opened_by (calls.area_causes K s.head.fan s.head.limit s.leaves s.inners s.homes) (shape_of K s.head)) where
  pub count_refused : (n : ℕ) → o ≡ Err n → moved s (number_answer (Err n)) ≡ tree_move K s row.count
  unfolding tree_move
  count_refused n d = ap (λ (x : Numbered ℕ). moved s (number_answer x)) (call_refused Err (λ (g : Shape). calls.len s.head) _ _ o e n d)

  pub count_good : (g : Shape) → o ≡ Ok g → (r : Numbered ℕ) → r ≡ calls.len s.head → moved s (number_answer r) ≡ tree_move K s row.count
  unfolding tree_move
  count_good g d r q = ap (λ (x : Numbered ℕ). moved s (number_answer x)) (call_good Err (λ (y : Shape). calls.len s.head) _ _ o e g d r q)

module _ (s : State) where
  -- the id at a cursor
  id_same : (r : Numbered EntryId) (vs : List ℕ) → vs ≡ [] → named_answer r ≡ id_answer r vs
  id_same (Ok i) vs e = rw e
  id_same (Err n) vs e = refl

  module _ (t : Numbered Cursor) (e : t ≡ calls.first base s) where
    pub first_stops : (n : ℕ) → t ≡ Err n → moved s (refused n) ≡ tree_step base s row.first
    unfolding tree_step tree_move
    first_stops n d = ap (λ (x : Numbered Cursor). moved s (standing_id_answer base s x)) (sym d ∙ e)

    pub first_goes : (c : Cursor) → t ≡ Ok c → (r : Numbered EntryId) → r ≡ calls.id base s c → moved s (named_answer r) ≡ tree_step base s row.first
    unfolding tree_step tree_move
    first_goes c d r q = ap (moved s) (id_same r [] refl ∙ ap (λ (x : Numbered EntryId). id_answer x []) q) ∙ ap (λ (x : Numbered Cursor). moved s (standing_id_answer base s x)) (sym d ∙ e)

-- the entry after a cursor's, and a lookup, on a tree of any kind
module _ (K : Kind) where
  module _ (s : State) (c : Cursor) (u : Numbered (Option Cursor)) (eu : u ≡ calls.next_after K s c) where
    -- by the cursor after it
    next_by_law : (x : Numbered (Option Cursor)) → u ≡ x → next_answer K s x ≡ next_answer K s (calls.next_after K s c)
    next_by_law x du = ap (next_answer K s) (sym du ∙ eu)

    pub next_refused : (n : ℕ) → u ≡ Err n → refused n ≡ next_answer K s (calls.next_after K s c)
    next_refused n du = next_by_law (Err n) du

    pub next_none : u ≡ Ok None → done (no_entry ∷ []) ≡ next_answer K s (calls.next_after K s c)
    next_none du = next_by_law (Ok None) du

    pub next_at : (b : Cursor) → u ≡ Ok (Some b) → (r x : Numbered EntryId) → r ≡ calls.id K s b → r ≡ x → id_answer x [] ≡ next_answer K s (calls.next_after K s c)
    next_at b du r x q dr = ap (λ (y : Numbered EntryId). id_answer y []) (sym dr ∙ q) ∙ next_by_law (Ok (Some b)) du

  -- by the state that the lookup leaves and what it gave; the count is left out
  module _ (s t : State) (v index : ℕ) (a : Numbered (Cursor × ℕ × ℕ × ℕ)) (n : ℕ) (e : calls.reply t (counted a n) ≡ count.locate K s v index) where
    lookup_by_law : (x : Numbered (Cursor × ℕ × ℕ × ℕ)) → a ≡ x → (r : Answer) → r ≡ located_answer K t x → moved t r ≡ tree_move K s (row.lookup v index)
    unfolding tree_move count.locate
    lookup_by_law x d r q = ap (moved t) (q ∙ ap (located_answer K t) (sym d)) ∙ ap (λ (y : calls.Reply (Counted (Numbered (Cursor × ℕ × ℕ × ℕ)))). moved y.after (located_answer K y.after y.answer.answer)) e

    pub lookup_found : (r : Answer) → r ≡ located_answer K t a → moved t r ≡ tree_move K s (row.lookup v index)
    lookup_found r q = lookup_by_law a refl r q

-- a count and a lookup give no line ends
pub count_step : (s : State) → tree_move base s row.count ≡ tree_step base s row.count
unfolding tree_step
count_step s = refl

pub lookup_step : (s : State) (v index : ℕ) → tree_move base s (row.lookup v index) ≡ tree_step base s (row.lookup v index)
unfolding tree_step
lookup_step s v index = refl

-- the end, and any other id
pub target_end : (i : ℕ) (c : Cursor) → i ≡ no_entry → None ≡ target_of i c
target_end i c e = rw (eq-eqb i no_entry e)

pub target_before : (i : ℕ) (c : Cursor) → (i ≡ no_entry → ⊥) → Some c ≡ target_of i c
target_before i c h = rw (ne_eqb i no_entry h)
