-- The planning tree's calls are those that they come to: it has no line ends, and what takes no lengths doesn't ask for their order. Assumes nothing.
use Rattle.model.specs.declared.number.EntryId.{EntryId}
use Rattle.model.specs.Numbered.{Numbered}
use Rattle.std.specs.Prelude.{Ok, Err, Some, None, Option}
use mathlib.Core.Path.{◌≡◌, refl, sym, ap, ◌∙◌}
use mathlib.Core.Bool.{Bool}
use mathlib.Core.List.{List, [], ◌∷◌}
use Prim.Native.Nat.{ℕ}
use native.Mathlib.Omega.{arith}
use lib.ListN.{length, get_or}
use borrow.Author.Tests.{ne_eqb}
use Rattle.model.specs.Kind.{kind, planning}
use Rattle.model.specs.Length.{lengths_in}
use Rattle.model.specs.Row as row
use Rattle.model.specs.Row.{Answer, Moved, moved, done, refused}
use Rattle.model.specs.State.{State}
use Rattle.model.specs.Answer.{outcome_answer, named_answer}
use Rattle.model.specs.Refuse.{opening}
use Rattle.model.specs.Calls.{Reply, reply, reset, cursor, id, entry_lengths, next_after, entry_to_char_index, locate}
use Rattle.model.specs.ById.{with_cursor, next_answer, located_answer, told, tree_move, tree_step}
use Rattle.model.specs.Plan as plan
use Rattle.model.specs.Plan.{id_only, tree_plan}
use Rattle.model.specs.declared.head.Cursor.{Cursor}
use Rattle.calls_read.specs.Read.{lengths_by}
use Rattle.calls_by_id.specs.Answer.{looked_answer}
use Rattle.calls_planning.specs.Bounds.{id_move, named_of}

-- calls that take lengths
pub reset_plan : (s t : State) (l : List ℕ) (a : Numbered (Unit {0})) → reply t a ≡ reset planning s l → moved t (outcome_answer a) ≡ tree_plan s (plan.reset l)
unfolding tree_plan tree_step tree_move
reset_plan s t l a e = ap (λ (r : Reply (Numbered (Unit {0}))). told r outcome_answer) e

pub insert_plan : (s : State) (i : ℕ) (l : List ℕ) → tree_move planning s (row.insert i l) ≡ tree_plan s (plan.insert i l)
unfolding tree_plan tree_step
insert_plan s i l = refl

pub split_plan : (s : State) (flag : Bool) (i : ℕ) (l : List ℕ) → tree_move planning s (row.split flag i l) ≡ tree_plan s (plan.split flag i l)
unfolding tree_plan tree_step
split_plan s flag i l = refl

pub set_plan : (s : State) (i : ℕ) (l : List ℕ) → tree_move planning s (row.set_lengths i l) ≡ tree_plan s (plan.set_lengths i l)
unfolding tree_plan tree_step
set_plan s i l = refl

-- calls that take none, and so are those of a tree with two lengths an entry
pub count_plan : (s : State) → tree_move (kind 2 1) s row.count ≡ tree_plan s plan.count
unfolding tree_plan tree_step tree_move
count_plan s = refl

next_same : (s : State) (n : Numbered (Option Cursor)) → next_answer (kind 2 1) s n ≡ next_answer planning s n
unfolding id opening
next_same s (Ok (Some c)) = refl
next_same s (Ok None) = refl
next_same s (Err n) = refl

pub next_plan : (s : State) (i : ℕ) → tree_move (kind 2 1) s (row.next i) ≡ tree_plan s (plan.next i)
unfolding tree_plan tree_step tree_move cursor next_after opening
next_plan s i = go (cursor planning s i)
  where
    go : (t : Numbered Cursor) → with_cursor s t (λ c. moved s (next_answer (kind 2 1) s (next_after (kind 2 1) s c))) ≡ with_cursor s t (λ c. moved s (next_answer planning s (next_after planning s c)))
    go (Ok c) = ap (moved s) (next_same s (next_after (kind 2 1) s c))
    go (Err n) = refl

pub earliest_plan : (s : State) (i : ℕ) → tree_move (kind 2 1) s (row.rank 0 i) ≡ tree_plan s (plan.earliest i)
unfolding tree_plan tree_step tree_move cursor entry_to_char_index opening
earliest_plan s i = refl

pub latest_plan : (s : State) (i : ℕ) → tree_move (kind 2 1) s (row.rank 1 i) ≡ tree_plan s (plan.latest i)
unfolding tree_plan tree_step tree_move cursor entry_to_char_index opening
latest_plan s i = refl

looked_same : (s : State) (a : Numbered (Cursor × ℕ × ℕ × ℕ)) → located_answer (kind 2 1) s a ≡ located_answer planning s a
unfolding id opening
looked_same s (Ok (c, offset, effect, prepare)) = refl
looked_same s (Err n) = refl

lookup_plan : (s : State) (v index : ℕ) → tree_move (kind 2 1) s (row.lookup v index) ≡ tree_step planning s (row.lookup v index)
unfolding tree_step tree_move locate opening
lookup_plan s v index = let r = locate planning s v index in ap (moved r.after) (looked_same r.after r.answer)

pub first_plan : (s : State) (p : ℕ) → id_move (tree_step planning s (row.lookup 1 p)) ≡ tree_plan s (plan.first_at p)
unfolding tree_plan
first_plan s p = refl

-- the lengths at a cursor, from the four words into which they were read
lengths_plain : (s : State) (c : Cursor) → entry_lengths (kind 2 1) s c ≡ entry_lengths planning s c
unfolding entry_lengths opening
lengths_plain s c = refl

module _ (s : State) (c : Cursor) (n : ℕ) (x : List ℕ) (e : lengths_by n (lengths_in 2 x) ≡ entry_lengths (kind 2 1) s c) where
  pub ranged_refused : (n ≡ 0 → ⊥) → refused n ≡ entry_lengths planning s c
  ranged_refused h = (rw (ne_eqb n 0 h) at e) ∙ lengths_plain s c

  pub ranged_good : n ≡ 0 → length x ≡ 4 → done (get_or x 1 0 ∷ get_or x 2 0 ∷ []) ≡ entry_lengths planning s c
  ranged_good h four = ap done (two x four) ∙ (rw h at e) ∙ lengths_plain s c
    where
      two : (y : List ℕ) → length y ≡ 4 → get_or y 1 0 ∷ get_or y 2 0 ∷ [] ≡ lengths_in 2 y
      two [] f = absurd (omega arith)
      two (p ∷ []) f = absurd (omega arith)
      two (p ∷ q ∷ []) f = absurd (omega arith)
      two (p ∷ q ∷ r ∷ y) f = refl

-- and by the cursor of an entry
module _ (s : State) (i : ℕ) (t : Numbered Cursor) (e : t ≡ cursor (kind 2 1) s i) where
  abbrev lengths_behind : Numbered Cursor → Moved State
  lengths_behind x = with_cursor s x (λ c. moved s (entry_lengths planning s c))

  lengths_by_law : (x : Numbered Cursor) → t ≡ x → lengths_behind x ≡ tree_plan s (plan.lengths i)
  unfolding tree_plan tree_step tree_move cursor opening
  lengths_by_law x d = ap lengths_behind (sym d ∙ e)

  pub lengths_stops : (n : ℕ) → t ≡ Err n → moved s (refused n) ≡ tree_plan s (plan.lengths i)
  lengths_stops n d = lengths_by_law (Err n) d

  pub lengths_goes : (c : Cursor) → t ≡ Ok c → (a : Answer) → a ≡ entry_lengths planning s c → moved s a ≡ tree_plan s (plan.lengths i)
  lengths_goes c d a q = ap (moved s) q ∙ lengths_by_law (Ok c) d

-- a lookup's answer without offset and positions
id_only_law : (a : Numbered (EntryId × ℕ × ℕ × ℕ)) → named_answer (named_of a) ≡ id_only (looked_answer a)
id_only_law (Ok (i, offset, effect, prepare)) = refl
id_only_law (Err n) = refl

pub held_is : (s t : State) (v index : ℕ) (a : Numbered (EntryId × ℕ × ℕ × ℕ)) → moved t (looked_answer a) ≡ tree_move (kind 2 1) s (row.lookup v index) → (r : Numbered EntryId) → r ≡ named_of a
    → moved t (named_answer r) ≡ id_move (tree_step planning s (row.lookup v index))
held_is s t v index a e r er = ap (λ (y : Numbered EntryId). moved t (named_answer y)) er ∙ ap (moved t) (id_only_law a) ∙ ap id_move (e ∙ lookup_plan s v index)
