-- A refusal has no values, in every answer of a call by cursor and by id. Assumes nothing.
use Rattle.model.specs.declared.length.Lengths.{Lengths}
use Rattle.model.specs.declared.number.EntryId.{EntryId}
use Rattle.std.specs.declared.cmp.Ordering.TheVariants.{Less, Equal, Greater}
use Rattle.std.specs.declared.cmp.Ordering.{Ordering}
use Rattle.model.specs.Numbered.{Numbered}
use Rattle.std.specs.Prelude.{refl, Bool, cond, List, [], ◌∷◌, ◌++◌, ℕ, eqb, Ok, Err, Some, None, Option}
use Rattle.std.proofs.Math.Bool.{true, false}
use Rattle.model.specs.declared.shape.Kind.{Kind}
use Rattle.model.specs.Lists.{refusal}
use Rattle.model.specs.Node.{lengths}
use Rattle.model.specs.State.{State}
use Rattle.model.specs.Refuse.{opening, at_cursor}
use Rattle.model.specs.Row as row
use Rattle.model.specs.Row.{Call, Answer, Moved, no_entry, overlong}
use Rattle.model.specs.Answer as answer
use Rattle.model.specs.Answer.{outcome_answer, number_answer, named_answer, compared_answer, inserted_answer}
use Rattle.model.specs.Calls as calls
use Rattle.model.specs.ById as by_id
use Rattle.model.specs.ById.{with_cursor, with_target, told, tree_move, tree_step}
use Rattle.model.specs.Promise.{Bare, Bares}
use Rattle.model.specs.declared.head.Cursor.{Cursor}

-- an answer that is done has the number 0, one that is refused has no values
done_bare : (vs : List ℕ) → Bare (row.done vs)
done_bare vs d = absurd (d refl)

refused_bare : (n : ℕ) → Bare (row.refused n)
refused_bare n d = refl

outcome_bare : (a : Numbered (Unit {0})) → Bare (outcome_answer a)
outcome_bare (Ok tt) = done_bare []
outcome_bare (Err n) = refused_bare n

number_bare : (a : Numbered ℕ) → Bare (number_answer a)
number_bare (Ok n) = done_bare (n ∷ [])
number_bare (Err n) = refused_bare n

verdict_bare : (a : Numbered Bool) → Bare (answer.verdict_answer a)
verdict_bare (Ok true) = done_bare (1 ∷ [])
verdict_bare (Ok false) = done_bare (0 ∷ [])
verdict_bare (Err n) = refused_bare n

standing_bare : (a : Numbered Cursor) → Bare (answer.standing_answer a)
standing_bare (Ok c) = done_bare _
standing_bare (Err n) = refused_bare n

next_bare : (a : Numbered (Option Cursor)) → Bare (answer.next_answer a)
next_bare (Ok (Some c)) = done_bare _
next_bare (Ok None) = done_bare _
next_bare (Err n) = refused_bare n

named_bare : (a : Numbered EntryId) → Bare (named_answer a)
named_bare (Ok i) = done_bare _
named_bare (Err n) = refused_bare n

measured_bare : (a : Numbered Lengths) → Bare (answer.measured_answer a)
measured_bare (Ok l) = done_bare _
measured_bare (Err n) = refused_bare n

compared_bare : (a : Numbered Ordering) → Bare (compared_answer a)
compared_bare (Ok Less) = done_bare _
compared_bare (Ok Equal) = done_bare _
compared_bare (Ok Greater) = done_bare _
compared_bare (Err n) = refused_bare n

selected_bare : (a : Numbered (Cursor × ℕ)) → Bare (answer.selected_answer a)
selected_bare (Ok (c, offset)) = done_bare _
selected_bare (Err n) = refused_bare n

located_bare : (a : Numbered (Cursor × ℕ × ℕ × ℕ)) → Bare (answer.located_answer a)
located_bare (Ok (c, offset, effect, prepare)) = done_bare _
located_bare (Err n) = refused_bare n

inserted_bare : (a : Numbered (EntryId × ℕ)) → Bare (inserted_answer a)
inserted_bare (Ok (i, position)) = done_bare _
inserted_bare (Err n) = refused_bare n

divided_bare : (a : Numbered (EntryId × Cursor × Cursor)) → Bare (answer.divided_answer a)
divided_bare (Ok (i, a, b)) = done_bare _
divided_bare (Err n) = refused_bare n

-- by id -----------------------------------------------------------------------------------------------------------------------------------

id_bare : (a : Numbered EntryId) (vs : List ℕ) → Bare (by_id.id_answer a vs)
id_bare (Ok i) vs = done_bare _
id_bare (Err n) vs = refused_bare n

module _ (K : Kind) (s : State) where
  first_bare : (a : Numbered Cursor) → Bare (by_id.standing_id_answer K s a)
  first_bare (Ok c) = id_bare (calls.id K s c) []
  first_bare (Err n) = refused_bare n

  following_bare : (a : Numbered (Option Cursor)) → Bare (by_id.next_answer K s a)
  following_bare (Ok (Some c)) = id_bare (calls.id K s c) []
  following_bare (Ok None) = done_bare _
  following_bare (Err n) = refused_bare n

  looked_bare : (t : State) (a : Numbered (Cursor × ℕ × ℕ × ℕ)) → Bare (by_id.located_answer K t a)
  looked_bare t (Ok (c, offset, effect, prepare)) = id_bare (calls.id K t c) (offset ∷ effect ∷ prepare ∷ [])
  looked_bare t (Err n) = refused_bare n

  parted_bare : (a : Numbered (EntryId × Cursor × Cursor)) → Bare (by_id.divided_id_answer a)
  parted_bare (Ok (i, a, b)) = done_bare _
  parted_bare (Err n) = refused_bare n

  measure_bare : (c : Cursor) → Bare (calls.entry_lengths K s c)
  unfolding calls.entry_lengths
  measure_bare c = go (eqb (refusal (opening K s ++ at_cursor K s c)) 0)
    where
      go : (b : Bool) → Bare (cond b (row.done (lengths (calls.slot_at K s c))) (row.refused (refusal (opening K s ++ at_cursor K s c))))
      go true = done_bare (lengths (calls.slot_at K s c))
      go false = refused_bare (refusal (opening K s ++ at_cursor K s c))

  at_bare : (c : Numbered Cursor) (f : Cursor → Moved State) → ((c : Cursor) → Bare (f c).answer) → Bare (with_cursor s c f).answer
  at_bare (Ok c) f h = h c
  at_bare (Err n) f h = refused_bare n

  target_bare : (i : ℕ) (f : Option Cursor → Moved State) → ((t : Option Cursor) → Bare (f t).answer) → Bare (with_target K s i f).answer
  target_bare i f h = go (eqb i no_entry)
    where
      go : (b : Bool) → Bare (cond b (f None) (with_cursor s (calls.cursor K s i) (λ c. f (Some c)))).answer
      go true = h None
      go false = at_bare (calls.cursor K s i) (λ c. f (Some c)) (λ c. h (Some c))

  move_bare : (c : Call) → Bare (tree_move K s c).answer
  unfolding tree_move
  move_bare (row.reset l) = outcome_bare (calls.reset K s l).answer
  move_bare (row.insert i l) = target_bare i (λ t. told (calls.insert K s t l) inserted_answer) (λ t. inserted_bare (calls.insert K s t l).answer)
  move_bare (row.split flag i l) = at_bare (calls.cursor K s i) (λ c. told (calls.split_entry K s c l flag) by_id.divided_id_answer) (λ c. parted_bare (calls.split_entry K s c l flag).answer)
  move_bare (row.set_lengths i l) = at_bare (calls.cursor K s i) (λ c. told (calls.set_lengths K s c l) outcome_answer) (λ c. outcome_bare (calls.set_lengths K s c l).answer)
  move_bare (row.update i l) = at_bare (calls.cursor K s i) (λ c. told (calls.update K s c l) number_answer) (λ c. number_bare (calls.update K s c l).answer)
  move_bare (row.lookup v x) = looked_bare (calls.locate K s v x).after (calls.locate K s v x).answer
  move_bare (row.rank v i) = at_bare (calls.cursor K s i) (λ c. row.moved s (number_answer (calls.entry_to_char_index K s v c))) (λ c. number_bare (calls.entry_to_char_index K s v c))
  move_bare (row.next i) = at_bare (calls.cursor K s i) (λ c. row.moved s (by_id.next_answer K s (calls.next_after K s c))) (λ c. following_bare (calls.next_after K s c))
  move_bare (row.compare i j) = at_bare (calls.cursor K s i) (λ a. with_cursor s (calls.cursor K s j) (λ b. row.moved s (compared_answer (calls.cmp K s a b))))
      (λ a. at_bare (calls.cursor K s j) (λ b. row.moved s (compared_answer (calls.cmp K s a b))) (λ b. compared_bare (calls.cmp K s a b)))
  move_bare (row.lengths i) = at_bare (calls.cursor K s i) (λ c. row.moved s (calls.entry_lengths K s c)) (λ c. measure_bare c)
  move_bare row.count = let h = s.head in number_bare (calls.unless (calls.area_causes K h.fan h.limit s.leaves s.inners s.homes) Err (calls.len h))
  move_bare row.first = first_bare (calls.first K s)
  move_bare row.malformed = refused_bare 10

  step_bare : (c : Call) → Bare (tree_step K s c).answer
  unfolding tree_step
  step_bare c = go (overlong K c)
    where
      go : (b : Bool) → Bare (cond b (row.moved s (row.refused 10)) (tree_move K s c)).answer
      go true = refused_bare 10
      go false = move_bare c

pub bares : Bares
bares =
    record {
      outcome = outcome_bare;
      number = number_bare;
      verdict = verdict_bare;
      standing = standing_bare;
      next = next_bare;
      named = named_bare;
      measured = measured_bare;
      compared = compared_bare;
      selected = selected_bare;
      located = located_bare;
      inserted = inserted_bare;
      divided = divided_bare;
      step = step_bare;
    }
