-- A call at the cursors of the entries that it names, by its own function; and a record's call from what was found. Assumes nothing.
use Rattle.std.specs.declared.cmp.Ordering.{Ordering}
use Rattle.model.specs.Numbered.{Numbered}
use Rattle.std.specs.Prelude.{Ok, Err, Option}
use mathlib.Core.Path.{◌≡◌, refl, sym, ap, ◌∙◌}
use mathlib.Core.Bool.{Bool, true, false, cond}
use mathlib.Core.List.{List}
use Prim.Native.Nat.{ℕ}
use Rattle.model.specs.Length.{list_of}
use Rattle.model.specs.Kind.{base}
use Rattle.model.specs.Row as row
use Rattle.model.specs.Row.{Moved, moved, refused, overlong}
use Rattle.model.specs.Answer.{outcome_answer, number_answer, compared_answer, inserted_answer}
use Rattle.model.specs.State.{State, state}
use Rattle.model.specs.Calls as calls
use Rattle.model.specs.Calls.{Reply, reply}
use Rattle.model.specs.ById.{told, next_answer, divided_id_answer, tree_move, tree_step}
use Rattle.model.specs.declared.head.Head.{Head}
use Rattle.model.specs.declared.head.Cursor.{Cursor}
use Rattle.model.specs.declared.length.Lengths.{Lengths}
use Rattle.model.specs.declared.number.EntryId.{EntryId}
use Rattle.calls_size.specs.Size.{resize}
use Rattle.calls_size.proofs.SizeLaws.{without_position}
use Rattle.list_records.specs.Said.{call_of}
use Rattle.list_records.specs.declared.call.Call.{Call}
use Rattle.list_records.specs.declared.call.Call.TheVariants as call
use Rattle.list_row.specs.declared.answer.Step.{Step}
use Rattle.list_row.specs.Answer.{step_of}
use Rattle.calls_by_id.specs.Target.{target_of}
use Rattle.list_row.specs.Find.{ids_of, found_of, call_at}
use Rattle.list_row.specs.Step.{Stepped, stepped, step_by}
use Rattle.list_row.specs.declared.find.Ids.{Ids}
use Rattle.list_row.proofs.FindLaws.{with_found, by_found}

-- each call's reply is what the call does at the cursors
module _ (s : State) (a b : Cursor) where
  pub reset_at : (t : State) (l : List ℕ) (r : Numbered (Unit {0})) → reply t r ≡ calls.reset base s l → moved t (outcome_answer r) ≡ call_at s (row.reset l) a b
  unfolding call_at tree_move
  reset_at t l r e = ap (λ (x : Reply (Numbered (Unit {0}))). told x outcome_answer) e

  pub insert_at_law : (t : State) (i : ℕ) (l : List ℕ) (x : Option Cursor) → x ≡ target_of i b → (r : Numbered (EntryId × ℕ)) → reply t r ≡ calls.insert base s x l
      → moved t (inserted_answer r) ≡ call_at s (row.insert i l) a b
  unfolding call_at
  insert_at_law t i l x q r e = ap (λ (x : Reply (Numbered (EntryId × ℕ))). told x inserted_answer) (e ∙ ap (λ (y : Option Cursor). calls.insert base s y l) q)

  pub split_at : (t : State) (flag : Bool) (i : ℕ) (l : List ℕ) (r : Numbered (EntryId × Cursor × Cursor)) → reply t r ≡ calls.split_entry base s b l flag
      → moved t (divided_id_answer r) ≡ call_at s (row.split flag i l) a b
  unfolding call_at
  split_at t flag i l r e = ap (λ (x : Reply (Numbered (EntryId × Cursor × Cursor))). told x divided_id_answer) e

  pub lookup_at : (v : ℕ) (index : ℕ) (m : Moved State) → m ≡ tree_step base s (row.lookup v index) → m ≡ call_at s (row.lookup v index) a b
  unfolding call_at tree_step
  lookup_at v index m e = e

  pub rank_at_law : (v : ℕ) (i : ℕ) (r : Numbered ℕ) → r ≡ calls.entry_to_char_index base s v b → moved s (number_answer r) ≡ call_at s (row.rank v i) a b
  unfolding call_at
  rank_at_law v i r e = ap (λ (x : Numbered ℕ). moved s (number_answer x)) e

  pub next_at : (i : ℕ) (r : row.Answer) → r ≡ next_answer base s (calls.next_after base s b) → moved s r ≡ call_at s (row.next i) a b
  unfolding call_at
  next_at i r e = ap (moved s) e

  pub compare_at : (i j : ℕ) (r : Numbered Ordering) → r ≡ calls.cmp base s a b → moved s (compared_answer r) ≡ call_at s (row.compare i j) a b
  unfolding call_at
  compare_at i j r e = ap (λ (x : Numbered Ordering). moved s (compared_answer x)) e

  pub lengths_at_law : (i : ℕ) (r : row.Answer) → r ≡ calls.entry_lengths base s b → moved s r ≡ call_at s (row.lengths i) a b
  unfolding call_at
  lengths_at_law i r e = ap (moved s) e

  pub count_at : (m : Moved State) → m ≡ tree_step base s row.count → m ≡ call_at s row.count a b
  unfolding call_at tree_step
  count_at m e = e

  pub first_at_law : (m : Moved State) → m ≡ tree_step base s row.first → m ≡ call_at s row.first a b
  unfolding call_at tree_step
  first_at_law m e = e

  pub malformed_at : moved s (refused 10) ≡ call_at s row.malformed a b
  unfolding call_at tree_move
  malformed_at = refl

  -- with or without the position
  resize_at : (i : ℕ) (l : List ℕ) (summed : Bool)
      → step_by (told (resize base summed s b l) number_answer) ≡ step_by (call_at s (cond summed (row.update i l) (row.set_lengths i l)) a b)
  unfolding call_at calls.update
  resize_at i l true = refl
  resize_at i l false =
      without_position (λ (x : Reply (Numbered ℕ)). step_by (told x number_answer)) (λ (x : Reply (Numbered (Unit {0}))). step_by (told x outcome_answer)) (λ (t : State). refl) (λ (t : State) (n : ℕ). refl) base s b l

  -- the call k is x, which left a state and gave an answer
  module _ (k x : Call) (e : k ≡ x) (h : Head) (ls xs hs : List ℕ) where
    pub by_call : (y : row.Answer) → moved (state h ls xs hs) y ≡ call_at s (call_of x) a b → (r : Step) → r ≡ step_of h y
        → stepped (state r.head ls xs hs) r.answer ≡ step_by (call_at s (call_of k) a b)
    by_call y m r q =
        ap (λ (z : Step). stepped (state z.head ls xs hs) z.answer) q ∙ ap step_by m ∙ ap (λ (z : Call). step_by (call_at s (call_of z) a b)) (sym e)

  pub by_resize : (k : Call) (summed : Bool) (i : EntryId) (l : Lengths) → k ≡ call.Resize summed i l → (h : Head) (ls xs hs : List ℕ) (y : Numbered ℕ)
      → reply (state h ls xs hs) y ≡ resize base summed s b (list_of l) → (r : Step) → r ≡ step_of h (number_answer y)
      → stepped (state r.head ls xs hs) r.answer ≡ step_by (call_at s (call_of k) a b)
  by_resize k summed i l e h ls xs hs y m r q =
      ap (λ (z : Step). stepped (state z.head ls xs hs) z.answer) q ∙ ap (λ (z : Reply (Numbered ℕ)). step_by (told z number_answer)) m ∙ resize_at i.0 (list_of l) summed
      ∙ ap (λ (z : Call). step_by (call_at s (call_of z) a b)) (sym e)

-- too many line ends first, then what was found
module _ (s : State) (k : row.Call) where
  pub step_overlong : overlong base k ≡ true → (r : Step) → r ≡ step_of s.head (refused 10)
      → stepped (state r.head s.leaves s.inners s.homes) r.answer ≡ step_by (tree_step base s k)
  unfolding tree_step
  step_overlong h r q = rw h (ap (λ (z : Step). stepped (state z.head s.leaves s.inners s.homes) z.answer) q)

  module _ (h : overlong base k ≡ false) (ids : Ids) (ei : ids ≡ ids_of k) (f : Numbered (Cursor × Cursor)) (ef : f ≡ found_of s ids) where
    by_entries : (x : Numbered (Cursor × Cursor)) → f ≡ x → with_found s x (call_at s k) ≡ tree_step base s k
    unfolding tree_step
    by_entries x d = rw h (ap (λ (y : Numbered (Cursor × Cursor)). with_found s y (call_at s k)) (sym d ∙ ef ∙ ap (found_of s) ei) ∙ sym (by_found s k))

    pub step_refused : (n : ℕ) → f ≡ Err n → (r : Step) → r ≡ step_of s.head (refused n)
        → stepped (state r.head s.leaves s.inners s.homes) r.answer ≡ step_by (tree_step base s k)
    step_refused n d r q = ap (λ (z : Step). stepped (state z.head s.leaves s.inners s.homes) z.answer) q ∙ ap step_by (by_entries (Err n) d)

    pub step_at : (a b : Cursor) → f ≡ Ok (a, b) → (x : Stepped) → x ≡ step_by (call_at s k a b) → x ≡ step_by (tree_step base s k)
    step_at a b d x q = q ∙ ap step_by (by_entries (Ok (a, b)) d)
