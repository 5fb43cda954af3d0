-- A call by id, from what `cursor(id)` gave: refused, or the call at the cursor. Assumes nothing.
use Rattle.model.specs.declared.number.EntryId.{EntryId}
use Rattle.std.specs.declared.cmp.Ordering.{Ordering}
use Rattle.model.specs.Numbered.{Numbered}
use Rattle.std.specs.Prelude.{Ok, Err, Some, None, Option}
use mathlib.Core.Path.{◌≡◌, refl, sym, ap, ◌∙◌}
use mathlib.Core.Bool.{Bool, true, false, cond}
use mathlib.Core.List.{List}
use Prim.Native.Nat.{ℕ}
use native.Mathlib.Omega.{arith}
use lib.Dec.{eqb}
use borrow.Author.Tests.{eq-eqb, ne_eqb}
use Rattle.model.specs.Kind.{kind, kind_of}
use Rattle.model.specs.Refuse.{opening}
use Rattle.model.specs.Row as row
use Rattle.model.specs.Row.{Answer, Moved, moved, refused, no_entry}
use Rattle.model.specs.State.{State}
use Rattle.model.specs.Answer.{outcome_answer, number_answer, compared_answer, inserted_answer}
use Rattle.model.specs.Calls as calls
use Rattle.model.specs.Calls.{Reply, reply, cursor_at, cursor}
use Rattle.model.specs.ById.{with_cursor, next_answer, divided_id_answer, told, tree_move}
use Rattle.model.specs.declared.shape.Kind.{Kind}
use Rattle.model.specs.declared.head.Cursor.{Cursor}
use Rattle.calls_size.specs.Size.{resize, unnumbered}
use Rattle.calls_size.proofs.SizeLaws.{without_position}
use Rattle.calls_by_id.specs.Target.{target_of}
use Rattle.calls_by_id.specs.Place.{place_of}

-- the cursor of an entry doesn't ask for an order of the lengths, nor does the place of an insertion
module _ (views effect : ℕ) (ordered : Bool) (s : State) (i : ℕ) (t : Numbered Cursor) where
  pub cursor_ordered : t ≡ cursor (kind views effect) s i → t ≡ cursor (kind_of views effect ordered) s i
  unfolding cursor opening
  cursor_ordered e = e

  pub place_ordered : t ≡ place_of (kind views effect) s i → t ≡ place_of (kind_of views effect ordered) s i
  unfolding cursor opening
  place_ordered e = e

-- the place of an insertion
pub place_end : (K : Kind) (s : State) (i : ℕ) → i ≡ no_entry → Ok (cursor_at 0 0 0) ≡ place_of K s i
place_end K s i e = rw (eq-eqb i no_entry e)

pub place_before : (K : Kind) (s : State) (i : ℕ) → (i ≡ no_entry → ⊥) → (t : Numbered Cursor) → t ≡ calls.cursor K s i → t ≡ place_of K s i
place_before K s i h t e = rw (ne_eqb i no_entry h) e

module _ (K : Kind) (s : State) (i : ℕ) (t : Numbered Cursor) where
  -- the call f at the cursor t of an entry
  module _ (e : t ≡ calls.cursor K s i) where
    stops : (f : Cursor → Moved State) (n : ℕ) → t ≡ Err n → moved s (refused n) ≡ with_cursor s (calls.cursor K s i) f
    stops f n d = ap (λ (x : Numbered Cursor). with_cursor s x f) (sym d ∙ e)

    goes : (f : Cursor → Moved State) (c : Cursor) → t ≡ Ok c → f c ≡ with_cursor s (calls.cursor K s i) f
    goes f c d = ap (λ (x : Numbered Cursor). with_cursor s x f) (sym d ∙ e)

    pub split_stops : (flag : Bool) (l : List ℕ) (n : ℕ) → t ≡ Err n → moved s (refused n) ≡ tree_move K s (row.split flag i l)
    unfolding tree_move
    split_stops flag l n d = stops (λ c. told (calls.split_entry K s c l flag) divided_id_answer) n d

    pub split_goes : (flag : Bool) (l : List ℕ) (c : Cursor) → t ≡ Ok c → (u : State) (r : Numbered (EntryId × Cursor × Cursor)) → reply u r ≡ calls.split_entry K s c l flag → moved u (divided_id_answer r) ≡ tree_move K s (row.split flag i l)
    unfolding tree_move
    split_goes flag l c d u r q = ap (λ (x : Reply (Numbered (EntryId × Cursor × Cursor))). told x divided_id_answer) q ∙ goes (λ c. told (calls.split_entry K s c l flag) divided_id_answer) c d

    pub set_stops : (l : List ℕ) (n : ℕ) → t ≡ Err n → moved s (refused n) ≡ tree_move K s (row.set_lengths i l)
    unfolding tree_move
    set_stops l n d = stops (λ c. told (calls.set_lengths K s c l) outcome_answer) n d

    -- the position, which isn't asked for, is left out
    pub set_goes : (l : List ℕ) (c : Cursor) → t ≡ Ok c → (u : State) (x : Numbered ℕ) → reply u x ≡ resize K false s c l → (r : Numbered (Unit {0})) → r ≡ unnumbered x
        → moved u (outcome_answer r) ≡ tree_move K s (row.set_lengths i l)
    unfolding tree_move
    set_goes l c d u x q r p =
        ap (λ (y : Numbered (Unit {0})). moved u (outcome_answer y)) p ∙ ap (λ (y : Reply (Numbered ℕ)). moved y.after (outcome_answer (unnumbered y.answer))) q
        ∙ without_position (λ (y : Reply (Numbered ℕ)). moved y.after (outcome_answer (unnumbered y.answer))) (λ (y : Reply (Numbered (Unit {0}))). told y outcome_answer) (λ (v : State). refl) (λ (v : State) (n : ℕ). refl) K s c l
        ∙ goes (λ c. told (calls.set_lengths K s c l) outcome_answer) c d

    pub rank_stops : (v n : ℕ) → t ≡ Err n → moved s (refused n) ≡ tree_move K s (row.rank v i)
    unfolding tree_move
    rank_stops v n d = stops (λ c. moved s (number_answer (calls.entry_to_char_index K s v c))) n d

    pub rank_goes : (v : ℕ) (c : Cursor) → t ≡ Ok c → (r : Numbered ℕ) → r ≡ calls.entry_to_char_index K s v c → moved s (number_answer r) ≡ tree_move K s (row.rank v i)
    unfolding tree_move
    rank_goes v c d r q = ap (λ (x : Numbered ℕ). moved s (number_answer x)) q ∙ goes (λ c. moved s (number_answer (calls.entry_to_char_index K s v c))) c d

    pub next_stops : (n : ℕ) → t ≡ Err n → moved s (refused n) ≡ tree_move K s (row.next i)
    unfolding tree_move
    next_stops n d = stops (λ c. moved s (next_answer K s (calls.next_after K s c))) n d

    pub next_goes : (c : Cursor) → t ≡ Ok c → (a : Answer) → a ≡ next_answer K s (calls.next_after K s c) → moved s a ≡ tree_move K s (row.next i)
    unfolding tree_move
    next_goes c d a q = ap (moved s) q ∙ goes (λ c. moved s (next_answer K s (calls.next_after K s c))) c d

    -- two entries, the first and then the second
    module _ (j : ℕ) where
      abbrev second : Cursor → Moved State
      second a = with_cursor s (calls.cursor K s j) (λ b. moved s (compared_answer (calls.cmp K s a b)))

      pub compare_stops : (n : ℕ) → t ≡ Err n → moved s (refused n) ≡ tree_move K s (row.compare i j)
      unfolding tree_move
      compare_stops n d = stops second n d

      module _ (a : Cursor) (d : t ≡ Ok a) (u : Numbered Cursor) (eu : u ≡ calls.cursor K s j) where
        by_second : (x : Numbered Cursor) → u ≡ x → with_cursor s x (λ b. moved s (compared_answer (calls.cmp K s a b))) ≡ tree_move K s (row.compare i j)
        unfolding tree_move
        by_second x du = ap (λ (y : Numbered Cursor). with_cursor s y (λ b. moved s (compared_answer (calls.cmp K s a b)))) (sym du ∙ eu) ∙ goes second a d

        pub compare_second : (n : ℕ) → u ≡ Err n → moved s (refused n) ≡ tree_move K s (row.compare i j)
        compare_second n du = by_second (Err n) du

        pub compare_goes : (b : Cursor) → u ≡ Ok b → (r : Numbered Ordering) → r ≡ calls.cmp K s a b → moved s (compared_answer r) ≡ tree_move K s (row.compare i j)
        compare_goes b du r q = ap (λ (x : Numbered Ordering). moved s (compared_answer x)) q ∙ by_second (Ok b) du

  -- an insertion, by the place t
  module _ (l : List ℕ) (e : t ≡ place_of K s i) where
    abbrev enters : Option Cursor → Moved State
    enters x = told (calls.insert K s x l) inserted_answer

    pub insert_stops : (n : ℕ) → t ≡ Err n → moved s (refused n) ≡ tree_move K s (row.insert i l)
    unfolding tree_move
    insert_stops n d = go (eqb i no_entry) e
      where
        go : (b : Bool) → t ≡ cond b (Ok (cursor_at 0 0 0)) (calls.cursor K s i) → moved s (refused n) ≡ cond b (enters None) (with_cursor s (calls.cursor K s i) (λ c. enters (Some c)))
        go true q = absurd (let z : Ok (cursor_at 0 0 0) ≡ Err n = sym q ∙ d in let y : ◌≡◌ {A = ℕ} 0 1 = cc in omega arith)
        go false q = stops q (λ c. enters (Some c)) n d

    pub insert_goes : (c : Cursor) → t ≡ Ok c → (x : Option Cursor) → x ≡ target_of i c → (u : State) (r : Numbered (EntryId × ℕ)) → reply u r ≡ calls.insert K s x l → moved u (inserted_answer r) ≡ tree_move K s (row.insert i l)
    unfolding tree_move
    insert_goes c d x p u r q = ap (λ (y : Reply (Numbered (EntryId × ℕ))). told y inserted_answer) q ∙ ap enters p ∙ go (eqb i no_entry) e
      where
        go : (b : Bool) → t ≡ cond b (Ok (cursor_at 0 0 0)) (calls.cursor K s i) → enters (cond b None (Some c)) ≡ cond b (enters None) (with_cursor s (calls.cursor K s i) (λ c. enters (Some c)))
        go true q = refl
        go false q = goes q (λ c. enters (Some c)) c d
