-- The entries that a call names are found one after the other, and the call at their cursors is the tree's. Assumes nothing.
use Rattle.model.specs.Numbered.{Numbered}
use Rattle.std.specs.Prelude.{Ok, Err, Some, None, Option}
use mathlib.Core.Path.{◌≡◌, refl, sym, ap, ◌∙◌}
use mathlib.Core.Bool.{Bool, true, false, cond}
use Prim.Native.Nat.{ℕ, zero, suc, ◌-◌, ◌<◌, ◌≤◌}
use native.Mathlib.Omega.{arith}
use lib.Dec.{eqb}
use borrow.Author.Tests.{eq-eqb, ne_eqb}
use Rattle.model.specs.Length.{list_of}
use Rattle.model.specs.Kind.{base, too_many_lines}
use Rattle.model.specs.Row as row
use Rattle.model.specs.Row.{Moved, moved, refused, no_entry, overlong}
use Rattle.model.specs.Answer.{inserted_answer}
use Rattle.model.specs.State.{State}
use Rattle.model.specs.Calls as calls
use Rattle.model.specs.Calls.{cursor_at}
use Rattle.model.specs.ById.{with_cursor, told, tree_move}
use Rattle.model.specs.declared.head.Cursor.{Cursor}
use Rattle.model.specs.declared.length.Lengths.{Lengths}
use Rattle.model.specs.declared.number.EntryId.{EntryId}
use Rattle.list_records.specs.Said.{call_of}
use Rattle.list_records.specs.declared.call.Call.{Call}
use Rattle.list_records.specs.declared.call.Call.TheVariants as call
use Rattle.list_row.specs.Find.{no_ids, one_id, target_ids, ids_of, onward, found_from, found_of, call_at}
use Rattle.list_row.specs.declared.find.Ids.{Ids}

-- what is so of the call x is so of k, which is x
pub call_by : {A : Type 0} (f : Call → A) (k x : Call) → k ≡ x → (r : A) → r ≡ f x → r ≡ f k
call_by f k x e r q = q ∙ ap f (sym e)

-- both calls that give an entry other lengths name it alone, and both may give it too many line ends
module _ (k : Call) (summed : Bool) (i : EntryId) (l : Lengths) (e : k ≡ call.Resize summed i l) where
  pub ids_resize : (r : Ids) → r ≡ one_id i.0 → r ≡ ids_of (call_of k)
  ids_resize r q = call_by (λ (z : Call). ids_of (call_of z)) k (call.Resize summed i l) e r (q ∙ go summed)
    where
      go : (b : Bool) → one_id i.0 ≡ ids_of (cond b (row.update i.0 (list_of l)) (row.set_lengths i.0 (list_of l)))
      go true = refl
      go false = refl

  pub long_resize : (r : Bool) → r ≡ too_many_lines base (list_of l) → r ≡ overlong base (call_of k)
  long_resize r q = call_by (λ (z : Call). overlong base (call_of z)) k (call.Resize summed i l) e r (q ∙ go summed)
    where
      go : (b : Bool) → too_many_lines base (list_of l) ≡ overlong base (cond b (row.update i.0 (list_of l)) (row.set_lengths i.0 (list_of l)))
      go true = refl
      go false = refl

pub ids_end : (i : ℕ) → i ≡ no_entry → (r : Ids) → r ≡ no_ids → r ≡ target_ids i
ids_end i e r q = rw (eq-eqb i no_entry e) q

pub ids_before : (i : ℕ) → (i ≡ no_entry → ⊥) → (r : Ids) → r ≡ one_id i → r ≡ target_ids i
ids_before i h r q = rw (ne_eqb i no_entry h) q

less_one : (n : ℕ) → suc n - 1 ≡ n
less_one n = omega arith

-- a turn, by what `cursor` gave, and the end
module _ (s : State) (i j : ℕ) (a b : Cursor) where
  pub find_end : (n : ℕ) → n ≤ 0 → Ok (a, b) ≡ found_from s n i j a b
  unfolding found_from
  find_end zero h = refl
  find_end (suc n) h = absurd (omega arith)

  module _ (t : Numbered Cursor) (e : t ≡ calls.cursor base s i) where
    pub find_stops : (n : ℕ) → 0 < n → (m : ℕ) → t ≡ Err m → Err m ≡ found_from s n i j a b
    unfolding found_from
    find_stops zero h m d = absurd (omega arith)
    find_stops (suc n) h m d = ap (λ (x : Numbered Cursor). onward x (λ c. found_from s n j j b c)) (sym d ∙ e)

    pub find_goes : (n : ℕ) → 0 < n → (c : Cursor) → t ≡ Ok c → found_from s (n - 1) j j b c ≡ found_from s n i j a b
    unfolding found_from
    find_goes zero h c d = absurd (omega arith)
    find_goes (suc n) h c d = ap (λ (k : ℕ). found_from s k j j b c) (less_one n) ∙ ap (λ (x : Numbered Cursor). onward x (λ c. found_from s n j j b c)) (sym d ∙ e)

-- goes on with the cursors found, or passes a refusal on
abbrev pub with_found : State → Numbered (Cursor × Cursor) → (Cursor → Cursor → Moved State) → Moved State
with_found s (Ok (a, b)) f = f a b
with_found s (Err n) f = moved s (refused n)

-- none, one or two of them
module _ (s : State) (f : Cursor → Cursor → Moved State) where
  none_found : f (cursor_at 0 0 0) (cursor_at 0 0 0) ≡ with_found s (found_of s no_ids) f
  unfolding found_from
  none_found = refl

  one_by : (t : Numbered Cursor) → with_cursor s t (f (cursor_at 0 0 0)) ≡ with_found s (onward t (λ c. Ok (cursor_at 0 0 0, c))) f
  one_by (Ok c) = refl
  one_by (Err n) = refl

  one_found : (i : ℕ) → with_cursor s (calls.cursor base s i) (f (cursor_at 0 0 0)) ≡ with_found s (found_of s (one_id i)) f
  unfolding found_from
  one_found i = one_by (calls.cursor base s i)

  two_by : (t u : Numbered Cursor) → with_cursor s t (λ a. with_cursor s u (f a)) ≡ with_found s (onward t (λ a. onward u (λ b. Ok (a, b)))) f
  two_by (Ok a) (Ok b) = refl
  two_by (Ok a) (Err n) = refl
  two_by (Err n) u = refl

  two_found : (i j : ℕ) → with_cursor s (calls.cursor base s i) (λ a. with_cursor s (calls.cursor base s j) (f a)) ≡ with_found s (found_of s (record { count = 2; first = i; second = j })) f
  unfolding found_from
  two_found i j = two_by (calls.cursor base s i) (calls.cursor base s j)

-- an insertion, at the end or before the one entry that it names
insert_found : (s : State) (i : ℕ) (g : Option Cursor → Moved State) (b : Bool)
    → cond b (g None) (with_cursor s (calls.cursor base s i) (λ c. g (Some c)))
    ≡ with_found s (found_of s (cond b no_ids (one_id i))) (λ a c. g (cond b None (Some c)))
insert_found s i g true = none_found s (λ a c. g None)
insert_found s i g false = one_found s (λ a c. g (Some c)) i

pub by_found : (s : State) (k : row.Call) → tree_move base s k ≡ with_found s (found_of s (ids_of k)) (call_at s k)
unfolding tree_move call_at
by_found s (row.reset l) = none_found s (call_at s (row.reset l))
by_found s (row.insert i l) = insert_found s i (λ (t : Option Cursor). told (calls.insert base s t l) inserted_answer) (eqb i no_entry)
by_found s (row.split flag i l) = one_found s (call_at s (row.split flag i l)) i
by_found s (row.set_lengths i l) = one_found s (call_at s (row.set_lengths i l)) i
by_found s (row.update i l) = one_found s (call_at s (row.update i l)) i
by_found s (row.lookup v index) = none_found s (call_at s (row.lookup v index))
by_found s (row.rank v i) = one_found s (call_at s (row.rank v i)) i
by_found s (row.next i) = one_found s (call_at s (row.next i)) i
by_found s (row.compare i j) = two_found s (call_at s (row.compare i j)) i j
by_found s (row.lengths i) = one_found s (call_at s (row.lengths i)) i
by_found s row.count = none_found s (call_at s row.count)
by_found s row.first = none_found s (call_at s row.first)
by_found s row.malformed = none_found s (call_at s row.malformed)
