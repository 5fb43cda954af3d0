-- 7 never arises from line ends: 65,537 entries of at most 65,535 each have 4,294,967,295 together, so that not even an insertion into a full tree,
-- where 7 is tested before 8, passes a u32 by them. Where a call answers 7, it is for prepare or effect.
use Rattle.std.specs.Prelude.{◌≡◌, ◌⊎◌, Bool, cond, ◌||◌, ℕ, suc, ◌+◌, ◌*◌, ◌≤◌, ◌<◌, ltb, eqb, length, drop}
use Rattle.std.proofs.Math.Path.{refl}
use Rattle.std.proofs.Common.{sym, ap, ◌∙◌, inl, inr, arith, length-append, le-ltb, ltb-true, ltb-false}
use Rattle.std.proofs.Math.Bool.{true, false}
use mathlib.Core.List.{List, [], ◌∷◌}
use Rattle.model.specs.Kind.{base, too_many_lines}
use Rattle.model.specs.Lists.{All, sum_by, some, range}
use Rattle.model.specs.State.{State}
use Rattle.model.specs.Row as row
use Rattle.model.specs.Row.{Row, Entry, entry, Call, Answer, done, unless, before, from, after, total, overlong, row_move, row_step}
use Rattle.model.specs.ById.{tree_step}
use Rattle.model.specs.Promise.{InWords, Represents}
use Rattle.model_theory.specs.CallSimulates.{count_is}
use Rattle.model_theory.specs.RowEach.{inserted_all, changed_all}
use Rattle.model_theory.specs.RowLines.{FewIn, FewLines, represents_few}
use Rattle.model_theory.specs.CallById.{step}
use Rattle.model_theory.specs.RowNumbers.{number_is, no_cause, comes_only}

at_most : (es : List Entry) → FewLines base es → total 2 es ≤ 65535 * length es
unfolding All sum_by
at_most [] h = omega arith
at_most (e ∷ es) h = (let z = at_most es h.1 in let y = ltb-false 65535 (row.length_in 2 e) h.0 in omega arith)

pub never_past : (es : List Entry) → FewLines base es → length es ≤ 65537 → ltb 4294967295 (total 2 es) ≡ false
never_past es h few = le-ltb 4294967295 (total 2 es) (let z = at_most es h in omega arith)

-- so the test of 7 is that of the two old lengths
abbrev pub past_old : List Entry → Bool
past_old es = some (λ v. ltb 4294967295 (total v es)) (0 ∷ 1 ∷ [])

pub old_views : (es : List Entry) → FewLines base es → length es ≤ 65537 → (row.past base es).applies ≡ past_old es
unfolding some range
old_views es h few = rw (never_past es h few)

pub around : (i : ℕ) (es : List Entry) → length (before i es) + length (from i es) ≡ length es
unfolding before from
around i [] = refl
around i (e ∷ es) = go (eqb e.id i) (around i es)
  where
    go : (b : Bool) → length (before i es) + length (from i es) ≡ length es → length (cond b [] (e ∷ before i es)) + length (cond b (e ∷ es) (from i es)) ≡ suc (length es)
    go true k = omega arith
    go false k = omega arith

pub one_more : (i : ℕ) (e : Entry) (es : List Entry) → length (row.inserted i e es) ≡ suc (length es)
one_more i e es = (let a = length-append (before i es) (e ∷ from i es) in let b = around i es in omega arith)

no_less : (i : ℕ) (l : List ℕ) (es : List Entry) → length (row.changed i l es) ≤ suc (length es)
no_less i l es = (let a = length-append (before i es) (entry i l ∷ after i es) in let b = around i es in let c = short (from i es) in omega arith)
  where
    short : (es : List Entry) → length (drop 1 es) ≤ length es
    short [] = omega arith
    short (e ∷ es) = omega arith

-- entries with a total in prepare or in effect past a u32
abbrev pub Passes : List Entry → Type 0
Passes es = (4294967295 < total 0 es) ⊎ (4294967295 < total 1 es)

passes_of : (es : List Entry) → past_old es ≡ true → Passes es
unfolding some
passes_of es e = go (ltb 4294967295 (total 0 es)) refl (ltb 4294967295 (total 1 es)) refl e
  where
    go : (a : Bool) → ltb 4294967295 (total 0 es) ≡ a → (b : Bool) → ltb 4294967295 (total 1 es) ≡ b → (a || (b || false)) ≡ true → Passes es
    go true p b q e = inl (ltb-true 4294967295 (total 0 es) p)
    go false p true q e = inr (ltb-true 4294967295 (total 1 es) q)
    go false p false q e = absurd (let z : ◌≡◌ {A = ℕ} 0 1 = cc in omega arith)

-- the entries that a call would leave, where it gives lengths that are added to a total
abbrev pub wanted : Row → Call → List Entry
wanted r (row.insert i l) = row.inserted i (row.new_entry r l) r.entries
wanted r (row.set_lengths i l) = row.changed i l r.entries
wanted r (row.update i l) = row.changed i l r.entries
wanted r (row.reset l) = r.entries
wanted r (row.split flag i l) = r.entries
wanted r (row.lookup v x) = r.entries
wanted r (row.rank v i) = r.entries
wanted r (row.next i) = r.entries
wanted r (row.compare i j) = r.entries
wanted r (row.lengths i) = r.entries
wanted r row.count = r.entries
wanted r row.first = r.entries
wanted r row.malformed = r.entries

-- a tree that stands for a row: an insertion, a change, and every call
module _ (t : State) (r : Row) (h : Represents base t r) where
  few : length r.entries ≤ 65536
  few = (let z = ap length h.entries in omega (arith, count_is base t h.sound.coherent, h.sound.coherent.entry_count, h.sound.coherent.limit_most))

  pub insert_seven : (i : ℕ) (l : List ℕ) → too_many_lines base l ≡ false
      → (row.past base (row.inserted i (row.new_entry r l) r.entries)).applies ≡ past_old (row.inserted i (row.new_entry r l) r.entries)
  insert_seven i l o =
      old_views (row.inserted i (row.new_entry r l) r.entries) (inserted_all (FewIn base) i (row.new_entry r l) r.entries o (represents_few base t r h))
      (let z = one_more i (row.new_entry r l) r.entries in let y = few in omega arith)

  pub set_seven : (i : ℕ) (l : List ℕ) → too_many_lines base l ≡ false → (row.past base (row.changed i l r.entries)).applies ≡ past_old (row.changed i l r.entries)
  set_seven i l o =
      old_views (row.changed i l r.entries) (changed_all (FewIn base) i l r.entries o (represents_few base t r h))
      (let z = no_less i l r.entries in let y = few in omega arith)

  set_by : (i : ℕ) (l vs : List ℕ) → (unless r (row.no_such_id r i ∷ row.crossed_bounds base l ∷ row.past base (row.changed i l r.entries) ∷ []) (row.changed i l r.entries) (done vs)).answer.number ≡ 7
      → (row.past base (row.changed i l r.entries)).applies ≡ true
  unfolding All
  set_by i l vs e = (comes_only 7 (row.no_such_id r i ∷ row.crossed_bounds base l ∷ []) [] (row.past base (row.changed i l r.entries)).applies (λ z. omega arith) ((λ z. omega arith), ((λ z. omega arith), tt)) tt (sym (number_is r _ _ _) ∙ e)).1

  -- every call that answers 7 would pass a u32 in prepare or in effect
  move_seven : (c : Call) → overlong base c ≡ false → (row_move base r c).answer.number ≡ 7 → Passes (wanted r c)
  unfolding row_move All
  move_seven (row.reset l) o e = absurd (no_cause 7 _ (λ z. omega arith) ((λ z. omega arith), tt) (sym (number_is r _ _ _) ∙ e))
  move_seven (row.insert i l) o e = passes_of (wanted r (row.insert i l)) (sym (insert_seven i l o) ∙ (comes_only 7 (row.no_such_place r i ∷ row.crossed_bounds base l ∷ []) (row.full r ∷ []) (row.past base (wanted r (row.insert i l))).applies (λ z. omega arith) ((λ z. omega arith), ((λ z. omega arith), tt)) ((λ z. omega arith), tt) (sym (number_is r _ _ _) ∙ e)).1)
  move_seven (row.split flag i l) o e = absurd (no_cause 7 _ (λ z. omega arith) ((λ z. omega arith), ((λ z. omega arith), ((λ z. omega arith), ((λ z. omega arith), ((λ z. omega arith), tt))))) (sym (number_is r _ _ _) ∙ e))
  move_seven (row.set_lengths i l) o e = passes_of (wanted r (row.set_lengths i l)) (sym (set_seven i l o) ∙ set_by i l _ e)
  move_seven (row.update i l) o e = passes_of (wanted r (row.update i l)) (sym (set_seven i l o) ∙ set_by i l _ e)
  move_seven (row.lookup v x) o e = absurd (no_cause 7 _ (λ z. omega arith) ((λ z. omega arith), tt) (sym (number_is r _ _ _) ∙ e))
  move_seven (row.rank v i) o e = absurd (no_cause 7 _ (λ z. omega arith) ((λ z. omega arith), tt) (sym (number_is r _ _ _) ∙ e))
  move_seven (row.next i) o e = absurd (no_cause 7 _ (λ z. omega arith) ((λ z. omega arith), tt) (sym (number_is r _ _ _) ∙ e))
  move_seven (row.compare i j) o e = absurd (no_cause 7 _ (λ z. omega arith) ((λ z. omega arith), ((λ z. omega arith), tt)) (sym (number_is r _ _ _) ∙ e))
  move_seven (row.lengths i) o e = absurd (no_cause 7 _ (λ z. omega arith) ((λ z. omega arith), tt) (sym (number_is r _ _ _) ∙ e))
  move_seven row.count o e = absurd (omega arith)
  move_seven row.first o e = absurd (omega arith)
  move_seven row.malformed o e = absurd (omega arith)

  pub seven : (c : Call) → InWords base c → (tree_step base t c).answer.number ≡ 7 → Passes (wanted r c)
  unfolding row_step
  seven c k e = go (overlong base c) refl (sym (ap (λ (a : Answer). a.number) (step base (omega arith) t r h c k).same) ∙ e)
    where
      go : (b : Bool) → overlong base c ≡ b → (cond b (row.moved r (row.refused 10)) (row_move base r c)).answer.number ≡ 7 → Passes (wanted r c)
      go true o q = absurd (omega arith)
      go false o q = move_seven c o q
