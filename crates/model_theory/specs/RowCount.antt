-- How many entries a row has after a call: one more after an insert or a split that is answered, as many as before after a call that has nothing to do
-- with seats. A call that names an entry of a tree's row finds it there.
use Rattle.std.proofs.Math.Path.{◌≡◌, refl}
use Rattle.std.proofs.Common.{sym, subst, arith, length-append, length-drop, leb-false, eqb-true}
use Rattle.std.specs.Prelude.{Bool, true, false, cond, ℕ, suc, ◌-◌, ◌<◌, eqb, length}
use mathlib.Core.List.{List, ◌∷◌, ◌++◌, zip_with}
use Rattle.model.specs.declared.shape.Kind.{Kind}
use Rattle.model.specs.Lists.{Cause, refusal}
use Rattle.model.specs.State.{State}
use Rattle.model.specs.Row as row
use Rattle.model.specs.Row.{Row, Call, Entry, entry, Answer, refused, moved, unless, before, from, after, divided, row_move}
use Rattle.model.specs.Sound.{Coherent, entries_of}
use Rattle.model.specs.SeatedList as list
use Rattle.model.specs.SeatedList.{deed}
use Rattle.model_theory.specs.CallOpen.{clear, entry_found}
use Rattle.model_theory.specs.CallSimulates.{row_of, count_is, from_is}
use Rattle.model_theory.specs.RowSeven.{around}

-- an entry that is there is replaced by one or by two
changed_count : (i : ℕ) (l : List ℕ) (es : List Entry) → 0 < length (from i es) → length (row.changed i l es) ≡ length es
changed_count i l es h = (let a = length-append (before i es) (entry i l ∷ after i es) in let b = around i es in let c = length-drop 1 (from i es) in omega arith)

pub divided_count : (flag : Bool) (i : ℕ) (e : Entry) (es : List Entry) → 0 < length (from i es) → length (divided flag i e es) ≡ suc (length es)
unfolding divided
divided_count flag i e es h = go flag
  where
    rest : Entry
    rest = entry i (zip_with ◌-◌ (row.lengths_of i es) e.lengths)

    go : (b : Bool) → length (before i es ++ cond b (e ∷ rest ∷ after i es) (rest ∷ e ∷ after i es)) ≡ suc (length es)
    go true = (let a = length-append (before i es) (e ∷ rest ∷ after i es) in let b = around i es in let c = length-drop 1 (from i es) in omega arith)
    go false = (let a = length-append (before i es) (rest ∷ e ∷ after i es) in let b = around i es in let c = length-drop 1 (from i es) in omega arith)

pub unless_count : (r : Row) (cs : List Cause) (es : List Entry) (a : Answer) → (refusal cs ≡ 0 → length es ≡ length r.entries) → length (unless r cs es a).after.entries ≡ length r.entries
unfolding unless
unless_count r cs es a h = go (eqb (refusal cs) 0) refl
  where
    go : (b : Bool) → eqb (refusal cs) 0 ≡ b → length (cond b (moved (row.row r.limit es) a) (moved r (refused (refusal cs)))).after.entries ≡ length r.entries
    go true e = h (eqb-true (refusal cs) 0 e)
    go false e = refl

module _ (K : Kind) (t : State) (w : Coherent K t) where
  -- the entry of an id that isn't refused by 4
  pub is_there : (i : ℕ) (cs : List Cause) → refusal (row.no_such_id (row_of K t) i ∷ cs) ≡ 0 → 0 < length (from i (entries_of K t))
  is_there i cs e =
      let lt : i < t.head.entries = (let z = leb-false (length (entries_of K t)) i (clear 4 _ cs (λ z. omega arith) e).0 in omega (arith, count_is K t w)) in
      subst (λ (es : List Entry). 0 < length es) (sym (from_is K t w i (entry_found K t w i lt))) (omega arith)

  -- a call that has nothing to do with seats
  pub other_count : (c : Call) → deed c ≡ list.nothing → length (row_move K (row_of K t) c).after.entries ≡ length (entries_of K t)
  unfolding row_move
  other_count (row.reset l) e = absurd (let z : ◌≡◌ {A = ℕ} 0 1 = cc in omega arith)
  other_count (row.insert i l) e = absurd (let z : ◌≡◌ {A = ℕ} 0 1 = cc in omega arith)
  other_count (row.split flag i l) e = absurd (let z : ◌≡◌ {A = ℕ} 0 1 = cc in omega arith)
  other_count (row.set_lengths i l) e = unless_count (row_of K t) _ _ _ (λ q. changed_count i l (entries_of K t) (is_there i _ q))
  other_count (row.update i l) e = unless_count (row_of K t) _ _ _ (λ q. changed_count i l (entries_of K t) (is_there i _ q))
  other_count (row.lookup v x) e = unless_count (row_of K t) _ _ _ (λ q. refl)
  other_count (row.rank v i) e = unless_count (row_of K t) _ _ _ (λ q. refl)
  other_count (row.next i) e = unless_count (row_of K t) _ _ _ (λ q. refl)
  other_count (row.compare i j) e = unless_count (row_of K t) _ _ _ (λ q. refl)
  other_count (row.lengths i) e = unless_count (row_of K t) _ _ _ (λ q. refl)
  other_count row.count e = refl
  other_count row.first e = refl
  other_count row.malformed e = refl
