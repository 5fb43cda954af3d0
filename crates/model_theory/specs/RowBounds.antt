-- Bounds: no call of the row leaves an entry whose lowest length is above its highest. A coherent state that has a row's entries is sound exactly
-- where these have neither crossed bounds nor too many line ends.
use Rattle.std.specs.Prelude.{◌≡◌, Bool, cond, ℕ, ◌-◌}
use Rattle.std.proofs.Common.{sym, subst, arith}
use Rattle.std.proofs.Math.Bool.{true, false}
use mathlib.Core.List.{List, [], ◌∷◌, zip_with}
use Rattle.model.specs.Kind.{too_many_lines, crossed}
use Rattle.model.specs.declared.shape.Kind.{Kind}
use Rattle.model.specs.Lists.{All, Cause, refusal}
use Rattle.model.specs.State.{State}
use Rattle.model.specs.Row as row
use Rattle.model.specs.Row.{Row, Entry, Call, moved, refused, overlong, row_move, row_step}
use Rattle.model.specs.Promise.{Represents}
use Rattle.model_theory.specs.RowViews.{or_false}
use Rattle.model_theory.specs.CallOpen.{clear}
use Rattle.model_theory.specs.CallSimulates.{Mirrors}
use Rattle.model_theory.specs.RowEach.{inserted_all, changed_all, divided_all, unless_all, of_slots, to_slots}
use Rattle.model_theory.specs.RowLines.{FewLines}

-- entries of which none has crossed bounds
abbrev pub LevelIn : Kind → Entry → Type 0
LevelIn K e = crossed K e.lengths ≡ false

abbrev pub Level : Kind → List Entry → Type 0
Level K es = All (LevelIn K) es

module _ (K : Kind) where
  -- an insert and a split that their causes let pass, whatever stands behind these
  pub inserted_level : (room : List Cause) (r : Row) (i : ℕ) (l : List ℕ) → Level K r.entries → refusal (row.no_such_place r i ∷ row.crossed_bounds K l ∷ room) ≡ 0 → Level K (row.inserted i (row.new_entry r l) r.entries)
  inserted_level room r i l h e = inserted_all (LevelIn K) i _ r.entries (clear 20 (crossed K l) room (λ z. omega arith) (clear 4 (row.no_such_place r i).applies _ (λ z. omega arith) e).1).0 h

  pub divided_level : (room : List Cause) (r : Row) (flag : Bool) (i : ℕ) (l : List ℕ) → Level K r.entries
      → (let own = row.lengths_of i r.entries in refusal (row.no_such_id r i ∷ row.too_much K l own ∷ row.hollow_part K l own ∷ row.crossed_parts K l own ∷ room) ≡ 0) → Level K (row.divided flag i (row.new_entry r l) r.entries)
  divided_level room r flag i l h e =
      let own = row.lengths_of i r.entries in
      let a = clear 4 (row.no_such_id r i).applies _ (λ z. omega arith) e in
      let b = clear 6 (row.too_much K l own).applies _ (λ z. omega arith) a.1 in
      let c = clear 17 (row.hollow_part K l own).applies _ (λ z. omega arith) b.1 in
      let d = clear 20 (row.crossed_parts K l own).applies room (λ z. omega arith) c.1 in
      let f = or_false (crossed K l) (crossed K (zip_with ◌-◌ own l)) d.0 in
      divided_all (LevelIn K) flag i _ r.entries f.0 f.1 h

  pub move_level : (r : Row) (c : Call) → Level K r.entries → Level K (row_move K r c).after.entries
  unfolding row_move All
  move_level r (row.reset l) h = unless_all (LevelIn K) r _ _ _ h (λ e. ((clear 20 (crossed K l) [] (λ z. omega arith) e).0, tt))
  move_level r (row.insert i l) h = unless_all (LevelIn K) r _ _ _ h (inserted_level _ r i l h)
  move_level r (row.split flag i l) h = unless_all (LevelIn K) r _ _ _ h (divided_level _ r flag i l h)
  move_level r (row.set_lengths i l) h = unless_all (LevelIn K) r _ _ _ h
      (λ e. changed_all (LevelIn K) i l r.entries (clear 20 (crossed K l) _ (λ z. omega arith) (clear 4 (row.no_such_id r i).applies _ (λ z. omega arith) e).1).0 h)
  move_level r (row.update i l) h = unless_all (LevelIn K) r _ _ _ h
      (λ e. changed_all (LevelIn K) i l r.entries (clear 20 (crossed K l) _ (λ z. omega arith) (clear 4 (row.no_such_id r i).applies _ (λ z. omega arith) e).1).0 h)
  move_level r (row.lookup v x) h = unless_all (LevelIn K) r _ _ _ h (λ e. h)
  move_level r (row.rank v i) h = unless_all (LevelIn K) r _ _ _ h (λ e. h)
  move_level r (row.next i) h = unless_all (LevelIn K) r _ _ _ h (λ e. h)
  move_level r (row.compare i j) h = unless_all (LevelIn K) r _ _ _ h (λ e. h)
  move_level r (row.lengths i) h = unless_all (LevelIn K) r _ _ _ h (λ e. h)
  move_level r row.count h = h
  move_level r row.first h = h
  move_level r row.malformed h = h

  -- no call leaves an entry with crossed bounds
  pub step_level : (r : Row) (c : Call) → Level K r.entries → Level K (row_step K r c).after.entries
  unfolding row_step
  step_level r c h = go (overlong K c)
    where
      go : (b : Bool) → Level K (cond b (moved r (refused 10)) (row_move K r c)).after.entries
      go true = h
      go false = move_level r c h

pub represents_level : (K : Kind) (t : State) (r : Row) → Represents K t r → Level K r.entries
represents_level K t r h = subst (Level K) h.entries (of_slots K t h.sound.coherent (λ l. crossed K l ≡ false) h.sound.bounds)

pub represents_of : (K : Kind) (t : State) (r : Row) → Mirrors K t r → FewLines K r.entries → Level K r.entries → Represents K t r
represents_of K t r h f g = record {
  sound = record {
    coherent = h.coherent;
    lines = to_slots K t h.coherent (λ l. too_many_lines K l ≡ false) (subst (FewLines K) (sym h.entries) f);
    bounds = to_slots K t h.coherent (λ l. crossed K l ≡ false) (subst (Level K) (sym h.entries) g);
  };
  entries = h.entries;
  limit = h.limit;
}
