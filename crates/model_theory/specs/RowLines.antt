-- Line ends: no call of the row leaves an entry with too many, and no tree that stands for a row has such an entry.
use Rattle.std.specs.Prelude.{◌≡◌, Bool, cond, ◌&&◌, ltb, get_or}
use Rattle.std.proofs.Math.Path.{refl}
use Rattle.std.proofs.Common.{subst, le-ltb, ltb-false}
use Rattle.std.proofs.Math.Bool.{true, false}
use mathlib.Core.List.{List, [], ◌∷◌, zip_with}
use Prim.Native.Nat.{ℕ, zero, suc, ◌-◌, ◌≤◌}
use native.Mathlib.Omega.{arith}
use Rattle.model.specs.Kind.{too_many_lines}
use Rattle.model.specs.declared.shape.Kind.{Kind}
use Rattle.model.specs.Lists.{All}
use Rattle.model.specs.State.{State}
use Rattle.model.specs.Row as row
use Rattle.model.specs.Row.{Row, Entry, entry, Call, moved, refused, from, divided, overlong, row_move, row_step}
use Rattle.model.specs.Promise.{Represents}
use Rattle.model_theory.specs.RowEach.{from_all, inserted_all, changed_all, divided_all, unless_all, of_slots}

-- entries of which none has too many
abbrev pub FewIn : Kind → Entry → Type 0
FewIn K e = too_many_lines K e.lengths ≡ false

abbrev pub FewLines : Kind → List Entry → Type 0
FewLines K es = All (FewIn K) es

-- fewer are few
pub fewer : (K : Kind) (l m : List ℕ) → get_or m 2 0 ≤ get_or l 2 0 → too_many_lines K l ≡ false → too_many_lines K m ≡ false
fewer K l m le = go (ltb 2 K.views)
  where
    go : (b : Bool) → (b && ltb 65535 (get_or l 2 0)) ≡ false → (b && ltb 65535 (get_or m 2 0)) ≡ false
    go true e = le-ltb 65535 (get_or m 2 0) (let z = ltb-false 65535 (get_or l 2 0) e in omega arith)
    go false e = refl

module _ (K : Kind) where
  less_at : (xs ys : List ℕ) (v : ℕ) → get_or (zip_with ◌-◌ xs ys) v 0 ≤ get_or xs v 0
  unfolding zip_with
  less_at [] ys v = omega arith
  less_at (x ∷ xs) [] v = omega arith
  less_at (x ∷ xs) (y ∷ ys) zero = omega arith
  less_at (x ∷ xs) (y ∷ ys) (suc v) = less_at xs ys v

  -- what is left of a divided entry; none is left where there is no such entry
  rest_few : (l : List ℕ) (i : ℕ) (es : List Entry) → FewLines K es → too_many_lines K l ≡ false → too_many_lines K (zip_with ◌-◌ (get_or es 0 (entry i [])).lengths l) ≡ false
  unfolding All zip_with
  rest_few l i [] h f = fewer K l [] (omega arith) f
  rest_few l i (e ∷ es) h f = fewer K e.lengths (zip_with ◌-◌ e.lengths l) (less_at e.lengths l 2) h.0

  pub divided_few : (flag : Bool) (i : ℕ) (e : Entry) (es : List Entry) → FewIn K e → FewLines K es → FewLines K (divided flag i e es)
  divided_few flag i e es f h = divided_all (FewIn K) flag i e es f (rest_few e.lengths i (from i es) (from_all (FewIn K) i es h) f) h

  pub move_few : (r : Row) (c : Call) → overlong K c ≡ false → FewLines K r.entries → FewLines K (row_move K r c).after.entries
  unfolding row_move All
  move_few r (row.reset l) o h = unless_all (FewIn K) r _ _ _ h (λ e. (o, tt))
  move_few r (row.insert i l) o h = unless_all (FewIn K) r _ _ _ h (λ e. inserted_all (FewIn K) i _ r.entries o h)
  move_few r (row.split flag i l) o h = unless_all (FewIn K) r _ _ _ h (λ e. divided_few flag i _ r.entries o h)
  move_few r (row.set_lengths i l) o h = unless_all (FewIn K) r _ _ _ h (λ e. changed_all (FewIn K) i l r.entries o h)
  move_few r (row.update i l) o h = unless_all (FewIn K) r _ _ _ h (λ e. changed_all (FewIn K) i l r.entries o h)
  move_few r (row.lookup v x) o h = unless_all (FewIn K) r _ _ _ h (λ e. h)
  move_few r (row.rank v i) o h = unless_all (FewIn K) r _ _ _ h (λ e. h)
  move_few r (row.next i) o h = unless_all (FewIn K) r _ _ _ h (λ e. h)
  move_few r (row.compare i j) o h = unless_all (FewIn K) r _ _ _ h (λ e. h)
  move_few r (row.lengths i) o h = unless_all (FewIn K) r _ _ _ h (λ e. h)
  move_few r row.count o h = h
  move_few r row.first o h = h
  move_few r row.malformed o h = h

  -- no call leaves an entry with too many
  pub line_few : (r : Row) (c : Call) → FewLines K r.entries → FewLines K (row_step K r c).after.entries
  unfolding row_step
  line_few r c h = go (overlong K c) refl
    where
      go : (b : Bool) → overlong K c ≡ b → FewLines K (cond b (moved r (refused 10)) (row_move K r c)).after.entries
      go true o = h
      go false o = move_few r c o h

pub represents_few : (K : Kind) (t : State) (r : Row) → Represents K t r → FewLines K r.entries
represents_few K t r h = subst (FewLines K) h.entries (of_slots K t h.sound.coherent (λ l. too_many_lines K l ≡ false) h.sound.lines)
