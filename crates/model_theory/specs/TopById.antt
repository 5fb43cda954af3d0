-- The list theorem (document 01, "The plain row"): from every make that isn't refused, every list of calls gets the row's answers,
-- and the state is sound and stands for the row at each of them; two lists alike but for lookups give their other calls the same answers.
use Rattle.model.specs.Numbered.{Numbered}
use Rattle.std.proofs.Math.Path.{◌≡◌, refl, sym, ap, subst}
use Rattle.std.proofs.Common.{ap₂, ◌∙◌, arith}
use Rattle.std.specs.Prelude.{Bool, true, false, cond, List, [], ◌∷◌, length, eqb, Ok, Err, None}
use Prim.Native.Nat.{ℕ, zero, suc, ◌*◌, ◌^◌, ◌≤◌, ◌<◌}
use Rattle.model.specs.Kind.{stride, too_many_lines, crossed}
use Rattle.model.specs.declared.shape.Kind.{Kind}
use Rattle.model.specs.Lists.{All, Cause, refusal}
use Rattle.model.specs.Node.{half}
use Rattle.model.specs.State.{State, state, head_of}
use Rattle.model.specs.Row as row
use Rattle.model.specs.Row.{Row, Entry, Call, Answer, done, refused, moved, unless, made_row, row_move, row_step}
use Rattle.model.specs.ById.{tree_step}
use Rattle.model.specs.Calls as calls
use Rattle.model.specs.Calls.{make, begun, area_causes, make_causes}
use Rattle.model.specs.Promise.{Words, InWords, answers, finally, is_lookup, others, other_answers, Represents, Invariant, Along, Demand3}
use Rattle.model_tree.specs.Follows.{levels_most, entry_floor}
use Rattle.model_theory.specs.LiftTree.{tree_of}
use Rattle.model_theory.specs.LiftSound.{body_of}
use Rattle.model_theory.specs.CallOpen.{passed, stopped, clear}
use Rattle.model_theory.specs.CallSimulates.{Simulates, count_is, ids_below}
use Rattle.model_theory.specs.CallMake.{sizes_of, level_made, begun_mirrors}
use Rattle.model_theory.specs.RowBounds.{represents_of}
use Rattle.model_theory.specs.CallById.{step}
use Rattle.model_theory.specs.RowNumbers.{numbers_are}
use Rattle.model_theory.specs.RowHollow.{parts_are}
use Rattle.model_theory.specs.LookupRow.{examines_are}
use Rattle.model_theory.specs.AnyFixed.{step_fixed}

pub invariant_of : (K : Kind) (ok : K.effect < K.views) (fan : ℕ) (s : State) (r : Row) → Represents K s r → s.head.fan ≡ fan → Invariant K fan s r
invariant_of K ok fan s r h f =
    let n : s.head.entries ≡ length r.entries = sym (count_is K s h.sound.coherent) ∙ ap length h.entries in
    let b = body_of (stride K) s K.effect h.sound.coherent in
    record {
      sound = h.sound;
      entries = h.entries;
      fan_is = f;
      limit = h.limit;
      count = n;
      within = (let z = h.sound.coherent.entry_count in let y = h.limit in omega arith);
      levels = levels_most (tree_of (stride K) s) b;
      floor = λ two. subst (λ (m : ℕ). 2 * half m ^ s.head.levels ≤ length r.entries) f (let z = entry_floor (tree_of (stride K) s) b two in omega arith);
      numbers = numbers_are K ok s r h;
      parts = parts_are K r (subst (λ (es : List Entry). All (λ e. e.id < length es) es) h.entries (ids_below K s h.sound.coherent));
      examines = examines_are K ok s r h;
    }

never : false ≡ true → ⊥
never e = let z : ◌≡◌ {A = ℕ} 0 1 = cc in omega arith

-- a lookup leaves the row as it was
unless_keeps : (r : Row) (cs : List Cause) (a : Answer) → (unless r cs r.entries a).after ≡ r
unfolding unless
unless_keeps r cs a = go (eqb (refusal cs) 0)
  where
    go : (b : Bool) → (cond b (moved (row.row r.limit r.entries) a) (moved r (refused (refusal cs)))).after ≡ r
    go true = refl
    go false = refl

lookup_keeps : (K : Kind) (r : Row) (c : Call) → is_lookup c ≡ true → (row_step K r c).after ≡ r
unfolding row_move row_step
lookup_keeps K r (row.lookup v x) e = unless_keeps r (row.no_such_position r v x ∷ []) (done (row.found K v x 0 0 0 r.entries))
lookup_keeps K r (row.reset l) e = absurd (never e)
lookup_keeps K r (row.insert i l) e = absurd (never e)
lookup_keeps K r (row.split flag i l) e = absurd (never e)
lookup_keeps K r (row.set_lengths i l) e = absurd (never e)
lookup_keeps K r (row.update i l) e = absurd (never e)
lookup_keeps K r (row.rank v i) e = absurd (never e)
lookup_keeps K r (row.next i) e = absurd (never e)
lookup_keeps K r (row.compare i j) e = absurd (never e)
lookup_keeps K r (row.lengths i) e = absurd (never e)
lookup_keeps K r row.count e = absurd (never e)
lookup_keeps K r row.first e = absurd (never e)
lookup_keeps K r row.malformed e = absurd (never e)

pub runs_alike : (K : Kind) (ok : K.effect < K.views) (s : State) (r : Row) (cs : List Call) → Represents K s r → All (InWords K) cs → (answers (tree_step K) s cs ≡ answers (row_step K) r cs) × Represents K (finally (tree_step K) s cs) (finally (row_step K) r cs)
unfolding answers finally All
runs_alike K ok s r [] h k = (refl, h)
runs_alike K ok s r (c ∷ cs) h k =
    let a : Simulates (Represents K) (tree_step K s c) (row_step K r c) = step K ok s r h c k.0 in
    let i = runs_alike K ok (tree_step K s c).after (row_step K r c).after cs a.kept k.1 in
    (ap₂ ◌∷◌ a.same i.0, i.1)

along : (K : Kind) (ok : K.effect < K.views) (fan : ℕ) (s : State) (r : Row) (cs : List Call) → Represents K s r → s.head.fan ≡ fan → All (InWords K) cs → Along K fan s r cs
unfolding Along All
along K ok fan s r [] h f k = invariant_of K ok fan s r h f
along K ok fan s r (c ∷ cs) h f k =
    let a : Simulates (Represents K) (tree_step K s c) (row_step K r c) = step K ok s r h c k.0 in
    (invariant_of K ok fan s r h f, a.same, along K ok fan (tree_step K s c).after (row_step K r c).after cs a.kept ((step_fixed K s c).fan ∙ f) k.1)

others_alike : (K : Kind) (ok : K.effect < K.views) (s : State) (r : Row) (cs : List Call) → Represents K s r → All (InWords K) cs → other_answers (tree_step K) s cs ≡ answers (row_step K) r (others cs)
unfolding answers other_answers others All
others_alike K ok s r [] h k = refl
others_alike K ok s r (c ∷ cs) h k =
    let a : Simulates (Represents K) (tree_step K s c) (row_step K r c) = step K ok s r h c k.0 in
    other (is_lookup c) refl a.same (others_alike K ok (tree_step K s c).after (row_step K r c).after cs a.kept k.1)
  where
    other : (b : Bool) → is_lookup c ≡ b → (tree_step K s c).answer ≡ (row_step K r c).answer → other_answers (tree_step K) (tree_step K s c).after cs ≡ answers (row_step K) (row_step K r c).after (others cs)
        → cond (is_lookup c) (other_answers (tree_step K) (tree_step K s c).after cs) ((tree_step K s c).answer ∷ other_answers (tree_step K) (tree_step K s c).after cs) ≡ answers (row_step K) r (cond (is_lookup c) (others cs) (c ∷ others cs))
    other true q e i = rw q (i ∙ ap (λ (z : Row). answers (row_step K) z (others cs)) (lookup_keeps K r c q))
    other false q e i = rw q (ap₂ ◌∷◌ e i)

-- no call changes the fan
pub fan_kept : (K : Kind) (s : State) (cs : List Call) → (finally (tree_step K) s cs).head.fan ≡ s.head.fan
unfolding finally
fan_kept K s [] = refl
fan_kept K s (c ∷ cs) = fan_kept K (tree_step K s c).after cs ∙ (step_fixed K s c).fan

-- make, not refused
module _ (K : Kind) (ok : K.effect < K.views) (fan limit : ℕ) (l : List ℕ) (ls xs hs : List ℕ) (small : Words K l) (given : (make K fan limit l ls xs hs).answer ≡ Ok tt) where
  not_refused : refusal (make_causes K fan limit l ls xs hs) ≡ 0
  unfolding make
  not_refused = go (refusal (make_causes K fan limit l ls xs hs)) refl
    where
      go : (n : ℕ) → refusal (make_causes K fan limit l ls xs hs) ≡ n → refusal (make_causes K fan limit l ls xs hs) ≡ 0
      go zero e = e
      go (suc n) e = absurd (let q : Err (suc n) ≡ Ok tt = sym (ap (λ (r : calls.Reply (Numbered (Unit {0}))). r.answer) (stopped (make_causes K fan limit l ls xs hs) (λ n. calls.reply (state (head_of 0 0 0 0 0 0 0 0 None) ls xs hs) (Err n)) _ n e)) ∙ given in
          let z : ◌≡◌ {A = ℕ} 0 1 = cc in omega arith)

  passes : (too_many_lines K l ≡ false) × (refusal (area_causes K fan limit ls xs hs) ≡ 0) × (crossed K l ≡ false)
  passes = let y = clear 10 (too_many_lines K l) _ (λ z. omega arith) not_refused in let z = level_made K fan limit l ls xs hs y.1 in (y.0, z.0, z.1)

  pub made_is : make K fan limit l ls xs hs ≡ calls.reply (begun K fan limit 1 l ls xs hs) (Ok tt)
  unfolding make
  made_is = passed (make_causes K fan limit l ls xs hs) (λ n. calls.reply (state (head_of 0 0 0 0 0 0 0 0 None) ls xs hs) (Err n)) (calls.reply (begun K fan limit 1 l ls xs hs) (Ok tt)) not_refused

  pub made : Represents K (make K fan limit l ls xs hs).after (made_row limit l)
  unfolding All
  made = subst (λ (r : calls.Reply (Numbered (Unit {0}))). Represents K r.after (made_row limit l)) (sym made_is)
      (represents_of K (begun K fan limit 1 l ls xs hs) (made_row limit l) (begun_mirrors K fan limit 1 l ls xs hs (sizes_of K fan limit ls xs hs passes.1) small) (passes.0, tt) (passes.2, tt))

  pub fan_made : (make K fan limit l ls xs hs).after.head.fan ≡ fan
  unfolding begun
  fan_made = ap (λ (r : calls.Reply (Numbered (Unit {0}))). r.after.head.fan) made_is

  -- every list of calls: the answers are the row's, and the state left is kept
  pub whole : (cs : List Call) → All (InWords K) cs
      → (answers (tree_step K) (make K fan limit l ls xs hs).after cs ≡ answers (row_step K) (made_row limit l) cs)
      × Invariant K fan (finally (tree_step K) (make K fan limit l ls xs hs).after cs) (finally (row_step K) (made_row limit l) cs)
  whole cs k =
      let s = (make K fan limit l ls xs hs).after in
      let r = runs_alike K ok s (made_row limit l) cs made k in
      (r.0, invariant_of K ok fan (finally (tree_step K) s cs) (finally (row_step K) (made_row limit l) cs) r.1 (fan_kept K s cs ∙ fan_made))

  -- the same after each call
  pub each : (cs : List Call) → All (InWords K) cs → Along K fan (make K fan limit l ls xs hs).after (made_row limit l) cs
  each cs k = along K ok fan (make K fan limit l ls xs hs).after (made_row limit l) cs made fan_made k

-- two lists alike but for lookups, from areas that held anything and at any two fans
pub alike : (K : Kind) (ok : K.effect < K.views) (limit : ℕ) (l : List ℕ) → Words K l
    → (fan : ℕ) (ls xs hs : List ℕ) → (make K fan limit l ls xs hs).answer ≡ Ok tt
    → (fan' : ℕ) (ls' xs' hs' : List ℕ) → (make K fan' limit l ls' xs' hs').answer ≡ Ok tt
    → (cs ds : List Call) → All (InWords K) cs → All (InWords K) ds → others cs ≡ others ds
    → other_answers (tree_step K) (make K fan limit l ls xs hs).after cs ≡ other_answers (tree_step K) (make K fan' limit l ls' xs' hs').after ds
alike K ok limit l small fan ls xs hs given fan' ls' xs' hs' given' cs ds k m e =
    others_alike K ok (make K fan limit l ls xs hs).after (made_row limit l) cs (made K ok fan limit l ls xs hs small given) k ∙ ap (answers (row_step K) (made_row limit l)) e
    ∙ sym (others_alike K ok (make K fan' limit l ls' xs' hs').after (made_row limit l) ds (made K ok fan' limit l ls' xs' hs' small given') m)

-- demand 3 whole
pub demand3 : (K : Kind) → K.effect < K.views → (fan limit : ℕ) (l ls xs hs : List ℕ) → Words K l → (make K fan limit l ls xs hs).answer ≡ Ok tt → Demand3 K fan limit l ls xs hs
demand3 K ok fan limit l ls xs hs small given =
    record {
      answered = λ cs k. (whole K ok fan limit l ls xs hs small given cs k).0;
      each = each K ok fan limit l ls xs hs small given;
      alike = λ fan' ls' xs' hs' given'. alike K ok limit l small fan ls xs hs given fan' ls' xs' hs' given';
    }
