-- Numbers 8 and 9: on a state that stands for a row, no call answers 9, one answers 8 only where the row holds its limit, and there no call adds an entry.
use Rattle.std.specs.Prelude.{◌≡◌, refl, ◌≢◌, Bool, true, false, cond, List, [], ◌∷◌, ◌++◌, ℕ, ◌≤◌, ◌<◌, eqb, leb, length}
use Rattle.std.proofs.Common.{sym, ap, ◌∙◌, arith, eq-eqb, ne_eqb, leb-true, le-leb}
use Rattle.std.proofs.Math.Decide.{ℕ_discrete}
use Rattle.model.specs.Kind.{too_many_lines}
use Rattle.model.specs.declared.shape.Kind.{Kind}
use Rattle.model.specs.Lists.{All, Cause, cause, refusal}
use Rattle.model.specs.State.{State}
use Rattle.model.specs.Row as row
use Rattle.model.specs.Row.{Row, Call, Entry, Answer, done, unless, overlong, row_move, row_step}
use Rattle.model.specs.ById.{tree_step}
use Rattle.model.specs.Promise.{InWords, Represents, Adds, earlier, Numbers}
use Rattle.model_tree.specs.Lists.{all_map}
use Rattle.model_theory.specs.CallOpen.{clear}
use Rattle.model_theory.specs.CallById.{step}

pub number_is : (r : Row) (cs : List Cause) (es : List Entry) (vs : List ℕ) → (unless r cs es (done vs)).answer.number ≡ refusal cs
unfolding unless
number_is r cs es vs = go (ℕ_discrete (refusal cs) 0)
  where
    go : Dec (refusal cs ≡ 0) → (cond (eqb (refusal cs) 0) (row.moved (row.row r.limit es) (done vs)) (row.moved r (row.refused (refusal cs)))).answer.number ≡ refusal cs
    go (yes e) = rw (eq-eqb (refusal cs) 0 e) (sym e)
    go (no ne) = rw (ne_eqb (refusal cs) 0 ne)

-- a number that none of the causes that apply has, and not 0
pub avoids : (x : ℕ) (cs : List Cause) → x ≢ 0 → All (λ c. c.applies ≡ true → c.number ≢ x) cs → refusal cs ≢ x
unfolding refusal All
avoids x [] o h e = o (sym e)
avoids x (c ∷ cs) o h e = go c.applies refl (avoids x cs o h.1) e
  where
    go : (a : Bool) → c.applies ≡ a → refusal cs ≢ x → cond a c.number (refusal cs) ≢ x
    go true p ih z = h.0 p z
    go false p ih z = ih z

-- and one that none of them has
pub no_cause : (x : ℕ) (cs : List Cause) → x ≢ 0 → All (λ c. c.number ≢ x) cs → refusal cs ≢ x
no_cause x cs o h = avoids x cs o (all_map (λ c. c.number ≢ x) (λ c. c.applies ≡ true → c.number ≢ x) (λ c ne p. ne) cs h)

-- a cause between others: it gives the number only where none before it applies, and then always
pub comes_only : (x : ℕ) (cs ds : List Cause) (b : Bool) → x ≢ 0 → All (λ c. c.number ≢ x) cs → All (λ c. c.number ≢ x) ds → refusal (cs ++ cause x b ∷ ds) ≡ x → (refusal cs ≡ 0) × (b ≡ true)
unfolding refusal All
comes_only x [] ds true o h k e = (refl, refl)
comes_only x [] ds false o h k e = absurd (no_cause x ds o k e)
comes_only x (c ∷ cs) ds b o h k e = go c.applies (comes_only x cs ds b o h.1 k) e
  where
    go : (a : Bool) → (refusal (cs ++ cause x b ∷ ds) ≡ x → (refusal cs ≡ 0) × (b ≡ true)) → cond a c.number (refusal (cs ++ cause x b ∷ ds)) ≡ x → (cond a c.number (refusal cs) ≡ 0) × (b ≡ true)
    go true ih z = absurd (h.0 z)
    go false ih z = ih z

pub comes_then : (x : ℕ) (cs ds : List Cause) (b : Bool) → All (λ c. c.number ≢ 0) cs → b ≡ true → refusal cs ≡ 0 → refusal (cs ++ cause x b ∷ ds) ≡ x
unfolding refusal All
comes_then x [] ds b h q e = rw q
comes_then x (c ∷ cs) ds b h q e = go c.applies (comes_then x cs ds b h.1 q) e
  where
    go : (a : Bool) → (refusal cs ≡ 0 → refusal (cs ++ cause x b ∷ ds) ≡ x) → cond a c.number (refusal cs) ≡ 0 → cond a c.number (refusal (cs ++ cause x b ∷ ds)) ≡ x
    go true ih z = absurd (h.0 z)
    go false ih z = ih z

-- 8 behind others, where it applies
never_done : (cs : List Cause) (b : Bool) → All (λ c. c.number ≢ 0) cs → b ≡ true → refusal (cs ++ cause 8 b ∷ []) ≢ 0
unfolding refusal All
never_done [] b h q e = (let z : ◌≡◌ {A = ℕ} 8 0 = rw q at e in omega arith)
never_done (c ∷ cs) b h q e = go c.applies (never_done cs b h.1 q) e
  where
    go : (a : Bool) → refusal (cs ++ cause 8 b ∷ []) ≢ 0 → cond a c.number (refusal (cs ++ cause 8 b ∷ [])) ≢ 0
    go true ih z = h.0 z
    go false ih z = ih z

-- the row's causes before its limit is asked
abbrev inserting : Kind → Row → ℕ → List ℕ → List Cause
inserting K r i l = row.no_such_place r i ∷ row.crossed_bounds K l ∷ row.past K (row.inserted i (row.new_entry r l) r.entries) ∷ []

abbrev splitting : Kind → Row → ℕ → List ℕ → List Cause
splitting K r i l = row.no_such_id r i ∷ row.too_much K l (row.lengths_of i r.entries) ∷ row.hollow_part K l (row.lengths_of i r.entries) ∷ row.crossed_parts K l (row.lengths_of i r.entries) ∷ []

move_eight : (K : Kind) (r : Row) (c : Call) → (row_move K r c).answer.number ≡ 8 → r.limit ≤ length r.entries
unfolding row_move All
move_eight K r (row.reset l) e = absurd (no_cause 8 _ (λ z. omega arith) ((λ z. omega arith), tt) (sym (number_is r _ _ _) ∙ e))
move_eight K r (row.insert i l) e = leb-true r.limit (length r.entries) (comes_only 8 (inserting K r i l) [] (leb r.limit (length r.entries)) (λ z. omega arith) ((λ z. omega arith), ((λ z. omega arith), ((λ z. omega arith), tt))) tt (sym (number_is r _ _ _) ∙ e)).1
move_eight K r (row.split flag i l) e = leb-true r.limit (length r.entries) (comes_only 8 (splitting K r i l) [] (leb r.limit (length r.entries)) (λ z. omega arith) ((λ z. omega arith), ((λ z. omega arith), ((λ z. omega arith), ((λ z. omega arith), tt)))) tt (sym (number_is r _ _ _) ∙ e)).1
move_eight K r (row.set_lengths i l) e = absurd (no_cause 8 _ (λ z. omega arith) ((λ z. omega arith), ((λ z. omega arith), ((λ z. omega arith), tt))) (sym (number_is r _ _ _) ∙ e))
move_eight K r (row.update i l) e = absurd (no_cause 8 _ (λ z. omega arith) ((λ z. omega arith), ((λ z. omega arith), ((λ z. omega arith), tt))) (sym (number_is r _ _ _) ∙ e))
move_eight K r (row.lookup v x) e = absurd (no_cause 8 _ (λ z. omega arith) ((λ z. omega arith), tt) (sym (number_is r _ _ _) ∙ e))
move_eight K r (row.rank v i) e = absurd (no_cause 8 _ (λ z. omega arith) ((λ z. omega arith), tt) (sym (number_is r _ _ _) ∙ e))
move_eight K r (row.next i) e = absurd (no_cause 8 _ (λ z. omega arith) ((λ z. omega arith), tt) (sym (number_is r _ _ _) ∙ e))
move_eight K r (row.compare i j) e = absurd (no_cause 8 _ (λ z. omega arith) ((λ z. omega arith), ((λ z. omega arith), tt)) (sym (number_is r _ _ _) ∙ e))
move_eight K r (row.lengths i) e = absurd (no_cause 8 _ (λ z. omega arith) ((λ z. omega arith), tt) (sym (number_is r _ _ _) ∙ e))
move_eight K r row.count e = absurd (omega arith)
move_eight K r row.first e = absurd (omega arith)
move_eight K r row.malformed e = absurd (omega arith)

-- never 9
move_nine : (K : Kind) (r : Row) (c : Call) → (row_move K r c).answer.number ≢ 9
unfolding row_move All
move_nine K r (row.reset l) e = no_cause 9 _ (λ z. omega arith) ((λ z. omega arith), tt) (sym (number_is r _ _ _) ∙ e)
move_nine K r (row.insert i l) e = no_cause 9 _ (λ z. omega arith) ((λ z. omega arith), ((λ z. omega arith), ((λ z. omega arith), ((λ z. omega arith), tt)))) (sym (number_is r _ _ _) ∙ e)
move_nine K r (row.split flag i l) e = no_cause 9 _ (λ z. omega arith) ((λ z. omega arith), ((λ z. omega arith), ((λ z. omega arith), ((λ z. omega arith), ((λ z. omega arith), tt))))) (sym (number_is r _ _ _) ∙ e)
move_nine K r (row.set_lengths i l) e = no_cause 9 _ (λ z. omega arith) ((λ z. omega arith), ((λ z. omega arith), ((λ z. omega arith), tt))) (sym (number_is r _ _ _) ∙ e)
move_nine K r (row.update i l) e = no_cause 9 _ (λ z. omega arith) ((λ z. omega arith), ((λ z. omega arith), ((λ z. omega arith), tt))) (sym (number_is r _ _ _) ∙ e)
move_nine K r (row.lookup v x) e = no_cause 9 _ (λ z. omega arith) ((λ z. omega arith), tt) (sym (number_is r _ _ _) ∙ e)
move_nine K r (row.rank v i) e = no_cause 9 _ (λ z. omega arith) ((λ z. omega arith), tt) (sym (number_is r _ _ _) ∙ e)
move_nine K r (row.next i) e = no_cause 9 _ (λ z. omega arith) ((λ z. omega arith), tt) (sym (number_is r _ _ _) ∙ e)
move_nine K r (row.lengths i) e = no_cause 9 _ (λ z. omega arith) ((λ z. omega arith), tt) (sym (number_is r _ _ _) ∙ e)
move_nine K r (row.compare i j) e = no_cause 9 _ (λ z. omega arith) ((λ z. omega arith), ((λ z. omega arith), tt)) (sym (number_is r _ _ _) ∙ e)
move_nine K r row.count e = absurd (omega arith)
move_nine K r row.first e = absurd (omega arith)
move_nine K r row.malformed e = absurd (omega arith)

move_full : (K : Kind) (r : Row) (c : Call) → Adds c → r.limit ≤ length r.entries → (row_move K r c).answer.number ≢ 0
unfolding row_move All
move_full K r (row.insert i l) h f e = never_done (inserting K r i l) (leb r.limit (length r.entries)) ((λ z. omega arith), ((λ z. omega arith), ((λ z. omega arith), tt))) (le-leb r.limit (length r.entries) f) (sym (number_is r _ _ _) ∙ e)
move_full K r (row.split flag i l) h f e = never_done (splitting K r i l) (leb r.limit (length r.entries)) ((λ z. omega arith), ((λ z. omega arith), ((λ z. omega arith), ((λ z. omega arith), tt)))) (le-leb r.limit (length r.entries) f) (sym (number_is r _ _ _) ∙ e)
move_full K r (row.reset l) h f e = absurd h
move_full K r (row.set_lengths i l) h f e = absurd h
move_full K r (row.update i l) h f e = absurd h
move_full K r (row.lookup v x) h f e = absurd h
move_full K r (row.rank v i) h f e = absurd h
move_full K r (row.next i) h f e = absurd h
move_full K r (row.compare i j) h f e = absurd h
move_full K r (row.lengths i) h f e = absurd h
move_full K r row.count h f e = absurd h
move_full K r row.first h f e = absurd h
move_full K r row.malformed h f e = absurd h

-- every call: one that gives too many line ends answers 10
by_number : (P : ℕ → Type 0) (K : Kind) (r : Row) (c : Call) → P 10 → P (row_move K r c).answer.number → P (row_step K r c).answer.number
unfolding row_step
by_number P K r c ten h = go (overlong K c)
  where
    go : (b : Bool) → P (cond b (row.moved r (row.refused 10)) (row_move K r c)).answer.number
    go true = ten
    go false = h

row_eight : (K : Kind) (r : Row) (c : Call) → (row_step K r c).answer.number ≡ 8 → r.limit ≤ length r.entries
row_eight K r c = by_number (λ n. n ≡ 8 → r.limit ≤ length r.entries) K r c (λ e. absurd (omega arith)) (move_eight K r c)

-- the row never answers 9
pub row_nine : (K : Kind) (r : Row) (c : Call) → (row_step K r c).answer.number ≢ 9
row_nine K r c = by_number (λ n. n ≢ 9) K r c (λ e. omega arith) (move_nine K r c)

row_full : (K : Kind) (r : Row) (c : Call) → Adds c → r.limit ≤ length r.entries → (row_step K r c).answer.number ≢ 0
row_full K r c d f = by_number (λ n. n ≢ 0) K r c (λ e. omega arith) (move_full K r c d f)

row_exactly : (K : Kind) (r : Row) (c : Call) → Adds c → earlier K r c ≡ 0 → r.limit ≤ length r.entries → (row_step K r c).answer.number ≡ 8
unfolding row_move row_step All
row_exactly K r (row.insert i l) h z f =
    let y = clear 10 (too_many_lines K l) _ (λ z. omega arith) z in
    rw y.0 (number_is r _ _ _ ∙ comes_then 8 (inserting K r i l) [] (leb r.limit (length r.entries)) ((λ z. omega arith), ((λ z. omega arith), ((λ z. omega arith), tt))) (le-leb r.limit (length r.entries) f) y.1)
row_exactly K r (row.split flag i l) h z f =
    let y = clear 10 (too_many_lines K l) _ (λ z. omega arith) z in
    rw y.0 (number_is r _ _ _ ∙ comes_then 8 (splitting K r i l) [] (leb r.limit (length r.entries)) ((λ z. omega arith), ((λ z. omega arith), ((λ z. omega arith), ((λ z. omega arith), tt)))) (le-leb r.limit (length r.entries) f) y.1)
row_exactly K r (row.reset l) h z f = absurd h
row_exactly K r (row.set_lengths i l) h z f = absurd h
row_exactly K r (row.update i l) h z f = absurd h
row_exactly K r (row.lookup v x) h z f = absurd h
row_exactly K r (row.rank v i) h z f = absurd h
row_exactly K r (row.next i) h z f = absurd h
row_exactly K r (row.compare i j) h z f = absurd h
row_exactly K r (row.lengths i) h z f = absurd h
row_exactly K r row.count h z f = absurd h
row_exactly K r row.first h z f = absurd h
row_exactly K r row.malformed h z f = absurd h

-- so it is on the tree
pub numbers_are : (K : Kind) (ok : K.effect < K.views) (s : State) (r : Row) → Represents K s r → (c : Call) → InWords K c → Numbers K s r c
numbers_are K ok s r h c k =
    let a : (tree_step K s c).answer.number ≡ (row_step K r c).answer.number = ap (λ (x : Answer). x.number) (step K ok s r h c k).same in
    record { nine = λ e. row_nine K r c (sym a ∙ e); only = λ e. row_eight K r c (sym a ∙ e); always = λ d f e. row_full K r c d f (sym a ∙ e); exactly = λ d z f. a ∙ row_exactly K r c d z f }
