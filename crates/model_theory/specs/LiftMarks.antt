-- A slot and the child that it names agree: in the words of the nodes, and as the equation between neighbouring levels. Assumes nothing.
use Rattle.std.specs.Prelude.{◌≡◌, refl, ℕ, zero, suc, ◌+◌, ◌≤◌, ◌<◌, length, get_or}
use Rattle.std.proofs.Common.{sym, ap, ap₂, ◌∙◌, subst, add-zero, add-suc, suc-add, not-suc-le-zero, arith}
use Rattle.std.proofs.Math.Path.{fun_ext}
use mathlib.Core.List.{List, [], ◌∷◌, map, head-eq_of_cons-eq, tail-eq_of_cons-eq}
use Rattle.std.proofs.Math.Decide.{dec_lt}
use Rattle.std.proofs.Math.ListN.{get_or-eq_default}
use Rattle.model.specs.Lists.{All, sum_by}
use Rattle.model.specs.Node as node
use Rattle.model.specs.Node.{Node, child, length_in, used}
use Rattle.model_laws.specs.Slots.{Wide}
use Rattle.model_tree.specs.Levels.{no_slot, Slot, Area, Mark, marks, said, total}
use Rattle.model_theory.specs.LiftTree.{slot_of, slots_of, sum_slots}

-- the area of the nodes that a function gives
abbrev pub area_from : (ℕ → Node) → Area
area_from N = record { slots = λ k. slots_of (N k); parent = λ k. (N k).parent; place = λ k. (N k).at }

-- slot x of node p, at place i, and its child
pub record Marked (N : ℕ → Node) (p i : ℕ) (x : List ℕ) : Type 0 where
  pub parent : (N (child x)).parent ≡ p
  pub at : (N (child x)).at ≡ i
  pub sums : (v : ℕ) → length_in v x ≡ node.total v (used (N (child x)))

-- past its last length a slot has none
pub wide_past : (s : ℕ) (x : List ℕ) (v : ℕ) → length x ≡ s → s ≤ suc v → length_in v x ≡ 0
wide_past s x v e h = get_or-eq_default x 0 (omega arith)

pub total_past : (s : ℕ) (xs : List (List ℕ)) (v : ℕ) → Wide s xs → s ≤ suc v → node.total v xs ≡ 0
unfolding All sum_by
total_past s [] v w h = refl
total_past s (x ∷ xs) v w h = omega (arith, wide_past s x v w.0 h, total_past s xs v w.1 h)

-- sums in each view of the stride are sums in every view
pub every_view : (s : ℕ) (x : List ℕ) (xs : List (List ℕ)) → length x ≡ s → Wide s xs → ((v : ℕ) → suc v < s → length_in v x ≡ node.total v xs) → (v : ℕ) → length_in v x ≡ node.total v xs
every_view s x xs e w h v = go (dec_lt (suc v) s)
  where
    go : Dec (suc v < s) → length_in v x ≡ node.total v xs
    go (yes lt) = h v lt
    go (no ge) = wide_past s x v e (omega arith) ∙ sym (total_past s xs v w (omega arith))

pub get_d_slot : (xs : List (List ℕ)) (j : ℕ) → j < length xs → get_or (map slot_of xs) j no_slot ≡ slot_of (get_or xs j [])
get_d_slot [] j h = absurd (not-suc-le-zero h)
get_d_slot (x ∷ xs) zero h = refl
get_d_slot (x ∷ xs) (suc j) h = get_d_slot xs j (omega arith)

module _ (N : ℕ → Node) (p : ℕ) where
  mark_of : (i : ℕ) (x : List ℕ) → Marked N p i x → said (total (area_from N)) (area_from N) (child x) ≡ record { num = child x; par = p; pos = i; wt = (slot_of x).lens }
  mark_of i x m = λ j. record { num = child x; par = m.parent j; pos = m.at j; wt = fun_ext (λ v. sum_slots v (used (N (child x))) ∙ sym (m.sums v)) j }

  of_mark : (i : ℕ) (x : List ℕ) → said (total (area_from N)) (area_from N) (child x) ≡ record { num = child x; par = p; pos = i; wt = (slot_of x).lens } → Marked N p i x
  of_mark i x e = record {
    parent = ap (λ (m : Mark). m.par) e;
    at = ap (λ (m : Mark). m.pos) e;
    sums = λ v. sym (ap (λ (m : Mark). m.wt v) e) ∙ sum_slots v (used (N (child x)));
  }

  pub marks_of : (i : ℕ) (rows : List (List ℕ)) → ((j : ℕ) → j < length rows → Marked N p (i + j) (get_or rows j []))
      → map (said (total (area_from N)) (area_from N)) (map (λ (x : Slot). x.child) (map slot_of rows)) ≡ marks p i (map slot_of rows)
  marks_of i [] h = refl
  marks_of i (x ∷ rows) h =
      ap₂ ◌∷◌ (mark_of i x (subst (λ (k : ℕ). Marked N p k x) (add-zero i) (h 0 (omega arith))))
      (marks_of (suc i) rows (λ j lt. subst (λ (k : ℕ). Marked N p k (get_or rows j [])) (add-suc i j ∙ sym (suc-add i j)) (h (suc j) (omega arith))))

  pub of_marks : (i : ℕ) (rows : List (List ℕ)) → map (said (total (area_from N)) (area_from N)) (map (λ (x : Slot). x.child) (map slot_of rows)) ≡ marks p i (map slot_of rows)
      → (j : ℕ) → j < length rows → Marked N p (i + j) (get_or rows j [])
  of_marks i [] e j h = absurd (not-suc-le-zero h)
  of_marks i (x ∷ rows) e zero h = subst (λ (k : ℕ). Marked N p k x) (sym (add-zero i)) (of_mark i x (head-eq_of_cons-eq e))
  of_marks i (x ∷ rows) e (suc j) h =
      subst (λ (k : ℕ). Marked N p k (get_or rows j [])) (suc-add i j ∙ sym (add-suc i j)) (of_marks (suc i) rows (tail-eq_of_cons-eq e) j (omega arith))
