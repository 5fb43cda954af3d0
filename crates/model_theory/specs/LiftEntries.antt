-- A sound state's entries, and the entries of its abstract tree's row. Assumes nothing.
use Rattle.std.specs.Prelude.{◌≡◌, refl, List, [], ◌∷◌, ◌++◌, map, ℕ, zero, suc, ◌+◌, ◌<◌, length, get_or}
use Rattle.std.proofs.Common.{sym, ap, ap₂, ◌∙◌, subst, not-suc-le-zero, add-one, arith}
use Rattle.model.specs.Kind.{stride}
use Rattle.model.specs.declared.shape.Kind.{Kind}
use Rattle.model.specs.Lists.{All, sum_by}
use Rattle.model.specs.Node.{child, lengths, used}
use Rattle.model.specs.State.{State}
use Rattle.model.specs.Row as row
use Rattle.model.specs.Row.{Entry, entry}
use Rattle.model.specs.Sound.{leaf_in, leaves_reached, slots_in, entries_of}
use Rattle.model_laws.specs.Slots.{Wide}
use Rattle.model_tree.specs.Lists.{map_append, all_map, all_cat}
use Rattle.model_tree.specs.Levels.{Slot, len}
use Rattle.model_tree.specs.Tree as tree
use Rattle.model_tree.specs.Row.{RowWithout}
use Rattle.model_tree.specs.Cursor as cursor
use Rattle.model_theory.specs.LiftCount.{flat_cat}
use Rattle.model_theory.specs.LiftTree.{slot_of, tree_of}
use Rattle.model_theory.specs.LiftLevels.{slots_row}
use Rattle.model_theory.specs.WordNeat.{Neat}

-- the first n values
unfoldable pub firsts : ℕ → (ℕ → ℕ) → List ℕ
firsts zero f = []
firsts (suc n) f = f 0 ∷ firsts n (λ v. f (suc v))

pub get_d_firsts : (n : ℕ) (f : ℕ → ℕ) (v : ℕ) → v < n → get_or (firsts n f) v 0 ≡ f v
unfolding firsts
get_d_firsts zero f v h = absurd (not-suc-le-zero h)
get_d_firsts (suc n) f zero h = refl
get_d_firsts (suc n) f (suc v) h = get_d_firsts n (λ w. f (suc w)) v (omega arith)

pub firsts_list : (l : List ℕ) → firsts (length l) (λ v. get_or l v 0) ≡ l
unfolding firsts
firsts_list [] = refl
firsts_list (x ∷ l) = ap {B = List ℕ} (λ m. x ∷ m) (firsts_list l)

-- a slot with n lengths as an entry
abbrev pub entry_from : ℕ → Slot → Entry
entry_from n x = entry x.child (firsts n x.lens)

pub entry_is : (n : ℕ) (x : List ℕ) → length x ≡ suc n → entry_from n (slot_of x) ≡ entry (child x) (lengths x)
unfolding firsts
entry_is n [] e = absurd (omega arith)
entry_is n (c ∷ ls) e =
    let l : length ls ≡ n = omega arith in
    ap (λ (m : List ℕ). entry c m) (ap (firsts n) (more ls) ∙ subst (λ (k : ℕ). firsts k (λ v. get_or ls v 0) ≡ ls) l (firsts_list ls))
  where
    more : (ls : List ℕ) → ◌≡◌ {A = ℕ → ℕ} (λ v. get_or (c ∷ ls) (v + 1) 0) (λ v. get_or ls v 0)
    more ls = simp add-one

pub all_entries : (n : ℕ) (xs : List (List ℕ)) → Wide (suc n) xs → map (entry_from n) (map slot_of xs) ≡ map (λ x. entry (child x) (lengths x)) xs
unfolding All
all_entries n [] w = refl
all_entries n (x ∷ xs) w = ap₂ ◌∷◌ (entry_is n x w.0) (all_entries n xs w.1)

-- the entries of a sound state are those of its tree's row
pub entries_row : (K : Kind) (t : State) → Neat (stride K) t → All (λ k. k < t.head.leaves) (leaves_reached (stride K) t) → entries_of K t ≡ map (entry_from K.views) (tree.row (tree_of (stride K) t))
unfolding entries_of
entries_row K t n h =
    let xs : List (List ℕ) = slots_in (stride K) t (leaves_reached (stride K) t) in
    let w : Wide (stride K) xs = subst (Wide (stride K)) (sym (flat_cat (λ k. used (leaf_in (stride K) t k)) (leaves_reached (stride K) t)))
    (all_cat (λ x. length x ≡ stride K) (λ k. used (leaf_in (stride K) t k)) (leaves_reached (stride K) t)
    (all_map (λ k. k < t.head.leaves) (λ k. Wide (stride K) (used (leaf_in (stride K) t k))) (λ k lt. (n.leaf_tidy k lt).wide) (leaves_reached (stride K) t) h)) in
    sym (all_entries K.views xs w) ∙ ap (map (entry_from K.views)) (slots_row (stride K) t)

-- sums and ids of entries that come from slots
pub total_entries : (n v : ℕ) (R : List Slot) → v < n → row.total v (map (entry_from n) R) ≡ sum_by (len v) R
unfolding sum_by
total_entries n v [] h = refl
total_entries n v (x ∷ R) h = ap₂ ◌+◌ (get_d_firsts n x.lens v h) (total_entries n v R h)

pub without_entries : (n i : ℕ) (R : List Slot) → cursor.Without i R → RowWithout i (map (entry_from n) R)
unfolding All
without_entries n i [] w = tt
without_entries n i (x ∷ R) w = (w.0, without_entries n i R w.1)

pub split_entries : (n : ℕ) (R : List Slot) (e : Slot) (Q : List Slot) → map (entry_from n) (R ++ e ∷ Q) ≡ map (entry_from n) R ++ entry_from n e ∷ map (entry_from n) Q
split_entries n R e Q = map_append (entry_from n) R (e ∷ Q)
