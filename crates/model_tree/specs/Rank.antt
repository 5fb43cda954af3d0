-- Climbing from a node, adding each ancestor's earlier slots, sums the totals of the nodes before it.
use Rattle.std.specs.Prelude.{◌≡◌, map, List, [], ◌∷◌, ◌++◌, ℕ, ◌+◌, length, take}
use Rattle.std.proofs.Common.{ap, arith}
use Rattle.std.proofs.Math.Seq.{take-append_seam}
use Rattle.model.specs.Lists.{sum_by}
use Rattle.model_tree.specs.Lists.{cat, sum_by_append, sum_by_cat, sum_by_map, single_split}
use Rattle.model_tree.specs.Levels.{Slot, Area, Links, Parent, climb, find_parent, len, marks, said, sum_marks, told, total, wt_of}

-- the totals of a level are those of the level above it
pub level_sum : (v : ℕ) (t : ℕ → ℕ → ℕ) (low up : Area) (C P : List ℕ) → map (said t low) C ≡ cat (told up) P → sum_by (λ c. t c v) C ≡ sum_by (λ p. total up p v) P
level_sum v t low up C P e = simp (sum_by_map, sum_by_cat, sum_marks) at (ap (sum_by (wt_of v)) e)

-- the totals before a node, by the nodes before its parent and the parent's earlier slots
pub front_sum : (v : ℕ) (t : ℕ → ℕ → ℕ) (low up : Area) (A P₁ : List ℕ) (p : ℕ) (S₁ : List Slot) → map (said t low) A ≡ cat (told up) P₁ ++ marks p 0 S₁
    → sum_by (λ c. t c v) A ≡ sum_by (λ p. total up p v) P₁ + sum_by (len v) S₁
front_sum v t low up A P₁ p S₁ e = simp (sum_by_map, sum_by_append, sum_by_cat, sum_marks) at (ap (sum_by (wt_of v)) e)

-- one level: the totals before c are those of the nodes before its parent, and the parent's earlier slots
pub step : (v : ℕ) (t : ℕ → ℕ → ℕ) (low up : Area) (A : List ℕ) (c : ℕ) (B : List ℕ) (P : List ℕ) (r : Parent t low up A c B P)
    → sum_by (λ c. t c v) A ≡ sum_by (λ p. total up p v) r.P₁ + sum_by (len v) r.S₁
step v t low up A c B P r =
    front_sum v t low up A r.P₁ (low.parent c) r.S₁ r.before

pub take_place : (v : ℕ) (t : ℕ → ℕ → ℕ) (low up : Area) (A : List ℕ) (c : ℕ) (B : List ℕ) (P : List ℕ) (r : Parent t low up A c B P)
    → take (low.place c) (up.slots (low.parent c)) ≡ r.S₁
take_place v t low up A c B P r = rw (r.slots, r.place, take-append_seam)

pub climb_sum : (v : ℕ) (t : ℕ → ℕ → ℕ) (low up : Area) (root : ℕ) (A : List ℕ) (c : ℕ) (B : List ℕ) (st : List (List ℕ))
    → Links t low up root (A ++ c ∷ B) st → climb v low up (length st) c ≡ sum_by (λ c. t c v) A
unfolding sum_by
climb_sum v t low up root A c B [] l = rw (single_split A c B root l.0).0
climb_sum v t low up root A c B (P ∷ st) l =
    go (find_parent t low up A c B P l.0)
    (λ P₁ P₂ e. climb_sum v (total up) up up root P₁ (low.parent c) P₂ st (rw e at l.1))
  where
    go : (r : Parent t low up A c B P)
        → ((P₁ P₂ : List ℕ) → P ≡ P₁ ++ low.parent c ∷ P₂ → climb v up up (length st) (low.parent c) ≡ sum_by (λ p. total up p v) P₁)
        → climb v low up (length (P ∷ st)) c ≡ sum_by (λ c. t c v) A
    go r ih = rw (take_place v t low up A c B P r) (omega (arith, ih r.P₁ r.P₂ r.row, step v t low up A c B P r))

-- the row, and rank over it
abbrev pub rank : ℕ → Area → Area → ℕ → ℕ → ℕ → ℕ
rank v leaf up levels c j = sum_by (len v) (take j (leaf.slots c)) + climb v leaf up levels c
