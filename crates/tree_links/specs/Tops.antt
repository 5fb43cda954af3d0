-- What the functions hand on beside the areas, three words, as the model has it. Assumes nothing.
use Rattle.std.specs.Prelude.{◌≡◌, refl, List, [], ◌∷◌, ℕ, ◌+◌, length, get_or, set}
use Rattle.std.proofs.Common.{arith}
use Rattle.model.specs.Grow as grow

-- the inner nodes in use, the root, the levels
abbrev pub top_in : List ℕ → grow.Top
top_in t = grow.top (get_or t 0 0) (get_or t 1 0) (get_or t 2 0)

-- with the number and both areas
abbrev pub grown_in : ℕ → List ℕ → List ℕ → List ℕ → grow.Grown
grown_in n t ls xs = grow.grown n (top_in t) (grow.areas ls xs)

-- one more inner node in use
pub top_used : (t : List ℕ) (u : ℕ) → length t ≡ 3 → top_in (set t 0 u) ≡ grow.top u (get_or t 1 0) (get_or t 2 0)
top_used [] u e = absurd (omega arith)
top_used (a ∷ []) u e = absurd (omega arith)
top_used (a ∷ b ∷ []) u e = absurd (omega arith)
top_used (a ∷ b ∷ c ∷ []) u e = refl
top_used (a ∷ b ∷ c ∷ d ∷ t) u e = absurd (omega arith)

-- and a new root one level up
pub levels_kept : (t : List ℕ) (u r : ℕ) → length t ≡ 3 → get_or (set (set t 0 u) 1 r) 2 0 ≡ get_or t 2 0
levels_kept [] u r e = absurd (omega arith)
levels_kept (a ∷ []) u r e = absurd (omega arith)
levels_kept (a ∷ b ∷ []) u r e = absurd (omega arith)
levels_kept (a ∷ b ∷ c ∷ []) u r e = refl
levels_kept (a ∷ b ∷ c ∷ d ∷ t) u r e = absurd (omega arith)

pub top_grown : (t : List ℕ) (u r : ℕ) → length t ≡ 3 → top_in (set (set (set t 0 u) 1 r) 2 (get_or (set (set t 0 u) 1 r) 2 0 + 1)) ≡ grow.top u r (get_or t 2 0 + 1)
top_grown [] u r e = absurd (omega arith)
top_grown (a ∷ []) u r e = absurd (omega arith)
top_grown (a ∷ b ∷ []) u r e = absurd (omega arith)
top_grown (a ∷ b ∷ c ∷ []) u r e = refl
top_grown (a ∷ b ∷ c ∷ d ∷ t) u r e = absurd (omega arith)
