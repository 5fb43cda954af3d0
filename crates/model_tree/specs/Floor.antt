-- How many nodes a level has at least and how many inner nodes there are at most; a difference carried modulo 2 ^ 32.
use Rattle.std.specs.Prelude.{◌≡◌, refl, List, [], ◌∷◌, map, ℕ, ◌+◌, ◌-◌, ◌*◌, ◌^◌, ◌%◌, ◌≤◌, ◌<◌, length}
use Rattle.std.proofs.Common.{sym, ap, ap₂, ◌∙◌, mul-le-mul_left, mul-le-mul_right, pow-suc, arith, length-append}
use Rattle.std.proofs.Math.Nat.{pow-zero}
use Rattle.std.proofs.lemmas.List.{length-map}
use Rattle.model.specs.Lists.{sum_by, All}
use Rattle.model_tree.specs.Lists.{cat, length_cat}
use Rattle.model_tree.specs.Levels.{Area, length_marks, told, said, Links, total}

-- a difference modulo 2^32, added modulo 2^32, at a slot that holds t + y
pub wrap : (t t' y : ℕ) → t < 4294967296 → t' + y < 4294967296 → t + y < 4294967296 → ((t + y) + (t' + (4294967296 - t)) % 4294967296) % 4294967296 ≡ t' + y
wrap t t' y a b c = omega arith

abbrev pub size : Area → ℕ → ℕ
size up p = length (up.slots p)

-- each level's nodes have at least half slots, the root at least m
abbrev pub Least : ℕ → ℕ → Area → List (List ℕ) → Type 0
Least half m up [] = Unit {0}
Least half m up (P ∷ []) = All (λ p. m ≤ size up p) P
Least half m up (P ∷ Q ∷ st) = All (λ p. half ≤ size up p) P × Least half m up (Q ∷ st)

pub length_level : (t : ℕ → ℕ → ℕ) (low up : Area) (C P : List ℕ) → map (said t low) C ≡ cat (told up) P → length C ≡ sum_by (size up) P
unfolding sum_by
length_level t low up C P e = sym (length-map C (said t low)) ∙ ap length e ∙ length_cat (told up) P ∙ each P
  where
    each : (P : List ℕ) → sum_by (λ p. length (told up p)) P ≡ sum_by (size up) P
    each [] = refl
    each (p ∷ P) = ap₂ ◌+◌ (length_marks p 0 (up.slots p)) (each P)

pub sum_least : (up : Area) (k : ℕ) (P : List ℕ) → All (λ p. k ≤ size up p) P → k * length P ≤ sum_by (size up) P
unfolding All sum_by
sum_least up k [] h = omega arith
sum_least up k (p ∷ P) h = omega (arith, sum_least up k P h.1, h.0)

pub floor : (half m : ℕ) (t : ℕ → ℕ → ℕ) (low up : Area) (root : ℕ) (C P : List ℕ) (st : List (List ℕ)) → Links t low up root C (P ∷ st) → Least half m up (P ∷ st) → half ^ length st * m ≤ length C
floor half m t low up root C P [] l h =
    let e : length P ≡ 1 = ap length l.1.0 in
    let a : length C ≡ sum_by (size up) P = length_level t low up C P l.0 in
    let b : m * length P ≤ sum_by (size up) P = sum_least up m P h in
    let c : m * 1 ≤ sum_by (size up) P = rw e at b in
    rw pow-zero (omega arith)
floor half m t low up root C P (Q ∷ st) l h =
    let ih : half ^ length st * m ≤ length P = floor half m (total up) up up root P Q st l.1 h.1 in
    let a : length C ≡ sum_by (size up) P = length_level t low up C P l.0 in
    let b : half * length P ≤ sum_by (size up) P = sum_least up half P h.0 in
    let c : half * (half ^ length st * m) ≤ half * length P = mul-le-mul_left half ih in
    rw pow-suc (omega arith)

-- the inner nodes are at most as many as the nodes of the level below them
pub inner_most : (half : ℕ) (t : ℕ → ℕ → ℕ) (low up : Area) (root : ℕ) (C : List ℕ) (st : List (List ℕ)) → 2 ≤ half → Links t low up root C st → Least half 2 up st → length (cat (λ l. l) st) + 1 ≤ length C
inner_most half t low up root C [] two l h = rw l.0 (omega arith)
inner_most half t low up root C (P ∷ []) two l h =
    let e : length P ≡ 1 = ap length l.1.0 in
    let a : length C ≡ sum_by (size up) P = length_level t low up C P l.0 in
    let b : 2 * length P ≤ sum_by (size up) P = sum_least up 2 P h in
    rw length-append (omega arith)
inner_most half t low up root C (P ∷ Q ∷ st) two l h =
    let ih : length (cat (λ l. l) (Q ∷ st)) + 1 ≤ length P = inner_most half (total up) up up root P (Q ∷ st) two l.1 h.1 in
    let a : length C ≡ sum_by (size up) P = length_level t low up C P l.0 in
    let b : half * length P ≤ sum_by (size up) P = sum_least up half P h.0 in
    let c : 2 * length P ≤ half * length P = mul-le-mul_right (length P) two in
    rw (length-append P) (omega arith)
