-- What follows from soundness: how many entries at least, how many nodes at most, how many levels at most.
use Rattle.std.specs.Prelude.{◌≡◌, refl, ◌⊎◌, ◌≢◌, List, [], ◌∷◌, ℕ, zero, suc, ◌+◌, ◌*◌, ◌/◌, ◌^◌, ◌≤◌, ◌<◌, length}
use Rattle.std.proofs.Common.{sym, ap, ◌∙◌, subst, inl, inr, mul-le-mul_left, mul-le-mul_right, pow-suc, le-div_iff_mul-le, mul_comm, mul_assoc, arith}
use Rattle.std.proofs.Math.Nat.{pow-succ', pow-le-pow_left, pow-le-pow_right}
use Rattle.std.proofs.Math.Decide.{dec_lt}
use Rattle.model.specs.Lists.{sum_by, All}
use Rattle.model_tree.specs.Lists.{cat, all_map, all_map₂, all_left_at, all_right, length_cat}
use Rattle.model_tree.specs.Levels.{Area, Links, total, none}
use Rattle.model_tree.specs.Apart.{links_nodup, Real, apart}
use Rattle.model_tree.specs.Floor.{size, Least, floor, inner_most, sum_least}
use Rattle.model_tree.specs.Pigeon.{at_least, at_most}
use Rattle.model_tree.specs.Tree.{Tree, half, order, above, BodyAt, Body}

root_of : (t : ℕ → ℕ → ℕ) (up : Area) (root : ℕ) (C : List ℕ) (st : List (List ℕ)) → Links t up up root C st → (X : ℕ → Type 0) → All X C → All (All X) st → X root
unfolding All
root_of t up root C [] l X h k = (rw l.0 at h).0
root_of t up root C (P ∷ st) l X h k = root_of (total up) up root P st l.1 X k.0 k.1

least_of : (half m : ℕ) (t : ℕ → ℕ → ℕ) (up : Area) (root : ℕ) (P : List ℕ) (st : List (List ℕ)) → Links t up up root P st → Real P → All Real st
    → All (λ p. p ≢ root → half ≤ size up p) P → All (All (λ p. p ≢ root → half ≤ size up p)) st → m ≤ size up root → Least half m up (P ∷ st)
unfolding All
least_of half m t up root P [] l r rs a b h = rw l.0 (h, tt)
least_of half m t up root P (Q ∷ st) l r rs a b h = (
  all_map₂ (λ c. All (All (λ m. c ≢ m)) (Q ∷ st)) (λ p. p ≢ root → half ≤ size up p) (λ p. half ≤ size up p)
      (λ c x f. f (root_of (total up) up root Q st l.1 (λ m. c ≢ m) x.0 x.1)) P (apart t up root P (Q ∷ st) l r rs) a,
  least_of half m (total up) up root Q st l.1 rs.0 rs.1 b.0 b.1 h,
)

pub reals : (n : ℕ) → n ≤ none → (l : List (List ℕ)) → All (All (λ m. m < n)) l → All Real l
reals n c l h = all_map (All (λ m. m < n)) Real (λ Q x. all_map (λ m. m < n) (λ m. m ≢ none) (λ m k e. omega arith) Q x) l h

module _ (s : Tree) (C : List ℕ) (st : List (List ℕ)) (b : BodyAt s C st) where
  pub leaf_count : length C ≡ s.leaves
  leaf_count =
      let x : s.leaves ≤ length C = at_least C s.leaves b.leaf_all in
      let y : length C ≤ s.leaves = at_most C s.leaves (links_nodup (total s.body.leaf) s.body.leaf s.body.inner s.body.root C st b.links) b.leaf_in_law in
      omega arith

  -- the entries are at least half for each leaf, where there is more than one
  pub leaf_floor : 2 ≤ s.leaves → half s.fan * s.leaves ≤ s.entries
  leaf_floor h =
      let x : half s.fan * length C ≤ sum_by (size s.body.leaf) C
      = sum_least s.body.leaf (half s.fan) C (all_map (λ k. k < s.leaves) (λ k. half s.fan ≤ size s.body.leaf k) (λ k lt. b.leaf_least k lt h) C b.leaf_in_law) in
      let y : length (cat s.body.leaf.slots C) ≡ sum_by (size s.body.leaf) C = length_cat s.body.leaf.slots C in
      let z : half s.fan * length C ≡ half s.fan * s.leaves = ap (λ (n : ℕ). half s.fan * n) leaf_count in
      omega (arith, b.count)

-- the levels above the leaves are at least one; their nodes' sizes
pub sizes : (m : ℕ) (s : Tree) (C P : List ℕ) (st : List (List ℕ)) (b : BodyAt s C (P ∷ st)) → m ≤ size s.body.inner s.body.root → Least (half s.fan) m s.body.inner (P ∷ st)
unfolding All
sizes m s C P st b h =
    let r = reals s.body.next b.few (P ∷ st) b.inner_in_law in
    let one : (p : ℕ) → p < s.body.next → p ≢ s.body.root → half s.fan ≤ size s.body.inner p = λ p lt ne. b.fit.least p lt ne in
    least_of (half s.fan) m (total s.body.inner) s.body.inner s.body.root P st b.links.1 r.0 r.1
    (all_map (λ p. p < s.body.next) (λ p. p ≢ s.body.root → half s.fan ≤ size s.body.inner p) one P b.inner_in_law.0)
    (all_map (All (λ p. p < s.body.next)) (All (λ p. p ≢ s.body.root → half s.fan ≤ size s.body.inner p))
    (λ Q x. all_map (λ p. p < s.body.next) (λ p. p ≢ s.body.root → half s.fan ≤ size s.body.inner p) one Q x) st b.inner_in_law.1) h

at_least_all : (l : List (List ℕ)) (k : ℕ) → All (λ m. m ≢ k) (cat (λ q. q) l) → All (All (λ m. m ≢ k)) l
unfolding All
at_least_all [] k h = tt
at_least_all (q ∷ l) k h = (all_left_at (λ m. m ≢ k) q (cat (λ q. q) l) h, at_least_all l k (all_right (λ m. m ≢ k) q (cat (λ q. q) l) h))

-- the inner nodes in use are at most those of the levels
inner_count : (s : Tree) (C : List ℕ) (st : List (List ℕ)) (b : BodyAt s C st) → s.body.next ≤ length (cat (λ q. q) st)
inner_count s C st b = at_least (cat (λ q. q) st) s.body.next (λ k lt a. b.inner_all k lt (at_least_all st k a))

-- many levels: many entries
floor_at : (s : Tree) (C : List ℕ) (st : List (List ℕ)) (b : BodyAt s C st) → 2 ≤ s.body.levels → 2 * half s.fan ^ s.body.levels ≤ s.entries
floor_at s C [] b h = absurd (omega (arith, b.deep))
floor_at s C (P ∷ st) b h =
    let hf : ℕ = half s.fan in
    let x : hf ^ length st * 2 ≤ length C = floor hf 2 (total s.body.leaf) s.body.leaf s.body.inner s.body.root C P st b.links (sizes 2 s C P st b (b.two h)) in
    let p1 : 1 ≤ hf ^ length st = one_pow (length st) in
    let lc : length C ≡ s.leaves = leaf_count s C (P ∷ st) b in
    let y : hf * s.leaves ≤ s.entries = leaf_floor s C (P ∷ st) b (omega arith) in
    let z : hf * (hf ^ length st * 2) ≤ hf * s.leaves = mul-le-mul_left hf (omega arith) in
    let w : hf ^ s.body.levels ≡ hf * hf ^ length st = ap (λ (n : ℕ). hf ^ n) (sym b.deep) ∙ pow-succ' hf (length st) in
    let u : hf * (hf ^ length st * 2) ≡ (hf * hf ^ length st) * 2 = sym (mul_assoc hf (hf ^ length st) 2) in
    omega arith
  where
    one_pow : (n : ℕ) → 1 ≤ half s.fan ^ n
    one_pow n = let z : 1 ^ n ≤ half s.fan ^ n = pow-le-pow_left (omega (arith, b.fan_low)) n in let w : 1 ^ n ≡ 1 = ones n in omega arith
      where
        ones : (n : ℕ) → 1 ^ n ≡ 1
        ones zero = refl
        ones (suc n) = pow-suc 1 n ∙ rw (ones n)

module _ (s : Tree) (b : Body s) where
  -- the floor
  pub entry_floor : 2 ≤ s.body.levels → 2 * half s.fan ^ s.body.levels ≤ s.entries
  entry_floor h = floor_at s (order s) (above s) b h

  pub levels_most : s.body.levels ≤ 15
  levels_most = go (dec_lt 15 s.body.levels)
    where
      go : Dec (15 < s.body.levels) → s.body.levels ≤ 15
      go (no n) = omega arith
      go (yes y) =
          let f : 2 * half s.fan ^ s.body.levels ≤ s.entries = entry_floor (omega arith) in
          let p : 2 ^ s.body.levels ≤ half s.fan ^ s.body.levels = pow-le-pow_left (omega (arith, b.fan_low)) s.body.levels in
          let q : 2 ^ 16 ≤ 2 ^ s.body.levels = pow-le-pow_right (omega arith) y in
          let r : 2 ^ 16 ≡ 65536 = refl in
          absurd (omega (arith, b.room, b.limit_high))

  pub leaves_most : (s.leaves ≤ 1) ⊎ (s.leaves ≤ s.limit / half s.fan)
  leaves_most = go (dec_lt 1 s.leaves)
    where
      go : Dec (1 < s.leaves) → (s.leaves ≤ 1) ⊎ (s.leaves ≤ s.limit / half s.fan)
      go (no n) = inl (omega arith)
      go (yes y) =
          let f : half s.fan * s.leaves ≤ s.entries = leaf_floor s (order s) (above s) b y in
          inr ((le-div_iff_mul-le {k = half s.fan} {x = s.leaves} {y = s.limit} (omega (arith, b.fan_low))).1 (omega (arith, b.room, mul_comm (half s.fan) s.leaves)))

  pub inners_most : (s.body.next ≤ 1) ⊎ (s.body.next < s.leaves)
  inners_most = go (above s) b.links refl (dec_lt 1 (size s.body.inner s.body.root))
    where
      lone : (st : List (List ℕ)) → Links (total s.body.leaf) s.body.leaf s.body.inner s.body.root (order s) st → length st ≤ 1 → length (cat (λ q. q) st) ≤ 1
      lone [] l h = omega arith
      lone (P ∷ []) l h = rw l.1.0 (omega arith)
      lone (P ∷ Q ∷ st) l h = absurd (omega arith)

      go : (st : List (List ℕ)) → Links (total s.body.leaf) s.body.leaf s.body.inner s.body.root (order s) st → above s ≡ st → Dec (1 < size s.body.inner s.body.root) → (s.body.next ≤ 1) ⊎ (s.body.next < s.leaves)
      go st l e (no n) =
          let lv : s.body.levels ≤ 1 = one (dec_lt 1 s.body.levels) in
          let d : length st ≡ s.body.levels = ap length (sym e) ∙ b.deep in
          let x : s.body.next ≤ length (cat (λ q. q) st) = rw e at (inner_count s (order s) (above s) b) in
          inl (omega (arith, lone st l (omega arith)))
        where
          one : Dec (1 < s.body.levels) → s.body.levels ≤ 1
          one (no m) = omega arith
          one (yes y) = absurd (let z = b.two y in omega arith)
      go [] l e (yes y) = absurd (let d : length (above s) ≡ 0 = ap length e in omega (arith, b.deep, b.some))
      go (P ∷ st) l e (yes y) =
          let b' : BodyAt s (order s) (P ∷ st) = subst (λ (S : List (List ℕ)). BodyAt s (order s) S) e b in
          let m : length (cat (λ q. q) (P ∷ st)) + 1 ≤ length (order s) = inner_most (half s.fan) (total s.body.leaf) s.body.leaf s.body.inner s.body.root (order s) (P ∷ st) (omega (arith, b.fan_low)) l (sizes 2 s (order s) P st b' y) in
          inr (omega (arith, inner_count s (order s) (P ∷ st) b', leaf_count s (order s) (above s) b))

  -- as document 01 gives the areas their length
  pub inners_room : (s.body.next ≤ 1) ⊎ (s.body.next ≤ s.limit / half s.fan)
  inners_room = go inners_most leaves_most
    where
      go : (s.body.next ≤ 1) ⊎ (s.body.next < s.leaves) → (s.leaves ≤ 1) ⊎ (s.leaves ≤ s.limit / half s.fan) → (s.body.next ≤ 1) ⊎ (s.body.next ≤ s.limit / half s.fan)
      go (inl x) y = inl x
      go (inr x) (inl y) = inl (omega arith)
      go (inr x) (inr y) = inr (omega arith)

  -- room for the numbers of a split at every level
  pub split_room : s.body.next + s.body.levels < none
  split_room = go inners_most
    where
      lv : s.leaves ≤ 65536 ⊎ (s.leaves ≤ 1)
      lv = few (dec_lt 1 s.leaves)
        where
          few : Dec (1 < s.leaves) → s.leaves ≤ 65536 ⊎ (s.leaves ≤ 1)
          few (no n) = inr (omega arith)
          few (yes y) =
              let f : half s.fan * s.leaves ≤ s.entries = leaf_floor s (order s) (above s) b y in
              let g : 1 * s.leaves ≤ half s.fan * s.leaves = mul-le-mul_right s.leaves (omega (arith, b.fan_low)) in
              inl (omega (arith, b.room, b.limit_high))

      go : (s.body.next ≤ 1) ⊎ (s.body.next < s.leaves) → s.body.next + s.body.levels < none
      go (inl x) = omega (arith, levels_most)
      go (inr x) = elim lv [ inl y ↦ omega (arith, levels_most) | inr y ↦ omega (arith, levels_most) ]
