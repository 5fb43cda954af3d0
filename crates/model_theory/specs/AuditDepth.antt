-- How deep a node stands, as audit counts it and as the abstract tree does; small facts for both directions of audit's theorem.
use Rattle.std.specs.Prelude.{◌≡◌, ◌≢◌, List, [], ◌∷◌, map, length, get_or}
use Rattle.std.proofs.Common.{sym, ap, ◌∙◌, arith}
use Prim.Native.Nat.{ℕ, zero, suc, ◌+◌, ◌≤◌, ◌<◌}
use Rattle.std.proofs.Math.Decide.{ℕ_discrete, dec_lt}
use borrow.Author.Tests.{eq-eqb, ne_eqb, lt-ltb, le-ltb}
use Rattle.model.specs.Kind.{stride}
use Rattle.model.specs.declared.shape.Kind.{Kind}
use Rattle.model.specs.Lists.{All, range}
use Rattle.model.specs.Node.{none, child}
use Rattle.model.specs.State.{State}
use Rattle.model.specs.Sound.{inner_in}
use Rattle.model.specs.Audit.{depth}
use Rattle.model_tree.specs.Levels.{Slot, Area}
use Rattle.model_tree.specs.Apart.{dep, dep_none, dep_step}
use Rattle.model_tree.specs.Cursor.{index_of}
use Rattle.model_theory.specs.LiftTree.{slot_of, tree_of}

module _ (K : Kind) (t : State) where
  abbrev up : Area
  up = (tree_of (stride K) t).body.inner

  -- one link of audit's climb
  depth_none : (n k : ℕ) → k ≡ none → depth K t n k ≡ 0
  unfolding depth
  depth_none zero k e = rw (eq-eqb k none e)
  depth_none (suc n) k e = rw (eq-eqb k none e)

  depth_more : (n k : ℕ) → k ≢ none → k < t.head.inners → depth K t (suc n) k ≡ suc (depth K t n (inner_in (stride K) t k).parent)
  unfolding depth
  depth_more n k ne lt = rw (ne_eqb k none ne, lt-ltb k t.head.inners lt)

  depth_out : (n k : ℕ) → k ≢ none → t.head.inners ≤ k → depth K t (suc n) k ≡ suc (suc n)
  unfolding depth
  depth_out n k ne ge = rw (ne_eqb k none ne, le-ltb k t.head.inners ge)

  depth_zero : (k : ℕ) → k ≢ none → depth K t 0 k ≡ 1
  unfolding depth
  depth_zero k ne = rw (ne_eqb k none ne)

  -- a climb that ended in time
  pub depth_dep : (n k : ℕ) → depth K t n k ≤ n → (M : ℕ) → n ≤ M → dep (tree_of (stride K) t).body.inner M k ≡ depth K t n k
  depth_dep zero k h M le = elim (ℕ_discrete k none) [
    | yes e ↦ ap (dep (tree_of (stride K) t).body.inner M) e ∙ dep_none (tree_of (stride K) t).body.inner M ∙ sym (depth_none zero k e)
    | no ne ↦ absurd (let z = depth_zero k ne in omega arith)
  ]
  depth_dep (suc n) k h zero le = absurd (omega arith)
  depth_dep (suc n) k h (suc M) le = elim (ℕ_discrete k none) [
    | yes e ↦ ap (dep (tree_of (stride K) t).body.inner (suc M)) e ∙ dep_none (tree_of (stride K) t).body.inner (suc M) ∙ sym (depth_none (suc n) k e)
    | no ne ↦ elim (dec_lt k t.head.inners) [
      | yes lt ↦ (let z = depth_more n k ne lt in dep_step (tree_of (stride K) t).body.inner M k ne ∙ ap suc (depth_dep n (inner_in (stride K) t k).parent (omega arith) M (omega arith)) ∙ sym z)
      | no ge ↦ absurd (let z = depth_out n k ne (omega arith) in omega arith)
    ]
  ]

  -- and back, where every link but the root's leads to a node in use
  module _ (root : ℕ) (few : t.head.inners ≤ none) (top : (inner_in (stride K) t root).parent ≡ none) (links : (k : ℕ) → k < t.head.inners → k ≢ root → (inner_in (stride K) t k).parent < t.head.inners) where
    pub dep_depth : (n M k : ℕ) → n < M → k < t.head.inners → dep (tree_of (stride K) t).body.inner M k ≤ n → depth K t n k ≡ dep (tree_of (stride K) t).body.inner M k
    dep_depth n zero k lt lk h = absurd (omega arith)
    dep_depth zero (suc M) k lt lk h = absurd (let z = dep_step (tree_of (stride K) t).body.inner M k (λ e. omega arith) in omega arith)
    dep_depth (suc n) (suc M) k lt lk h =
        let st : dep (tree_of (stride K) t).body.inner (suc M) k ≡ suc (dep (tree_of (stride K) t).body.inner M (inner_in (stride K) t k).parent) = dep_step (tree_of (stride K) t).body.inner M k (λ e. omega arith) in
        depth_more n k (λ e. omega arith) lk
        ∙ ap suc (elim (ℕ_discrete k root) [
          | yes e ↦ (let q : (inner_in (stride K) t k).parent ≡ none = ap (λ (j : ℕ). (inner_in (stride K) t j).parent) e ∙ top in depth_none n (inner_in (stride K) t k).parent q ∙ sym (ap (dep (tree_of (stride K) t).body.inner M) q ∙ dep_none (tree_of (stride K) t).body.inner M))
          | no ne ↦ dep_depth n M (inner_in (stride K) t k).parent (omega arith) (links k lk ne) (omega arith)
        ])
        ∙ sym st

-- the first slot with a child: it holds the child, and no earlier one does
pub index_first : (c j : ℕ) (xs : List (List ℕ)) → j < length xs → child (get_or xs j []) ≡ c → ((i : ℕ) → i < j → child (get_or xs i []) ≢ c) → index_of c (map slot_of xs) ≡ j
index_first c j [] lt e h = absurd (omega arith)
index_first c zero (x ∷ xs) lt e h = rw (eq-eqb (child x) c e, index_of)
index_first c (suc j) (x ∷ xs) lt e h = rw (ne_eqb (child x) c (h 0 (omega arith)), index_of) (ap suc (index_first c j xs (omega arith) e (λ i li. h (suc i) (omega arith))))

pub index_before : (c j : ℕ) (xs : List (List ℕ)) → j < index_of c (map slot_of xs) → child (get_or xs j []) ≢ c
index_before c j [] lt = absurd (omega arith)
index_before c zero (x ∷ xs) lt = λ q. absurd (let z : index_of c (map slot_of (x ∷ xs)) ≡ 0 = rw (eq-eqb (child x) c q, index_of) in omega arith)
index_before c (suc j) (x ∷ xs) lt = elim (ℕ_discrete (child x) c) [
  | yes q ↦ absurd (let z : index_of c (map slot_of (x ∷ xs)) ≡ 0 = rw (eq-eqb (child x) c q, index_of) in omega arith)
  | no ne ↦ index_before c j xs (let z : index_of c (map slot_of (x ∷ xs)) ≡ suc (index_of c (map slot_of xs)) = rw (ne_eqb (child x) c ne, index_of) in omega arith)
]

-- numbers of a range
pub range_below : (i n m : ℕ) → i + n ≤ m → All (λ k. k < m) (range i n)
unfolding All range
range_below i zero m h = tt
range_below i (suc n) m h = (omega arith, range_below (suc i) n m (omega arith))

-- a property of the children in some slots, place by place
pub all_kids : (Q : ℕ → Type 0) (xs : List (List ℕ)) → ((j : ℕ) → j < length xs → Q (child (get_or xs j []))) → All Q (map (λ (x : Slot). x.child) (map slot_of xs))
unfolding All
all_kids Q [] h = tt
all_kids Q (x ∷ xs) h = (h 0 (omega arith), all_kids Q xs (λ j lt. h (suc j) (omega arith)))
