-- Checks of every node by itself, on any state, give the links and that every number in use is reached.
use Rattle.std.specs.Prelude.{◌≡◌, refl, ◌≢◌, ℕ, zero, suc, ◌≤◌, ◌<◌, length, get_or}
use Rattle.std.proofs.Common.{sym, ap, ap₂, ◌∙◌, not-suc-le-zero, arith}
use mathlib.Core.List.{List, [], ◌∷◌, ◌++◌, map, head-eq_of_cons-eq, tail-eq_of_cons-eq}
use Rattle.std.proofs.Math.Nat.{suc_inj}
use Rattle.std.proofs.Math.Decide.{ℕ_discrete}
use Rattle.model.specs.Lists.{All}
use Rattle.model_tree.specs.Lists.{cat, all_map, all_map₂, all_cat, uncat}
use Rattle.model_tree.specs.Levels.{Slot, Area, Mark, marks, said, Links, total, none}
use Rattle.model_tree.specs.Apart.{dep, dep_none, dep_step}
use Rattle.model_tree.specs.Sound.{kids_of, lvl, stack, Local, Locals, links_of}

-- less fuel is enough
pub dep_less : (up : Area) (K k : ℕ) → dep up (suc K) k ≤ K → dep up K k ≡ dep up (suc K) k
dep_less up zero k h = omega arith
dep_less up (suc K) k h = go (ℕ_discrete k none) (dep_less up K (up.parent k))
  where
    go : Dec (k ≡ none) → (dep up (suc K) (up.parent k) ≤ K → dep up K (up.parent k) ≡ dep up (suc K) (up.parent k)) → dep up (suc K) k ≡ dep up (suc (suc K)) k
    go (yes z) ih = ap (λ (n : ℕ). dep up (suc K) n) z ∙ dep_none up (suc K) ∙ sym (dep_none up (suc (suc K))) ∙ sym (ap (λ (n : ℕ). dep up (suc (suc K)) n) z)
    go (no ne) ih =
        let a : dep up (suc (suc K)) k ≡ suc (dep up (suc K) (up.parent k)) = dep_step up (suc K) k ne in
        dep_step up K k ne ∙ ap suc (ih (omega (arith, h, a))) ∙ sym a

-- what node k says of its children is what they say, and they are in use
abbrev pub Kids : (ℕ → ℕ → ℕ) → Area → ℕ → Area → ℕ → Type 0
Kids t low n up k = Local t low up k × All (λ c. c < n) (kids_of up k)

-- K: a bound on the climbs, above the levels
pub record Checked (leaf up : Area) (root nodes leaves levels K : ℕ) : Type 0 where
  pub few : nodes ≤ none
  pub deep : levels < K
  pub some : 0 < levels
  pub root_in : root < nodes
  pub root_parent : up.parent root ≡ none
  pub root_place : up.place root ≡ 0
  pub upper : (k : ℕ) → k < nodes → dep up (suc K) k < levels → Kids (total up) up nodes up k
  pub lowest : (k : ℕ) → k < nodes → dep up (suc K) k ≡ levels → Kids (total leaf) leaf leaves up k

-- the children of k say that k is their parent
pub kids_parent : (t : ℕ → ℕ → ℕ) (low : Area) (k i : ℕ) (ss : List Slot) → map (said t low) (map (λ s. s.child) ss) ≡ marks k i ss → All (λ c. low.parent c ≡ k) (map (λ s. s.child) ss)
unfolding All
kids_parent t low k i [] e = tt
kids_parent t low k i (s ∷ ss) e = (ap (λ (m : Mark). m.par) (head-eq_of_cons-eq e), kids_parent t low k (suc i) ss (tail-eq_of_cons-eq e))

pub depths : (leaf up : Area) (root nodes leaves levels K : ℕ) → Checked leaf up root nodes leaves levels K → (d : ℕ) → d < levels → All (λ k. (k < nodes) × (dep up (suc K) k ≡ suc d)) (lvl up root d)
unfolding All
depths leaf up root nodes leaves levels K c zero h =
    ((c.root_in, dep_step up K root (λ e. let z : root < nodes = c.root_in in let y : nodes ≤ none = c.few in omega arith) ∙ ap suc (ap (λ (n : ℕ). dep up K n) c.root_parent ∙ dep_none up K)), tt)
depths leaf up root nodes leaves levels K c (suc d) h =
    all_cat (λ k. (k < nodes) × (dep up (suc K) k ≡ suc (suc d))) (kids_of up) (lvl up root d)
    (all_map (λ k. (k < nodes) × (dep up (suc K) k ≡ suc d)) (λ p. All (λ k. (k < nodes) × (dep up (suc K) k ≡ suc (suc d))) (kids_of up p)) one (lvl up root d) (depths leaf up root nodes leaves levels K c d (omega arith)))
  where
    one : (p : ℕ) → (p < nodes) × (dep up (suc K) p ≡ suc d) → All (λ k. (k < nodes) × (dep up (suc K) k ≡ suc (suc d))) (kids_of up p)
    one p x =
        let ks = c.upper p x.0 (omega (arith, x.1)) in
        all_map₂ (λ k. k < nodes) (λ k. up.parent k ≡ p) (λ k. (k < nodes) × (dep up (suc K) k ≡ suc (suc d)))
        (λ k lt e. (lt, dep_step up K k (λ z. let y : nodes ≤ none = c.few in omega arith) ∙ ap suc (ap (λ (n : ℕ). dep up K n) e ∙ dep_less up K p (let y : levels < K = c.deep in omega (arith, x.1)) ∙ x.1)))
        (kids_of up p) ks.1 (kids_parent (total up) up p 0 (up.slots p) ks.0)

pub checked_links : (leaf up : Area) (root nodes leaves levels K : ℕ) → Checked leaf up root nodes leaves (suc levels) K → Links (total leaf) leaf up root (lvl up root (suc levels)) (stack up root (suc levels))
checked_links leaf up root nodes leaves levels K c = links_of (total leaf) leaf up root (suc levels) (
  all_map (λ k. (k < nodes) × (dep up (suc K) k ≡ suc levels)) (Local (total leaf) leaf up) (λ k x. (c.lowest k x.0 x.1).0) (lvl up root levels) (depths leaf up root nodes leaves (suc levels) K c levels (omega arith)),
  inner levels (omega arith),
)
  where
    inner : (d : ℕ) → d < suc levels → Locals (total up) up up root d
    inner zero h = (c.root_parent, c.root_place)
    inner (suc d) h = (all_map (λ k. (k < nodes) × (dep up (suc K) k ≡ suc d)) (Local (total up) up up) (λ k x. (c.upper k x.0 (omega (arith, x.1))).0) (lvl up root d) (depths leaf up root nodes leaves (suc levels) K c d (omega arith)), inner d (omega arith))

-- every number in use is reached
pub record Reached (leaf up : Area) (root nodes leaves levels K : ℕ) : Type 0 where
  pub deep_in : (k : ℕ) → k < nodes → dep up (suc K) k ≤ levels
  pub parent_in : (k : ℕ) → k < nodes → k ≢ root → up.parent k < nodes
  pub held : (k : ℕ) → k < nodes → k ≢ root → (up.place k < length (up.slots (up.parent k))) × ((i : ℕ) → i ≡ up.place k → (s : Slot) → (get_or (up.slots (up.parent k)) i s).child ≡ k)

pub held_in : (k i : ℕ) (ss : List Slot) → i < length ss → ((s : Slot) → (get_or ss i s).child ≡ k) → All (λ c. c ≢ k) (map (λ s. s.child) ss) → ⊥
unfolding All
held_in k i [] h e a = not-suc-le-zero h
held_in k zero (s ∷ ss) h e a = a.0 (e s)
held_in k (suc i) (s ∷ ss) h e a = held_in k i ss (omega arith) e a.1

pub reach : (leaf up : Area) (root nodes leaves levels K : ℕ) → Checked leaf up root nodes leaves levels K → Reached leaf up root nodes leaves levels K
    → (d k : ℕ) → k < nodes → dep up (suc K) k ≡ suc d → All (λ m. m ≢ k) (lvl up root d) → ⊥
unfolding All
reach leaf up root nodes leaves levels K c r zero k lt e a =
    let q : k ≢ root = λ z. a.0 (sym z) in
    let p : up.parent k < nodes = r.parent_in k lt q in
    let y : nodes ≤ none = c.few in
    let s : dep up (suc K) k ≡ suc (dep up K (up.parent k)) = dep_step up K k (λ z. omega arith) in
    let z : levels < K = c.deep in
    up_zero K (up.parent k) (λ z. omega arith) (omega arith) (omega arith)
  where
    up_zero : (K k : ℕ) → k ≢ none → 0 < K → dep up K k ≡ 0 → ⊥
    up_zero zero k ne h e = not-suc-le-zero h
    up_zero (suc K) k ne h e = let s : dep up (suc K) k ≡ suc (dep up K (up.parent k)) = dep_step up K k ne in omega arith
reach leaf up root nodes leaves levels K c r (suc d) k lt e a = go (ℕ_discrete k root)
    (λ p lp ep. reach leaf up root nodes leaves levels K c r d p lp ep)
  where
    y : nodes ≤ none
    y = c.few

    step : dep up (suc K) k ≡ suc (dep up K (up.parent k))
    step = dep_step up K k (λ z. omega (arith, c.few))

    go : Dec (k ≡ root) → ((p : ℕ) → p < nodes → dep up (suc K) p ≡ suc d → All (λ m. m ≢ p) (lvl up root d) → ⊥) → ⊥
    go (yes z) ih =
        let w : dep up K (up.parent k) ≡ 0 = ap (λ (n : ℕ). dep up K n) (ap up.parent z ∙ c.root_parent) ∙ dep_none up K in
        omega (arith, step)
    go (no ne) ih =
        let p : ℕ = up.parent k in
        let lp : p < nodes = r.parent_in k lt ne in
        let dk : dep up K p ≡ suc d = omega (arith, step) in
        let bound : dep up (suc K) p ≤ levels = r.deep_in p lp in
        let dp : dep up (suc K) p ≡ suc d = sym (dep_less up K p (omega (arith, c.deep))) ∙ dk in
        ih p lp dp (all_map (λ q. All (λ m. m ≢ k) (kids_of up q)) (λ q. q ≢ p)
        (λ q h z. held_in k (up.place k) (up.slots p) (r.held k lt ne).0 (λ s. (r.held k lt ne).1 (up.place k) refl s) (rw z at h)) (lvl up root d) (uncat (λ m. m ≢ k) (kids_of up) (lvl up root d) a))

-- the other way: the links give the checks of each node reached
append_inj : {A : Type 0} (u v u' v' : List A) → length u ≡ length u' → u ++ v ≡ u' ++ v' → (u ≡ u') × (v ≡ v')
append_inj [] v [] v' e h = (refl, h)
append_inj [] v (x ∷ u') v' e h = absurd (omega arith)
append_inj (x ∷ u) v [] v' e h = absurd (omega arith)
append_inj (x ∷ u) v (x' ∷ u') v' e h =
    let q = append_inj u v u' v' (suc_inj e) (tail-eq_of_cons-eq h) in
    (ap₂ ◌∷◌ (head-eq_of_cons-eq h) q.0, q.1)

pub cat_inj : {A B : Type 0} (f g : A → List B) (P : List A) → ((p : A) → length (f p) ≡ length (g p)) → cat f P ≡ cat g P → All (λ p. f p ≡ g p) P
unfolding All
cat_inj f g [] h e = tt
cat_inj f g (p ∷ P) h e = let q = append_inj (f p) (cat f P) (g p) (cat g P) (h p) e in (q.0, cat_inj f g P h q.1)
