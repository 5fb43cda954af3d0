-- What a lookup counts on a sound state is the paper's number of slots examined, within its bounds: at most fan × (levels + 2), at most fan where the
-- finger serves and its leaf holds the position, and at most fan × (k + 2) by the floor on entries.
use Rattle.model.specs.Numbered.{broken}
use Rattle.std.specs.Prelude.{◌≡◌, Bool, ◌&&◌, List, [], ◌∷◌, ltb, get_or, take, Ok, Err, Some, None, Option}
use Rattle.std.proofs.Math.Path.{refl, ap}
use Rattle.std.proofs.Common.{◌∙◌, not-suc-le-zero, mul_comm, mul-le-mul_right}
use Rattle.std.proofs.Math.Bool.{true, false, cond}
use Prim.Native.Nat.{ℕ, zero, suc, ◌+◌, ◌-◌, ◌*◌, ◌%◌, ◌^◌, ◌≤◌, ◌<◌}
use Rattle.std.proofs.Math.Nat.{suc-mul}
use Rattle.std.proofs.Math.Decide.{ℕ_discrete, dec_lt}
use native.Mathlib.Omega.{arith}
use Rattle.std.proofs.Math.Dec.{leb}
use Rattle.std.proofs.Math.ListN.{length}
use borrow.Author.Tests.{lt-ltb, le-ltb, le-leb, lt-leb, eq-eqb, ne_eqb, leb-true}
use Rattle.model.specs.Kind.{stride}
use Rattle.model.specs.declared.shape.Kind.{Kind}
use Rattle.model.specs.declared.shape.Shape.{Shape}
use Rattle.model.specs.Lists.{sum_by, refusal}
use Rattle.model.specs.Node as node
use Rattle.model.specs.Node.{Node, child, length_in, used, half, find_from}
use Rattle.model.specs.State.{State, node_at}
use Rattle.model.specs.Locate.{served, served_by, into, descend, leaf_of, set_in, from_root}
use Rattle.model.specs.Sound.{leaf_in, shape_in, Coherent, FingerRight}
use Rattle.model.specs.Refuse.{opening}
use Rattle.model.specs.Deepest.{deepest, Deepest}
use Rattle.model.specs.Examined.{span, slots_before, downward, from_top, by_held, examined, found_slots, served_slots, held_slots, looked_slots, look_slots, Near, Far}
use Rattle.model.specs.Node.{Found}
use Rattle.model.specs.declared.head.Finger.{Finger}
use Rattle.model.specs.Locate.{Descent}
use Rattle.model.specs.Locate.{Search}
use Rattle.model_laws.specs.Find.{find_ranged}
use Rattle.model_laws.specs.Lists.{and_true}
use Rattle.model_laws.specs.Examined.{find_taken, used_short, found_in, downward_on}
use Rattle.model_tree.specs.Levels.{len}
use Rattle.model_tree.specs.Tree as tree
use Rattle.model_tree.specs.Follows.{levels_most, entry_floor}
use Rattle.model_theory.specs.LiftTree.{tree_of}
use Rattle.model_theory.specs.WordTidy.{len_used}
use Rattle.model_theory.specs.WordNeat.{neat_of}
use Rattle.model_theory.specs.LiftSound.{body_of}
use Rattle.model_theory.specs.CallOpen.{passed, opens}
use Rattle.model_theory.specs.WalkFinger.{WalkReached, walk_hit, walk_miss}
use Rattle.model_theory.specs.WalkLookup.{leaf_small, searched, root_hit}
use Rattle.model_theory.specs.LookupDepth.{deepest_is, levels_below}

-- the slot that holds a position is the one that the slots before it lead to
pub before_at : (v index j o : ℕ) (xs : List (List ℕ)) → j < length xs → node.total v (take j xs) + o ≡ index → o < length_in v (get_or xs j []) → slots_before v index xs ≡ j
unfolding slots_before sum_by
before_at v index j o [] l e h = absurd (not-suc-le-zero l)
before_at v index zero o (y ∷ ys) l e h = rw (lt-ltb index (length_in v y) (omega arith))
before_at v index (suc j) o (y ∷ ys) l e h = rw (le-ltb index (length_in v y) (omega arith)) (ap suc (before_at v (index - length_in v y) j o ys (omega arith) (omega arith) h))

-- from the root ------------------------------------------------------------------------------------------------------------------------------

module _ (v e : ℕ) (g : Shape) (leaves index : ℕ) (ls xs : List ℕ) (f : Finger) (o : ℕ) where
  broken_apart : ◌≡◌ {A = Search} (Err broken) (Ok (Some (f, o))) → ⊥
  broken_apart q = let z : ◌≡◌ {A = ℕ} 0 1 = cc in omega arith

  nothing_apart : ◌≡◌ {A = Search} (Ok None) (Ok (Some (f, o))) → ⊥
  nothing_apart q = let z : ◌≡◌ {A = ℕ} 0 1 = cc in omega arith

  -- a search that finds examines at most fan slots in each node on the way; on any words
  down_most : (miss : Descent) → (leaf_of v e g leaves index ls miss ≡ Ok (Some (f, o)) → ⊥) → (n k rest a b : ℕ)
      → leaf_of v e g leaves index ls (descend v e g miss n k rest a b xs) ≡ Ok (Some (f, o)) → downward v g ls xs n k rest ≤ (n + 1) * g.fan
  unfolding descend downward
  down_most miss never zero k rest a b q = go (ltb k leaves && leb (node_at g k ls).len g.fan) refl (find_from v e 0 rest 0 0 (used (node_at g k ls))) refl q
    where
      go : (c : Bool) → (ltb k leaves && leb (node_at g k ls).len g.fan) ≡ c → (r : Found) → find_from v e 0 rest 0 0 (used (node_at g k ls)) ≡ r
          → cond (ltb k leaves && leb (node_at g k ls).len g.fan) (set_in v e g k index rest a b (find_from v e 0 rest 0 0 (used (node_at g k ls)))) (Err broken) ≡ Ok (Some (f, o))
          → slots_before v rest (used (node_at g k ls)) + 1 ≤ (0 + 1) * g.fan
      go true p (Some (j, u, z, y)) r q =
          omega (
            arith,
            (find_taken v e 0 rest 0 0 (used (node_at g k ls)) j u z y r).slot,
            (find_ranged v e 0 rest 0 0 (used (node_at g k ls))).slot j u z y r,
            used_short (node_at g k ls),
            leb-true (node_at g k ls).len g.fan (and_true (ltb k leaves) (leb (node_at g k ls).len g.fan) p).1,
          )
      go true p None r q = absurd (broken_apart (rw (p, r) at q))
      go false p d r q = absurd (broken_apart (rw p at q))
  down_most miss never (suc n) k rest a b q =
      go (ltb k g.nodes && leb (node_at g k xs).len g.fan) refl (find_from v e 0 rest a b (used (node_at g k xs))) refl q (λ c r t u. down_most (Err broken) (λ z. broken_apart z) n c r t u)
    where
      go : (c : Bool) → (ltb k g.nodes && leb (node_at g k xs).len g.fan) ≡ c → (r : Found) → find_from v e 0 rest a b (used (node_at g k xs)) ≡ r
          → leaf_of v e g leaves index ls (cond (ltb k g.nodes && leb (node_at g k xs).len g.fan) (into (λ c r t u. descend v e g (Err broken) n c r t u xs) miss (node_at g k xs) (find_from v e 0 rest a b (used (node_at g k xs)))) (Err broken)) ≡ Ok (Some (f, o))
          → ((c r t u : ℕ) → leaf_of v e g leaves index ls (descend v e g (Err broken) n c r t u xs) ≡ Ok (Some (f, o)) → downward v g ls xs n c r ≤ (n + 1) * g.fan)
          → downward v g ls xs (suc n) k rest ≤ (suc n + 1) * g.fan
      go true p (Some (j, u, z, y)) r q ih =
          let c : (node_at g k xs).len ≤ g.fan = leb-true (node_at g k xs).len g.fan (and_true (ltb k g.nodes) (leb (node_at g k xs).len g.fan) p).1 in
          let here : j < (node_at g k xs).len = found_in v e g k rest a b xs j u z y r in
          let i : downward v g ls xs n (child (get_or (node_at g k xs).slots j [])) u ≤ (n + 1) * g.fan = ih (child (get_or (node_at g k xs).slots j [])) u z y (rw (p, r) at q) in
          let d : downward v g ls xs (suc n) k rest ≡ j + 1 + downward v g ls xs n (child (get_or (node_at g k xs).slots j [])) u =
          downward_on v e g k rest a b xs j u z y r ls (suc n) (omega arith) ∙ ap (λ (i : ℕ). j + 1 + downward v g ls xs i (child (get_or (node_at g k xs).slots j [])) u) (let one : suc n - 1 ≡ n = omega arith in one) in
          omega (arith, suc-mul (n + 1) g.fan)
      go true p None r q ih = absurd (never (rw (p, r) at q))
      go false p d r q ih = absurd (broken_apart (rw p at q))

-- a lookup on a sound state -------------------------------------------------------------------------------------------------------------------

never : false ≡ true → ⊥
never e = let z : ◌≡◌ {A = ℕ} 0 1 = cc in omega arith

module _ (K : Kind) (t : State) (w : Coherent K t) (v x : ℕ) (lt : x < sum_by (len v) (tree.row (tree_of (stride K) t))) where
  abbrev root : Search
  root = from_root v K.effect (shape_in (stride K) t) t.head.levels t.head.root.0 t.head.leaves x t.leaves t.inners

  -- the search from the root finds, within its bound
  top : ((n : ℕ) → found_slots root n ≡ n) × (from_top K t v x ≤ (t.head.levels + 1) * t.head.fan)
  unfolding searched from_root
  top =
      let r = root_hit (stride K) K.effect t w v x lt in (
        λ n. rw r.is,
        down_most v K.effect (shape_in (stride K) t) t.head.leaves x t.leaves t.inners r.finger r.offset (Ok None)
            (λ q. nothing_apart v K.effect (shape_in (stride K) t) t.head.leaves x t.leaves t.inners r.finger r.offset q) t.head.levels t.head.root.0 x 0 0 r.is,
      )

  -- it goes through few nodes, so nothing wraps
  few : (a : ℕ) → a ≤ t.head.fan → (a + from_top K t v x) % 2 ^ 32 ≡ a + from_top K t v x
  few a h =
      let m : (t.head.levels + 1) * t.head.fan ≤ 16 * t.head.fan = mul-le-mul_right t.head.fan (let z = levels_most (tree_of (stride K) t) (body_of (stride K) t K.effect w) in omega arith) in
      omega (arith, top.1, w.fan_most)

  -- what is counted with that finger, the paper's number, and its bounds
  pub record Told (h : Option Finger) : Type 0 where
    pub is : looked_slots (served_by v K.effect (shape_in (stride K) t) h t.head.leaves x t.leaves) (held_slots v K.effect (shape_in (stride K) t) h t.head.leaves x t.leaves) root (from_top K t v x) ≡ by_held K t v x h
    pub most : by_held K t v x h ≤ (t.head.levels + 1) * t.head.fan + t.head.fan
    pub near : Near K t v x h → by_held K t v x h ≤ t.head.fan

  told : (h : Option Finger) → FingerRight (stride K) t K.effect h → Told h
  unfolding served served_slots
  told None r = record { is = top.0 _ ∙ few 0 (omega arith) ∙ omega arith; most = omega (arith, top.1); near = λ z. absurd z }
  told (Some f) r = go (ℕ_discrete f.view v) (dec_lt x f.start)
    where
      size : (leaf_in (stride K) t f.leaf).len ≡ length (used (leaf_in (stride K) t f.leaf))
      size = len_used (stride K) t.head.fan (leaf_in (stride K) t f.leaf) ((neat_of (stride K) t K.effect w).leaf_tidy f.leaf r.leaf)

      high : (leaf_in (stride K) t f.leaf).len ≤ t.head.fan
      high = (w.leaf_filled f.leaf r.leaf).high

      fits : f.slot < length (used (leaf_in (stride K) t f.leaf))
      fits = let a = r.slot in let b = size in omega arith

      go : Dec (f.view ≡ v) → Dec (x < f.start) → Told (Some f)
      go (no ne) d = record {
        is = rw (ne_eqb f.view v ne) (top.0 _ ∙ few 0 (omega arith) ∙ omega arith);
        most = rw (ne_eqb f.view v ne) (omega (arith, top.1));
        near = λ z. absurd (never (rw (ne_eqb f.view v ne) at z.0));
      }
      go (yes e) (yes l) = record {
        is = rw (eq-eqb f.view v e, lt-leb f.start x l) (top.0 _ ∙ few 0 (omega arith) ∙ omega arith);
        most = rw (eq-eqb f.view v e, lt-leb f.start x l) (omega (arith, top.1));
        near = λ z. absurd (never (rw (eq-eqb f.view v e, lt-leb f.start x l) at z.0));
      }
      go (yes e) (no ge) = walk (dec_lt (x - f.start) (node.total v (used (leaf_in (stride K) t f.leaf))))
        where
          small : (u : ℕ) → node.total u (used (leaf_in (stride K) t f.leaf)) < 4294967296
          small u = leaf_small (stride K) K.effect t w v u f.leaf r.leaf

          wi : f.within ≡ node.total v (take f.slot (used (leaf_in (stride K) t f.leaf)))
          wi = r.within ∙ ap (λ (u : ℕ). node.total u (take f.slot (used (leaf_in (stride K) t f.leaf)))) e

          walk : Dec (x - f.start < node.total v (used (leaf_in (stride K) t f.leaf))) → Told (Some f)
          walk (yes h) =
              let q : WalkReached v K.effect (used (leaf_in (stride K) t f.leaf)) f (x - f.start) = walk_hit v K.effect (used (leaf_in (stride K) t f.leaf)) (small v) (small K.effect) (small 0) f (x - f.start) (let z = fits in omega arith) wi r.within_effect r.within_prepare h in
              let b : slots_before v (x - f.start) (used (leaf_in (stride K) t f.leaf)) ≡ q.slot = before_at v (x - f.start) q.slot q.offset (used (leaf_in (stride K) t f.leaf)) q.slot_in_law q.sums q.inside in
              let c : span f.slot (slots_before v (x - f.start) (used (leaf_in (stride K) t f.leaf))) ≤ t.head.fan = (let y = fits in let z = size in let m = high in let n = q.slot_in_law in omega arith) in
              record {
                is = rw (eq-eqb f.view v e, le-leb f.start x (omega arith), lt-ltb f.leaf t.head.leaves r.leaf, le-leb (leaf_in (stride K) t f.leaf).len t.head.fan high, lt-ltb f.slot (leaf_in (stride K) t f.leaf).len r.slot, q.is, lt-ltb (x - f.start) (node.total v (used (leaf_in (stride K) t f.leaf))) h, b);
                most = rw (eq-eqb f.view v e, le-leb f.start x (omega arith), lt-ltb (x - f.start) (node.total v (used (leaf_in (stride K) t f.leaf))) h) (omega arith);
                near = λ _. rw (eq-eqb f.view v e, le-leb f.start x (omega arith), lt-ltb (x - f.start) (node.total v (used (leaf_in (stride K) t f.leaf))) h) c;
              }
          walk (no h) =
              let q = walk_miss v K.effect (used (leaf_in (stride K) t f.leaf)) (small v) (small K.effect) (small 0) f (x - f.start) (let z = fits in omega arith) wi r.within_effect r.within_prepare (omega arith) in
              let c : (leaf_in (stride K) t f.leaf).len - f.slot ≤ t.head.fan = (let m = high in omega arith) in
              record {
                is = rw (eq-eqb f.view v e, le-leb f.start x (omega arith), lt-ltb f.leaf t.head.leaves r.leaf, le-leb (leaf_in (stride K) t f.leaf).len t.head.fan high, lt-ltb f.slot (leaf_in (stride K) t f.leaf).len r.slot, q, le-ltb (x - f.start) (node.total v (used (leaf_in (stride K) t f.leaf))) (omega arith))
                    (top.0 _ ∙ few ((leaf_in (stride K) t f.leaf).len - f.slot) c);
                most = rw (eq-eqb f.view v e, le-leb f.start x (omega arith), le-ltb (x - f.start) (node.total v (used (leaf_in (stride K) t f.leaf))) (omega arith)) (omega (arith, top.1));
                near = λ z. absurd (never (rw (le-ltb (x - f.start) (node.total v (used (leaf_in (stride K) t f.leaf))) (omega arith)) at z.1));
              }

  -- the bounds, from n at most fan times levels + 2
  bounded : (n : ℕ) → n ≡ examined K t v x → n ≤ (t.head.levels + 1) * t.head.fan + t.head.fan → (Near K t v x t.head.finger → n ≤ t.head.fan) → Far K t v x n
  bounded n e h c =
      let d : Deepest (half t.head.fan) t.head.entries (deepest (half t.head.fan) t.head.entries) = deepest_is (half t.head.fan) t.head.entries (let z = w.fan_least in omega arith) in
      let l : t.head.levels ≤ deepest (half t.head.fan) t.head.entries = levels_below (half t.head.fan) t.head.entries (deepest (half t.head.fan) t.head.entries) t.head.levels d (entry_floor (tree_of (stride K) t) (body_of (stride K) t K.effect w)) in
      let a : (t.head.levels + 2) * t.head.fan ≡ (t.head.levels + 1) * t.head.fan + t.head.fan = (let z = suc-mul (t.head.levels + 1) t.head.fan in omega arith) in
      let y : (t.head.levels + 2) * t.head.fan ≤ (deepest (half t.head.fan) t.head.entries + 2) * t.head.fan = mul-le-mul_right t.head.fan (omega arith) in
      record {
        is = e;
        most = (let z = mul_comm t.head.fan (t.head.levels + 2) in omega arith);
        near = c;
        floor = (let z = mul_comm t.head.fan (deepest (half t.head.fan) t.head.entries + 2) in omega arith);
      }

  -- what a lookup on a sound state counts
  pub look_far : Far K t v x (look_slots K t v x)
  unfolding look_slots examined opening refusal
  look_far =
      let r = told t.head.finger w.finger in
      let e : look_slots K t v x ≡ examined K t v x = passed (opening K t) (λ n. 0) _ (opens K t w []) ∙ r.is in
      bounded (look_slots K t v x) e (omega (arith, r.most)) (λ z. (let y = r.near z in omega arith))
