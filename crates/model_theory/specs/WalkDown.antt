-- `find` in a node, and the search from the root down to the leaf that holds an index.
use Rattle.model.specs.Numbered.{broken}
use Rattle.std.specs.Prelude.{◌≡◌, Bool, true, false, cond, ◌&&◌, ltb, leb, length, get_or, Ok, Err, Some, None}
use Rattle.std.proofs.Math.Path.{refl, ap}
use Rattle.std.proofs.Common.{sym, ap₂, ◌∙◌, subst, not-suc-le-zero, arith, length-append, lt-ltb, le-ltb, le-leb}
use mathlib.Core.List.{List, [], ◌∷◌, ◌++◌, map, append_assoc}
use Prim.Native.Nat.{ℕ, zero, suc, ◌+◌, ◌-◌, ◌≤◌, ◌<◌}
use Rattle.std.proofs.Math.Nat.{zero-add}
use Rattle.std.proofs.Math.Decide.{dec_lt}
use Rattle.std.proofs.Math.Seq.{get_or-append_seam}
use Rattle.model.specs.Lists.{All, sum_by}
use Rattle.model_laws.specs.Find.{descent_parts}
use Rattle.model.specs.Node as node
use Rattle.model.specs.Node.{Node, child, length_in, used, find_from}
use Rattle.model.specs.State.{State, node_at}
use Rattle.model.specs.Climb.{leaf_no}
use Rattle.model.specs.Locate.{into, descend}
use Rattle.model.specs.Sound.{shape_in, inner_in}
use Rattle.model.specs.declared.shape.Shape.{Shape}
use Rattle.model.specs.Node.{Found}
use Rattle.model.specs.declared.number.LeafNo.{LeafNo}
use Rattle.model.specs.Locate.{Descent}
use Rattle.model_tree.specs.Lists.{cat, cat_append, map_append, MapAt, map_split, all_right}
use Rattle.model_tree.specs.Levels.{Area, Mark, marks, marks_append, told, said, Links, total, len, wt_of}
use Rattle.model_tree.specs.Rank.{level_sum, front_sum}
use Rattle.model_theory.specs.WordTidy.{len_used, slot_used}
use Rattle.model_theory.specs.LiftTree.{slot_of, area_of, sum_slots}
use Rattle.model_theory.specs.WordNeat.{Neat}

-- the slot that holds position x of view v, among slots counted from k before which s stands in view e and p in prepare
pub record Hit (v e k x s p : ℕ) (xs : List (List ℕ)) : Type 0 where
  pub front : List (List ℕ)
  pub here : List ℕ
  pub behind : List (List ℕ)
  pub offset : ℕ
  pub row : xs ≡ front ++ here ∷ behind
  pub got : find_from v e k x s p xs ≡ Some (k + length front, offset, s + node.total e front, p + node.total 0 front)
  pub sums : node.total v front + offset ≡ x
  pub inside : offset < length_in v here

pub find_hit : (v e k x s p : ℕ) (xs : List (List ℕ)) → x < node.total v xs → Hit v e k x s p xs
unfolding find_from sum_by
find_hit v e k x s p [] h = absurd (not-suc-le-zero h)
find_hit v e k x s p (y ∷ xs) h = elim (dec_lt x (length_in v y)) [
  | yes lt ↦ record {
    front = [];
    here = y;
    behind = xs;
    offset = x;
    row = refl;
    got = rw (lt-ltb x (length_in v y) lt) (ap₂ (λ (a b : ℕ). Some (a, x, b, p)) (let z : k ≡ k + 0 = omega arith in z) (let z : s ≡ s + 0 = omega arith in z)
        ∙ ap (λ (c : ℕ). Some (k + 0, x, s + 0, c)) (let z : p ≡ p + 0 = omega arith in z));
    sums = zero-add x;
    inside = lt;
  }
  | no ge ↦ more (omega arith) (find_hit v e (k + 1) (x - length_in v y) (s + length_in e y) (p + length_in 0 y) xs (omega arith))
]
  where
    more : length_in v y ≤ x → Hit v e (k + 1) (x - length_in v y) (s + length_in e y) (p + length_in 0 y) xs → Hit v e k x s p (y ∷ xs)
    more le q = record {
      front = y ∷ q.front;
      here = q.here;
      behind = q.behind;
      offset = q.offset;
      row = ap {B = List (List ℕ)} (λ l. y ∷ l) q.row;
      got = rw (le-ltb x (length_in v y) le) (q.got ∙ ap (λ (c : ℕ). Some (k + 1 + length q.front, q.offset, s + length_in e y + node.total e q.front, c)) (let z : p + length_in 0 y + node.total 0 q.front ≡ p + (length_in 0 y + node.total 0 q.front) = omega arith in z)
          ∙ ap₂ (λ (a b : ℕ). Some (a, q.offset, b, p + (length_in 0 y + node.total 0 q.front))) (let z : k + 1 + length q.front ≡ k + suc (length q.front) = omega arith in z)
          (let z : s + length_in e y + node.total e q.front ≡ s + (length_in e y + node.total e q.front) = omega arith in z));
      sums = omega (arith, q.sums);
      inside = q.inside;
    }

pub find_miss : (v e k x s p : ℕ) (xs : List (List ℕ)) → node.total v xs ≤ x → find_from v e k x s p xs ≡ None
unfolding find_from sum_by
find_miss v e k x s p [] h = refl
find_miss v e k x s p (y ∷ xs) h = rw (le-ltb x (length_in v y) (omega arith)) (find_miss v e (k + 1) (x - length_in v y) (s + length_in e y) (p + length_in 0 y) xs (omega arith))

-- one step more of a descent that has come to node c
module _ (v e : ℕ) (g : Shape) (xs : List ℕ) (c r a a' j o b b' : ℕ)
    (here : (ltb c g.nodes && leb (node_at g c xs).len g.fan) ≡ true) (found : find_from v e 0 r a a' (used (node_at g c xs)) ≡ Some (j, o, b, b')) where
  pub descend_more : (miss : Descent) → ((k : ℕ) (x y z : ℕ) → miss ≡ Ok (Some (leaf_no k, x, y, z)) → ⊥) → (n k rest s p : ℕ) → descend v e g miss n k rest s p xs ≡ Ok (Some (leaf_no c, r, a, a'))
      → descend v e g miss (suc n) k rest s p xs ≡ Ok (Some (leaf_no (child (get_or (node_at g c xs).slots j [])), o, b, b'))
  unfolding descend
  descend_more miss never-at zero k rest s p q =
      let w = descent_parts (leaf_no k) (leaf_no c) rest s p r a a' q in
      let ek : k ≡ c = ap (λ (x : LeafNo). x.0) w.0 in
      rw (ek, w.1, w.2, w.3, here, found)
  descend_more miss never-at (suc n) k rest s p q =
      go (ltb k g.nodes && leb (node_at g k xs).len g.fan) refl (find_from v e 0 rest s p (used (node_at g k xs))) refl q
      (λ k' rest' s' p'. descend_more (Err broken) (λ k x y z w. never k x y z w) n k' rest' s' p')
    where
      never : (k x y z : ℕ) → ◌≡◌ {A = Descent} (Err broken) (Ok (Some (leaf_no k, x, y, z))) → ⊥
      never k x y z w = let u : ◌≡◌ {A = ℕ} 0 1 = cc in omega arith

      go : (t : Bool) → (ltb k g.nodes && leb (node_at g k xs).len g.fan) ≡ t → (f : Found) → find_from v e 0 rest s p (used (node_at g k xs)) ≡ f
          → cond (ltb k g.nodes && leb (node_at g k xs).len g.fan) (into (λ c r t u. descend v e g (Err broken) n c r t u xs) miss (node_at g k xs) (find_from v e 0 rest s p (used (node_at g k xs)))) (Err broken) ≡ Ok (Some (leaf_no c, r, a, a'))
          → ((k' rest' s' p' : ℕ) → descend v e g (Err broken) n k' rest' s' p' xs ≡ Ok (Some (leaf_no c, r, a, a')) → descend v e g (Err broken) (suc n) k' rest' s' p' xs ≡ Ok (Some (leaf_no (child (get_or (node_at g c xs).slots j [])), o, b, b')))
          → cond (ltb k g.nodes && leb (node_at g k xs).len g.fan) (into (λ c r t u. descend v e g (Err broken) (suc n) c r t u xs) miss (node_at g k xs) (find_from v e 0 rest s p (used (node_at g k xs)))) (Err broken) ≡ Ok (Some (leaf_no (child (get_or (node_at g c xs).slots j [])), o, b, b'))
      go true p (Some (i, u, z, w)) f q ih = rw (p, f) (ih (child (get_or (node_at g k xs).slots i [])) u z w (rw (p, f) at q))
      go true p None f q ih = absurd (never-at c r a a' (rw (p, f) at q))
      go false p f _ q ih = absurd (never c r a a' (rw p at q))

-- the node of a level at which a search from the root arrives
pub record Arrived (s : ℕ) (t : State) (v e : ℕ) (u : ℕ → ℕ → ℕ) (root : ℕ) (C : List ℕ) (d x : ℕ) : Type 0 where
  pub A : List ℕ
  pub c : ℕ
  pub B : List ℕ
  pub r : ℕ
  pub a : ℕ
  pub p : ℕ
  pub row : C ≡ A ++ c ∷ B
  pub got : descend v e (shape_in s t) (Ok None) d root x 0 0 t.inners ≡ Ok (Some (leaf_no c, r, a, p))
  pub sums : sum_by (λ k. u k v) A + r ≡ x
  pub inside : r < u c v
  pub effect : sum_by (λ k. u k e) A ≡ a
  pub prepare : sum_by (λ k. u k 0) A ≡ p

module _ (s : ℕ) (t : State) (nt : Neat s t) (v e : ℕ) where
  pub node_ok : (k : ℕ) → k < t.head.inners → (ltb k (shape_in s t).nodes && leb (inner_in s t k).len t.head.fan) ≡ true
  node_ok k lk =
      let l : (inner_in s t k).len ≡ length (used (inner_in s t k)) = len_used s t.head.fan (inner_in s t k) (nt.inner_tidy k lk) in
      rw (lt-ltb k (shape_in s t).nodes (omega (arith, nt.inner_count)), le-leb (inner_in s t k).len t.head.fan (omega (arith, (nt.inner_tidy k lk).most)))

  pub arrive : (u : ℕ → ℕ → ℕ) (low : Area) (root : ℕ) (C : List ℕ) (st : List (List ℕ)) (x : ℕ)
      → Links u low (area_of (shape_in s t) t.inners) root C st → All (All (λ k. k < t.head.inners)) st → x < sum_by (λ k. u k v) C → Arrived s t v e u root C (length st) x
  unfolding All sum_by descend
  arrive u low root C [] x l h lt =
      let lt' : x < u root v + 0 = rw l.0 at lt in
      record { A = []; c = root; B = []; r = x; a = 0; p = 0; row = l.0; got = refl; sums = zero-add x; inside = omega arith; effect = refl; prepare = refl }
  arrive u low root C (P ∷ st) x l h lt = go1 (arrive (total up) up root P st x l.1 h.1 (rw sums lt))
    where
      up : Area
      up = area_of (shape_in s t) t.inners

      sums : sum_by (λ p. total (area_of (shape_in s t) t.inners) p v) P ≡ sum_by (λ c. u c v) C
      sums = sym (level_sum v u low (area_of (shape_in s t) t.inners) C P l.0)

      go3 : (q : Arrived s t v e (total (area_of (shape_in s t) t.inners)) root P (length st) x) → q.c < t.head.inners → (z : Hit v e 0 q.r q.a q.p (used (inner_in s t q.c)))
          → MapAt (said u low) C (cat (told (area_of (shape_in s t) t.inners)) q.A ++ marks q.c 0 (map slot_of z.front)) (record { num = child z.here; par = q.c; pos = 0 + length (map slot_of z.front); wt = (slot_of z.here).lens }) (marks q.c (suc (0 + length (map slot_of z.front))) (map slot_of z.behind) ++ cat (told (area_of (shape_in s t) t.inners)) q.B)
          → Arrived s t v e u root C (suc (length st)) x
      go3 q lq z m =
          let n : Node = inner_in s t q.c in
          let i : ℕ = 0 + length z.front in
          let li : length z.front < length (used n) = (let y : length (used n) ≡ length z.front + suc (length z.behind) = ap length z.row ∙ length-append z.front (z.here ∷ z.behind) in omega arith) in
          let kid : child (get_or n.slots i []) ≡ m.c =
          ap (λ (k : ℕ). child (get_or n.slots k [])) (zero-add (length z.front))
          ∙ ap child (slot_used s t.head.fan n (nt.inner_tidy q.c lq) (length z.front) [] li ∙ ap (λ (l : List (List ℕ)). get_or l (length z.front) []) z.row ∙ get_or-append_seam z.front z.here z.behind [])
          ∙ sym (ap (λ (k : Mark). k.num) m.own) in
          let before : (w : ℕ) → sum_by (λ k. u k w) m.A₁ ≡ sum_by (λ p. total (area_of (shape_in s t) t.inners) p w) q.A + sum_by (len w) (map slot_of z.front) = λ w. front_sum w u low (area_of (shape_in s t) t.inners) m.A₁ q.A q.c (map slot_of z.front) m.before in
          record {
            A = m.A₁;
            c = m.c;
            B = m.A₂;
            r = z.offset;
            a = q.a + node.total e z.front;
            p = q.p + node.total 0 z.front;
            row = m.row;
            got = descend_more v e (shape_in s t) t.inners q.c q.r q.a q.p i z.offset (q.a + node.total e z.front) (q.p + node.total 0 z.front) (node_ok q.c lq) z.got (Ok None) (λ k x y w o. never k x y w o) (length st) root x 0 0 q.got
                ∙ ap (λ (k : ℕ). Ok (Some (leaf_no k, z.offset, q.a + node.total e z.front, q.p + node.total 0 z.front))) kid;
            sums = omega (arith, z.sums, q.sums, before v, sum_slots v z.front);
            inside = omega (arith, z.inside, ap (wt_of v) m.own);
            effect = omega (arith, q.effect, before e, sum_slots e z.front);
            prepare = omega (arith, q.prepare, before 0, sum_slots 0 z.front);
          }
        where
          never : (k x y w : ℕ) → ◌≡◌ {A = Descent} (Ok None) (Ok (Some (leaf_no k, x, y, w))) → ⊥
          never k x y w z = let u : ◌≡◌ {A = ℕ} 0 1 = cc in omega arith

      go2 : (q : Arrived s t v e (total (area_of (shape_in s t) t.inners)) root P (length st) x) → q.c < t.head.inners → Hit v e 0 q.r q.a q.p (used (inner_in s t q.c)) → Arrived s t v e u root C (suc (length st)) x
      go2 q lq z = go3 q lq z (map_split (said u low) C _ _ _ (l.0 ∙ rw (q.row, cat_append, append_assoc, ap (map slot_of) z.row ∙ map_append slot_of z.front (z.here ∷ z.behind), marks_append) (simp append_assoc)))

      go1 : Arrived s t v e (total (area_of (shape_in s t) t.inners)) root P (length st) x → Arrived s t v e u root C (suc (length st)) x
      go1 q =
          let lq : q.c < t.head.inners = (all_right (λ k. k < t.head.inners) q.A (q.c ∷ q.B) (subst (All (λ k. k < t.head.inners)) q.row h.0)).0 in
          go2 q lq (find_hit v e 0 q.r q.a q.p (used (inner_in s t q.c)) (let y = sum_slots v (used (inner_in s t q.c)) in let z = q.inside in omega arith))
