-- A change of lengths, at a slot and on the way up: the model's climb writes what `carry` writes and sums what `rank_up` sums.
use Rattle.model.specs.declared.way.Broken.{Broken}
use Rattle.model.specs.Numbered.{broken}
use Rattle.std.specs.Prelude.{◌≡◌, ◌≢◌, true, get_or, Err, Result}
use Rattle.std.proofs.Math.Path.{refl, fun_ext}
use Rattle.std.proofs.Common.{sym, ap, ◌∙◌, subst, add-one, arith, length-set, length-drop, lt-ltb}
use Rattle.std.proofs.Math.Bool.{cond}
use mathlib.Core.List.{List, [], ◌∷◌, ◌++◌, map, zip_with}
use Prim.Native.Nat.{ℕ, zero, suc, ◌+◌, ◌-◌, ◌%◌, ◌^◌, ◌<◌}
use Rattle.std.proofs.Math.Decide.{ℕ_discrete}
use Rattle.std.proofs.Math.ListN.{length, set}
use Rattle.std.proofs.lemmas.List.{length-map}
use Rattle.model.specs.Lists.{All}
use Rattle.model.specs.Node.{Node, child, lengths, length_in, used, start, plus, minus, lengths_at, with_lengths}
use Rattle.model.specs.State.{node_at, put_node}
use Rattle.model.specs.Climb.{inside, rank_up, raised, climb_up}
use Rattle.model.specs.declared.shape.Shape.{Shape}
use Rattle.model_laws.specs.Lists.{all_at_at, all_set, length_zip}
use Rattle.model_laws.specs.Areas.{node_other}
use Rattle.model_theory.specs.WordFits.{NodeSized, fits}
use Rattle.model_tree.specs.Lists.{all_right}
use Rattle.model_tree.specs.Levels.{no_slot, Slot, Area, Links, total, Parent, find_parent}
use Rattle.model_tree.specs.Apart.{Real, apart}
use Rattle.model_tree.specs.Update.{upd, upd_same, upd_other, set_slots}
use Rattle.model_tree.specs.Carry.{change, carry}
use Rattle.model_theory.specs.WordTidy.{Tidy, made, tidy_made, used_made, tidy_formed, slot_used, lengths_made}
use Rattle.model_theory.specs.LiftTree.{slot_of, slots_of, area_of}
use Rattle.model_theory.specs.LiftMarks.{get_d_slot}
use Rattle.model_theory.specs.WordPut.{Keeps, put_same, put_slots}
use Rattle.model_theory.specs.WalkUp.{WayUp}

-- sums and differences, view by view
pub plus_at : (xs ys : List ℕ) (v : ℕ) → length xs ≡ length ys → get_or (plus xs ys) v 0 ≡ (get_or xs v 0 + get_or ys v 0) % 2 ^ 32
unfolding plus zip_with
plus_at [] [] v e = refl
plus_at [] (y ∷ ys) v e = absurd (omega arith)
plus_at (x ∷ xs) [] v e = absurd (omega arith)
plus_at (x ∷ xs) (y ∷ ys) zero e = refl
plus_at (x ∷ xs) (y ∷ ys) (suc v) e = plus_at xs ys v (omega arith)

pub minus_at : (xs ys : List ℕ) (v : ℕ) → length xs ≡ length ys → get_or (minus xs ys) v 0 ≡ (get_or xs v 0 + (2 ^ 32 - get_or ys v 0)) % 2 ^ 32
unfolding minus zip_with
minus_at [] [] v e = refl
minus_at [] (y ∷ ys) v e = absurd (omega arith)
minus_at (x ∷ xs) [] v e = absurd (omega arith)
minus_at (x ∷ xs) (y ∷ ys) zero e = refl
minus_at (x ∷ xs) (y ∷ ys) (suc v) e = minus_at xs ys v (omega arith)

pub map_set : {A B : Type 0} (f : A → B) (l : List A) (i : ℕ) (y : A) → map f (set l i y) ≡ set (map f l) i (f y)
map_set f [] i y = refl
map_set f (x ∷ l) zero y = refl
map_set {B = B} f (x ∷ l) (suc i) y = ap {B = List B} (λ m. f x ∷ m) (map_set f l i y)

-- the slot of child c with these lengths
pub slot_of_law : (c : ℕ) (ls : List ℕ) → slot_of (c ∷ ls) ≡ record { child = c; lens = λ v. get_or ls v 0 }
slot_of_law c ls = simp add-one

pub lengths_at_law : (x : List ℕ) (v : ℕ) → get_or (lengths x) v 0 ≡ length_in v x
lengths_at_law [] v = refl
lengths_at_law (c ∷ ls) v = rw add-one

-- other lengths for slot i of a tidy node
module _ (s fan : ℕ) (n : Node) (t : Tidy s fan n) (i : ℕ) (ls : List ℕ) (li : i < length (used n)) where
  lengths_node : with_lengths i ls n ≡ made s fan n.parent n.at (set (used n) i (child (get_or (used n) i []) ∷ ls))
  lengths_node = ap (with_lengths i ls) t.is ∙ lengths_made s fan n.parent n.at (used n) i ls li

  pub lengths_tidy : length ls + 1 ≡ s → Tidy s fan (with_lengths i ls n)
  lengths_tidy e = subst (Tidy s fan) (sym lengths_node) (tidy_made s fan n.parent n.at (set (used n) i (child (get_or (used n) i []) ∷ ls)) (rw (length-set (used n) i (child (get_or (used n) i []) ∷ ls)) t.most)
      (all_set (λ x. length x ≡ s) i (child (get_or (used n) i []) ∷ ls) (used n) (omega arith) t.wide))

  pub lengths_slots : slots_of (with_lengths i ls n) ≡ set (slots_of n) i (record { child = child (get_or (used n) i []); lens = λ v. get_or ls v 0 })
  lengths_slots = ap slots_of lengths_node ∙ ap (map slot_of) (used_made s fan n.parent n.at (set (used n) i (child (get_or (used n) i []) ∷ ls)))
      ∙ map_set slot_of (used n) i (child (get_or (used n) i []) ∷ ls) ∙ ap (set (slots_of n) i) (slot_of_law (child (get_or (used n) i [])) ls)

-- the way up from place i of inner node k: d nodes, each apart from those above it
abbrev pub Off : Area → ℕ → ℕ → ℕ → Type 0
Off up p zero c = Unit {0}
Off up p (suc d) c = (up.parent c ≢ p) × Off up p d (up.parent c)

abbrev pub Up : Area → ℕ → ℕ → ℕ → ℕ → Type 0
Up up n zero k i = Unit {0}
Up up n (suc d) k i = (k < n) × (i < length (up.slots k)) × Off up k d k × Up up n d (up.parent k) (up.place k)

off_of : (t : ℕ → ℕ → ℕ) (up : Area) (root p : ℕ) (A : List ℕ) (c : ℕ) (B : List ℕ) (st : List (List ℕ)) → Links t up up root (A ++ c ∷ B) st → All (All (λ m. p ≢ m)) st → Off up p (length st) c
unfolding All
off_of t up root p A c B [] l h = tt
off_of t up root p A c B (P ∷ st) l h =
    let r : Parent t up up A c B P = find_parent t up up A c B P l.0 in (
      (λ q. (all_right (λ m. p ≢ m) r.P₁ (up.parent c ∷ r.P₂) (subst (All (λ m. p ≢ m)) r.row h.0)).0 (sym q)),
      off_of (total up) up root p r.P₁ (up.parent c) r.P₂ st (subst (λ (Q : List ℕ). Links (total up) up up root Q st) r.row l.1) h.1,
    )

pub up_of : (t : ℕ → ℕ → ℕ) (low up : Area) (root n : ℕ) (A : List ℕ) (c : ℕ) (B : List ℕ) (st : List (List ℕ))
    → Links t low up root (A ++ c ∷ B) st → All Real st → WayUp low up n (length st) c → Up up n (length st) (low.parent c) (low.place c)
unfolding All
up_of t low up root n A c B [] l re w = tt
up_of t low up root n A c B (P ∷ st) l re w =
    let r : Parent t low up A c B P = find_parent t low up A c B P l.0 in
    let l' : Links (total up) up up root (r.P₁ ++ low.parent c ∷ r.P₂) st = subst (λ (Q : List ℕ). Links (total up) up up root Q st) r.row l.1 in
    let ap' : All (λ c. All (All (λ m. c ≢ m)) st) (r.P₁ ++ low.parent c ∷ r.P₂) = subst (All (λ c. All (All (λ m. c ≢ m)) st)) r.row (apart (total up) up root P st l.1 re.0 re.1) in (
      w.0,
      w.1,
      off_of (total up) up root (low.parent c) r.P₁ (low.parent c) r.P₂ st l' (all_right (λ c. All (All (λ m. c ≢ m)) st) r.P₁ (low.parent c ∷ r.P₂) ap').0,
      up_of (total up) up up root n r.P₁ (low.parent c) r.P₂ st l' re.1 w.2,
    )

-- the way depends on parents, places and sizes only
off_same : (up up' : Area) → ((k : ℕ) → up'.parent k ≡ up.parent k) → (p d c : ℕ) → Off up p d c → Off up' p d c
off_same up up' e p zero c h = tt
off_same up up' e p (suc d) c h = ((λ q. h.0 (sym (e c) ∙ q)), subst (λ (k : ℕ). Off up' p d k) (sym (e c)) (off_same up up' e p d (up.parent c) h.1))

up_same : (up up' : Area) → ((k : ℕ) → up'.parent k ≡ up.parent k) → ((k : ℕ) → up'.place k ≡ up.place k) → ((k : ℕ) → length (up'.slots k) ≡ length (up.slots k)) → (n d k i : ℕ) → Up up n d k i → Up up' n d k i
up_same up up' e f g n zero k i h = tt
up_same up up' e f g n (suc d) k i h =
    (h.0, rw (g k) h.1, off_same up up' e k d k h.2, subst (λ (x : ℕ). Up up' n d x (up'.place k)) (sym (e k)) (subst (λ (x : ℕ). Up up' n d (up.parent k) x) (sym (f k)) (up_same up up' e f g n d (up.parent k) (up.place k) h.3)))

-- what is added in each view
abbrev pub added : List ℕ → ℕ → ℕ → ℕ
added delta v x = (x + get_or delta v 0) % 2 ^ 32

-- what the climb from place i of inner node k writes, and what it sums
pub record ClimbCarried (g : Shape) (delta : List ℕ) (count v d k i a : ℕ) (xs : List ℕ) : Type 0 where
  pub words : List ℕ
  pub is : climb_up g v delta d k i a xs ≡ (rank_up g v d k i a xs, words)
  pub keeps : Keeps g count words
  pub area : area_of g words ≡ carry (added delta) d (area_of g xs) k i

module _ (g : Shape) (sized : NodeSized g) (pos : 0 < g.stride) (delta : List ℕ) (count : ℕ) (wide : length delta + 1 ≡ g.stride) where
  abbrev pub raised_node : ℕ → ℕ → List ℕ → Node
  raised_node k i xs = with_lengths i (plus (lengths_at i (node_at g k xs).slots) delta) (node_at g k xs)

  module _ (k i : ℕ) (xs : List ℕ) (lk : k < count) (li : i < length (slots_of (node_at g k xs))) (h : Keeps g count xs) where
    lu : i < length (used (node_at g k xs))
    lu = (let z : length (slots_of (node_at g k xs)) ≡ length (used (node_at g k xs)) = length-map (used (node_at g k xs)) slot_of in omega arith)

    same : lengths_at i (node_at g k xs).slots ≡ lengths (get_or (used (node_at g k xs)) i [])
    same = ap lengths (slot_used g.stride g.fan (node_at g k xs) (h.tidy k lk) i [] lu)

    long : length (lengths (get_or (used (node_at g k xs)) i [])) + 1 ≡ g.stride
    long = (let z : length (get_or (used (node_at g k xs)) i []) ≡ g.stride = all_at_at (λ x. length x ≡ g.stride) i [] (used (node_at g k xs)) lu (h.tidy k lk).wide in let y = length-drop 1 (get_or (used (node_at g k xs)) i []) in omega arith)

    pub raised_tidy : Tidy g.stride g.fan (raised_node k i xs)
    unfolding plus
    raised_tidy = lengths_tidy g.stride g.fan (node_at g k xs) (h.tidy k lk) i (plus (lengths_at i (node_at g k xs).slots) delta) lu
        (let z : length (plus (lengths (get_or (used (node_at g k xs)) i [])) delta) ≡ length (lengths (get_or (used (node_at g k xs)) i [])) = length_zip (λ x y. (x + y) % 2 ^ 32) (lengths (get_or (used (node_at g k xs)) i [])) delta (omega (arith, long)) in
        rw same (omega (arith, long)))

    raised_slots : slots_of (raised_node k i xs) ≡ set (slots_of (node_at g k xs)) i (change (added delta) (get_or (slots_of (node_at g k xs)) i no_slot))
    raised_slots =
        lengths_slots g.stride g.fan (node_at g k xs) (h.tidy k lk) i (plus (lengths_at i (node_at g k xs).slots) delta) lu
        ∙ ap (set (slots_of (node_at g k xs)) i)
        ((λ j. record {
          child = child (get_or (used (node_at g k xs)) i []);
          lens = fun_ext (λ v. ap (λ (l : List ℕ). get_or (plus l delta) v 0) same ∙ plus_at (lengths (get_or (used (node_at g k xs)) i [])) delta v (omega (arith, long)) ∙ ap (λ (a : ℕ). (a + get_or delta v 0) % 2 ^ 32) (lengths_at_law (get_or (used (node_at g k xs)) i []) v)) j;
        })
        ∙ ap (change (added delta)) (sym (get_d_slot (used (node_at g k xs)) i lu)))

    pub raised_keeps : Keeps g count (raised g delta k i xs)
    raised_keeps = put_same g sized pos count k (raised_node k i xs) xs lk raised_tidy h

    pub raised_area : area_of g (raised g delta k i xs) ≡ set_slots (area_of g xs) k (set (slots_of (node_at g k xs)) i (change (added delta) (get_or (slots_of (node_at g k xs)) i no_slot)))
    raised_area = put_slots g sized pos count k (raised_node k i xs) xs (omega (arith, h.few)) raised_tidy h refl refl ∙ ap (set_slots (area_of g xs) k) raised_slots

  -- sums past a node that the way doesn't meet
  rank_off : (v : ℕ) (n : Node) (p : ℕ) (xs : List ℕ) → p < count → Tidy g.stride g.fan n → Keeps g count xs → (d c a : ℕ) → Off (area_of g xs) p d c
      → rank_up g v d (node_at g c xs).parent (node_at g c xs).at a (put_node g p n xs) ≡ rank_up g v d (node_at g c xs).parent (node_at g c xs).at a xs
  unfolding rank_up
  rank_off v n p xs lp td h zero c a o = refl
  rank_off v n p xs lp td h (suc d) c a o =
      let q : ℕ = (node_at g c xs).parent in
      let e : node_at g q (put_node g p n xs) ≡ node_at g q xs = node_other g p xs sized (fits g p xs (omega (arith, h.few)) h.long) n (tidy_formed g.stride g.fan n td pos) q o.0 in
      rw e (ap (λ (z : Result ℕ Broken). cond (inside g q (node_at g c xs).at) z (Err broken)) (rank_off v n p xs lp td h d q (a + start v (node_at g c xs).at (node_at g q xs)) o.1))

  pub climb_up_law : (v d k i a : ℕ) (xs : List ℕ) → Keeps g count xs → Up (area_of g xs) count d k i → ClimbCarried g delta count v d k i a xs
  unfolding climb_up rank_up
  climb_up_law v zero k i a xs h u = record { words = xs; is = refl; keeps = h; area = refl }
  climb_up_law v (suc d) k i a xs h u =
      next (climb_up_law v d (node_at g k xs).parent (node_at g k xs).at (a + start v i (node_at g k xs)) (raised g delta k i xs) (raised_keeps k i xs u.0 u.1 h)
      (subst (λ (b : Area). Up b count d (node_at g k xs).parent (node_at g k xs).at) (sym (raised_area k i xs u.0 u.1 h))
      (up_same (area_of g xs) (set_slots (area_of g xs) k ss) (λ j. refl) (λ j. refl) sizes count d (node_at g k xs).parent (node_at g k xs).at u.3)))
    where
      ss : List Slot
      ss = set (slots_of (node_at g k xs)) i (change (added delta) (get_or (slots_of (node_at g k xs)) i no_slot))

      sizes : (j : ℕ) → length (upd (area_of g xs).slots k ss j) ≡ length (slots_of (node_at g j xs))
      sizes j = go (ℕ_discrete j k)
        where
          go : Dec (j ≡ k) → length (upd (area_of g xs).slots k ss j) ≡ length (slots_of (node_at g j xs))
          go (yes q) = subst (λ (z : ℕ). length (upd (area_of g xs).slots k ss z) ≡ length (slots_of (node_at g z xs))) (sym q)
              (ap length (upd_same (area_of g xs).slots k ss) ∙ length-set (slots_of (node_at g k xs)) i (change (added delta) (get_or (slots_of (node_at g k xs)) i no_slot)))
          go (no ne) = ap length (upd_other (area_of g xs).slots k ss j ne)

      inside_is : inside g k i ≡ true
      inside_is = (let td = h.tidy k u.0 in let y : length (slots_of (node_at g k xs)) ≡ length (used (node_at g k xs)) = length-map (used (node_at g k xs)) slot_of in
          rw (lt-ltb k g.nodes (let z = u.0 in omega (arith, h.few)), lt-ltb i g.fan (let z = u.1 in omega (arith, td.most))))

      next : ClimbCarried g delta count v d (node_at g k xs).parent (node_at g k xs).at (a + start v i (node_at g k xs)) (raised g delta k i xs) → ClimbCarried g delta count v (suc d) k i a xs
      next r = record {
        words = r.words;
        is = rw inside_is (r.is ∙ ap (λ (z : Result ℕ Broken). (z, r.words)) (rank_off v (raised_node k i xs) k xs u.0 (raised_tidy k i xs u.0 u.1 h) h d k (a + start v i (node_at g k xs)) u.2));
        keeps = r.keeps;
        area = r.area ∙ ap (λ (b : Area). carry (added delta) d b (node_at g k xs).parent (node_at g k xs).at) (raised_area k i xs u.0 u.1 h);
      }
