-- What a search through slots or down the levels can answer, and two lists of steps compared. Assumes nothing.
use Rattle.std.specs.declared.cmp.Ordering.TheVariants.{Less, Equal, Greater}
use Rattle.model.specs.Numbered.{broken}
use Rattle.std.specs.Prelude.{◌≡◌, refl, Bool, true, false, cond, List, [], ◌∷◌, ℕ, zero, suc, ◌+◌, ◌-◌, ◌*◌, ◌<◌, ◌≤◌, length, get_or, take, drop, ltb, Ok, Err, Some, None}
use Rattle.std.proofs.Common.{ap, ◌∙◌, arith, add-one, length-take, length-drop, drop_of_length-le, length-take-le, drop-cons, get_or-take, get_or-drop}
use Rattle.std.proofs.Math.Nat.{min-le_left}
use Rattle.std.proofs.Math.ListN.{get_or-eq_default}
use borrow.Author.Tests.{lt-ltb, le-ltb, ltb-true, ltb-false}
use Rattle.model.specs.Lists.{All, part}
use Rattle.model.specs.Kind.{prepare}
use Rattle.model.specs.Climb.{leaf_no}
use Rattle.model.specs.Node.{Node, node_of, child, slots_from, length_in, used, find_from}
use Rattle.model.specs.State.{node_at}
use Rattle.model.specs.Locate.{descend, into}
use Rattle.model.specs.Calls.{in_order}
use Rattle.model.specs.declared.shape.Shape.{Shape}
use Rattle.model.specs.Climb.{leaf_no}
use Rattle.model.specs.Node.{Found}
use Rattle.model.specs.declared.number.LeafNo.{LeafNo}
use Rattle.model.specs.Locate.{Descent}
use Rattle.model_laws.specs.Lists.{all_take, all_drop}
use Rattle.model_laws.specs.Words.{get_d_part}
use Rattle.model_laws.specs.Slots.{slots_length}
use Rattle.model_laws.specs.Down.{sized}

-- a word that fits in 32 bits
abbrev pub Word : ℕ → Type 0
Word n = n ≤ 4294967295

take_short : {A : Type 0} (n : ℕ) (l : List A) → length (take n l) ≤ n
take_short n l = rw length-take (min-le_left n (length l))

-- step j of the first n, and those after it
steps_from : (n j : ℕ) (l : List ℕ) → j < n → n ≤ length l → drop j (take n l) ≡ get_or l j 0 ∷ drop (j + 1) (take n l)
steps_from n j l h hl = rw (add-one, drop-cons (take n l) j 0 (rw (length-take-le n l hl) h), get_or-take n l j 0 h)

-- the words of a part are words
pub part_fits : (p n : ℕ) (ws : List ℕ) → ((i : ℕ) → Word (get_or ws i 0)) → (i : ℕ) → Word (get_or (part p n ws) i 0)
unfolding part
part_fits p n ws f i = go (ltb i n) refl
  where
    go : (b : Bool) → ltb i n ≡ b → Word (get_or (take n (drop p ws)) i 0)
    go true e = rw (get_or-take n (drop p ws) i 0 (ltb-true i n e), get_or-drop p ws i 0) (f (p + i))
    go false e = rw (get_or-eq_default (take n (drop p ws)) 0 {n = i} (omega (arith, take_short n (drop p ws), ltb-false i n e))) (omega arith)

-- the lengths of slots are words where all words are
pub columns_fit : (s n p c : ℕ) (ws : List ℕ) → c < s → ((i : ℕ) → Word (get_or ws i 0)) → All (λ x. Word (get_or x c 0)) (slots_from s n p ws)
unfolding slots_from All
columns_fit s zero p c ws h f = tt
columns_fit s (suc n) p c ws h f = (rw (get_d_part p s c ws h) (f (p + c)), columns_fit s n (p + s) c ws h f)

-- what was found: a slot passed in, and no more than the index is left
pub record FoundWithin (k index count : ℕ) (r : Found) : Type 0 where
  pub slot : (j o t u : ℕ) → r ≡ Some (j, o, t, u) → j < k + count
  pub offset : (j o t u : ℕ) → r ≡ Some (j, o, t, u) → o ≤ index

not_found : (j o t u : ℕ) → ◌≡◌ {A = Found} None (Some (j, o, t, u)) → ⊥
not_found j o t u q = let z : ◌≡◌ {A = ℕ} 0 1 = cc in omega arith

-- two answers that are the same agree in each number
pub found_parts : (k x a b j o t u : ℕ) → ◌≡◌ {A = Found} (Some (k, x, a, b)) (Some (j, o, t, u)) → (k ≡ j) × (x ≡ o) × (a ≡ t) × (b ≡ u)
found_parts k x a b j o t u q =
    let p : ◌≡◌ {A = ℕ × ℕ × ℕ × ℕ} (k, x, a, b) (j, o, t, u) = cc in (ap (λ w. w.0) p, ap (λ w. w.1) p, ap (λ w. w.2) p, ap (λ w. w.3) p)

pub find_ranged : (v e k index a b : ℕ) (slots : List (List ℕ)) → FoundWithin k index (length slots) (find_from v e k index a b slots)
unfolding find_from
find_ranged v e k index a b [] = record { slot = λ j o t u q. absurd (not_found j o t u q); offset = λ j o t u q. absurd (not_found j o t u q) }
find_ranged v e k index a b (x ∷ xs) = go (ltb index (length_in v x)) (find_ranged v e (k + 1) (index - length_in v x) (a + length_in e x) (b + length_in prepare x) xs)
  where
    go : (c : Bool) → FoundWithin (k + 1) (index - length_in v x) (length xs) (find_from v e (k + 1) (index - length_in v x) (a + length_in e x) (b + length_in prepare x) xs)
        → FoundWithin k index (suc (length xs)) (cond c (Some (k, index, a, b)) (find_from v e (k + 1) (index - length_in v x) (a + length_in e x) (b + length_in prepare x) xs))
    go true r = record { slot = λ j o t u q. omega (arith, (found_parts k index a b j o t u q).0); offset = λ j o t u q. omega (arith, (found_parts k index a b j o t u q).1) }
    go false r = record { slot = λ j o t u q. omega (arith, r.slot j o t u q); offset = λ j o t u q. omega (arith, r.offset j o t u q) }

-- and at most a word was added to each sum for each slot
pub find_before : (v e k index a b : ℕ) (slots : List (List ℕ)) → All (λ x. Word (length_in e x)) slots → All (λ x. Word (length_in prepare x)) slots → (j o t u : ℕ)
    → find_from v e k index a b slots ≡ Some (j, o, t, u) → (t ≤ a + length slots * 4294967295) × (u ≤ b + length slots * 4294967295)
unfolding find_from All
find_before v e k index a b [] w y j o t u q = absurd (not_found j o t u q)
find_before v e k index a b (x ∷ xs) w y j o t u q =
    go (ltb index (length_in v x)) (find_before v e (k + 1) (index - length_in v x) (a + length_in e x) (b + length_in prepare x) xs w.1 y.1 j o t u) q
  where
    go : (c : Bool) → (find_from v e (k + 1) (index - length_in v x) (a + length_in e x) (b + length_in prepare x) xs ≡ Some (j, o, t, u)
        → (t ≤ a + length_in e x + length xs * 4294967295) × (u ≤ b + length_in prepare x + length xs * 4294967295))
        → cond c (Some (k, index, a, b)) (find_from v e (k + 1) (index - length_in v x) (a + length_in e x) (b + length_in prepare x) xs) ≡ Some (j, o, t, u)
        → (t ≤ a + suc (length xs) * 4294967295) × (u ≤ b + suc (length xs) * 4294967295)
    go true r q = let p = found_parts k index a b j o t u q in (omega (arith, p.2), omega (arith, p.3))
    go false r q = let z = r q in (omega (arith, z.0, w.0), omega (arith, z.1, y.0))

-- the slots in use are as many as the node says, where it says no more than it has
used_length : (g : Shape) (k : ℕ) (xs : List ℕ) → (node_at g k xs).len ≤ g.fan → length (used (node_at g k xs)) ≡ (node_at g k xs).len
unfolding node_of
used_length g k xs h = length-take-le (get_or (part (k * g.size) g.size xs) 0 0) (slots_from g.stride g.fan 3 (part (k * g.size) g.size xs)) (rw slots_length h)

-- the same of the slots in use of a node, from slot `from` on
module _ (g : Shape) (v e k from index a b : ℕ) (xs : List ℕ) (hl : (node_at g k xs).len ≤ g.fan) where
  left_length : length (drop from (used (node_at g k xs))) ≡ (node_at g k xs).len - from
  left_length = length-drop from (used (node_at g k xs)) ∙ ap (λ (n : ℕ). n - from) (used_length g k xs hl)

  pub used_ranged : from ≤ (node_at g k xs).len
      → FoundWithin from index ((node_at g k xs).len - from) (find_from v e from index a b (drop from (used (node_at g k xs))))
  used_ranged hf = rw left_length at (find_ranged v e from index a b (drop from (used (node_at g k xs))))

  fits : (c : ℕ) → c + 1 < g.stride → ((i : ℕ) → Word (get_or xs i 0)) → All (λ x. Word (length_in c x)) (drop from (used (node_at g k xs)))
  unfolding node_of
  fits c hc w =
      all_drop (λ x. Word (length_in c x)) from (used (node_at g k xs))
      (all_take (λ x. Word (length_in c x)) (node_at g k xs).len (node_at g k xs).slots (columns_fit g.stride g.fan 3 (c + 1) (part (k * g.size) g.size xs) hc (part_fits (k * g.size) g.size xs w)))

  pub used_before : e + 1 < g.stride → ((i : ℕ) → Word (get_or xs i 0)) → (j o t u : ℕ) → find_from v e from index a b (drop from (used (node_at g k xs))) ≡ Some (j, o, t, u)
      → (t ≤ a + g.fan * 4294967295) × (u ≤ b + g.fan * 4294967295)
  used_before he w j o t u q =
      let z = find_before v e from index a b (drop from (used (node_at g k xs))) (fits e he w) (fits prepare (omega arith) w) j o t u q in
      (omega (arith, left_length, z.0), omega (arith, left_length, z.1))

-- the same of two searches from the root
pub descent_parts : (k l : LeafNo) (x a b r t u : ℕ) → ◌≡◌ {A = Descent} (Ok (Some (k, x, a, b))) (Ok (Some (l, r, t, u))) → (k ≡ l) × (x ≡ r) × (a ≡ t) × (b ≡ u)
descent_parts k l x a b r t u q =
    let p : ◌≡◌ {A = LeafNo × ℕ × ℕ × ℕ} (k, x, a, b) (l, r, t, u) = cc in (ap (λ w. w.0) p, ap (λ w. w.1) p, ap (λ w. w.2) p, ap (λ w. w.3) p)

-- the position left after a descent is no more than the position asked for
pub record RestWithin (index : ℕ) (d : Descent) : Type 0 where
  pub rest : (l : LeafNo) (r t u : ℕ) → d ≡ Ok (Some (l, r, t, u)) → r ≤ index

no_rest : (index : ℕ) (d : Descent) → ((l : LeafNo) (r t u : ℕ) → d ≡ Ok (Some (l, r, t, u)) → ⊥) → RestWithin index d
no_rest index d never = record { rest = λ l r t u q. absurd (never l r t u q) }

broken_rests : (index : ℕ) → RestWithin index (Err broken)
broken_rests index = no_rest index (Err broken) (λ l r t u q. let z : ◌≡◌ {A = ℕ} 0 1 = cc in omega arith)

pub nothing_rests : (index : ℕ) → RestWithin index (Ok None)
nothing_rests index = no_rest index (Ok None) (λ l r t u q. let z : ◌≡◌ {A = ℕ} 0 1 = cc in omega arith)

through : (go : ℕ → ℕ → ℕ → ℕ → Descent) (miss : Descent) (m : Node) (index : ℕ) (f : Found) → ((j o t u : ℕ) → f ≡ Some (j, o, t, u) → o ≤ index) → ((c r t u : ℕ) → RestWithin r (go c r t u)) → RestWithin index miss
    → RestWithin index (into go miss m f)
through go miss m index (Some (j, o, t, u)) h on r = record { rest = λ l r y z q. omega (arith, h j o t u refl, (on (child (get_or m.slots j [])) o t u).rest l r y z q) }
through go miss m index None h on r = r

pub descend_rests : (v e : ℕ) (g : Shape) (miss : Descent) (n k index a b : ℕ) (xs : List ℕ) → RestWithin index miss → RestWithin index (descend v e g miss n k index a b xs)
unfolding descend
descend_rests v e g miss zero k index a b xs h = record { rest = λ l r t u q. omega (arith, (descent_parts (leaf_no k) l index a b r t u q).1) }
descend_rests v e g miss (suc n) k index a b xs h =
    either (sized g k xs)
    (through (λ c r t u. descend v e g (Err broken) n c r t u xs) miss (node_at g k xs) index (find_from v e 0 index a b (used (node_at g k xs)))
    (find_ranged v e 0 index a b (used (node_at g k xs))).offset (λ c r t u. descend_rests v e g (Err broken) n c r t u xs (broken_rests r)) h)
  where
    either : (b : Bool) {d : Descent} → RestWithin index d → RestWithin index (cond b d (Err broken))
    either true r = r
    either false r = broken_rests index

-- two lists of steps, of which the first n and m count, compared from step j on
module _ (n m j : ℕ) (xs ys : List ℕ) where
  pub order_end : n ≤ j → in_order (drop j (take n xs)) (drop j (take m ys)) ≡ Ok Equal
  unfolding in_order
  order_end h = rw (drop_of_length-le (take n xs) {i = j} (omega (arith, take_short n xs)))

  module _ (hn : j < n) (hx : n ≤ length xs) (hm : j < m) (hy : m ≤ length ys) where
    pub order_before : get_or xs j 0 < get_or ys j 0 → in_order (drop j (take n xs)) (drop j (take m ys)) ≡ Ok Less
    unfolding in_order
    order_before h = rw (steps_from n j xs hn hx, steps_from m j ys hm hy, lt-ltb (get_or xs j 0) (get_or ys j 0) h)

    pub order_after : get_or ys j 0 < get_or xs j 0 → in_order (drop j (take n xs)) (drop j (take m ys)) ≡ Ok Greater
    unfolding in_order
    order_after h = rw (steps_from n j xs hn hx, steps_from m j ys hm hy, le-ltb (get_or xs j 0) (get_or ys j 0) (omega arith), lt-ltb (get_or ys j 0) (get_or xs j 0) h)

    pub order_on : get_or xs j 0 ≡ get_or ys j 0 → in_order (drop j (take n xs)) (drop j (take m ys)) ≡ in_order (drop (j + 1) (take n xs)) (drop (j + 1) (take m ys))
    unfolding in_order
    order_on e = rw (steps_from n j xs hn hx, steps_from m j ys hm hy, le-ltb (get_or xs j 0) (get_or ys j 0) (omega arith), le-ltb (get_or ys j 0) (get_or xs j 0) (omega arith))
